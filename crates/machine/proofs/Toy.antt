-- The whole scheme on the smallest machine, a row of counters, as an example to copy. Assumes nothing.
use mathlib.Core.Path.{◌≡◌, refl}
use mathlib.Core.Bool.{Bool, true, false}
use mathlib.Core.List.{List, [], ◌∷◌}
use Prim.Native.Nat.{ℕ, zero, suc, ◌+◌, ◌-◌, ◌≤◌}
use native.Mathlib.Omega.{arith}
use lib.Dec.{eqb, ltb}
use lib.ListN.{length, get_or, set, replicate}
use borrow.Author.Tests.{ltb-true}
use Rattle.rows.proofs.Cases.{tick_bit}
use Rattle.rows.proofs.Row.{row_up, row_down}
use Rattle.machine.specs.Check.{Check, need, rises}
use Rattle.machine.specs.Machine.{Machine, Accepted}
use Rattle.machine.specs.History.{History, event, Run, did#, logged#}
use Rattle.machine.specs.Replay.{replay}
use Rattle.machine.proofs.Runs.{always}

-- 1. the machine: who enters cell r leaves it later
data Step : Type 0 where
  enter leave : ℕ → Step

data Entry : Type 0 where
  gone : ℕ → Entry

abbrev tests : List ℕ → Step → List Check
tests s (enter r) = need 11 (ltb r (length s)) ∷ []
tests s (leave r) = need 11 (ltb r (length s)) ∷ need 16 (ltb 0 (get_or s r 0)) ∷ []

abbrev next : List ℕ → Step → List ℕ
next s (enter r) = set s r (get_or s r 0 + 1)
next s (leave r) = set s r (get_or s r 0 - 1)

abbrev logs : List ℕ → Step → List Entry
logs s (enter r) = []
logs s (leave r) = gone r ∷ []

abbrev rising : (s : List ℕ) (x : Step) → rises 1 (tests s x) ≡ true
rising s (enter r) = refl
rising s (leave r) = refl

abbrev gate : Machine
gate = record { State = List ℕ; Step = Step; Entry = Entry; tests = tests; next = next; logs = logs; rising = rising }

-- 2. the demand, of the history alone: from no cell more went than came
abbrev is_gone : ℕ → Entry → Bool
is_gone r (gone q) = eqb r q

abbrev enters : ℕ → Step → Bool
enters r (enter q) = eqb r q
enters r (leave q) = false

abbrev Demand : History gate → Type 0
Demand h = (r : ℕ) → logged# (is_gone r) h ≤ did# (enters r) h

-- 3. the invariant: the state as counts of the history
abbrev Inv : History gate → List ℕ → Type 0
Inv h s = (r : ℕ) → logged# (is_gone r) h + get_or s r 0 ≡ did# (enters r) h

fresh : (n r : ℕ) → ◌≡◌ {A = ℕ} (get_or (replicate n 0) r 0) 0
fresh zero r = refl
fresh (suc n) zero = refl
fresh (suc n) (suc r) = fresh n r

-- 4. each step keeps it
keep : (h : History gate) (s : List ℕ) (x : Step) → Inv h s → Accepted gate s x → Inv (event gate s x ∷ h) (next s x)
keep h s (enter r) i p q =
    rw (tick_bit (eqb q r)) (omega (arith, row_up (λ c. c) s r q (get_or s r 0 + 1) 0 (ltb-true r (length s) p.0) refl, i q))
keep h s (leave r) i p q =
    rw (tick_bit (eqb q r)) (omega (arith, row_down (λ c. c) s r q (get_or s r 0 - 1) 0 (ltb-true r (length s) p.0) (omega (arith, ltb-true, p.1.0)), i q))

-- 5. so it holds always
never_more : (n : ℕ) (h : History gate) (s : List ℕ) → Run gate (replicate n 0) h s → Demand h
never_more n h s r q = omega (arith, always gate (replicate n 0) Inv (λ k. rw fresh) keep r q)

-- 6. the demand is not empty: it refutes a history in which one goes who never came; and a replay refuses that step
unentered : Demand (record { did = leave 0; wrote = gone 0 ∷ [] } ∷ []) → ⊥
unentered d = omega (arith, d 0)

stops : replay gate (0 ∷ []) 0 (enter 0 ∷ leave 0 ∷ leave 0 ∷ enter 0 ∷ []) ≡ record { code = 16; place = 2; log = gone 0 ∷ []; state = 0 ∷ [] }
unfolding replay
stops = refl
