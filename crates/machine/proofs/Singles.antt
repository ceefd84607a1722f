-- What a single step answers: which test decides, when the code is 0, and what a refusal leaves. Assumes nothing.
use mathlib.Core.Path.{◌≡◌, refl, sym, ◌∙◌}
use mathlib.Core.Bool.{Bool, true, false}
use mathlib.Core.List.{List, []}
use mathlib.Core.Option.{Option, none, some}
use Prim.Native.Nat.{ℕ, ◌≤◌, ◌<◌}
use native.Mathlib.Omega.{arith}
use borrow.Author.Tests.{leb-true, leb-false, le-leb, lt-leb, eq-eqb, ne_eqb, eqb-true}
use lib.Dec.{eqb, leb}
use lib.ListN.{length}
use Rattle.rows.proofs.Cases.{on}
use Rattle.machine.specs.Check.{first}
use Rattle.machine.specs.Machine.{Machine, code_of, Accepted}
use Rattle.machine.specs.Single.{Single, handed_back, single_tests, single}
use Rattle.machine.proofs.Steps.{accepted_code, code_accepted}

-- what a step leaves that passes every test
abbrev pub done : (m : Machine) → m.State → m.Step → Single m
done m s x = record { code = 0; state = m.next s x; wrote = m.logs s x }

module _ (m : Machine) (sound : m.State → Bool) (room : ℕ) where
  -- a step of another kind
  pub single_foreign : (s : m.State) (log : List ℕ) → single m sound room s none log ≡ handed_back 6 s
  single_foreign s log = refl

  module _ (s : m.State) (x : m.Step) (log : List ℕ) where
    abbrev code : ℕ
    code = first (single_tests m sound room s x log)

    -- ---------- the code, by the first test that fails

    code_room : length log < room → code ≡ 8
    code_room l = rw (lt-leb room (length log) l)

    code_unsound : room ≤ length log → sound s ≡ false → code ≡ 10
    code_unsound l b = rw (le-leb room (length log) l, b)

    code_own : room ≤ length log → sound s ≡ true → code ≡ code_of m s x
    code_own l b = rw (le-leb room (length log) l, b)

    -- ---------- the answer, by the code

    handed : (c : ℕ) → code ≡ c → (c ≡ 0 → ⊥) → single m sound room s (some x) log ≡ handed_back c s
    handed c e z = rw (e, ne_eqb c 0 z)

    went : code ≡ 0 → single m sound room s (some x) log ≡ done m s x
    went e = rw (eq-eqb code 0 e)

    -- the log buffer is too short
    pub single_room : length log < room → single m sound room s (some x) log ≡ handed_back 8 s
    single_room l = handed 8 (code_room l) (omega arith)

    -- the state is not sound
    pub single_unsound : room ≤ length log → sound s ≡ false → single m sound room s (some x) log ≡ handed_back 10 s
    single_unsound l b = handed 10 (code_unsound l b) (omega arith)

    -- the machine refuses the step
    pub single_refused : room ≤ length log → sound s ≡ true → (c : ℕ) → code_of m s x ≡ c → (c ≡ 0 → ⊥) → single m sound room s (some x) log ≡ handed_back c s
    single_refused l b c e z = handed c (code_own l b ∙ e) z

    -- the machine accepts it
    pub single_accepted : room ≤ length log → sound s ≡ true → code_of m s x ≡ 0 → single m sound room s (some x) log ≡ done m s x
    single_accepted l b e = went (code_own l b ∙ e)

    -- ---------- the code is 0 exactly if there is room, the state is sound and the machine accepts the step

    pub single_zero : room ≤ length log → sound s ≡ true → Accepted m s x → (single m sound room s (some x) log).code ≡ 0
    single_zero l b a = rw (single_accepted l b (accepted_code m s x a))

    -- the code answered is that of the first test that fails
    answered : (single m sound room s (some x) log).code ≡ code
    answered = on (eqb code 0) (λ b. rw b (sym (eqb-true code 0 b))) (λ b. rw b)

    pub zero_room : (single m sound room s (some x) log).code ≡ 0 → room ≤ length log
    zero_room e = on (leb room (length log)) (λ b. leb-true room (length log) b) (λ b. absurd (omega (arith, answered, code_room (leb-false room (length log) b))))

    pub zero_sound : (single m sound room s (some x) log).code ≡ 0 → sound s ≡ true
    zero_sound e = on (sound s) (λ b. b) (λ b. absurd (omega (arith, answered, code_unsound (zero_room e) b)))

    pub zero_accepted : (single m sound room s (some x) log).code ≡ 0 → Accepted m s x
    zero_accepted e = code_accepted m s x (omega (arith, answered, code_own (zero_room e) (zero_sound e)))

    pub zero_done : (single m sound room s (some x) log).code ≡ 0 → single m sound room s (some x) log ≡ done m s x
    zero_done e = went (sym answered ∙ e)

  -- so a code 0 tells of any step, also one of another kind, that it is one of the machine's and passed
  pub zero_passed : (s : m.State) (o : Option m.Step) (log : List ℕ) → (single m sound room s o log).code ≡ 0
      → (x : m.Step) × (o ≡ some x) × (room ≤ length log) × (sound s ≡ true) × Accepted m s x
  zero_passed s none log e = absurd (omega arith)
  zero_passed s (some x) log e = (x, refl, zero_room s x log e, zero_sound s x log e, zero_accepted s x log e)

  -- ---------- a refusal hands the state back and logs nothing

  pub kept_state : (s : m.State) (o : Option m.Step) (log : List ℕ) → ((single m sound room s o log).code ≡ 0 → ⊥)
      → ((single m sound room s o log).state ≡ s) × ((single m sound room s o log).wrote ≡ [])
  kept_state s none log n = (refl, refl)
  kept_state s (some x) log n =
      let e = handed s x log (code s x log) refl (λ z. n (answered s x log ∙ z)) in
      (rw e, rw e)
