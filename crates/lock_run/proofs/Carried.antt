-- A run may start from a lock that its parameters make. Assumes nothing.
use mathlib.Core.Path.{◌≡◌, refl}
use mathlib.Core.Bool.{true}
use mathlib.Core.List.{List}
use Prim.Native.Nat.{ℕ}
use native.Mathlib.Omega.{arith}
use borrow.Author.Tests.{eqb-false, ltb-false}
use lib.Dec.{eqb, ltb}
use Rattle.std.specs.Prelude.{Ok}
use Rattle.rows.proofs.Cases.{on}
use Rattle.schedule.specs.Limits as limit
use Rattle.schedule.specs.Answers.{Leaves}
use Rattle.schedule.specs.Running.{rest_tested}
use Rattle.schedule.specs.declared.answer.Answer.{Answer}
use Rattle.schedule.proofs.Running.{made_leaves}
use Rattle.lock.specs.Lock.{fresh_of}
use Rattle.lock.specs.Sound.{sound}
use Rattle.lock.specs.declared.state.State.{State}
use Rattle.machine.specs.Made.{Fresh, made_by}
use Rattle.machine.specs.declared.made.Made.{Made}
use Rattle.lock.proofs.Sounds.{fresh_sound}
use Rattle.lock_run.specs.Run.{runner, rest_of_file}

made_sound : (width t : ℕ) → (fresh_of width t).code ≡ 0 → sound (fresh_of width t).state ≡ true
made_sound width t z =
    on (eqb width 0)
    (λ b. absurd (omega (arith, rw b at z)))
    (λ b. on (ltb limit.width width)
    (λ d. absurd (omega (arith, rw (b, d) at z)))
    (λ d. rw (b, d)
    (fresh_sound width t (omega (arith, eqb-false width 0 b)) (ltb-false limit.width width d))))

-- what a run from the lock m that is made leaves is what the rest of the file comes to: it is sound
module _ (width t : ℕ) (f : List ℕ) (from : ℕ) (log image : List ℕ) (r : Answer) (log' image' : List ℕ) where
  left_from : (m : Fresh State) → m ≡ fresh_of width t → m.code ≡ 0 → Leaves (rest_tested runner sound m.state f from log image) r log' image'
      → Leaves (rest_of_file f from width t log image) r log' image'
  left_from m e z d =
      let safe : sound m.state ≡ true = rw e (made_sound width t (rw e at z)) in
      rw (← e) (made_leaves runner m.code m.state f from log image z r log' image' (rw safe at d))

  pub fresh_leaves : (made : Made State) → made_by made ≡ fresh_of width t → (u : Unit {0}) → made.verdict ≡ Ok u
      → Leaves (rest_tested runner sound made.state f from log image) r log' image' → Leaves (rest_of_file f from width t log image) r log' image'
  fresh_leaves made e u v d = left_from (made_by made) e (rw v refl) d
