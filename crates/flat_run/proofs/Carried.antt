-- A run may start from a machine that its parameters make; what is left of bad parameters, and of a run from that machine, is what the rest of the file comes
-- to. Assumes nothing.
use mathlib.Core.Path.{◌≡◌, sym, ap}
use mathlib.Core.List.{List}
use Prim.Native.Nat.{ℕ}
use native.Mathlib.Omega.{arith}
use borrow.Author.Tests.{ltb-false}
use lib.Dec.{ltb}
use Rattle.std.specs.Prelude.{Ok, Err}
use Rattle.rows.proofs.Cases.{on}
use Rattle.machine.specs.Refusals.{number}
use Rattle.machine.specs.declared.refusal.Refusal.{Refusal}
use Rattle.machine.proofs.Refusing.{number_nonzero}
use Rattle.schedule.specs.Limits as limit
use Rattle.schedule.specs.Answers.{refused_as, Leaves}
use Rattle.schedule.specs.Running.{rest_tested}
use Rattle.schedule.specs.declared.answer.Answer.{Answer}
use Rattle.schedule.proofs.Running.{bad_leaves, made_leaves}
use Rattle.flat.specs.Flat.{fresh_of}
use Rattle.flat.specs.Running.{runner}
use Rattle.flat.specs.Refined.{Sound}
use Rattle.flat.specs.Sound.{sound}
use Rattle.flat.specs.declared.state.State.{State}
use Rattle.machine.specs.Made.{Fresh, made_by}
use Rattle.machine.specs.declared.made.Made.{Made}
use Rattle.flat.proofs.Sounds.{fresh_means, means_sound}
use Rattle.flat_run.specs.Run.{rest_of_file}

sound_fresh : (clients : ℕ) → (fresh_of clients).code ≡ 0 → Sound (fresh_of clients).state
sound_fresh clients z =
    on (ltb limit.clients clients)
    (λ b. absurd (omega (arith, rw b at z)))
    (λ b. rw b (fresh_means clients (ltb-false limit.clients clients b)))

module _ (clients : ℕ) (made : Made State) (e : made_by made ≡ fresh_of clients) (f : List ℕ) (from : ℕ) (log image : List ℕ) where
  state : made.state ≡ (fresh_of clients).state
  state = ap (λ (x : Fresh State). x.state) e

  pub fresh_refused : (why : Refusal) → made.verdict ≡ Err why → (r : Answer) → r ≡ refused_as (number why) 0
      → Leaves (rest_of_file f from clients log image) r log image
  fresh_refused why v r q =
      let code : number why ≡ (fresh_of clients).code = rw v at (ap (λ (x : Fresh State). x.code) e) in
      rw (← code) (bad_leaves runner (number why) (fresh_of clients).state f from log image (number_nonzero why) r q)

  pub fresh_leaves : made.verdict ≡ Ok tt → (r : Answer) (log' image' : List ℕ) → Leaves (rest_tested runner sound made.state f from log image) r log' image'
      → Leaves (rest_of_file f from clients log image) r log' image'
  fresh_leaves v r log' image' d =
      let z : (fresh_of clients).code ≡ 0 = sym (rw v at (ap (λ (x : Fresh State). x.code) e)) in
      made_leaves runner (fresh_of clients).code (fresh_of clients).state f from log image z r log' image'
      (rw (state, means_sound (fresh_of clients).state (sound_fresh clients z)) at d)
