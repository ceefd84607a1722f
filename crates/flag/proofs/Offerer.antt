-- The thread whose offer is taken: where something is pending and not yet taken, the first thread at 5 is the one that waits. Assumes nothing.
use Prim.Native.Nat.{ℕ, suc, ◌<◌}
use mathlib.Core.Path.{◌≡◌, refl, ap}
use mathlib.Core.List.{List, [], ◌∷◌}
use native.Mathlib.Omega.{arith}
use lib.Dec.{eqb, ltb}
use lib.ListN.{length, get_or}
use borrow.Author.Tests.{eqb-true, ltb-true, ltb-false}
use Rattle.rows.specs.Walk.{many}
use Rattle.rows.proofs.Cases.{on, clash}
use Rattle.flag.specs.Source as source
use Rattle.flag.specs.Source.{Control, Memory, resolves}
use Rattle.flag.specs.Flag.{place, offerer}
use Rattle.flag.specs.Sound.{at_second}
use Rattle.flag.specs.Refined.{abs, Sound}
use Rattle.flag.specs.declared.state.State.{State}
use Rattle.flag.proofs.Counts.{first_place, first_passes}
use Rattle.flag.proofs.Sounds.{sound_handshake}

offerer_first : (ps : List ℕ) → offerer ps ≡ first_place at_second ps
offerer_first [] = refl
offerer_first (p ∷ ps) = on (eqb p 5) (λ b. rw b) (λ b. rw b (ap suc (offerer_first ps)))

-- where a thread stands at 5, the first of them does
pub offerer_there : (ps : List ℕ) → 0 < many at_second ps → (get_or ps (offerer ps) 0 ≡ 5) × (offerer ps < length ps)
offerer_there ps h =
    let f = first_passes at_second ps 0 h in
    rw (offerer_first ps) (eqb-true (get_or ps (first_place at_second ps) 0) 5 f.0, f.1)

module _ (s : State) (i : Sound s) (e : s.pending ≡ 1) where
  one_five : many at_second s.places ≡ 1
  one_five = let h = rw e at (sound_handshake s i) in h.0

  offerer_five : place s (offerer s.places) ≡ 5
  offerer_five = (offerer_there s.places (omega (arith, one_five))).0

  pub offerer_second : (abs s).controls (offerer s.places) ≡ source.try_handshake_second
  offerer_second = rw offerer_five

  -- it is a thread of the machine: what is none has place 0
  pub offerer_thread : offerer s.places < s.threads
  offerer_thread = on (ltb (offerer s.places) s.threads)
      (λ b. ltb-true (offerer s.places) s.threads b)
      (λ b. absurd (omega (arith, offerer_five, i.unused (offerer s.places) (ltb-false (offerer s.places) s.threads b))))

-- two flips are resolved only where one is offered
pub both_offered : (c : Control) (m : Memory) → resolves c m ≡ source.both_resolved → m.pending ≡ 1
both_offered source.returned m r = clash (cc)
both_offered source.try_cancel_two_flips m r = on (eqb m.pending 1)
    (λ b. eqb-true m.pending 1 b)
    (λ b. let z = rw b at r in clash (cc))
both_offered source.try_simple_flip m r = on m.value (λ b. let z = rw b at r in clash (cc)) (λ b. let z = rw b at r in clash (cc))
both_offered source.try_simple_flip_second m r = on m.value (λ b. let z = rw b at r in clash (cc)) (λ b. let z = rw b at r in clash (cc))
both_offered source.try_handshake m r = clash (cc)
both_offered source.try_handshake_second m r = clash (cc)
both_offered source.try_handshake_store m r = clash (cc)
