-- Accepted steps keep soundness: a move takes the offer, its acceptance and its end along with the thread. Assumes nothing.
use Prim.Native.Nat.{ℕ, zero, suc, ◌+◌, ◌≤◌, ◌<◌}
use mathlib.Core.Path.{◌≡◌, refl}
use mathlib.Core.Bool.{Bool, true, false, not}
use native.Mathlib.Omega.{arith}
use lib.Dec.{eqb}
use lib.ListN.{set, length-set}
use lib.Seq.{get_or-set_other}
use borrow.Author.Tests.{eqb-true, eqb-false, ltb-true, not-true}
use Rattle.rows.specs.Walk.{bit, many}
use Rattle.rows.proofs.Row.{row_case, many_set}
use Rattle.machine.specs.Machine.{Accepted}
use Rattle.schedule.specs.declared.steps.FlagStep.{FlagStep}
use Rattle.schedule.specs.declared.steps.FlagStep.TheVariants.{Begin, Move, Read}
use Rattle.flag.specs.Source as source
use Rattle.flag.specs.Source.{Control, Memory, control_after}
use Rattle.flag.specs.Flag.{flag, place, went, with_place, next}
use Rattle.flag.specs.Sound.{at_second, at_store}
use Rattle.flag.specs.Refined.{number, abs, Sound}
use Rattle.flag.specs.declared.state.State.{State}
use Rattle.flag.proofs.Loop.{number_small, placed, outside_zero, table}
use Rattle.flag.proofs.Offers.{Handshake, handshake_protocol}
use Rattle.flag.proofs.Sounds.{sound_handshake, in_row}

-- ---------- a move from the place c

-- it leads to a place
went_small : (c : Control) (d : ℕ) (v : Bool) → (c ≡ source.returned → ⊥) → (went (number c) d v).place ≤ 6
went_small c d v n =
    let m : Memory = record { value = v; pending = d } in
    rw (table c m n) (number_small (control_after c m))

-- a threads at 5 and b at 6 before it, a' and b' after it
same_handshake : (d : ℕ) (a b a' b' : ℕ) → a' + 0 ≡ a + 0 → b' + 0 ≡ b + 0 → Handshake d a b → Handshake d a' b'
same_handshake d a b a' b' x y h =
    let p : a' ≡ a = omega arith in
    let q : b' ≡ b = omega arith in
    rw (p, q) h

move_handshake : (c : Control) (d : ℕ) (v : Bool) → (c ≡ source.returned → ⊥) → let w = went (number c) d v in
    (a b a' b' : ℕ) → a' + bit (at_second (number c)) ≡ a + bit (at_second w.place) → b' + bit (at_store (number c)) ≡ b + bit (at_store w.place)
    → Handshake d a b → Handshake w.pending a' b'
move_handshake source.returned d v n = absurd (n refl)
move_handshake source.try_cancel_two_flips zero v n = omega arith
move_handshake source.try_cancel_two_flips (suc zero) v n = omega arith
move_handshake source.try_cancel_two_flips (suc (suc zero)) v n = omega arith
move_handshake source.try_cancel_two_flips (suc (suc (suc d))) v n = λ a b a' b' x y h. absurd h
move_handshake source.try_simple_flip d true n = same_handshake d
move_handshake source.try_simple_flip d false n = same_handshake d
move_handshake source.try_simple_flip_second d true n = same_handshake d
move_handshake source.try_simple_flip_second d false n = same_handshake d
move_handshake source.try_handshake zero v n = omega arith
move_handshake source.try_handshake (suc zero) v n = omega arith
move_handshake source.try_handshake (suc (suc zero)) v n = omega arith
move_handshake source.try_handshake (suc (suc (suc d))) v n = λ a b a' b' x y h. absurd h
move_handshake source.try_handshake_second zero v n = omega arith
move_handshake source.try_handshake_second (suc zero) v n = omega arith
move_handshake source.try_handshake_second (suc (suc zero)) v n = omega arith
move_handshake source.try_handshake_second (suc (suc (suc d))) v n = λ a b a' b' x y h. absurd h
move_handshake source.try_handshake_store zero v n = omega arith
move_handshake source.try_handshake_store (suc zero) v n = omega arith
move_handshake source.try_handshake_store (suc (suc zero)) v n = omega arith
move_handshake source.try_handshake_store (suc (suc (suc d))) v n = λ a b a' b' x y h. absurd h

-- ---------- a state with one place written anew

put_sound : (s : State) (k p d : ℕ) (v : Bool) → Sound s → k < s.threads → p ≤ 6
    → Handshake d (many at_second (set s.places k p)) (many at_store (set s.places k p)) → Sound (with_place s k p d v)
put_sound s k p d v i b h e =
    record {
      inv = handshake_protocol d (set s.places k p) e;
      whole = rw length-set i.whole;
      any = i.any;
      few = i.few;
      places = λ j. row_case (λ q. q ≤ 6) s.places k j p 0 (in_row s k i b) (λ _. h) (λ _. i.places j);
      unused = λ j u. rw (get_or-set_other s.places k j p 0 (λ x. omega arith)) (i.unused j u);
    }

-- a thread whose place is not 0 stands in the loop, at its place
pub inside_loop : (s : State) (k : ℕ) → Sound s → not (eqb (place s k) 0) ≡ true → (abs s).controls k ≡ source.returned → ⊥
inside_loop s k i t e = eqb-false (place s k) 0 (not-true (eqb (place s k) 0) t) (outside_zero (place s k) (i.places k) e)

pub stands_at : (s : State) (k : ℕ) → Sound s → place s k ≡ number ((abs s).controls k)
stands_at s k i = placed (place s k) (i.places k)

module _ (s : State) (k : ℕ) (i : Sound s) where
  begin_sound : Accepted flag s (Begin k) → Sound (next s (Begin k))
  begin_sound a =
      let b = ltb-true k s.threads a.0 in
      let z : place s k ≡ 0 = eqb-true (place s k) 0 a.1.0 in
      let r = in_row s k i b in
      put_sound s k 1 s.pending s.value i b (omega arith)
      (same_handshake s.pending _ _ _ _ (rw z at (many_set at_second s.places k 1 0 r)) (rw z at (many_set at_store s.places k 1 0 r)) (sound_handshake s i))

  move_sound : Accepted flag s (Move k) → Sound (next s (Move k))
  move_sound a =
      let b = ltb-true k s.threads a.0 in
      let n = inside_loop s k i a.1.0 in
      let r = in_row s k i b in
      let e = stands_at s k i in
      let w = went (place s k) s.pending s.value in
      let fives = many_set at_second s.places k w.place 0 r in
      let sixes = many_set at_store s.places k w.place 0 r in
      put_sound s k w.place w.pending w.value i b
      (rw e (went_small ((abs s).controls k) s.pending s.value n))
      (rw e (move_handshake ((abs s).controls k) s.pending s.value n _ _ _ _ (rw e at fives) (rw e at sixes) (sound_handshake s i)))

pub accepted_sound : (s : State) (x : FlagStep) → Sound s → Accepted flag s x → Sound (next s x)
accepted_sound s (Begin k) i a = begin_sound s k i a
accepted_sound s (Move k) i a = move_sound s k i a
accepted_sound s (Read k) i a = i
