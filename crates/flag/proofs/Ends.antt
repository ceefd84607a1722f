-- A thread that moves alone ends its flip within five moves, wherever it stands in it; four are not enough. Assumes nothing.
use Prim.Native.Nat.{ℕ, zero, suc, ◌<◌}
use mathlib.Core.Path.{◌≡◌, refl}
use mathlib.Core.Bool.{Bool, true, false, ◌||◌}
use mathlib.Core.List.{[], ◌∷◌}
use native.Mathlib.Omega.{arith}
use lib.Dec.{eqb}
use lib.ListN.{length, set, replicate, length-set}
use lib.Seq.{get_or-set_same}
use borrow.Author.Tests.{eqb-true, eq-eqb, lt-ltb}
use Rattle.rows.proofs.Cases.{on, clash}
use Rattle.machine.specs.Machine.{Accepted}
use Rattle.machine.specs.Replay.{after}
use Rattle.schedule.specs.Limits as limit
use Rattle.schedule.specs.declared.steps.FlagStep.TheVariants.{Begin, Move}
use Rattle.flag.specs.Source as source
use Rattle.flag.specs.Source.{Control}
use Rattle.flag.specs.Flag.{flag, fresh_state, place, went, went_by, next}
use Rattle.flag.specs.Refined.{number, abs, Sound, EndsWithin, over, goes}
use Rattle.flag.specs.declared.state.State.{State}
use Rattle.flag.proofs.Sounds.{sound_means, in_row}
use Rattle.flag.proofs.Kept.{stands_at}

-- ---------- one's own moves, from place p with `pending` d and value v: at place 0 within m of them

alone : ℕ → ℕ → ℕ → Bool → Bool
alone zero p d v = eqb p 0
alone (suc m) p d v = let w = went p d v in eqb p 0 || alone m w.place w.pending w.value

done : (m d : ℕ) (v : Bool) → alone m 0 d v ≡ true
unfolding alone
done zero d v = refl
done (suc m) d v = refl

one_more : (m p d : ℕ) (v : Bool) → let w = went p d v in alone m w.place w.pending w.value ≡ true → alone (suc m) p d v ≡ true
unfolding alone
one_more m p d v t = on (eqb p 0) (λ b. rw b) (λ b. rw b t)

-- the value is turned in one move from 2 or 3, in two if the other exchange comes first
from_two : (m d : ℕ) (v : Bool) → alone (suc (suc m)) 2 d v ≡ true
from_two m d true = one_more (suc m) 2 d true (done (suc m) d false)
from_two m d false = one_more (suc m) 2 d false (one_more m 3 d false (done m d true))

-- from 1 an offer is taken, or the value is turned
from_one : (m d : ℕ) (v : Bool) → alone (suc (suc (suc m))) 1 d v ≡ true
from_one m d v = one_more (suc (suc m)) 1 d v (on (eqb d 1) (λ b. rw b (done (suc (suc m)) 2 v)) (λ b. rw b (from_two m d v)))

from_one_true : (m d : ℕ) → alone (suc (suc m)) 1 d true ≡ true
from_one_true m d =
    one_more (suc m) 1 d true (on (eqb d 1) (λ b. rw b (done (suc m) 2 true)) (λ b. rw b (one_more m 2 d true (done m d false))))

-- from 4 the way back to 1: by an offer made and withdrawn, or at once
from_four : (m d : ℕ) (v : Bool) → ((d' : ℕ) → alone m 1 d' v ≡ true) → ((d' : ℕ) → alone (suc m) 1 d' v ≡ true) → alone (suc (suc m)) 4 d v ≡ true
from_four m d v f g = one_more (suc m) 4 d v (on (eqb d 0) (λ b. rw b (one_more m 5 1 v (f 0))) (λ b. rw b (g d)))

from_five : (m d : ℕ) (v : Bool) → alone (suc (suc (suc (suc m)))) 5 d v ≡ true
from_five m d v =
    one_more (suc (suc (suc m))) 5 d v
    (on (eqb d 1) (λ b. rw b (from_one m 0 v)) (λ b. rw b (one_more (suc (suc m)) 6 d v (done (suc (suc m)) 0 v))))

five : (c : Control) (d : ℕ) (v : Bool) → alone 5 (number c) d v ≡ true
five source.returned d v = done 5 d v
five source.try_cancel_two_flips d v = from_one 2 d v
five source.try_simple_flip d v = from_two 3 d v
five source.try_simple_flip_second d true = one_more 4 3 d true (from_four 2 d true (from_one_true 0) (from_one_true 1))
five source.try_simple_flip_second d false = one_more 4 3 d false (done 4 d true)
five source.try_handshake d v = from_four 3 d v (λ e. from_one 0 e v) (λ e. from_one 1 e v)
five source.try_handshake_second d v = from_five 1 d v
five source.try_handshake_store d v = one_more 4 6 d v (done 4 0 v)

-- ---------- the moves of the machine

-- a move in a flip is accepted, and it is the thread's own place that it moves
can_move : (s : State) (k : ℕ) → k < s.threads → eqb (place s k) 0 ≡ false → Accepted flag s (Move k)
can_move s k b e = (lt-ltb k s.threads b, (rw e, tt))

own_place : (s : State) (k : ℕ) → k < length s.places → place (next s (Move k)) k ≡ (went_by s k).place
own_place s k r = get_or-set_same s.places k (went_by s k).place 0 r

alone_ends : (m k : ℕ) (s : State) → k < s.threads → k < length s.places → alone m (place s k) s.pending s.value ≡ true → EndsWithin k m s
unfolding alone
alone_ends zero k s b r e = over (eqb-true (place s k) 0 e)
alone_ends (suc m) k s b r e = on (eqb (place s k) 0)
    (λ x. over (eqb-true (place s k) 0 x))
    (λ x. goes (can_move s k b x) (alone_ends m k (next s (Move k)) b (rw length-set r) (rw (own_place s k r) (rw x at e))))

pub ends : (s : State) → Sound s → (k : ℕ) → k < s.threads → EndsWithin k 5 s
ends s i k b =
    alone_ends 5 k s b (in_row s k i b) (rw (stands_at s k i) (five ((abs s).controls k) s.pending s.value))

-- ---------- four are not enough: from place 3 with value true, by an offer that nobody takes

ends_alone : (m k : ℕ) (s : State) → k < length s.places → EndsWithin k m s → alone m (place s k) s.pending s.value ≡ true
unfolding alone
ends_alone zero k s r (over e) = eq-eqb (place s k) 0 e
ends_alone (suc m) k s r (over e) = rw (eq-eqb (place s k) 0 e)
ends_alone (suc m) k s r (goes a t) = on (eqb (place s k) 0)
    (λ x. rw x)
    (λ x. rw x (rw (own_place s k r) at (ends_alone m k (next s (Move k)) (rw length-set r) t)))

-- the flag was false when thread 0 looked, and thread 1 turned it: b0 m0 m0 b1 m1 m1 m1 of two threads leads here
abbrev turned_meanwhile : State
turned_meanwhile = record { threads = 2; pending = 0; value = true; places = set (replicate limit.threads 0) 0 3 }

pub turned_reached : after flag (fresh_state 2 false) (Begin 0 ∷ Move 0 ∷ Move 0 ∷ Begin 1 ∷ Move 1 ∷ Move 1 ∷ Move 1 ∷ []) ≡ turned_meanwhile
turned_reached = refl

pub not_four : Sound turned_meanwhile × (EndsWithin 0 4 turned_meanwhile → ⊥)
unfolding alone
not_four = (sound_means turned_meanwhile refl refl, λ t. let z = ends_alone 4 0 turned_meanwhile (omega arith) t in clash (cc))
