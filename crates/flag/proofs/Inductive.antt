-- The source's own proofs: each transition keeps FlagInv, under it the store that does not look takes note of an offer that was accepted, and `new` has it.
-- So the transcription is tried by itself, apart from the machine. Assumes nothing.
use mathlib.Core.Path.{◌≡◌, refl, sym, ◌∙◌}
use mathlib.Core.Bool.{Bool, true, false, cond, beq}
use mathlib.Core.Logic.{inl, inr}
use Prim.Native.Nat.{ℕ}
use native.Mathlib.Omega.{arith}
use borrow.Author.Tests.{eq-eqb, ne_eqb, eqb-true, eqb-false}
use lib.Dec.{eqb}
use Rattle.rows.proofs.Cases.{on, clash}
use Rattle.flag.specs.Source as source
use Rattle.flag.specs.Source.{Control, Memory, Flag, Transition, Moves, Safe, memory_after, control_after, new}
use Rattle.flag.specs.Source.{returned, try_cancel_two_flips, try_simple_flip, try_simple_flip_second, try_handshake}
use Rattle.flag.specs.Source.{try_handshake_second, try_handshake_store}
use Rattle.flag.specs.Invariants.{Waits, Protocol, Empty, Offering, Accepted, FlagInv}

-- ---------- who does not wait

not_returned : Waits returned → ⊥
not_returned (inl e) = clash (cc)
not_returned (inr e) = clash (cc)

not_cancelling : Waits try_cancel_two_flips → ⊥
not_cancelling (inl e) = clash (cc)
not_cancelling (inr e) = clash (cc)

not_simple : Waits try_simple_flip → ⊥
not_simple (inl e) = clash (cc)
not_simple (inr e) = clash (cc)

not_second : Waits try_simple_flip_second → ⊥
not_second (inl e) = clash (cc)
not_second (inr e) = clash (cc)

not_handshaking : Waits try_handshake → ⊥
not_handshaking (inl e) = clash (cc)
not_handshaking (inr e) = clash (cc)

-- ---------- thread k stands before another operation

module _ (at : ℕ → Control) (k : ℕ) (c : Control) where
  abbrev put : ℕ → Control
  put = λ j. cond (eqb j k) c (at j)

  put_other : (j : ℕ) → (j ≡ k → ⊥) → put j ≡ at j
  put_other j n = rw (ne_eqb j k n)

  put_own : put k ≡ c
  put_own = rw (eq-eqb k k refl)

  -- who waits afterwards waited before
  back : (Waits c → ⊥) → (j : ℕ) → Waits (put j) → Waits (at j)
  back n j w = on (eqb j k) (λ b. absurd (n (rw b at w))) (λ b. rw b at w)

  apart : (Waits (at k) → ⊥) → (o : ℕ) → Waits (at o) → o ≡ k → ⊥
  apart n o w e = n (rw e at w)

  -- one who does not wait goes where nobody waits
  quiet : (p : ℕ) → (Waits (at k) → ⊥) → (Waits c → ⊥) → Protocol p at → Protocol p put
  quiet p n f (Empty z u) = Empty z (λ j w. u j (back f j w))
  quiet p n f (Offering o z e u) = Offering o z (put_other o (apart n o (inl e)) ∙ e) (λ j w. u j (back f j w))
  quiet p n f (Accepted o z w u) = Accepted o z (rw (put_other o (apart n o w)) w) (λ j v. u j (back f j v))

  -- an offer is taken by one who does not wait
  taken : (p : ℕ) → p ≡ 1 → (Waits (at k) → ⊥) → (Waits c → ⊥) → Protocol p at → Protocol 2 put
  taken p q n f (Empty z u) = absurd (omega (arith, q, z))
  taken p q n f (Offering o z e u) = Accepted o refl (inl (put_other o (apart n o (inl e)) ∙ e)) (λ j w. u j (back f j w))
  taken p q n f (Accepted o z w u) = absurd (omega (arith, q, z))

  -- an offer is made
  offered : (p : ℕ) → p ≡ 0 → c ≡ try_handshake_second → Protocol p at → Protocol 1 put
  offered p q e (Empty z u) = Offering k refl (put_own ∙ e) (λ j w. on (eqb j k) (λ b. eqb-true j k b) (λ b. absurd (u j (rw b at w))))
  offered p q e (Offering o z v u) = absurd (omega (arith, q, z))
  offered p q e (Accepted o z v u) = absurd (omega (arith, q, z))

  -- the one who waits goes where nobody waits, and nobody waits any more
  alone : (o : ℕ) → Waits (at k) → (Waits c → ⊥) → ((j : ℕ) → Waits (at j) → j ≡ o) → Protocol 0 put
  alone o w f u = Empty refl (λ j v. on (eqb j k) (λ b. f (rw b at v)) (λ b. eqb-false j k b (u j (back f j v) ∙ rw (u k w))))

  -- it takes its offer back
  withdrawn : (p : ℕ) → p ≡ 1 → at k ≡ try_handshake_second → (Waits c → ⊥) → Protocol p at → Protocol 0 put
  withdrawn p q e f (Empty z u) = absurd (omega (arith, q, z))
  withdrawn p q e f (Offering o z v u) = alone o (inl e) f u
  withdrawn p q e f (Accepted o z v u) = absurd (omega (arith, q, z))

  -- or goes on to the store, for it found its offer taken
  noted : (p : ℕ) → (p ≡ 1 → ⊥) → at k ≡ try_handshake_second → c ≡ try_handshake_store → Protocol p at → Protocol p put
  noted p q e d (Empty z u) = absurd (u k (inl e))
  noted p q e d (Offering o z v u) = absurd (q z)
  noted p q e d (Accepted o z v u) =
      Accepted k z (rw put_own (inr d)) (λ j w. on (eqb j k) (λ b. eqb-true j k b) (λ b. u j (rw b at w) ∙ rw (u k (inl e))))

  -- and ends there
  ended : (p : ℕ) → at k ≡ try_handshake_store → (Waits c → ⊥) → Protocol p at → Protocol 0 put
  ended p e f (Empty z u) = absurd (u k (inr e))
  ended p e f (Offering o z v u) = alone o (inr e) f u
  ended p e f (Accepted o z v u) = alone o (inr e) f u

-- ---------- the operations

moved : (m : Memory) (at : ℕ → Control) (k : ℕ) (c : Control) → at k ≡ c → Protocol m.pending at
    → Protocol (memory_after c m).pending (λ j. cond (eqb j k) (control_after c m) (at j))
moved m at k returned e i = quiet at k returned m.pending (λ w. not_returned (rw e at w)) not_returned i
moved m at k try_cancel_two_flips e i = on (eqb m.pending 1)
    (λ b. rw b (taken at k returned m.pending (eqb-true m.pending 1 b) (λ w. not_cancelling (rw e at w)) not_returned i))
    (λ b. rw b (quiet at k try_simple_flip m.pending (λ w. not_cancelling (rw e at w)) not_simple i))
moved m at k try_simple_flip e i = on (beq m.value true)
    (λ b. rw b (quiet at k returned m.pending (λ w. not_simple (rw e at w)) not_returned i))
    (λ b. rw b (quiet at k try_simple_flip_second m.pending (λ w. not_simple (rw e at w)) not_second i))
moved m at k try_simple_flip_second e i = on (beq m.value false)
    (λ b. rw b (quiet at k returned m.pending (λ w. not_second (rw e at w)) not_returned i))
    (λ b. rw b (quiet at k try_handshake m.pending (λ w. not_second (rw e at w)) not_handshaking i))
moved m at k try_handshake e i = on (eqb m.pending 0)
    (λ b. rw b (offered at k try_handshake_second m.pending (eqb-true m.pending 0 b) refl i))
    (λ b. rw b (quiet at k try_cancel_two_flips m.pending (λ w. not_handshaking (rw e at w)) not_cancelling i))
moved m at k try_handshake_second e i = on (eqb m.pending 1)
    (λ b. rw b (withdrawn at k try_cancel_two_flips m.pending (eqb-true m.pending 1 b) e not_cancelling i))
    (λ b. rw b (noted at k try_handshake_store m.pending (eqb-false m.pending 1 b) e refl i))
moved m at k try_handshake_store e i = ended at k returned m.pending e not_returned i

-- ---------- all together

pub inductive : (x : Transition) (pre post : Flag) → FlagInv pre → Moves pre x post → FlagInv post
inductive (source.begin k) pre post i v =
    rw v.update (quiet pre.controls k try_cancel_two_flips pre.memory.pending (λ w. not_returned (rw v.outside at w)) not_cancelling i)
inductive (source.move k) pre post i v = rw v.update (moved pre.memory pre.controls k (pre.controls k) refl i)
inductive (source.read k) pre post i v = rw v.update i

-- one thread only waits
pub one_waits : {p : ℕ} {at : ℕ → Control} → Protocol p at → (j k : ℕ) → Waits (at j) → Waits (at k) → j ≡ k
one_waits (Empty e n) j k v w = absurd (n j v)
one_waits (Offering o e a n) j k v w = n j v ∙ sym (n k w)
one_waits (Accepted o e a n) j k v w = n j v ∙ sym (n k w)

at_store : (p : ℕ) (at : ℕ → Control) (k : ℕ) → Protocol p at → at k ≡ try_handshake_store → p ≡ 2
at_store p at k (Empty z u) e = absurd (u k (inr e))
at_store p at k (Offering o z v u) e = let w = u k (inr e) in clash (cc)
at_store p at k (Accepted o z v u) e = z

pub safe : (x : Transition) (pre post : Flag) → FlagInv pre → Moves pre x post → Safe pre x
safe (source.begin k) pre post i v = tt
safe (source.move k) pre post i v = λ e. at_store pre.memory.pending pre.controls k i e
safe (source.read k) pre post i v = tt

pub new_inductive : (n : ℕ) (v : Bool) → FlagInv (new n v)
new_inductive n v = Empty refl (λ k w. not_returned w)
