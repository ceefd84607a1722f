-- The scope's table of places is the source's loop: its numbers are the loop's places, and each of its lines is an operation of the loop.
-- Assumes nothing.
use Prim.Native.Nat.{ℕ, zero, suc, ◌≤◌, ◌<◌}
use mathlib.Core.Path.{◌≡◌, refl, sym, ap, ◌∙◌}
use mathlib.Core.Bool.{Bool, true, false, ◌||◌}
use mathlib.Core.Logic.{inl, inr}
use native.Mathlib.Omega.{arith}
use lib.Dec.{eqb}
use borrow.Author.Tests.{eqb-true, ne_eqb}
use Rattle.rows.proofs.Cases.{on, clash}
use Rattle.flag.specs.Source as source
use Rattle.flag.specs.Source.{Control, Memory, control_after, memory_after, resolves}
use Rattle.flag.specs.Invariants.{Waits}
use Rattle.flag.specs.Flag.{went}
use Rattle.flag.specs.Sound.{at_second, at_store}
use Rattle.flag.specs.Refined.{number, control, flips_of}

-- ---------- the numbers

pub numbered : (c : Control) → control (number c) ≡ c
numbered source.returned = refl
numbered source.try_cancel_two_flips = refl
numbered source.try_simple_flip = refl
numbered source.try_simple_flip_second = refl
numbered source.try_handshake = refl
numbered source.try_handshake_second = refl
numbered source.try_handshake_store = refl

pub number_small : (c : Control) → number c ≤ 6
number_small source.returned = omega arith
number_small source.try_cancel_two_flips = omega arith
number_small source.try_simple_flip = omega arith
number_small source.try_simple_flip_second = omega arith
number_small source.try_handshake = omega arith
number_small source.try_handshake_second = omega arith
number_small source.try_handshake_store = omega arith

-- any number is that of a place, or over 6
data Stands (p : ℕ) : Type 0 where
  at : (c : Control) → p ≡ number c → Stands p
  over : 6 < p → Stands p

stands : (p : ℕ) → Stands p
stands zero = at source.returned refl
stands (suc zero) = at source.try_cancel_two_flips refl
stands (suc (suc zero)) = at source.try_simple_flip refl
stands (suc (suc (suc zero))) = at source.try_simple_flip_second refl
stands (suc (suc (suc (suc zero)))) = at source.try_handshake refl
stands (suc (suc (suc (suc (suc zero))))) = at source.try_handshake_second refl
stands (suc (suc (suc (suc (suc (suc zero)))))) = at source.try_handshake_store refl
stands (suc (suc (suc (suc (suc (suc (suc p))))))) = over (omega arith)

over_returned : (p : ℕ) → 6 < p → control p ≡ source.returned
over_returned p h =
    rw (ne_eqb p 1 (λ e. omega arith), ne_eqb p 2 (λ e. omega arith), ne_eqb p 3 (λ e. omega arith))
    (rw (ne_eqb p 4 (λ e. omega arith), ne_eqb p 5 (λ e. omega arith), ne_eqb p 6 (λ e. omega arith)))

-- so a number has its place back, unless it is over 6: then it reads as outside of the loop
by_stands : (p : ℕ) → Stands p → (control p ≡ source.returned → 6 < p → ⊥) → p ≡ number (control p)
by_stands p (at c e) n = rw (e, numbered)
by_stands p (over h) n = absurd (n (over_returned p h) h)

pub placed : (p : ℕ) → p ≤ 6 → p ≡ number (control p)
placed p h = by_stands p (stands p) (λ e o. omega arith)

place_is : (p : ℕ) (c : Control) → (c ≡ source.returned → ⊥) → control p ≡ c → p ≡ number c
place_is p c n e = by_stands p (stands p) (λ z o. n (sym e ∙ z)) ∙ ap number e

-- outside of the loop is 0, of a number up to 6
pub outside_zero : (p : ℕ) → p ≤ 6 → control p ≡ source.returned → p ≡ 0
outside_zero p h e = placed p h ∙ ap number e

-- ---------- the places where a thread waits for its offer: 5 and 6

abbrev pub waiting : ℕ → Bool
waiting p = at_second p || at_store p

pub second_five : (p : ℕ) → control p ≡ source.try_handshake_second → p ≡ 5
second_five p e = place_is p source.try_handshake_second (λ z. clash (cc)) e

store_six : (p : ℕ) → control p ≡ source.try_handshake_store → p ≡ 6
store_six p e = place_is p source.try_handshake_store (λ z. clash (cc)) e

pub waits_waiting : (p : ℕ) → Waits (control p) → waiting p ≡ true
waits_waiting p (inl e) = rw (second_five p e)
waits_waiting p (inr e) = rw (store_six p e)

pub five_second : (p : ℕ) → at_second p ≡ true → control p ≡ source.try_handshake_second
five_second p b = rw (eqb-true p 5 b)

pub six_store : (p : ℕ) → at_store p ≡ true → control p ≡ source.try_handshake_store
six_store p b = rw (eqb-true p 6 b)

pub waiting_waits : (p : ℕ) → waiting p ≡ true → Waits (control p)
waiting_waits p e = on (at_second p) (λ b. inl (five_second p b)) (λ b. inr (six_store p (rw b at e)))

-- ---------- the table

-- a line of the table is a success or a failure of the place's operation
line : (c : Control) (d : ℕ) (v : Bool) → (c ≡ source.returned → ⊥) → let m : Memory = record { value = v; pending = d } in
    went (number c) d v
    ≡ record {
      place = number (control_after c m);
      pending = (memory_after c m).pending;
      value = (memory_after c m).value;
      flips = flips_of (resolves c m);
    }
line source.returned d v n = absurd (n refl)
line source.try_cancel_two_flips d v n = on (eqb d 1) (λ b. rw b) (λ b. rw b)
line source.try_simple_flip d true n = refl
line source.try_simple_flip d false n = refl
line source.try_simple_flip_second d true n = refl
line source.try_simple_flip_second d false n = refl
line source.try_handshake d v n = on (eqb d 0) (λ b. rw b) (λ b. rw b)
line source.try_handshake_second d v n = on (eqb d 1) (λ b. rw b) (λ b. rw b)
line source.try_handshake_store d v n = refl

pub table : (c : Control) (m : Memory) → (c ≡ source.returned → ⊥)
    → went (number c) m.pending m.value
    ≡ record {
      place = number (control_after c m);
      pending = (memory_after c m).pending;
      value = (memory_after c m).value;
      flips = flips_of (resolves c m);
    }
table c m n = line c m.pending m.value n
