-- Soundness said plainly: the width in its limits, where the writer is, and of each cell what it holds. The test of a state says just this. Assumes nothing.
use Prim.Native.Nat.{ℕ, ◌+◌, ◌≤◌, ◌<◌}
use mathlib.Core.Path.{◌≡◌, refl}
use mathlib.Core.Bool.{true, cond, not, ◌&&◌}
use mathlib.Core.List.{List}
use native.Mathlib.Omega.{arith}
use lib.Dec.{eqb, ltb}
use lib.ListN.{length, get_or, get_or-eq_default}
use borrow.Author.Tests.{eqb-true, eq-eqb, ltb-true, ltb-false, le-ltb, not-true}
use Rattle.rows.specs.Walk.{every}
use Rattle.rows.proofs.Cases.{on, both_true, true_both}
use Rattle.rows.proofs.Walks.{every_at, every_all}
use Rattle.schedule.specs.Limits as limit
use Rattle.lock.specs.Lock.{zero_cell, cell}
use Rattle.lock.specs.Sound.{sound, head_sound, must_be_clear, used_sound, unused_sound, cell_sound}
use Rattle.lock.specs.declared.state.Cell.{Cell}
use Rattle.lock.specs.declared.state.Head.{Head}
use Rattle.lock.specs.declared.state.State.{State}
use Rattle.lock.proofs.Phases.{Phase, head_means, means_head}

-- ---------- what a cell holds

pub record PlainCell (h : Head) (r : ℕ) (c : Cell) : Type 0 where
  pub small : c.count ≤ limit.counter
  pub counted : c.count ≡ c.pending + c.guards
  pub unused : h.width ≤ r → c ≡ zero_cell
  -- no reader guard where the writer has checked, nor anywhere while it holds the guard
  pub clear : must_be_clear h r ≡ true → c.guards ≡ 0

-- of each cell, and of any number past the row as of a cell that is not in use
abbrev pub PlainCells : Head → List Cell → Type 0
PlainCells h cs = (r : ℕ) → PlainCell h r (get_or cs r zero_cell)

-- how many guards each cell has
abbrev pub guards : List Cell → ℕ → ℕ
guards cs r = (get_or cs r zero_cell).guards

pub record Plain (s : State) : Type 0 where
  pub whole : length s.cells ≡ limit.width
  pub low : 1 ≤ s.head.width
  pub high : s.head.width ≤ limit.width
  pub phase : Phase s.head
  pub cells : PlainCells s.head s.cells

pub zero_plain : (h : Head) (r : ℕ) → PlainCell h r zero_cell
zero_plain h r = record { small = omega arith; counted = refl; unused = λ e. refl; clear = λ e. refl }

-- ---------- the test of a cell

used_plain : (h : Head) (r : ℕ) (c : Cell) → r < h.width → used_sound h r c ≡ true → PlainCell h r c
used_plain h r c l e =
    let sum = eqb c.count (c.pending + c.guards) in
    let clear = cond (must_be_clear h r) (eqb c.guards 0) true in
    let k = both_true (not (ltb limit.counter c.count)) (sum && clear) e in
    let j = both_true sum clear k.1 in
    record {
      small = ltb-false limit.counter c.count (not-true (ltb limit.counter c.count) k.0);
      counted = eqb-true c.count (c.pending + c.guards) j.0;
      unused = λ u. absurd (omega arith);
      clear = λ m. eqb-true c.guards 0 (rw m at j.1);
    }

unused_zero : (c : Cell) → unused_sound c ≡ true → c ≡ zero_cell
unused_zero c e =
    let k = both_true (eqb c.count 0) (eqb c.pending 0 && eqb c.guards 0) e in
    let j = both_true (eqb c.pending 0) (eqb c.guards 0) k.1 in
    λ i. record { count = eqb-true c.count 0 k.0 i; pending = eqb-true c.pending 0 j.0 i; guards = eqb-true c.guards 0 j.1 i }

cell_plain : (h : Head) (r : ℕ) (c : Cell) → cell_sound h r c ≡ true → PlainCell h r c
cell_plain h r c e = on (ltb r h.width)
    (λ b. used_plain h r c (ltb-true r h.width b) (rw b at e))
    (λ b. rw (unused_zero c (rw b at e)) (zero_plain h r))

plain_cell : (h : Head) (r : ℕ) (c : Cell) → PlainCell h r c → cell_sound h r c ≡ true
plain_cell h r c p = on (ltb r h.width)
    (λ b. rw (b, le-ltb limit.counter c.count p.small, eq-eqb c.count (c.pending + c.guards) p.counted)
    (on (must_be_clear h r) (λ m. rw m (eq-eqb c.guards 0 (p.clear m))) (λ m. rw m)))
    (λ b. rw (p.unused (ltb-false r h.width b), b))

-- ---------- the test of a state

module _ (s : State) (safe : sound s ≡ true) where
  parts : (head_sound s.head ≡ true) × (every (cell_sound s.head) 0 s.cells ≡ true)
  parts = both_true (head_sound s.head) (every (cell_sound s.head) 0 s.cells) safe

  pub test_head : (1 ≤ s.head.width) × (s.head.width ≤ limit.width) × Phase s.head
  test_head = head_means s.head parts.0

  pub test_cells : PlainCells s.head s.cells
  test_cells r = on (ltb r (length s.cells))
      (λ b. cell_plain s.head r (cell s r) (every_at (cell_sound s.head) zero_cell s.cells parts.1 r (ltb-true r (length s.cells) b)))
      (λ b. rw (get_or-eq_default s.cells zero_cell (ltb-false r (length s.cells) b)) (zero_plain s.head r))

  pub test_plain : length s.cells ≡ limit.width → Plain s
  test_plain whole = record { whole = whole; low = test_head.0; high = test_head.1; phase = test_head.2; cells = test_cells }

pub plain_test : (s : State) → Plain s → sound s ≡ true
plain_test s p =
    true_both (means_head s.head p.low p.high p.phase)
    (every_all (cell_sound s.head) zero_cell s.cells (λ r l. plain_cell s.head r (cell s r) (p.cells r)))
