-- The state whose fields are all the default is that of zeros, a lock with no cells in use. Assumes nothing.
use mathlib.Core.Path.{◌≡◌, refl, sym, ◌∙◌}
use mathlib.Core.Bool.{true, false}
use mathlib.Core.Logic.{◌⊎◌, inl, inr}
use mathlib.Core.List.{List}
use Prim.Native.Nat.{ℕ, ◌≤◌, ◌<◌}
use native.Mathlib.Omega.{arith}
use lib.ListN.{get_or, replicate, length-replicate}
use lib.Seq.{ext_get_or}
use borrow.Author.Tests.{lt-ltb, le-ltb, eq-eqb, ne_eqb}
use Rattle.std.specs.Array.{AllOfLen}
use Rattle.rows.proofs.Rows.{get_d_replicate}
use Rattle.machine.specs.Codes as code
use Rattle.schedule.specs.Limits as limit
use Rattle.lock.specs.Lock.{zero_cell, empty_lock, fresh_of}
use Rattle.lock.specs.declared.state.Cell.{Cell}
use Rattle.lock.specs.declared.state.Head.{Head}
use Rattle.lock.specs.declared.state.State.{State}

abbrev pub ZeroCell : Cell → Type 0
ZeroCell c = (c.count ≡ 0) × ((c.pending ≡ 0) × (c.guards ≡ 0))

abbrev pub ZeroHead : Head → Type 0
ZeroHead h = (h.t ≡ 0) × ((h.width ≡ 0) × ((h.cursor ≡ 0) × ((h.locked ≡ false) × ((h.stored ≡ false) × ((h.pending ≡ false) × (h.guard ≡ false))))))

zero_cell_is : (c : Cell) → ZeroCell c → c ≡ zero_cell
zero_cell_is c z = λ i. record { count = z.0 i; pending = z.1.0 i; guards = z.1.1 i }

pub zero_cells : (cs : List Cell) → AllOfLen ZeroCell cs limit.width → cs ≡ replicate limit.width zero_cell
zero_cells cs z =
    ext_get_or zero_cell cs (replicate limit.width zero_cell) (z.long ∙ sym (length-replicate limit.width zero_cell))
    (λ i h. zero_cell_is (get_or cs i zero_cell) (z.at i zero_cell (omega (arith, z.long, h))) ∙ sym (get_d_replicate limit.width i zero_cell))

pub zero_state : (s : State) → ZeroHead s.head → AllOfLen ZeroCell s.cells limit.width → s ≡ empty_lock 0 0 false
zero_state s h z =
    let cells = zero_cells s.cells z in
    let flags = h.1.1.1 in
    λ i. record {
      head = record { t = h.0 i; width = h.1.0 i; cursor = h.1.1.0 i; locked = flags.0 i; stored = flags.1.0 i; pending = flags.1.1.0 i; guard = flags.1.1.1 i };
      cells = cells i;
    }

-- ---------- a fresh lock, by the two tests of its width

module _ (width t : ℕ) where
  pub fresh_bad : (s : State) → s ≡ empty_lock 0 0 false → (width ≡ 0) ⊎ (limit.width < width) → record { state = s; code = code.parameter } ≡ fresh_of width t
  fresh_bad s z (inl none) = rw (z, eq-eqb width 0 none) refl
  fresh_bad s z (inr many) = rw (z, ne_eqb width 0 (λ e. omega arith), lt-ltb limit.width width many) refl

  pub fresh_good : (h : Head) → ZeroHead h → (cs : List Cell) → AllOfLen ZeroCell cs limit.width → (width ≡ 0 → ⊥) → width ≤ limit.width
      → record {
        state = record {
          head = record { t = t; width = width; cursor = h.cursor; locked = h.locked; stored = true; pending = h.pending; guard = h.guard };
          cells = cs;
        };
        code = code.accepted;
      } ≡ fresh_of width t
  fresh_good h z cs k some few = rw (zero_cells cs k, z.1.1.0, z.1.1.1.0, z.1.1.1.1.1.0, z.1.1.1.1.1.1, ne_eqb width 0 some, le-ltb limit.width width few) refl
