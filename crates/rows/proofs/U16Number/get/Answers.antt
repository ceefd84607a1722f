-- Two bytes are taken one by one, each behind those before it. Assumes nothing.
use Prim.Native.Nat.{◌+◌, ◌≤◌}
use mathlib.Core.Path.{refl, ◌∙◌}
use native.Mathlib.Omega.{arith}
use lib.ListN.{length}
use Rattle.rows.proofs.Bytes.{bytes_at_inside, take_one, number_at_outside}
use Rattle.rows.proofs.U16Number.get.Goals as goal

pub returns-then-has : goal.returns-then-has
returns-then-has c =
    let s = c.args.s.now in
    let i = c.args.at in
    let h : i + 2 ≤ length s = omega arith in
    c.from_be_bytes.ensures ∙ rw (
      bytes_at_inside s i 2 h,
      take_one s i 1 0 (i + 1) refl (omega arith),
      take_one s (i + 1) 0 0 (i + 2) (omega arith) (omega arith),
    )
    (omega arith)

pub returns-else-has : goal.returns-else-has
returns-else-has c = let a = c.args in number_at_outside a.s.now a.at 2 (grind arith)
