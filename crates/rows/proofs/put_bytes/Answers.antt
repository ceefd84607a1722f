-- All of the bytes in their place, or none. Assumes nothing.
use Prim.Native.Nat.{◌+◌, ◌≤◌}
use mathlib.Core.Path.{refl}
use native.Mathlib.Omega.{arith}
use lib.ListN.{length}
use Rattle.rows.proofs.Stores.{whole_laid, none_laid, copied_puts}
use Rattle.rows.proofs.put_bytes.Goals as goal

pub returns-then-has : goal.returns-then-has
returns-then-has c =
    let a = c.args in
    let h : a.at + length a.src.now ≤ length a.out.now = omega arith in
    whole_laid a.out.now a.at a.src.now _ _ h refl (copied_puts a.out.now a.at a.src.now _ _ c.copy_from_slice.ensures.after (omega arith) h)

pub returns-else-has : goal.returns-else-has
returns-else-has c = let a = c.args in none_laid a.out.now a.at a.src.now (grind arith)
