-- A state's bytes laid over as many bytes leave nothing of those. Assumes nothing.
use mathlib.Core.Path.{◌≡◌, ◌∙◌}
use mathlib.Core.List.{List, append-nil}
use Prim.Native.Nat.{ℕ}
use native.Mathlib.Omega.{arith}
use lib.ListN.{length}
use Rattle.rows.specs.Stores.{Laid}
use Rattle.rows.proofs.Rows.{drop_end}
use Rattle.rows.proofs.Stores.{puts_over, laid_whole}
use Rattle.schedule.specs.Limits as limit
use Rattle.counting.specs.declared.state.State as counting
use Rattle.lock.specs.declared.state.State as lock
use Rattle.flag.specs.declared.state.State as flag
use Rattle.flat.specs.declared.state.State as flat
use Rattle.raw.specs.Raw.{counting_long, counting_bytes, lock_long, lock_bytes, flag_long, flag_bytes, flat_long, flat_bytes}
use Rattle.raw.proofs.Writes.{lock_length, flag_length, flat_length}

module _ (l : List ℕ) (r : ℕ) (l' : List ℕ) where
  laid_over : (bs : List ℕ) → length bs ≡ length l → Laid l 0 bs r l' → l' ≡ bs
  laid_over bs h d =
      let gone = drop_end l (length bs) (omega arith) in
      (laid_whole l 0 bs r l' (omega arith) d).1 ∙ (rw gone at (puts_over l bs (omega arith))) ∙ append-nil bs

  pub counting_over : (s : counting.State) → length l ≡ counting_long → Laid l 0 (counting_bytes s) r l' → l' ≡ counting_bytes s
  counting_over s h d = laid_over (counting_bytes s) (omega arith) d

  pub lock_over : (s : lock.State) → length s.cells ≡ limit.width → length l ≡ lock_long → Laid l 0 (lock_bytes s) r l' → l' ≡ lock_bytes s
  lock_over s p h d = laid_over (lock_bytes s) (omega (arith, lock_length s p)) d

  pub flag_over : (s : flag.State) → length s.places ≡ limit.threads → length l ≡ flag_long → Laid l 0 (flag_bytes s) r l' → l' ≡ flag_bytes s
  flag_over s p h d = laid_over (flag_bytes s) (omega (arith, flag_length s p)) d

  pub flat_over : (s : flat.State) → length s.clients ≡ limit.clients → length s.elems ≡ limit.clients → length l ≡ flat_long → Laid l 0 (flat_bytes s) r l'
      → l' ≡ flat_bytes s
  flat_over s p q h d = laid_over (flat_bytes s) (omega (arith, flat_length s p q)) d
