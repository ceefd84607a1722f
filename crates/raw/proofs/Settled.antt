-- Each public function's promise settles its answer: two answers that meet it are equal. Assumes nothing.
use mathlib.Core.Path.{◌≡◌}
use mathlib.Core.List.{List}
use Prim.Native.Nat.{ℕ}
use Rattle.rows.specs.Stores.{Laid}
use Rattle.rows.proofs.Settled.{settled, laid_settled}
use Rattle.counting.specs.declared.state.State as counting
use Rattle.lock.specs.declared.state.State as lock
use Rattle.flag.specs.declared.state.State as flag
use Rattle.flat.specs.declared.state.State as flat
use Rattle.raw.specs.Raw.{counting_from, counting_bytes, lock_from, lock_bytes, flag_from, flag_bytes, flat_from, flat_bytes}

-- ---------- the readers

module _ (raw : List ℕ) where
  pub counting_from_settled : {r q : counting.State} → r ≡ counting_from raw → q ≡ counting_from raw → r ≡ q
  counting_from_settled = settled

  pub lock_from_settled : {r q : lock.State} → r ≡ lock_from raw → q ≡ lock_from raw → r ≡ q
  lock_from_settled = settled

  pub flag_from_settled : {r q : flag.State} → r ≡ flag_from raw → q ≡ flag_from raw → r ≡ q
  flag_from_settled = settled

  pub flat_from_settled : {r q : flat.State} → r ≡ flat_from raw → q ≡ flat_from raw → r ≡ q
  flat_from_settled = settled

-- ---------- the writers

module _ {l : List ℕ} {r q : ℕ} {l' m : List ℕ} where
  pub put_counting_settled : (s : counting.State) → Laid l 0 (counting_bytes s) r l' → Laid l 0 (counting_bytes s) q m → (r ≡ q) × (l' ≡ m)
  put_counting_settled s = laid_settled

  pub put_lock_settled : (s : lock.State) → Laid l 0 (lock_bytes s) r l' → Laid l 0 (lock_bytes s) q m → (r ≡ q) × (l' ≡ m)
  put_lock_settled s = laid_settled

  pub put_flag_settled : (s : flag.State) → Laid l 0 (flag_bytes s) r l' → Laid l 0 (flag_bytes s) q m → (r ≡ q) × (l' ≡ m)
  put_flag_settled s = laid_settled

  pub put_flat_settled : (s : flat.State) → Laid l 0 (flat_bytes s) r l' → Laid l 0 (flat_bytes s) q m → (r ≡ q) × (l' ≡ m)
  put_flat_settled s = laid_settled
