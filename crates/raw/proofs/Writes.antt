-- A state's pieces, laid down one behind the other. Assumes nothing.
use mathlib.Core.Path.{◌≡◌, refl}
use mathlib.Core.List.{List, [], ◌∷◌, ◌++◌}
use Prim.Native.Nat.{ℕ, ◌+◌, ◌*◌, ◌≤◌, ◌<◌}
use native.Mathlib.Omega.{arith}
use mir.Val.{bool_byte}
use lib.ListN.{length, length-append}
use Rattle.rows.specs.Stores.{Laid}
use Rattle.rows.specs.Walk.{pieces}
use Rattle.rows.proofs.Stores.{laid_whole, laid_length, laid_then, none_laid}
use Rattle.rows.proofs.Walks.{pieces_even}
use Rattle.schedule.specs.Limits as limit
use Rattle.lock.specs.declared.state.State as lock
use Rattle.flag.specs.declared.state.State as flag
use Rattle.flat.specs.declared.state.State as flat
use Rattle.lock.specs.Image.{cell_bytes}
use Rattle.raw.specs.Raw.{elem_long, combiner_long, elems_at, head_bytes, lock_bytes, flag_bytes, client_bytes, elem_bytes, combiner_bytes, flat_bytes, lock_long, flag_long, flat_long}

-- ---------- lock

module _ (s : lock.State) (long : length s.cells ≡ limit.width) where
  pub lock_length : length (lock_bytes s) ≡ lock_long
  lock_length = omega (arith, pieces_even cell_bytes 3 (λ v. refl) s.cells, length-append (head_bytes s.head) (pieces cell_bytes s.cells))

  module _ (l : List ℕ) where
    pub lock_short : length l < lock_long → Laid l 0 (lock_bytes s) 0 l
    lock_short h = none_laid l 0 (lock_bytes s) (omega (arith, lock_length))

    module _ (fits : lock_long ≤ length l) (a : ℕ) (k : List ℕ) (head : Laid l 0 (head_bytes s.head) a k) where
      pub lock_laid : (r : ℕ) (l' : List ℕ) → Laid k a (pieces cell_bytes s.cells) r l' → Laid l 0 (lock_bytes s) r l'
      lock_laid r l' cells = laid_then l 0 (head_bytes s.head) (pieces cell_bytes s.cells) a k r l' (omega (arith, lock_length)) head cells

-- ---------- flag

module _ (s : flag.State) (long : length s.places ≡ limit.threads) where
  pub flag_length : length (flag_bytes s) ≡ flag_long
  flag_length = omega arith

  module _ (l : List ℕ) where
    pub flag_short : length l < flag_long → Laid l 0 (flag_bytes s) 0 l
    flag_short h = none_laid l 0 (flag_bytes s) (omega arith)

    pub flag_laid : flag_long ≤ length l → (value : ℕ) → value ≡ bool_byte s.value → (a b : ℕ) (k m : List ℕ)
        → Laid l 0 (s.threads ∷ s.pending ∷ value ∷ []) a k → Laid k a s.places b m → Laid l 0 (flag_bytes s) b m
    flag_laid h value e a b k m p q = laid_then l 0 (s.threads ∷ s.pending ∷ bool_byte s.value ∷ []) s.places a k b m (omega arith) (rw e at p) q

-- ---------- flat

module _ (s : flat.State) (long : length s.clients ≡ limit.clients) (wide : length s.elems ≡ limit.clients) where
  abbrev clients : List ℕ
  clients = pieces client_bytes s.clients

  abbrev elems : List ℕ
  elems = pieces elem_bytes s.elems

  pub clients_length : length clients ≡ elems_at
  clients_length = omega (arith, pieces_even client_bytes 16 (λ v. refl) s.clients)

  pub elems_length : length elems ≡ elem_long * limit.clients
  elems_length = omega (arith, pieces_even elem_bytes 5 (λ v. refl) s.elems)

  behind_length : length (elems ++ combiner_bytes s) ≡ elem_long * limit.clients + combiner_long
  behind_length = omega (arith, elems_length, length-append elems (combiner_bytes s))

  pub flat_length : length (flat_bytes s) ≡ flat_long
  flat_length = omega (arith, clients_length, behind_length, length-append clients (elems ++ combiner_bytes s))

  module _ (l : List ℕ) where
    pub flat_short : length l < flat_long → Laid l 0 (flat_bytes s) 0 l
    flat_short h = none_laid l 0 (flat_bytes s) (omega (arith, flat_length))

    module _ (fits : flat_long ≤ length l) (a : ℕ) (k : List ℕ) (first : Laid l 0 clients a k) where
      behind_room : a + elem_long * limit.clients + combiner_long ≤ length k
      behind_room =
          let size = clients_length in
          let w = laid_whole l 0 clients a k (omega arith) first in
          omega (arith, laid_length l 0 clients a k first)

      module _ (b : ℕ) (m : List ℕ) (second : Laid k a elems b m) where
        pub flat_laid : (r : ℕ) (l' : List ℕ) → Laid m b (combiner_bytes s) r l' → Laid l 0 (flat_bytes s) r l'
        flat_laid r l' third =
            let rest = laid_then k a elems (combiner_bytes s) b m r l' (omega (arith, behind_room, behind_length)) second third in
            laid_then l 0 clients (elems ++ combiner_bytes s) a k r l' (omega (arith, flat_length)) first rest
