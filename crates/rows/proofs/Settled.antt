-- Each public function's promise settles its answer: two answers that meet it are equal. Assumes nothing.
use mathlib.Core.Path.{◌≡◌, sym, ◌∙◌}
use mathlib.Core.List.{List}
use Prim.Native.Nat.{ℕ}
use Rattle.rows.specs.Bytes.{number_at}
use Rattle.rows.specs.Stores.{Laid}

-- an answer that is an equation's other side
pub settled : {A : Type 0} {r q x : A} → r ≡ x → q ≡ x → r ≡ q
settled a b = a ∙ sym b

-- get, for w the number of bytes
pub read_settled : (s : List ℕ) (at w : ℕ) {r q : ℕ} → r ≡ number_at s at w → q ≡ number_at s at w → r ≡ q
read_settled s at w = settled

-- put, put_last4, put_bytes and put_all, for bs the bytes that they lay down
pub laid_settled : {l : List ℕ} {i : ℕ} {bs : List ℕ} {r q : ℕ} {l' m : List ℕ} → Laid l i bs r l' → Laid l i bs q m → (r ≡ q) × (l' ≡ m)
laid_settled a b = (settled a.place b.place, settled a.bytes b.bytes)
