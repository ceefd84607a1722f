-- Bytes laid down as hexadecimal digits, or a hyphen for none. Assumes nothing.
use mathlib.Core.Path.{◌≡◌, refl}
use mathlib.Core.List.{List, [], ◌∷◌}
use Prim.Native.Nat.{ℕ, ◌+◌, ◌*◌, ◌≤◌, ◌<◌}
use native.Mathlib.Omega.{arith}
use lib.ListN.{length}
use Rattle.std.proofs.lemmas.List.{nil_from_length}
use Rattle.rows.specs.Stores.{Laid}
use Rattle.rows.specs.Walk.{pieces}
use Rattle.rows.proofs.Walks.{pieces_even}
use Rattle.lines.specs.Hex.{hex_byte, shown}

shown_some : (bs : List ℕ) → 0 < length bs → shown bs ≡ pieces hex_byte bs
shown_some [] h = absurd (omega arith)
shown_some (b ∷ bs) h = refl

-- the hyphen is one character, and a byte is two
pub shown_long : (bs : List ℕ) → length (shown bs) ≤ 2 * length bs + 1
shown_long [] = omega arith
shown_long (b ∷ bs) = omega (arith, pieces_even hex_byte 2 (λ x. refl) (b ∷ bs))

module _ (bs l : List ℕ) (at r : ℕ) (l' : List ℕ) where
  pub shown_laid : (length bs ≡ 0 → ⊥) → Laid l at (pieces hex_byte bs) r l' → Laid l at (shown bs) r l'
  shown_laid some d = rw (shown_some bs (omega arith)) d

  pub shown_none : length bs ≡ 0 → Laid l at (45 ∷ []) r l' → Laid l at (shown bs) r l'
  shown_none none d = rw (nil_from_length bs none) d
