-- Bytes tell apart what was laid down in them: numbers that fit, flags, parts one behind the other, pieces of one length, masks. Assumes nothing.
use mathlib.Core.Path.{◌≡◌, refl, sym, ap, ◌∙◌}
use mathlib.Core.Bool.{Bool, false}
use mathlib.Core.List.{List, [], ◌∷◌, ◌++◌}
use Prim.Native.Nat.{ℕ, zero, suc, ◌/◌, ◌^◌, ◌<◌}
use native.Mathlib.Omega.{arith}
use lib.Dec.{eqb}
use lib.ListN.{length, get_or}
use lib.Bits.{bit_and}
use mir.Val.{bool_byte}
use Rattle.rows.specs.Bytes.{big, number}
use Rattle.rows.specs.Mask.{mask}
use Rattle.rows.specs.Walk.{pieces}
use Rattle.rows.proofs.Bytes.{spelled}
use Rattle.rows.proofs.Cases.{clash}
use Rattle.rows.proofs.Masks.{bit_test, mask_test}

pub big_tells : (w m n : ℕ) → m < 256 ^ w → n < 256 ^ w → big w m ≡ big w n → m ≡ n
big_tells w m n a b e = sym (spelled w m a) ∙ ap number e ∙ spelled w n b

pub flag_tells : (a b : Bool) → bool_byte a ≡ bool_byte b → a ≡ b
flag_tells a b e = sym (bit_test a) ∙ ap (λ (n : ℕ). eqb n 1) e ∙ bit_test b

-- a list that begins with a part of one length tells the part and what stands behind it
pub parts_tell : {A : Type 0} (a b c d : List A) → length a ≡ length b → a ++ c ≡ b ++ d → (a ≡ b) × (c ≡ d)
parts_tell [] [] c d h e = (refl, e)
parts_tell [] (y ∷ b) c d h e = clash (omega arith)
parts_tell (x ∷ a) [] c d h e = clash (omega arith)
parts_tell (x ∷ a) (y ∷ b) c d h e =
    let rest : a ++ c ≡ b ++ d = cc in
    let more = parts_tell a b c d (omega arith) rest in
    let head : x ≡ y = cc in
    (rw (head, more.0), more.1)

-- pieces of one length, one behind the other, tell each piece
module _ {A : Type 0} (f : A → List ℕ) (even : (x y : A) → length (f x) ≡ length (f y)) where
  pub pieces_tell : (xs ys : List A) (d : A) → length xs ≡ length ys → pieces f xs ≡ pieces f ys → (i : ℕ) → f (get_or xs i d) ≡ f (get_or ys i d)
  pieces_tell [] [] d h e i = refl
  pieces_tell [] (y ∷ ys) d h e i = clash (omega arith)
  pieces_tell (x ∷ xs) [] d h e i = clash (omega arith)
  pieces_tell (x ∷ xs) (y ∷ ys) d h e zero = (parts_tell (f x) (f y) (pieces f xs) (pieces f ys) (even x y) e).0
  pieces_tell (x ∷ xs) (y ∷ ys) d h e (suc i) =
      pieces_tell xs ys d (omega arith) (parts_tell (f x) (f y) (pieces f xs) (pieces f ys) (even x y) e).1 i

-- a mask tells each flag
pub mask_tells : {A : Type 0} (f : A → Bool) (xs ys : List A) (d : A) → f d ≡ false → mask f xs ≡ mask f ys → (i : ℕ) → f (get_or xs i d) ≡ f (get_or ys i d)
mask_tells f xs ys d z e i =
    sym (mask_test f xs d z i) ∙ ap (λ (m : ℕ). eqb (bit_and (m / 2 ^ i) 1) 1) e ∙ mask_test f ys d z i
