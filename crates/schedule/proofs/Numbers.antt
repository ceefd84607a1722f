-- Numbers of given widths and the bytes that spell them, each law once over the widths. Assumes nothing.
use mathlib.Core.Path.{◌≡◌, refl, sym, ap, ◌∙◌}
use mathlib.Core.List.{List, [], ◌∷◌, ◌++◌, append_assoc}
use Prim.Native.Nat.{ℕ, suc, ◌+◌, ◌≤◌, ◌<◌, ◌^◌}
use native.Mathlib.Nat.{add-zero, add_assoc}
use native.Mathlib.Omega.{arith}
use borrow.Author.Tests.{leb-true, leb-false}
use lib.Dec.{leb}
use lib.ListN.{length, get_or, drop, length-append, length-drop}
use lib.Seq.{get_or-drop, drop-drop, drop-append_seam, take-append_seam}
use Rattle.rows.specs.Bytes.{Bytes, big, number, bytes_at, number_at}
use Rattle.rows.specs.Walk.{sum}
use Rattle.rows.proofs.Bytes.{spelled, respelled, length_big, number_small, bytes_at_inside, bytes_at_outside, bytes_at_split, length_bytes_at, bytes_at_bytes}
use Rattle.rows.proofs.Cases.{on}
use Rattle.schedule.specs.Language.{numbers_at, number_bytes, Fit}

-- the bytes that widths take together
abbrev pub total : List ℕ → ℕ
total ws = sum (λ w. w) ws

-- ---- what stands at a place of the file is said by what is left from there on

module _ (f : List ℕ) (at : ℕ) where
  pub left_length : (bs : List ℕ) → drop at f ≡ bs → 0 < length bs → at + length bs ≡ length f
  left_length bs e h = omega (arith, length-drop at f, ap length e)

  pub left_next : (bs rest : List ℕ) → drop at f ≡ bs ++ rest → (w : ℕ) → length bs ≡ w → drop (at + w) f ≡ rest
  left_next bs rest e w h = sym (drop-drop w at f) ∙ rw (e, ← h) (drop-append_seam bs rest)

  pub left_first : (b : ℕ) (rest : List ℕ) → drop at f ≡ b ∷ rest → get_or f at 0 ≡ b
  left_first b rest e = let g = get_or-drop at f 0 0 in let z = add-zero at in rw (e, z) at (sym g)

  pub left_bytes : (bs rest : List ℕ) → drop at f ≡ bs ++ rest → (w : ℕ) → length bs ≡ w → bytes_at f at w ≡ bs
  left_bytes [] rest e w h = on (leb (at + w) (length f))
      (λ t. bytes_at_inside f at w (leb-true _ _ t) ∙ rw (← h))
      (λ t. bytes_at_outside f at w (leb-false _ _ t))
  left_bytes (b ∷ bs) rest e w h =
      let long = left_length (b ∷ bs ++ rest) e (omega arith) in
      let fits : at + w ≤ length f = omega (arith, length-append bs rest) in
      bytes_at_inside f at w fits ∙ rw (e, ← h) (take-append_seam (b ∷ bs) rest)

  pub left_number : (w n : ℕ) (rest : List ℕ) → drop at f ≡ big w n ++ rest → n < 256 ^ w → number_at f at w ≡ n
  left_number w n rest e h = ap number (left_bytes (big w n) rest e w (length_big w n)) ∙ spelled w n h

-- ---- numbers that were written are read

pub length_number_bytes : (ws ns : List ℕ) → Fit ws ns → length (number_bytes ws ns) ≡ total ws
length_number_bytes [] ns h = refl
length_number_bytes (w ∷ ws) [] h = absurd h
length_number_bytes (w ∷ ws) (n ∷ ns) h = length-append (big w n) (number_bytes ws ns) ∙ rw (length_big w n, length_number_bytes ws ns h.1)

pub numbers_read : (f : List ℕ) (ws ns : List ℕ) (at : ℕ) (rest : List ℕ) → Fit ws ns → drop at f ≡ number_bytes ws ns ++ rest → numbers_at f at ws ≡ ns
numbers_read f [] [] at rest h e = refl
numbers_read f [] (n ∷ ns) at rest h e = absurd h
numbers_read f (w ∷ ws) [] at rest h e = absurd h
numbers_read f (w ∷ ws) (n ∷ ns) at rest h e =
    let split : drop at f ≡ big w n ++ (number_bytes ws ns ++ rest) = e ∙ append_assoc (big w n) (number_bytes ws ns) rest in
    let next = left_next f at (big w n) (number_bytes ws ns ++ rest) split w (length_big w n) in
    rw (left_number f at w n (number_bytes ws ns ++ rest) split h.0, numbers_read f ws ns (at + w) rest h.1 next)

-- ---- numbers that were read are written

pub length_numbers_at : (f : List ℕ) (at : ℕ) (ws : List ℕ) → length (numbers_at f at ws) ≡ length ws
length_numbers_at f at [] = refl
length_numbers_at f at (w ∷ ws) = ap suc (length_numbers_at f (at + w) ws)

module _ (f : List ℕ) (bytes : Bytes f) where
  number_written : (at w : ℕ) → at + w ≤ length f → big w (number_at f at w) ≡ bytes_at f at w
  number_written at w h = rw (length_bytes_at f at w h) at (respelled (bytes_at f at w) (bytes_at_bytes f at w bytes))

  pub number_fits : (at w : ℕ) → at + w ≤ length f → number_at f at w < 256 ^ w
  number_fits at w h = rw (length_bytes_at f at w h) at (number_small (bytes_at f at w) (bytes_at_bytes f at w bytes))

  pub number_again : (at w : ℕ) → at + w ≤ length f → big w (number_at f at w) ++ drop (at + w) f ≡ drop at f
  number_again at w h = rw (number_written at w h) (bytes_at_split f at w h)

  pub numbers_fit : (at : ℕ) (ws : List ℕ) → at + total ws ≤ length f → Fit ws (numbers_at f at ws)
  numbers_fit at [] h = tt
  numbers_fit at (w ∷ ws) h = (number_fits at w (omega arith), numbers_fit (at + w) ws (omega arith))

  pub numbers_again : (at : ℕ) (ws : List ℕ) → at + total ws ≤ length f → number_bytes ws (numbers_at f at ws) ++ drop (at + total ws) f ≡ drop at f
  numbers_again at [] h = rw add-zero
  numbers_again at (w ∷ ws) h =
      let more = numbers_again (at + w) ws (omega arith) in
      rw (append_assoc, ← add_assoc at w (total ws), more) (number_again at w (omega arith))
