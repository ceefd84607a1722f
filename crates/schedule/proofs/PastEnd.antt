-- Reading a step by its tag from the bytes behind it, and behind the end of a file, where no tag stands. Assumes nothing.
use mathlib.Core.Path.{◌≡◌, refl, ap, sym, ◌∙◌}
use mathlib.Core.List.{List, [], ◌∷◌}
use Prim.Native.Nat.{ℕ, zero, suc, ◌+◌, ◌-◌, ◌≤◌, ◌<◌}
use native.Mathlib.Nat.{add_assoc, add-zero}
use native.Mathlib.Omega.{arith}
use borrow.Author.Tests.{leb-true, leb-false}
use lib.Dec.{leb}
use lib.ListN.{length, take, drop, get_or, get_or-eq_default, length-drop}
use lib.Seq.{drop-drop, take-length}
use Rattle.rows.specs.Bytes.{number_at}
use Rattle.rows.proofs.Cases.{on}
use Rattle.rows.proofs.Bytes.{number_at_one, bytes_at_inside, bytes_at_outside}
use Rattle.schedule.specs.Widths.{widths, widths_of, number_widths}
use Rattle.schedule.specs.Language.{Language, numbers_at, step_at, tagged_at, spelled}

-- a number at a place of what stands behind k bytes is the number at that place of the whole
number_behind : (f : List ℕ) (k i w : ℕ) → k ≤ length f → number_at (drop k f) i w ≡ number_at f (k + i) w
number_behind f k i w h =
    let e = length-drop k f in
    on (leb (k + i + w) (length f))
    (λ b. let p : k + i + w ≤ length f = leb-true (k + i + w) (length f) b in
    rw (bytes_at_inside (drop k f) i w (omega arith), bytes_at_inside f (k + i) w p, drop-drop i k f))
    (λ b. let p : length f < k + i + w = leb-false (k + i + w) (length f) b in
    rw (bytes_at_outside (drop k f) i w (omega arith), bytes_at_outside f (k + i) w p))

numbers_behind : (f : List ℕ) (k : ℕ) (ws : List ℕ) (i : ℕ) → k ≤ length f → numbers_at (drop k f) i ws ≡ numbers_at f (k + i) ws
numbers_behind f k [] i h = refl
numbers_behind f k (w ∷ ws) i h = rw (number_behind f k i w h, numbers_behind f k ws (i + w) h, add_assoc k i w)

-- tag 0 is no step's, and has no numbers
no_widths : (k : ℕ) → number_widths k 0 ≡ []
unfolding widths_of widths
no_widths zero = refl
no_widths (suc zero) = refl
no_widths (suc (suc zero)) = refl
no_widths (suc (suc (suc zero))) = refl
no_widths (suc (suc (suc (suc zero)))) = refl
no_widths (suc (suc (suc (suc (suc k))))) = refl

module _ {S : Type 0} (l : Language S) (f : List ℕ) (at : ℕ) (x : S) where
  -- by the tag t, which is that of the file
  as_tagged : (t : ℕ) → t ≡ get_or f (at + 1) 0 → x ≡ tagged_at l f t (at + 1 + 1) → x ≡ step_at l f at
  unfolding step_at
  as_tagged t p e = e ∙ ap (λ (u : ℕ). tagged_at l f u (at + 1 + 1)) (p ∙ sym (number_at_one f (at + 1)))

  pub by_tag : 2 ≤ length f → at ≤ length f - 2 → (part : List ℕ) → part ≡ take (length f - (at + 1 + 1)) (drop (at + 1 + 1) f)
      → x ≡ tagged_at l part (get_or f (at + 1) 0) 0 → x ≡ step_at l f at
  by_tag long h part q e =
      let t = get_or f (at + 1) 0 in
      let k = at + 1 + 1 in
      let d = length-drop k f in
      let whole : part ≡ drop k f = q ∙ rw (← d) (take-length (drop k f)) in
      let same : numbers_at part 0 (number_widths l.kind t) ≡ numbers_at f k (number_widths l.kind t) =
      rw whole (numbers_behind f k (number_widths l.kind t) 0 (omega arith) ∙ rw add-zero) in
      as_tagged t refl (e ∙ ap (λ (ns : List ℕ). l.step t ns) same)

  module _ (zero_tag : x ≡ tagged_at l [] 0 0) where
    past : length f ≤ at + 1 → x ≡ step_at l f at
    past h =
        let none : numbers_at [] 0 (number_widths l.kind 0) ≡ numbers_at f (at + 1 + 1) (number_widths l.kind 0) = rw (no_widths l.kind) refl in
        as_tagged 0 (sym (get_or-eq_default f 0 h)) (zero_tag ∙ ap (λ (ns : List ℕ). l.step 0 ns) none)

    pub too_short : length f < 2 → x ≡ step_at l f at
    too_short h = past (omega arith)

    pub past_end : length f - 2 < at → x ≡ step_at l f at
    past_end h = past (omega arith)

-- a tag and numbers that spell the step at a place spell it in every language of their kind
pub spells : {S : Type 0} (l : Language S) (part f : List ℕ) (t at : ℕ) → tagged_at (spelled l.kind) part t 0 ≡ step_at (spelled l.kind) f at
    → tagged_at l part t 0 ≡ step_at l f at
unfolding step_at
spells l part f t at e = ap (λ (p : ℕ × List ℕ). l.step p.0 p.1) e
