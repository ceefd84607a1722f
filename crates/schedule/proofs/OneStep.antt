-- One step, once over a lawful language: what was written is read, and what was read is written. Assumes nothing.
use mathlib.Core.Path.{◌≡◌, refl, sym, ap, ◌∙◌}
use mathlib.Core.List.{List, [], ◌∷◌, ◌++◌}
use Prim.Native.Nat.{ℕ, ◌+◌, ◌≤◌}
use native.Mathlib.Omega.{arith}
use lib.ListN.{length, get_or, drop, length-append}
use Rattle.rows.specs.Bytes.{Bytes}
use Rattle.rows.proofs.Bytes.{number_at_one}
use Rattle.rows.proofs.Rows.{drop_one}
use Rattle.schedule.specs.Widths.{length_of, number_widths}
use Rattle.schedule.specs.Language.{Language, numbers_at, number_bytes, step_at, step_length, size_of, step_bytes, Writable}
use Rattle.schedule.specs.Given.{Stands}
use Rattle.schedule.proofs.Numbers.{total, left_length, left_next, left_first, length_number_bytes, numbers_read, length_numbers_at, numbers_fit, numbers_again}
use Rattle.schedule.specs.Lawful.{Lawful, Kept}
use Rattle.schedule.proofs.Languages.{parts}

module _ {S : Type 0} (l : Language S) (law : Lawful l) where
  pub length_step_bytes : (x : S) → Writable l x → length (step_bytes l x) ≡ size_of l x
  length_step_bytes x w = omega (arith, parts l law x, length_number_bytes (number_widths l.kind (l.tag x)) (l.numbers x) w)

  -- the step at a place, by the byte of its tag
  step_at_lem : (f : List ℕ) (at : ℕ)
      → step_at l f at ≡ l.step (get_or f (at + 1) 0) (numbers_at f (at + 1 + 1) (number_widths l.kind (get_or f (at + 1) 0)))
  unfolding step_at
  step_at_lem f at = ap (λ (t : ℕ). l.step t (numbers_at f (at + 1 + 1) (number_widths l.kind t))) (number_at_one f (at + 1))

  -- ---- a step that was written is read

  module _ (f : List ℕ) (at : ℕ) (x : S) (rest : List ℕ) (w : Writable l x) (e : drop at f ≡ step_bytes l x ++ rest) where
    pub step_next : drop (at + 1 + step_length l x) f ≡ rest
    step_next =
        let s : at + 1 + step_length l x ≡ at + size_of l x = omega arith in
        rw s (left_next f at (step_bytes l x) rest e (size_of l x) (length_step_bytes x w))

    tag_left : drop (at + 1) f ≡ l.tag x ∷ (number_bytes (number_widths l.kind (l.tag x)) (l.numbers x) ++ rest)
    tag_left = left_next f at (step_length l x ∷ []) _ e 1 refl

    tag_here : get_or f (at + 1) 0 ≡ l.tag x
    tag_here = left_first f (at + 1) _ _ tag_left

    numbers_here : numbers_at f (at + 1 + 1) (number_widths l.kind (l.tag x)) ≡ l.numbers x
    numbers_here =
        numbers_read f (number_widths l.kind (l.tag x)) (l.numbers x) (at + 1 + 1) rest w
        (left_next f (at + 1) (l.tag x ∷ []) _ tag_left 1 refl)

    pub step_read : step_at l f at ≡ x
    step_read = rw (step_at_lem, tag_here, numbers_here) (law.spelled x).again

    -- the length byte is not 0, and the file has as many bytes: `made`, `size`, `all` and `long` together
    pub step_stands : Stands l.kind f at (at + 1 + step_length l x)
    step_stands =
        let first : get_or f at 0 ≡ step_length l x = left_first f at _ _ e in
        let long = left_length f at (step_bytes l x ++ rest) e (omega arith) in
        let size = length_step_bytes x w in
        let all = length-append (step_bytes l x) rest in
        let made = parts l law x in
        record { nonzero = λ z. omega arith; fits = omega arith; own = ap (length_of l.kind) tag_here ∙ sym first; ends = rw first }

  -- ---- a step that was read is written

  module _ (f : List ℕ) (at next : ℕ) (s : Stands l.kind f at next) where
    abbrev tag : ℕ
    tag = get_or f (at + 1) 0

    abbrev numbers : List ℕ
    numbers = numbers_at f (at + 1 + 1) (number_widths l.kind tag)

    kept : Kept l tag numbers
    kept = law.kept tag numbers (omega (arith, s.nonzero, s.own)) (length_numbers_at f (at + 1 + 1) (number_widths l.kind tag))

    tag_is : l.tag (step_at l f at) ≡ tag
    tag_is = rw (step_at_lem f at) kept.tag

    numbers_are : l.numbers (step_at l f at) ≡ numbers
    numbers_are = rw (step_at_lem f at) kept.numbers

    -- it ends where its size says, and there end its numbers
    pub step_ends : next ≡ at + size_of l (step_at l f at)
    step_ends = rw tag_is (omega (arith, s.own, s.ends))

    numbers_end : at + 1 + 1 + total (number_widths l.kind tag) ≡ next
    numbers_end = let made = rw tag_is at (parts l law (step_at l f at)) in omega (arith, s.own, s.ends)

    numbers_inside : at + 1 + 1 + total (number_widths l.kind tag) ≤ length f
    numbers_inside = omega (arith, numbers_end, s.fits, s.ends)

    module _ (bytes : Bytes f) where
      pub step_fits : Writable l (step_at l f at)
      step_fits = rw (tag_is, numbers_are) (numbers_fit f bytes (at + 1 + 1) (number_widths l.kind tag) numbers_inside)

      pub step_again : step_bytes l (step_at l f at) ++ drop next f ≡ drop at f
      step_again =
          let long = numbers_inside in
          let more = rw numbers_end at (numbers_again f bytes (at + 1 + 1) (number_widths l.kind tag) long) in
          rw (tag_is, numbers_are, s.own, more, ← drop_one f (at + 1) 0 (omega arith), ← drop_one f at 0 (omega arith))
