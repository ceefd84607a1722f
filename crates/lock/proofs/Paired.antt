-- A test of every entry of a row and its place is one of the pairs that `enumerate` makes of it. Assumes nothing.
use mathlib.Core.Path.{◌≡◌, refl, sym, ap, ◌∙◌}
use mathlib.Core.Bool.{Bool, true, false, ◌&&◌}
use mathlib.Core.List.{List, [], ◌∷◌}
use Prim.Native.Nat.{ℕ, ◌+◌, ◌<◌}
use native.Mathlib.Omega.{arith}
use lib.ListN.{length}
use Rattle.std.specs.Bool.{MatchBool}
use Rattle.std.specs.List.{AllWithin, HoldsAt, list_all, enumerate_from}
use Rattle.std.proofs.lemmas.List.Elements.{All-from_all_within}
use Rattle.std.proofs.lemmas.List.Folds.{list_all_at}
use Rattle.std.proofs.lemmas.List.Sums.{list_all-from_AllPass}
use Rattle.rows.specs.Walk.{every}

-- what `all` answers over a list: all pass, or one fails
abbrev pub Told : {X : Type 0} → (X → Bool) → List X → Bool → Type 0
Told p xs r = MatchBool r (AllWithin (λ x. p x ≡ true) xs 0 (length xs)) ((k : ℕ) × (k < length xs) × HoldsAt (λ x. p x ≡ false) xs k)

tells : {X : Type 0} (p : X → Bool) (xs : List X) (r : Bool) → Told p xs r → r ≡ list_all p xs
tells p xs true h = sym (list_all-from_AllPass p xs (All-from_all_within (λ x. p x ≡ true) xs h))
tells p [] false h = absurd (omega (arith, h.1))
tells p (x ∷ xs) false h = sym (list_all_at p (x ∷ xs) h.0 x h.1 (h.2 x))

paired : {A : Type 0} (f : ℕ → A → Bool) (i : ℕ) (xs : List A) → list_all (λ (p : ℕ × A). f p.0 p.1) (enumerate_from i xs) ≡ every f i xs
paired f i [] = refl
paired f i (x ∷ xs) = ap (λ b. f i x && b) (paired f (i + 1) xs)

pub every_told : {A : Type 0} (f : ℕ → A → Bool) (xs : List A) (r : Bool) → Told (λ (p : ℕ × A). f p.0 p.1) (enumerate_from 0 xs) r → r ≡ every f 0 xs
every_told {A} f xs r h = tells (λ (p : ℕ × A). f p.0 p.1) (enumerate_from 0 xs) r h ∙ paired f 0 xs
