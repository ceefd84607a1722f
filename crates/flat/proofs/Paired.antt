-- A test of every entry of a row beside another row is one of the numbered pairs that `zip` and `enumerate` make of the two. Assumes nothing.
use mathlib.Core.Path.{◌≡◌, refl}
use mathlib.Core.Bool.{Bool}
use mathlib.Core.List.{List, [], ◌∷◌}
use Prim.Native.Nat.{ℕ, suc, ◌+◌, ◌≤◌}
use native.Mathlib.Omega.{arith}
use lib.ListN.{length, get_or}
use Rattle.std.specs.List.{list_all, enumerate_from, zip}
use Rattle.rows.specs.Walk.{every}

module _ {A B : Type 0} (f : ℕ → A → B → Bool) (ys : List B) (d : B) where
  abbrev pub Beside : ℕ → A → Bool
  Beside i x = f i x (get_or ys i d)

  -- the entries es stand in ys from place i on
  from : (i : ℕ) (xs : List A) (es : List B) → ((k j : ℕ) → j ≡ i + k → get_or es k d ≡ get_or ys j d) → length xs ≤ length es
      → list_all (λ (p : ℕ × (A × B)). f p.0 p.1.0 p.1.1) (enumerate_from i (zip xs es)) ≡ every Beside i xs
  from i [] es at h = refl
  from i (x ∷ xs) [] at h = absurd (omega (arith, h))
  from i (x ∷ xs) (e ∷ es) at h =
      rw (at 0 i (omega arith), from (i + 1) xs es (λ k j p. at (suc k) j (omega (arith, p))) (omega (arith, h))) refl

  pub paired : (xs : List A) → length xs ≤ length ys → list_all (λ (p : ℕ × (A × B)). f p.0 p.1.0 p.1.1) (enumerate_from 0 (zip xs ys)) ≡ every Beside 0 xs
  paired xs = from 0 xs ys (λ k j p. let same : j ≡ k = omega (arith, p) in rw same refl)
