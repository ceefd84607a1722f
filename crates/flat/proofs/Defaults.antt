-- A row of defaults holds one value alone. Assumes nothing.
use mathlib.Core.Path.{◌≡◌, ◌∙◌}
use mathlib.Core.List.{List}
use Prim.Native.Nat.{ℕ, ◌<◌}
use native.Mathlib.Omega.{arith}
use lib.ListN.{get_or, replicate}
use Rattle.std.specs.Array.{AllOfLen}
use Rattle.std.proofs.lemmas.List.{ext_get_or, length-replicate, get_or-replicate}

pub row_of_defaults : {A : Type 0} (P : A → Type 0) (d : A) → ((x : A) → P x → x ≡ d) → (n : ℕ) (xs : List A) → AllOfLen P xs n → xs ≡ replicate n d
row_of_defaults P d one n xs all =
    ext_get_or d xs (replicate n d) (omega (arith, all.long, length-replicate n d)) (λ i h.
    let k : i < n = omega (arith, all.long) in
    one (get_or xs i d) (all.at i d k) ∙ rw (get_or-replicate n i d d k))
