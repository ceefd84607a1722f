-- How long the pieces of a row are, where each is as long as the others. Assumes nothing.
use mathlib.Core.Path.{◌≡◌, ◌∙◌}
use mathlib.Core.List.{List}
use Prim.Native.Nat.{ℕ, ◌*◌, ◌≤◌}
use native.Mathlib.Nat.{mul_comm}
use lib.ListN.{length, take}
use Rattle.rows.specs.Walk.{pieces}
use Rattle.rows.proofs.Rows.{first_long}
use Rattle.rows.proofs.Walks.{pieces_even}

-- how many bytes the first n entries take, each as many as the entry d
pub pieces_long : {A : Type 0} (f : A → List ℕ) (d : A) (xs : List A) (n : ℕ) → n ≤ length xs → ((x : A) → length (f x) ≡ length (f d))
    → length (pieces f (take n xs)) ≡ length (f d) * n
pieces_long f d xs n h even = pieces_even f (length (f d)) even (take n xs) ∙ rw (first_long xs n h) (mul_comm n (length (f d)))
