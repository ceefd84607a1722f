-- A multiset is a function to counts: how the sources' multisets are transcribed. Assumes nothing.
use Rattle.std.specs.Prelude.{ℕ, ◌+◌, ◌-◌, Bool}
use Rattle.rows.specs.Walk.{bit}

abbrev pub Multiset : Type 0 → Type 0
Multiset A = A → ℕ

abbrev pub empty : {A : Type 0} → Multiset A
empty = λ u. 0

-- one a more, one a less; `same` decides equality of what the multiset holds
abbrev pub insert : {A : Type 0} → (A → A → Bool) → A → Multiset A → Multiset A
insert same a m = λ u. m u + bit (same u a)

abbrev pub remove : {A : Type 0} → (A → A → Bool) → A → Multiset A → Multiset A
remove same a m = λ u. m u - bit (same u a)
