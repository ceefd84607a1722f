-- `main_inv` of counting.rs and its four properties, under their own names. Assumes nothing.
use Rattle.std.specs.Prelude.{ℕ, ◌≤◌, ◌≡◌}
use Rattle.std.proofs.Math.Option.{Option, none, some}
use Rattle.machine.specs.Multiset.{Multiset}
use Rattle.counting.specs.Source.{CountingPermissions}

abbrev inv : Option ℕ → Option (ℕ × ℕ) → Multiset ℕ → Type 0
inv none counter refs = (counter ≡ none) × ((t0 : ℕ) → refs t0 ≡ 0)
inv (some t) none refs = ⊥
inv (some t) (some k) refs = (t ≡ k.1) × (refs t ≡ k.0) × ((t0 : ℕ) → (t0 ≡ t → ⊥) → refs t0 ≡ 0)

abbrev pub main_inv : CountingPermissions → Type 0
main_inv m = inv m.stored m.main_counter m.read_ref

-- ---------- the properties, each with its conclusion (compare_refs states none: refs held together are equal here)

abbrev pub compare_refs : CountingPermissions → Type 0
compare_refs m = (t1 t2 : ℕ) → 1 ≤ m.read_ref t1 → 1 ≤ m.read_ref t2 → t1 ≡ t2

abbrev pub compare_ref_and_counter : CountingPermissions → Type 0
compare_ref_and_counter m = (t1 count t2 : ℕ) → 1 ≤ m.read_ref t1 → m.main_counter ≡ some (count, t2) → t1 ≡ t2

abbrev pub read_ref_guards : CountingPermissions → Type 0
read_ref_guards m = (t : ℕ) → 1 ≤ m.read_ref t → m.stored ≡ some t

abbrev pub counter_guards : CountingPermissions → Type 0
counter_guards m = (count t : ℕ) → m.main_counter ≡ some (count, t) → m.stored ≡ some t
