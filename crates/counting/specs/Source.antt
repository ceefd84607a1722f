-- counting.rs, CountingPermissions<T>, transcribed with numbers for T: its fields, `new`, its four transitions, what they deposit and withdraw, under
-- their own names. A transition is a relation of the state before and the state after: a record with the variables that a `require let` binds, a field
-- for each `require` and for what a `remove` needs, and the state after as one equation. Its invariant and its properties stand in
-- specs/Invariants.antt. Assumes nothing.
use Rattle.std.specs.Prelude.{ℕ, ◌+◌, ◌-◌, ◌≤◌, ◌≡◌, eqb}
use Rattle.std.proofs.Math.Option.{Option, none, some}
use Rattle.machine.specs.Multiset.{Multiset, empty, insert, remove}

pub record CountingPermissions : Type 0 where
  pub stored : Option ℕ
  pub main_counter : Option (ℕ × ℕ)
  pub read_ref : Multiset ℕ

abbrev pub new : CountingPermissions
new = record { stored = none; main_counter = none; read_ref = empty }

-- ---------- the transitions

pub record WriteableToReadable (pre : CountingPermissions) (t : ℕ) (post : CountingPermissions) : Type 0 where
  pub require : pre.main_counter ≡ none
  pub update : post ≡ record { stored = some t; main_counter = some (0, t); read_ref = pre.read_ref }

pub record ReadableToWriteable (pre post : CountingPermissions) : Type 0 where
  pub count : ℕ
  pub t : ℕ
  pub require : pre.main_counter ≡ some (count, t)
  pub require_zero : count ≡ 0
  pub update : post ≡ record { stored = none; main_counter = none; read_ref = pre.read_ref }

pub record NewRef (pre post : CountingPermissions) : Type 0 where
  pub count : ℕ
  pub t : ℕ
  pub require : pre.main_counter ≡ some (count, t)
  pub update : post ≡ record { stored = pre.stored; main_counter = some (count + 1, t); read_ref = insert eqb t pre.read_ref }

pub record DeleteRef (pre : CountingPermissions) (t1 : ℕ) (post : CountingPermissions) : Type 0 where
  pub count : ℕ
  pub t2 : ℕ
  pub removes : 1 ≤ pre.read_ref t1
  pub require : pre.main_counter ≡ some (count, t2)
  pub update : post ≡ record { stored = pre.stored; main_counter = some (count - 1, t1); read_ref = remove eqb t1 pre.read_ref }

pub data Transition : Type 0 where
  writeable_to_readable : ℕ → Transition
  readable_to_writeable : Transition
  new_ref : Transition
  delete_ref : ℕ → Transition

abbrev pub Moves : CountingPermissions → Transition → CountingPermissions → Type 0
Moves pre (writeable_to_readable t) post = WriteableToReadable pre t post
Moves pre readable_to_writeable post = ReadableToWriteable pre post
Moves pre new_ref post = NewRef pre post
Moves pre (delete_ref t1) post = DeleteRef pre t1 post

-- `deposit` and `withdraw` ask nothing of a caller; the source owes that they are safe: a deposit finds the store empty, a withdrawal finds what it
-- takes. And `(count - 1) as nat` is reached only at 1 or more
abbrev pub Safe : CountingPermissions → Transition → Type 0
Safe pre (writeable_to_readable t) = pre.stored ≡ none
Safe pre readable_to_writeable = (t : ℕ) × (pre.main_counter ≡ some (0, t)) × (pre.stored ≡ some t)
Safe pre new_ref = Unit {0}
Safe pre (delete_ref t1) = (count : ℕ) × (pre.main_counter ≡ some (count, t1)) × (1 ≤ count)
