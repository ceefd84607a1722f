-- The kinds by their bytes. Assumes nothing.
use Rattle.std.specs.Prelude.{◌≡◌, ℕ, Result, Ok, Err}
use Rattle.schedule.specs.Widths as kind
use Rattle.schedule.specs.declared.kinds.Kind.{Kind}
use Rattle.schedule.specs.declared.kinds.Kind.TheVariants.{Flat, Lock, Counting, Flag}
use Rattle.schedule.specs.declared.kinds.UnknownKind.{UnknownKind}

abbrev pub number : Kind → ℕ
number Flat = kind.flat
number Lock = kind.lock
number Counting = kind.counting
number Flag = kind.flag

-- what a byte is read as: the kind that has it, or none where no kind does
abbrev pub KindOf : ℕ → Result Kind UnknownKind → Type 0
KindOf byte (Ok k) = byte ≡ number k
KindOf byte (Err none) = (k : Kind) → byte ≡ number k → ⊥
