-- The number of each reason that something is refused for, of a verdict, and of what a function answers. Assumes nothing.
use Rattle.std.specs.Prelude.{ℕ, Result, Ok, Err}
use Rattle.machine.specs.Codes as code
use Rattle.machine.specs.declared.refusal.Refusal.{Refusal}
use Rattle.machine.specs.declared.refusal.Refusal.TheVariants.{WrongLength, Version, Body, Kind, Parameter, Malformed, Surplus, Room, Unsound, Outside, Phase, Cursor, Slot, Element, Count, Missing, Full}

abbrev pub number : Refusal → ℕ
number WrongLength = code.wrong_length
number Version = code.version
number Body = code.body
number Kind = code.kind
number Parameter = code.parameter
number Malformed = code.malformed
number Surplus = code.surplus
number Room = code.room
number Unsound = code.unsound
number Outside = code.outside
number Phase = code.phase
number Cursor = code.cursor
number Slot = code.slot
number Element = code.element
number Count = code.count
number Missing = code.missing
number Full = code.full

-- 0 where nothing is refused, whatever else is answered then
abbrev pub verdict_code : {A : Type 0} → Result A Refusal → ℕ
verdict_code (Ok x) = code.accepted
verdict_code (Err why) = number why
