-- The counting machine as the scope has it: a step's tests, the state after it, what it logs. Assumes nothing.
use Rattle.std.specs.Prelude.{◌+◌, ◌-◌, ◌≡◌, refl, true, false, not, List, [], ◌∷◌, eqb, ltb}
use Rattle.machine.specs.Check.{Check, need, rises}
use Rattle.machine.specs.Machine.{Machine}
use Rattle.machine.specs.Codes as code
use Rattle.schedule.specs.Limits as limit
use Rattle.schedule.specs.declared.steps.CountingStep.{CountingStep}
use Rattle.schedule.specs.declared.steps.CountingStep.TheVariants.{WriteableToReadable, ReadableToWriteable, NewRef, DeleteRef}
use Rattle.counting.specs.declared.state.State.{State}
use Rattle.counting.specs.declared.entry.Entry.{Entry}
use Rattle.counting.specs.declared.entry.Entry.TheVariants.{Withdrawn, Granted}

-- ---------- fresh: nothing stored, no counter, no reference

abbrev pub fresh_state : State
fresh_state = record { t = 0; count = 0; refs = 0; present = false }

-- ---------- the tests

-- writeable_to_readable needs no counter; the others need one. delete_ref takes off that very reference
abbrev pub tests : State → CountingStep → List Check
tests s (WriteableToReadable t) = need code.phase (not s.present) ∷ []
tests s ReadableToWriteable = need code.phase s.present ∷ need code.count (eqb s.count 0) ∷ []
tests s NewRef = need code.phase s.present ∷ need code.full (ltb s.count limit.counter) ∷ []
tests s (DeleteRef t) = need code.phase s.present ∷ need code.missing (ltb 0 s.refs) ∷ need code.missing (eqb t s.t) ∷ []

-- ---------- the state after, and what is logged

abbrev pub next : State → CountingStep → State
next s (WriteableToReadable t) = record { t = t; count = 0; refs = s.refs; present = true }
next s ReadableToWriteable = record { t = 0; count = 0; refs = s.refs; present = false }
next s NewRef = record { t = s.t; count = s.count + 1; refs = s.refs + 1; present = s.present }
next s (DeleteRef t) = record { t = s.t; count = s.count - 1; refs = s.refs - 1; present = s.present }

-- new_ref logs the value; readable_to_writeable logs the withdrawn value
abbrev pub logs : State → CountingStep → List Entry
logs s (WriteableToReadable t) = []
logs s ReadableToWriteable = Withdrawn s.t ∷ []
logs s NewRef = Granted s.t ∷ []
logs s (DeleteRef t) = []

pub rising : (s : State) (x : CountingStep) → rises 1 (tests s x) ≡ true
rising s (WriteableToReadable t) = refl
rising s ReadableToWriteable = refl
rising s NewRef = refl
rising s (DeleteRef t) = refl

abbrev pub counting : Machine
counting = record { State = State; Step = CountingStep; Entry = Entry; tests = tests; next = next; logs = logs; rising = rising }
