-- The answer to a whole file, and what the rest of a file of one kind comes to. Assumes nothing.
use Rattle.std.specs.Prelude.{◌≡◌, List, map, ℕ}
use Rattle.machine.specs.Machine.{Machine}
use Rattle.machine.specs.Rest.{Rested, untouched, rest_of}
use Rattle.machine.specs.Codes as code
use Rattle.schedule.specs.Limits as limit
use Rattle.schedule.specs.Language.{Language, step_at}
use Rattle.schedule.specs.Reading.{Placed, broken, surplus, placed, places_from}
use Rattle.schedule.specs.Front.{fault_code, fault_place}
use Rattle.schedule.specs.declared.answer.Answer.{Answer}
use Rattle.schedule.specs.declared.front.Fault.{Fault}

abbrev pub refused_as : ℕ → ℕ → Answer
refused_as c place = record { place = place; logged = 0; imaged = 0; code = c }

abbrev pub refused_for : Fault → Answer
refused_for x = refused_as (fault_code x) (fault_place x)

abbrev pub answer_of : Rested → Answer
answer_of o = record { place = o.place; logged = o.logged; imaged = o.imaged; code = o.code }

-- a function that is lent both buffers answers o, and leaves them so
pub record Leaves (o : Rested) (r : Answer) (log' image' : List ℕ) : Type 0 where
  pub answer : r ≡ answer_of o
  pub log : log' ≡ o.log
  pub image : image' ≡ o.image

-- the steps of a language from a place of the file on: code 6, code 7, or their replay
module _ (m : Machine) (l : Language m.Step) (bytes : m.Entry → List ℕ) (image_of : m.State → List ℕ) where
  abbrev pub rest_placed : m.State → List ℕ → List ℕ → List ℕ → Placed → Rested
  rest_placed s f log image (broken k) = untouched code.malformed k log image
  rest_placed s f log image surplus = untouched code.surplus limit.steps log image
  rest_placed s f log image (placed ps) = rest_of m bytes image_of limit.entry limit.image s (map (step_at l f) ps) log image

  unfoldable pub rest_from : m.State → List ℕ → ℕ → List ℕ → List ℕ → Rested
  rest_from s f from log image = rest_placed s f log image (places_from l.kind limit.steps f from 0)
