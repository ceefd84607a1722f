-- The tags and numbers of each kind's steps: the scope's table, row by row. Assumes nothing.
use Rattle.std.specs.Prelude.{ℕ, cond, List, [], ◌∷◌, eqb, get_or}
use Rattle.schedule.specs.Widths as kinds
use Rattle.schedule.specs.Language.{Language}
use Rattle.schedule.specs.declared.steps.FlatStep.{FlatStep}
use Rattle.schedule.specs.declared.steps.FlatStep.TheVariants.{ClientSend, ClientRecv, CombinerRecv, CombinerSkip, CombinerGoToResponding, CombinerSend, CombinerSendSkip, CombinerGoToCollecting}
use Rattle.schedule.specs.declared.steps.LockStep.{LockStep}
use Rattle.schedule.specs.declared.steps.LockStep.TheVariants.{ExcStart, ExcCheckCount, ExcFinish, ExcRelease, SharedStart, SharedFinish, SharedRelease}
use Rattle.schedule.specs.declared.steps.CountingStep.{CountingStep}
use Rattle.schedule.specs.declared.steps.CountingStep.TheVariants.{WriteableToReadable, ReadableToWriteable, NewRef, DeleteRef}
use Rattle.schedule.specs.declared.steps.FlagStep.{FlagStep}
use Rattle.schedule.specs.declared.steps.FlagStep.TheVariants.{Begin, Move, Read}

-- A tag that no step has makes a step all the same, so that reading is total; such bytes are refused before they are read (specs/Reading.antt).

-- kind 1
abbrev pub flat_tag : FlatStep → ℕ
flat_tag (ClientSend j rid req) = 1
flat_tag (ClientRecv j) = 2
flat_tag CombinerRecv = 3
flat_tag CombinerSkip = 4
flat_tag CombinerGoToResponding = 5
flat_tag (CombinerSend rid resp) = 6
flat_tag CombinerSendSkip = 7
flat_tag CombinerGoToCollecting = 8

abbrev pub flat_numbers : FlatStep → List ℕ
flat_numbers (ClientSend j rid req) = j ∷ rid ∷ req ∷ []
flat_numbers (ClientRecv j) = j ∷ []
flat_numbers CombinerRecv = []
flat_numbers CombinerSkip = []
flat_numbers CombinerGoToResponding = []
flat_numbers (CombinerSend rid resp) = rid ∷ resp ∷ []
flat_numbers CombinerSendSkip = []
flat_numbers CombinerGoToCollecting = []

abbrev pub flat_step : ℕ → List ℕ → FlatStep
flat_step t ns =
    cond (eqb t 1) (ClientSend (get_or ns 0 0) (get_or ns 1 0) (get_or ns 2 0))
    (cond (eqb t 2) (ClientRecv (get_or ns 0 0))
    (cond (eqb t 3) CombinerRecv
    (cond (eqb t 4) CombinerSkip
    (cond (eqb t 5) CombinerGoToResponding
    (cond (eqb t 6) (CombinerSend (get_or ns 0 0) (get_or ns 1 0))
    (cond (eqb t 7) CombinerSendSkip
    CombinerGoToCollecting))))))

abbrev pub flat : Language FlatStep
flat = record { kind = kinds.flat; tag = flat_tag; numbers = flat_numbers; step = flat_step }

-- kind 2
abbrev pub lock_tag : LockStep → ℕ
lock_tag ExcStart = 1
lock_tag ExcCheckCount = 2
lock_tag ExcFinish = 3
lock_tag (ExcRelease t) = 4
lock_tag (SharedStart r) = 5
lock_tag (SharedFinish r) = 6
lock_tag (SharedRelease r t) = 7

abbrev pub lock_numbers : LockStep → List ℕ
lock_numbers ExcStart = []
lock_numbers ExcCheckCount = []
lock_numbers ExcFinish = []
lock_numbers (ExcRelease t) = t ∷ []
lock_numbers (SharedStart r) = r ∷ []
lock_numbers (SharedFinish r) = r ∷ []
lock_numbers (SharedRelease r t) = r ∷ t ∷ []

abbrev pub lock_step : ℕ → List ℕ → LockStep
lock_step t ns =
    cond (eqb t 2) ExcCheckCount
    (cond (eqb t 3) ExcFinish
    (cond (eqb t 4) (ExcRelease (get_or ns 0 0))
    (cond (eqb t 5) (SharedStart (get_or ns 0 0))
    (cond (eqb t 6) (SharedFinish (get_or ns 0 0))
    (cond (eqb t 7) (SharedRelease (get_or ns 0 0) (get_or ns 1 0))
    ExcStart)))))

abbrev pub lock : Language LockStep
lock = record { kind = kinds.lock; tag = lock_tag; numbers = lock_numbers; step = lock_step }

-- kind 3
abbrev pub counting_tag : CountingStep → ℕ
counting_tag (WriteableToReadable t) = 1
counting_tag ReadableToWriteable = 2
counting_tag NewRef = 3
counting_tag (DeleteRef t) = 4

abbrev pub counting_numbers : CountingStep → List ℕ
counting_numbers (WriteableToReadable t) = t ∷ []
counting_numbers ReadableToWriteable = []
counting_numbers NewRef = []
counting_numbers (DeleteRef t) = t ∷ []

abbrev pub counting_step : ℕ → List ℕ → CountingStep
counting_step t ns =
    cond (eqb t 1) (WriteableToReadable (get_or ns 0 0))
    (cond (eqb t 2) ReadableToWriteable
    (cond (eqb t 4) (DeleteRef (get_or ns 0 0))
    NewRef))

abbrev pub counting : Language CountingStep
counting = record { kind = kinds.counting; tag = counting_tag; numbers = counting_numbers; step = counting_step }

-- kind 4
abbrev pub flag_tag : FlagStep → ℕ
flag_tag (Begin k) = 1
flag_tag (Move k) = 2
flag_tag (Read k) = 3

abbrev pub flag_numbers : FlagStep → List ℕ
flag_numbers (Begin k) = k ∷ []
flag_numbers (Move k) = k ∷ []
flag_numbers (Read k) = k ∷ []

abbrev pub flag_step : ℕ → List ℕ → FlagStep
flag_step t ns =
    cond (eqb t 1) (Begin (get_or ns 0 0))
    (cond (eqb t 2) (Move (get_or ns 0 0))
    (cond (eqb t 3) (Read (get_or ns 0 0))
    (Begin 0)))

abbrev pub flag : Language FlagStep
flag = record { kind = kinds.flag; tag = flag_tag; numbers = flag_numbers; step = flag_step }
