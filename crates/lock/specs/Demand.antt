-- Demand 3's share of the shift lock, said of an accepted history alone. Proved in proofs/Demands.antt and proofs/Exact.antt. Assumes nothing.
use Rattle.std.specs.Prelude.{ℕ, ◌+◌, ◌*◌, ◌≤◌, ◌<◌, ◌≡◌, Bool, true, false, ◌&&◌, cond, not, List, [], ◌∷◌, eqb}
use Rattle.rows.specs.Walk.{bit}
use Rattle.machine.specs.History.{History, Run, did#, logged#, AtEach, Throughout}
use Rattle.schedule.specs.Limits as limit
use Rattle.schedule.specs.declared.steps.LockStep.{LockStep}
use Rattle.schedule.specs.declared.steps.LockStep.TheVariants.{ExcStart, ExcCheckCount, ExcFinish, ExcRelease, SharedStart, SharedFinish, SharedRelease}
use Rattle.lock.specs.Lock.{lock, fresh_state, cell}
use Rattle.lock.specs.declared.state.State.{State}
use Rattle.lock.specs.declared.entry.Entry.{Entry}
use Rattle.lock.specs.declared.entry.Entry.TheVariants.{Withdrawn, Granted}

abbrev pub Hist : Type 0
Hist = History lock

-- ---------- what is counted

abbrev pub starts_at : ℕ → LockStep → Bool
starts_at r ExcStart = false
starts_at r ExcCheckCount = false
starts_at r ExcFinish = false
starts_at r (ExcRelease u) = false
starts_at r (SharedStart q) = eqb r q
starts_at r (SharedFinish q) = false
starts_at r (SharedRelease q u) = false

-- a shared_release at r, of whatever record; of r and t
abbrev pub releases_at : ℕ → LockStep → Bool
releases_at r ExcStart = false
releases_at r ExcCheckCount = false
releases_at r ExcFinish = false
releases_at r (ExcRelease u) = false
releases_at r (SharedStart q) = false
releases_at r (SharedFinish q) = false
releases_at r (SharedRelease q u) = eqb r q

abbrev pub releases_of : ℕ → ℕ → LockStep → Bool
releases_of r t ExcStart = false
releases_of r t ExcCheckCount = false
releases_of r t ExcFinish = false
releases_of r t (ExcRelease u) = false
releases_of r t (SharedStart q) = false
releases_of r t (SharedFinish q) = false
releases_of r t (SharedRelease q u) = eqb t u && eqb r q

abbrev pub writer_releases : LockStep → Bool
writer_releases ExcStart = false
writer_releases ExcCheckCount = false
writer_releases ExcFinish = false
writer_releases (ExcRelease u) = true
writer_releases (SharedStart q) = false
writer_releases (SharedFinish q) = false
writer_releases (SharedRelease q u) = false

-- a shared_finish at r
abbrev pub finishes_at : ℕ → LockStep → Bool
finishes_at r ExcStart = false
finishes_at r ExcCheckCount = false
finishes_at r ExcFinish = false
finishes_at r (ExcRelease u) = false
finishes_at r (SharedStart q) = false
finishes_at r (SharedFinish q) = eqb r q
finishes_at r (SharedRelease q u) = false

-- an exc_start; an exc_check_count; an exc_finish
abbrev pub starts : LockStep → Bool
starts ExcStart = true
starts ExcCheckCount = false
starts ExcFinish = false
starts (ExcRelease u) = false
starts (SharedStart q) = false
starts (SharedFinish q) = false
starts (SharedRelease q u) = false

abbrev pub checks : LockStep → Bool
checks ExcStart = false
checks ExcCheckCount = true
checks ExcFinish = false
checks (ExcRelease u) = false
checks (SharedStart q) = false
checks (SharedFinish q) = false
checks (SharedRelease q u) = false

abbrev pub finishes : LockStep → Bool
finishes ExcStart = false
finishes ExcCheckCount = false
finishes ExcFinish = true
finishes (ExcRelease u) = false
finishes (SharedStart q) = false
finishes (SharedFinish q) = false
finishes (SharedRelease q u) = false

-- the entry of a shared_finish of r and t; of an exc_finish
abbrev pub grants_of : ℕ → ℕ → Entry → Bool
grants_of r t (Withdrawn u) = false
grants_of r t (Granted q u) = eqb t u && eqb r q

abbrev pub withdraws : Entry → Bool
withdraws (Withdrawn u) = true
withdraws (Granted q u) = false

-- ---------- what a history says

-- accepted shared_starts at r, accepted shared_releases at r
abbrev pub shared_starts : Hist → ℕ → ℕ
shared_starts h r = did# (starts_at r) h

abbrev pub shared_releases : Hist → ℕ → ℕ
shared_releases h r = did# (releases_at r) h

-- guards of readers at r that carry t: handed out, given back
abbrev pub handed_out : Hist → ℕ → ℕ → ℕ
handed_out h r t = logged# (grants_of r t) h

abbrev pub given_back : Hist → ℕ → ℕ → ℕ
given_back h r t = did# (releases_of r t) h

-- guards of writers: taken, given back
abbrev pub taken : Hist → ℕ
taken h = logged# withdraws h

abbrev pub returned : Hist → ℕ
returned h = did# writer_releases h

-- a guard stands
abbrev pub ReaderAt : Hist → ℕ → ℕ → Type 0
ReaderAt h r t = given_back h r t < handed_out h r t

abbrev pub Writer : Hist → Type 0
Writer h = returned h < taken h

-- the record of the latest writer release, or the initial one
abbrev pub newer : LockStep → ℕ → ℕ
newer ExcStart t = t
newer ExcCheckCount t = t
newer ExcFinish t = t
newer (ExcRelease u) t = u
newer (SharedStart q) t = t
newer (SharedFinish q) t = t
newer (SharedRelease q u) t = t

abbrev pub in_force : ℕ → Hist → ℕ
in_force t₀ [] = t₀
in_force t₀ (e ∷ h) = newer e.did (in_force t₀ h)

-- ---------- what each step shows, of the history before it, and what it logs

-- the writer's guard is taken where none stands, of a writer or of a reader, and the record in force is withdrawn
pub record AtExcFinish (t₀ : ℕ) (before : Hist) (log : List Entry) : Type 0 where
  pub withdrawn : log ≡ Withdrawn (in_force t₀ before) ∷ []
  pub no_writer : returned before ≡ taken before
  pub no_reader : (r t : ℕ) → given_back before r t ≡ handed_out before r t

-- a reader's guard is handed out where no writer's stands, and carries the record in force
pub record AtSharedFinish (t₀ : ℕ) (before : Hist) (r : ℕ) (log : List Entry) : Type 0 where
  pub granted : log ≡ Granted r (in_force t₀ before) ∷ []
  pub no_writer : returned before ≡ taken before

-- a guard is given back that stands, and nothing else is logged
abbrev pub At : ℕ → Hist → LockStep → List Entry → Type 0
At t₀ before ExcStart log = log ≡ []
At t₀ before ExcCheckCount log = log ≡ []
At t₀ before ExcFinish log = AtExcFinish t₀ before log
At t₀ before (ExcRelease t) log = (log ≡ []) × Writer before
At t₀ before (SharedStart r) log = log ≡ []
At t₀ before (SharedFinish r) log = AtSharedFinish t₀ before r log
At t₀ before (SharedRelease r t) log = (log ≡ []) × ReaderAt before r t

-- ---------- which step could come next, by counts alone

-- no writer is under way; one is checking the cells; it stands at cell c
abbrev pub NoneUnderWay : Hist → Type 0
NoneUnderWay h = did# starts h ≡ returned h

abbrev pub Checking : Hist → Type 0
Checking h = did# starts h ≡ did# finishes h + 1

abbrev pub Stands : ℕ → Hist → ℕ → Type 0
Stands w h c = c + w * did# finishes h ≡ did# checks h

abbrev pub Could : ℕ → Hist → LockStep → Type 0
Could w h ExcStart = NoneUnderWay h
Could w h ExcCheckCount = (c : ℕ) × Checking h × (c < w) × Stands w h c × (shared_releases h c ≡ shared_starts h c)
Could w h ExcFinish = Checking h × Stands w h w
Could w h (ExcRelease t) = Writer h
Could w h (SharedStart r) = (r < w) × (shared_starts h r < shared_releases h r + limit.counter)
Could w h (SharedFinish r) = (r < w) × NoneUnderWay h × (did# (finishes_at r) h < shared_starts h r)
Could w h (SharedRelease r t) = (r < w) × ReaderAt h r t

-- it could come there, and shows what it must
abbrev pub CouldAt : ℕ → ℕ → Hist → LockStep → List Entry → Type 0
CouldAt w t₀ before x log = Could w before x × At t₀ before x log

-- ---------- the demand

-- the guards that stand after a history
pub record Guards (t₀ : ℕ) (h : Hist) : Type 0 where
  -- no guard is given back that was not handed out
  pub readers_exact : (r t : ℕ) → given_back h r t ≤ handed_out h r t
  pub writers_exact : returned h ≤ taken h
  -- one writer at most
  pub one_writer : taken h ≤ returned h + 1
  -- no writer guard stands beside a reader guard
  pub apart : Writer h → (r t : ℕ) → ReaderAt h r t → ⊥
  -- each reader guard carries the record of the latest writer release, or the initial one
  pub current : (r t : ℕ) → ReaderAt h r t → t ≡ in_force t₀ h

-- of a history from a fresh lock of w cells that stores t₀: each step could come where it did, and what it shows; and the guards after each part of it
pub record Demand (w t₀ : ℕ) (h : Hist) : Type 0 where
  pub steps : AtEach (CouldAt w t₀) h
  pub guards : Throughout (Guards t₀) h

-- after every accepted prefix from a fresh machine
abbrev pub Demanded : Type 0
Demanded = (w t₀ : ℕ) → 1 ≤ w → w ≤ limit.width → (h : Hist) (s : State) → Run lock (fresh_state w t₀) h s → Demand w t₀ h

-- in every prefix a cell equals its accepted shared_starts less its accepted shared_releases
abbrev pub CellsCounted : Type 0
CellsCounted = (w t₀ : ℕ) → 1 ≤ w → w ≤ limit.width → (h : Hist) (s : State) → Run lock (fresh_state w t₀) h s
    → (r : ℕ) → (cell s r).count + shared_releases h r ≡ shared_starts h r

-- and the guards that stand are counted: of each cell and record, those handed out are those given back and those in the cell, which carry the record in
-- force; and a writer's likewise
abbrev pub GuardsCounted : Type 0
GuardsCounted = (w t₀ : ℕ) → 1 ≤ w → w ≤ limit.width → (h : Hist) (s : State) → Run lock (fresh_state w t₀) h s
    → ((r u : ℕ) → handed_out h r u ≡ given_back h r u + cond (eqb u (in_force t₀ h)) (cell s r).guards 0) × (taken h ≡ returned h + bit s.head.guard)

-- and the lock's head: a record in store is the one in force, and it is in store while no writer has the guard; the cursor has passed the cells checked
-- since the latest exc_finish, each of which came after a whole walk
pub record Headed (w t₀ : ℕ) (h : Hist) (s : State) : Type 0 where
  pub width : s.head.width ≡ w
  pub stored_in_force : s.head.stored ≡ true → s.head.t ≡ in_force t₀ h
  pub stored : taken h ≡ returned h + bit (not s.head.stored)
  pub cursor : s.head.cursor + w * did# finishes h ≡ did# checks h

abbrev pub HeadCounted : Type 0
HeadCounted = (w t₀ : ℕ) → 1 ≤ w → w ≤ limit.width → (h : Hist) (s : State) → Run lock (fresh_state w t₀) h s → Headed w t₀ h s

-- ---------- no other histories: where each step could come and shows what it must, a lock did it

abbrev pub Only : ℕ → ℕ → Type 0
Only w t₀ = (h : Hist) → (((s : State) × Run lock (fresh_state w t₀) h s) → AtEach (CouldAt w t₀) h) × (AtEach (CouldAt w t₀) h → (s : State) × Run lock (fresh_state w t₀) h s)

abbrev pub Exactly : Type 0
Exactly = (w t₀ : ℕ) → 1 ≤ w → w ≤ limit.width → Only w t₀
