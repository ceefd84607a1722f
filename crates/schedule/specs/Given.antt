-- When each fault is given: the scope's table of codes 1 to 7, "given exactly when", line by line. Proved of `decode` in proofs/Given.antt. Assumes nothing.
use Rattle.std.specs.Prelude.{◌≡◌, ◌⊎◌, List, ℕ, suc, ◌+◌, ◌-◌, ◌≤◌, ◌<◌, length, get_or}
use Rattle.rows.specs.Bytes.{number_at}
use Rattle.schedule.specs.Limits as limit
use Rattle.schedule.specs.Widths as kind
use Rattle.schedule.specs.Widths.{length_of}
use Rattle.schedule.specs.Schedule.{Schedule, Decoded, faulty, good, steps#}
use Rattle.schedule.specs.declared.front.Fault.{Fault}
use Rattle.schedule.specs.declared.front.Fault.TheVariants.{Length, Version, Body, Kind, Parameter, Step, Surplus}

-- ---------- the front, test after test

-- 1: under 4 bytes, or wrong body length
abbrev pub WrongLength : List ℕ → Type 0
WrongLength f = (length f < 4) ⊎ (number_at f 1 2 ≡ length f - 3 → ⊥)

pub record RightLength (f : List ℕ) : Type 0 where
  pub long : 4 ≤ length f
  pub told : number_at f 1 2 ≡ length f - 3

-- 2: version not 1
pub record WrongVersion (f : List ℕ) : Type 0 where
  pub sized : RightLength f
  pub version : get_or f 0 0 ≡ 1 → ⊥

-- 3: body over its limit
pub record LongBody (f : List ℕ) : Type 0 where
  pub sized : RightLength f
  pub version : get_or f 0 0 ≡ 1
  pub long : limit.body < length f - 3

-- what codes 1 to 3 leave
pub record Framed (f : List ℕ) : Type 0 where
  pub sized : RightLength f
  pub version : get_or f 0 0 ≡ 1
  pub short : length f - 3 ≤ limit.body

abbrev pub KnownKind : List ℕ → Type 0
KnownKind f = (get_or f 3 0 ≡ kind.flat) ⊎ (get_or f 3 0 ≡ kind.lock) ⊎ (get_or f 3 0 ≡ kind.counting) ⊎ (get_or f 3 0 ≡ kind.flag)

-- 4: unknown kind
pub record UnknownKind (f : List ℕ) : Type 0 where
  pub framed : Framed f
  pub unknown : KnownKind f → ⊥

-- the parameters of the file's kind are there and in their limits, and its steps begin at this place
pub data Ready (f : List ℕ) : ℕ → Type 0 where
  flat_ready : get_or f 3 0 ≡ kind.flat → 5 ≤ length f → get_or f 4 0 ≤ limit.clients → Ready f 5
  lock_ready : get_or f 3 0 ≡ kind.lock → 9 ≤ length f → 1 ≤ get_or f 4 0 → get_or f 4 0 ≤ limit.width → Ready f 9
  counting_ready : get_or f 3 0 ≡ kind.counting → Ready f 4
  flag_ready : get_or f 3 0 ≡ kind.flag → 6 ≤ length f → 1 ≤ get_or f 4 0 → get_or f 4 0 ≤ limit.threads → get_or f 5 0 ≤ 1 → Ready f 6

-- 5: parameter missing or outside its limits
pub record WrongParameter (f : List ℕ) : Type 0 where
  pub framed : Framed f
  pub known : KnownKind f
  pub wrong : (from : ℕ) → Ready f from → ⊥

-- ---------- the steps, in reading order

-- what is a step and what is not: length 0, past the body, or not its tag's; no unknown tag has a length
pub record Stands (kind : ℕ) (f : List ℕ) (at next : ℕ) : Type 0 where
  pub nonzero : get_or f at 0 ≡ 0 → ⊥
  pub fits : at + 1 + get_or f at 0 ≤ length f
  pub own : length_of kind (get_or f (at + 1) 0) ≡ get_or f at 0
  pub ends : next ≡ at + 1 + get_or f at 0

-- k whole steps of a kind stand one after the other from a place to another
pub data Whole# (kind : ℕ) (f : List ℕ) : ℕ → ℕ → ℕ → Type 0 where
  no_more : {at : ℕ} → Whole# kind f at 0 at
  more : {at next to k : ℕ} → Stands kind f at next → Whole# kind f next k to → Whole# kind f at (suc k) to

abbrev pub Malformed : ℕ → List ℕ → ℕ → Type 0
Malformed kind f at =
    (at < length f)
    × ((get_or f at 0 ≡ 0) ⊎ (length f < at + 1 + get_or f at 0) ⊎ (length_of kind (get_or f (at + 1) 0) ≡ get_or f at 0 → ⊥))

-- 6: the step with this index is malformed, and those before it are whole
pub record BrokenStep (f : List ℕ) (k : ℕ) : Type 0 where
  pub framed : Framed f
  pub from : ℕ
  pub ready : Ready f from
  pub at : ℕ
  pub before : Whole# (get_or f 3 0) f from k at
  pub below : k < limit.steps
  pub malformed : Malformed (get_or f 3 0) f at

-- 7: bytes remain after the last step that a file may have
pub record SurplusBytes (f : List ℕ) : Type 0 where
  pub framed : Framed f
  pub from : ℕ
  pub ready : Ready f from
  pub at : ℕ
  pub before : Whole# (get_or f 3 0) f from limit.steps at
  pub remain : at < length f

-- no fault: n steps, which end where the file does
pub record WellFormed (f : List ℕ) (n : ℕ) : Type 0 where
  pub framed : Framed f
  pub from : ℕ
  pub ready : Ready f from
  pub few : n ≤ limit.steps
  pub all : Whole# (get_or f 3 0) f from n (length f)

-- ---------- the seven lines of the table, and the eighth that is none of them

abbrev pub HasFault : List ℕ → Fault → Type 0
HasFault f Length = WrongLength f
HasFault f Version = WrongVersion f
HasFault f Body = LongBody f
HasFault f Kind = UnknownKind f
HasFault f Parameter = WrongParameter f
HasFault f (Step k) = BrokenStep f k
HasFault f Surplus = SurplusBytes f

-- what reads a file: `decode` does
abbrev pub Reader : Type 0
Reader = List ℕ → Decoded

-- a reader gives each fault exactly when the file has it, and a schedule exactly where the file is well formed, with as many steps
pub record FaultsGiven (D : Reader) (f : List ℕ) : Type 0 where
  pub faulty_has : (x : Fault) → D f ≡ faulty x → HasFault f x
  pub has_faulty : (x : Fault) → HasFault f x → D f ≡ faulty x
  pub good_formed : (s : Schedule) → D f ≡ good s → WellFormed f (steps# s)
  pub formed_good : (n : ℕ) → WellFormed f n → (s : Schedule) × (D f ≡ good s)
