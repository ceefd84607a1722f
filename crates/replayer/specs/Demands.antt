-- THE THREE DEMANDS, of any replayer R, any bytes f and any two buffers. The user's sentences stand above the clauses that give them ("document 01" is the
-- scope). proofs/Demands.antt proves all three of `replay_of`, which `replay` promises; proofs/Settles.antt proves that no other R meets the first two. The
-- words used: `HasFault`, the scope's table of codes 1 to 7 (schedule specs/Given); `FileOf`, the file that a schedule has (schedule specs/Canonical); `Kind`,
-- what a machine brings (specs/Kinds); `Rested`, what a call answers and leaves (machine specs/Rest); `single`, one step on any state (machine specs/Single);
-- `Exact` and `Upholds`, going by the source (machine specs/Sourced). No clause speaks of how a file is read. Assumes nothing.
use Rattle.std.specs.Prelude.{◌≡◌, ◌⊎◌, List, [], ◌++◌, ℕ, ◌+◌, ◌*◌, ◌≤◌, ◌<◌, length, take}
use Rattle.std.proofs.Math.Option.{Option, none, some}
use Rattle.rows.specs.Bytes.{Bytes}
use Rattle.rows.specs.Stores.{over}
use Rattle.rows.specs.Walk.{pieces}
use Rattle.machine.specs.History.{History, log_of}
use Rattle.machine.specs.Replay.{Replayed, after, past}
use Rattle.machine.specs.Rest.{Rested, untouched, finished}
use Rattle.machine.specs.Single.{Single, single, handed_back}
use Rattle.machine.specs.Sourced.{Reason, Enabled, AllEnabled, Exact, Upholds}
use Rattle.machine.specs.Codes as code
use Rattle.schedule.specs.Limits as limit
use Rattle.schedule.specs.Front.{fault_code, fault_place}
use Rattle.schedule.specs.Given.{HasFault}
use Rattle.schedule.specs.Canonical.{FileOf, Sorted}
use Rattle.schedule.specs.declared.front.Fault.{Fault}
use Rattle.schedule.specs.declared.steps.Params.{Params}
use Rattle.replayer.specs.Kinds.{Kind, machine_of, StateOf, StepOf, EntryOf, Sound, kind_of, Steps}

-- a file and two buffers go in; an answer and what the buffers hold come out
abbrev pub Replayer : Type 0
Replayer = List ℕ → List ℕ → List ℕ → Rested

-- f is the file of these steps, of the kind with these parameters, all in their limits
abbrev pub Says : List ℕ → (p : Params) → Steps p → Type 0
Says f p xs = FileOf f ((kind_of p).schedule xs)

-- buffers of the scope's sizes for n steps
pub record Room (n : ℕ) (log image : List ℕ) : Type 0 where
  pub entries : n * limit.entry ≤ length log
  pub state : limit.image ≤ length image

-- a step's own codes
abbrev pub OfAStep : ℕ → Type 0
OfAStep c = (code.outside ≤ c) × (c ≤ code.full)

-- ---------- the machines alone, of any kind: one step, on any state

module _ (k : Kind) where
  abbrev pub singly : StateOf k → Option (StepOf k) → List ℕ → Single (machine_of k)
  singly s x log = single (machine_of k) k.stepper.sound k.stepper.room s x log

  -- the history of steps from the fresh machine, and the state that they led to
  abbrev pub past_of : List (StepOf k) → History (machine_of k)
  past_of ys = past (machine_of k) [] k.fresh ys

  abbrev pub after_of : List (StepOf k) → StateOf k
  after_of ys = after (machine_of k) k.fresh ys

-- a single step on a sound state, with a log buffer of the scope's size: 0 exactly when it is enabled, and then what the step does; else the first line
-- of the source's table that applies. A step of another kind is 6, and too short a log buffer 8, whatever the state
pub record SingleExact (k : Kind) : Type 0 where
  pub enabled : (s : StateOf k) (x : StepOf k) (log : List ℕ) → k.stepper.room ≤ length log → Sound k s → (singly k s (some x) log).code ≡ 0
      → Enabled k.source s x
  pub does : (s : StateOf k) (x : StepOf k) (log : List ℕ) → k.stepper.room ≤ length log → Sound k s → Enabled k.source s x
      → singly k s (some x) log ≡ record { code = 0; state = (machine_of k).next s x; wrote = (machine_of k).logs s x }
  pub reason : (s : StateOf k) (x : StepOf k) (log : List ℕ) → k.stepper.room ≤ length log → Sound k s → (Enabled k.source s x → ⊥)
      → Reason k.source (k.source.abs s) (k.source.label x) (singly k s (some x) log).code
  pub foreign : (s : StateOf k) (log : List ℕ) → singly k s none log ≡ handed_back code.malformed s
  pub short : (s : StateOf k) (x : StepOf k) (log : List ℕ) → length log < k.stepper.room → singly k s (some x) log ≡ handed_back code.room s

pub record OfMachine (k : Kind) : Type 0 where
  -- 1. "A refused step leaves the state that stood before it and the log of the steps before it": a single step, of this kind or another
  pub refusal_keeps : (s : StateOf k) (x : Option (StepOf k)) (log : List ℕ)
      → let a = singly k s x log in (a.code ≡ 0 → ⊥) → (a.state ≡ s) × (a.wrote ≡ [])
  -- "A made-up machine state is tested and, if not sound, refused": 10. Sound is: the source's invariants, the limits, unused entries zero
  pub made_up : (s : StateOf k) (x : StepOf k) (log : List ℕ) → k.stepper.room ≤ length log → k.Whole s → (Sound k s → ⊥)
      → singly k s (some x) log ≡ handed_back code.unsound s
  -- 2. "A step is accepted exactly when its transition in the source is enabled and the counter limit of document 01 isn't reached, and it then does what
  -- the source says": of every sound state; single steps likewise
  pub step : Upholds k.source (Sound k)
  pub singles : SingleExact k
  -- a fresh machine is the source's initial state, and sound; `Upholds` says that accepted steps keep it so
  pub initial : k.Within → k.Initial (k.source.abs k.fresh)
  pub fresh : k.Within → Sound k k.fresh
  -- 3. "After every accepted prefix from a fresh machine": ys, each enabled in turn
  pub promised : k.Within → (ys : List (StepOf k)) → AllEnabled k.source k.fresh ys → k.Promises (past_of k ys) (after_of k ys)

-- ---------- 1

-- what is written, and that the bytes beyond keep their values
pub record Wrote (count : ℕ) (before after : List ℕ) : Type 0 where
  pub bytes : List ℕ
  pub many : length bytes ≡ count
  pub fits : length bytes ≤ length before
  pub over_front : after ≡ over bytes before

-- "Any bytes given as a schedule get one answer, and the caller never has to have checked anything": R is a function, and what it is given is sorted
pub record Demand1 (R : Replayer) (f log image : List ℕ) : Type 0 where
  -- exactly one line of the table of codes 1 to 7 applies to f, or f is the file of exactly one schedule
  pub sorted : Sorted f
  -- 1 to 7, with the place of its line; then 8 where a buffer is under its size; else 0, or a step's, 11 to 18
  pub fault : (x : Fault) → HasFault f x → R f log image ≡ untouched (fault_code x) (fault_place x) log image
  pub short : (p : Params) (xs : Steps p) → Says f p xs → (Room (length xs) log image → ⊥) → R f log image ≡ untouched code.room 0 log image
  pub roomy : (p : Params) (xs : Steps p) → Says f p xs → Room (length xs) log image → let c = (R f log image).code in (c ≡ 0) ⊎ OfAStep c
  -- and each only then
  pub only_fault : (x : Fault) → (R f log image).code ≡ fault_code x → (R f log image).place ≡ fault_place x → HasFault f x
  pub only_short : (R f log image).code ≡ code.room → (p : Params) × (xs : Steps p) × Says f p xs × (Room (length xs) log image → ⊥)
  pub only_roomy : let c = (R f log image).code in (c ≡ 0) ⊎ OfAStep c → (p : Params) × (xs : Steps p) × Says f p xs × Room (length xs) log image
  -- "A refused file leaves the log and state buffers untouched." A file is refused by 1 to 8 (9 and 10 are no file's)
  pub refused_file : let a = R f log image in 1 ≤ a.code → a.code ≤ code.unsound → a ≡ untouched a.code a.place log image
  pub known : let c = (R f log image).code in (c ≡ 0) ⊎ ((1 ≤ c) × (c ≤ code.room)) ⊎ OfAStep c
  -- nothing is written but entries and image, at the front of their buffers
  pub log_kept : let a = R f log image in Wrote a.logged log a.log
  pub image_kept : let a = R f log image in Wrote a.imaged image a.image

-- ---------- 2

-- a file's answer a, in the machine's own words: what the replay `said` that goes exactly by the source, laid over the buffers as the bytes that the kind
-- has for entries and states: those of specs/Image.antt of each machine
pub record Replays (k : Kind) (xs : List (StepOf k)) (log image : List ℕ) (a : Rested) : Type 0 where
  pub said : Replayed (machine_of k)
  pub exact : Exact k.source k.fresh xs said
  pub answer : a ≡ finished (machine_of k) k.runner.bytes k.runner.image said log image

-- "With buffers of document 01's sizes, a well-formed schedule is refused exactly at its first disabled step, by index and reason; a step at the limit
-- counts as disabled": the field `exact`. What a reason means: the codes 11 to 18 are lines of the scope's table, said of
-- each source: `lines` of specs/Refined of each machine
pub record Demand2 (R : Replayer) (f log image : List ℕ) : Type 0 where
  pub file : (p : Params) (xs : Steps p) → Says f p xs → Room (length xs) log image
      → Replays (kind_of p) xs log image (R f log image)

-- ---------- 3

-- "After every accepted prefix": of the history of the first n steps, for every n up to the place that R answers; and what R leaves is that of the last of them
pub record Demand3 (R : Replayer) (f log image : List ℕ) : Type 0 where
  pub promised : (p : Params) (xs : Steps p) → Says f p xs
      → (n : ℕ) → n ≤ (R f log image).place → (kind_of p).Promises (past_of (kind_of p) (take n xs)) (after_of (kind_of p) (take n xs))
  -- the log is that history's entries, no more and no less
  pub logged : (p : Params) (xs : Steps p) → Says f p xs
      → let a = R f log image in let es = pieces (kind_of p).runner.bytes (log_of (past_of (kind_of p) (take a.place xs))) in
      (a.logged ≡ length es) × (a.log ≡ over es log)
  -- what a longer part of it logged begins with what a shorter one did
  pub grows : (p : Params) (xs : Steps p) → Says f p xs → (n m : ℕ) → n ≤ m → m ≤ (R f log image).place
      → (more : List (EntryOf (kind_of p))) × (log_of (past_of (kind_of p) (take m xs)) ≡ log_of (past_of (kind_of p) (take n xs)) ++ more)
  -- the image is that of the state that it led to
  pub shown : (p : Params) (xs : Steps p) → Says f p xs → Room (length xs) log image
      → let a = R f log image in let i = (kind_of p).runner.image (after_of (kind_of p) (take a.place xs)) in
      (a.imaged ≡ length i) × (a.image ≡ over i image)

-- ---------- all of it

pub record Demanded (R : Replayer) (f log image : List ℕ) : Type 0 where
  pub demand1 : Demand1 R f log image
  pub demand2 : Demand2 R f log image
  pub demand3 : Demand3 R f log image

-- what settles R: demands 1 and 2, of any bytes and buffers
abbrev pub Meets : Replayer → Type 0
Meets R = (f log image : List ℕ) → Bytes f → Demand1 R f log image × Demand2 R f log image

-- ---------- the program's own entry, of an input of any length

-- the scope: over the largest file "it answers 3 at 0 before any other test"; up to there the three demands. So it does not meet demand 1 of every input: one
-- over the largest whose length bytes are wrong as well is 3 and not 1
pub record OfInput (R : Replayer) : Type 0 where
  pub over : (f log image : List ℕ) → limit.body + 3 < length f → R f log image ≡ untouched code.body 0 log image
  pub under : (f log image : List ℕ) → Bytes f → length f ≤ limit.body + 3 → Demanded R f log image
