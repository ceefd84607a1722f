-- WHAT A KIND IS, once for all four: its machine with the source beside it, its single step, the fresh machine of its parameters, and what is promised of
-- every accepted history. The demands (specs/Demands.antt) are said of any kind. Assumes nothing.
use Rattle.std.specs.Prelude.{◌≡◌, Bool, cond, List, ℕ, ◌+◌, ◌≤◌, ◌<◌, eqb, length}
use Rattle.std.proofs.Math.Option.{none, some}
use Rattle.rows.specs.Walk.{bit}
use Rattle.machine.specs.Machine.{Machine}
use Rattle.machine.specs.History.{History}
use Rattle.machine.specs.Single.{Stepper}
use Rattle.machine.specs.Sourced.{Sourced}
use Rattle.schedule.specs.Limits as limit
use Rattle.schedule.specs.Schedule.{Schedule, of_flat, of_lock, of_counting, of_flag}
use Rattle.schedule.specs.Running.{Runner}
use Rattle.schedule.specs.declared.steps.Params.{Params}
use Rattle.schedule.specs.declared.steps.Params.TheVariants.{Flat, Lock, Counting, Flag}
use Rattle.flat.specs.Source as flatSource
use Rattle.flat.specs.Flat as flat
use Rattle.flat.specs.Single as flatSingle
use Rattle.flat.specs.Refined as flatTo
use Rattle.flat.specs.Demand as flatDemand
use Rattle.flat.specs.declared.state.State as flatState
use Rattle.lock.specs.Source as lockSource
use Rattle.lock.specs.Lock as lock
use Rattle.lock.specs.Single as lockSingle
use Rattle.lock.specs.Refined as lockTo
use Rattle.lock.specs.Demand as lockDemand
use Rattle.lock.specs.declared.state.State as lockState
use Rattle.counting.specs.Source as countingSource
use Rattle.counting.specs.Counting as counting
use Rattle.counting.specs.Single as countingSingle
use Rattle.counting.specs.Refined as countingTo
use Rattle.counting.specs.Demand as countingDemand
use Rattle.counting.specs.declared.state.State as countingState
use Rattle.flag.specs.Source as flagSource
use Rattle.flag.specs.Flag as flag
use Rattle.flag.specs.Single as flagSingle
use Rattle.flag.specs.Refined as flagTo
use Rattle.flag.specs.Demand as flagDemand
use Rattle.flag.specs.declared.state.State as flagState
use Rattle.flat_run.specs.Run as flatRun
use Rattle.lock_run.specs.Run as lockRun
use Rattle.counting_run.specs.Run as countingRun
use Rattle.flag_run.specs.Run as flagRun

-- a kind with its parameters
pub record Kind : Type 1 where
  -- the machine, the steps of its files, the bytes of its entries and states, and what a sound state is (`Good`)
  pub runner : Runner
  -- the source that was ported, and the single step on any state
  pub source : Sourced runner.machine
  pub stepper : Stepper runner.machine
  -- a state with whole rows, as every row of the code is
  pub Whole : runner.machine.State → Type 0
  -- the parameters are in their limits; the fresh machine that they make, and the source's initial states
  pub Within : Type 0
  pub fresh : runner.machine.State
  pub Initial : source.Source → Type 0
  -- the schedule of this kind with these steps
  pub schedule : List runner.machine.Step → Schedule
  -- what demand 3 promises of a history from the fresh machine, and of the state that it led to
  pub Promises : History runner.machine → runner.machine.State → Type 0

abbrev pub machine_of : Kind → Machine
machine_of k = k.runner.machine

abbrev pub StateOf : Kind → Type 0
StateOf k = k.runner.machine.State

abbrev pub StepOf : Kind → Type 0
StepOf k = k.runner.machine.Step

abbrev pub EntryOf : Kind → Type 0
EntryOf k = k.runner.machine.Entry

abbrev pub Sound : (k : Kind) → StateOf k → Type 0
Sound k s = k.runner.Good s

-- ---------- what demand 3 promises of each kind

pub record FlatPromises (n : ℕ) (h : History flat.flat) (s : flatState.State) : Type 0 where
  -- "a client's k-th answer belongs to its k-th request, with that request's id and the payload of the one combiner send made for it"
  pub answers : flatDemand.Demand n h
  -- the state, counted: the combiner's mode, place and turn, and of each client what is under way and stored
  pub combiner : flatDemand.CombinerTold n h s
  pub clients : (j : ℕ) → flatDemand.ClientTold h j (flat.client s j)
  -- and what `answers` says of each step says all: the accepted histories of this machine are those of which it holds
  pub only : flatDemand.Only n

pub record LockPromises (w t : ℕ) (h : History lock.lock) (s : lockState.State) : Type 0 where
  -- "no writer guard stands beside a reader guard, and each reader guard carries the record of the latest writer release, or the initial one"
  pub guards : lockDemand.Demand w t h
  -- the scope: "a cell equals its accepted shared_starts less its accepted shared_releases"
  pub cells : (r : ℕ) → (lock.cell s r).count + lockDemand.shared_releases h r ≡ lockDemand.shared_starts h r
  -- the guards that stand, counted: "those at r that carry t are the logged shared_finishes of r and t less the accepted shared_releases"
  pub readers_counted : (r u : ℕ) → lockDemand.handed_out h r u ≡ lockDemand.given_back h r u + cond (eqb u (lockDemand.in_force t h)) (lock.cell s r).guards 0
  pub writers_counted : lockDemand.taken h ≡ lockDemand.returned h + bit s.head.guard
  -- the head, counted: width, record in store, cursor
  pub head : lockDemand.Headed w t h s
  -- and what `guards` says of each step says all: the accepted histories of this lock are those of which it holds
  pub only : lockDemand.Only w t

pub record CountingPromises (h : History counting.counting) (s : countingState.State) : Type 0 where
  -- the counting machine's share: each reference that is held carries the stored value
  pub references : countingDemand.Demand h
  pub references_counted : (u : ℕ) → countingDemand.granted h u ≡ countingDemand.deleted h u + cond (eqb u s.t) s.refs 0
  pub stored : countingDemand.stored h ≡ cond s.present (some s.t) none

pub record FlagPromises (n : ℕ) (v : Bool) (h : History flag.flag) (s : flagState.State) : Type 0 where
  -- "each finished flip, also a helped or cancelled one, is logged once, by a step after its beginning and not after its end, an unfinished one at most
  -- once; each read shows the initial value turned once for every flip logged before it"
  pub flips : flagDemand.Demand (flag.fresh_state n v) v h
  -- what each thread still owes, and the value
  pub owed : (k : ℕ) → flagDemand.begins h k ≡ flagDemand.flips h k + flagDemand.owed (flag.place s k) s.pending
  pub value : s.value ≡ flagDemand.turned (flagDemand.all_flips h) v
  -- "A flip whose thread moves alone ends within five moves."
  pub alone : (k : ℕ) → k < n → flagTo.EndsWithin k 5 s

-- ---------- the four kinds

abbrev pub kind_of : Params → Kind
kind_of (Flat n) =
    record {
      runner = flatRun.runner;
      source = flatTo.flat_combine;
      stepper = flatSingle.stepper;
      Whole = λ s. (length s.clients ≡ limit.clients) × (length s.elems ≡ limit.clients);
      Within = n ≤ limit.clients;
      fresh = flat.fresh_state n;
      Initial = λ a. a ≡ flatSource.initialize n;
      schedule = of_flat n;
      Promises = FlatPromises n;
    }
kind_of (Lock w t) =
    record {
      runner = lockRun.runner;
      source = lockTo.dist_rw_lock;
      stepper = lockSingle.stepper;
      Whole = λ s. length s.cells ≡ limit.width;
      Within = (1 ≤ w) × (w ≤ limit.width);
      fresh = lock.fresh_state w t;
      Initial = λ a. lockSource.Initialize w t a;
      schedule = of_lock w t;
      Promises = LockPromises w t;
    }
kind_of Counting =
    record {
      runner = countingRun.runner;
      source = countingTo.counting_permissions;
      stepper = countingSingle.stepper;
      Whole = λ s. Unit {0};
      Within = Unit {0};
      fresh = counting.fresh_state;
      Initial = λ a. a ≡ countingSource.new;
      schedule = of_counting;
      Promises = CountingPromises;
    }
kind_of (Flag n v) =
    record {
      runner = flagRun.runner;
      source = flagTo.helping;
      stepper = flagSingle.stepper;
      Whole = λ s. length s.places ≡ limit.threads;
      Within = (1 ≤ n) × (n ≤ limit.threads);
      fresh = flag.fresh_state n v;
      Initial = λ a. a ≡ flagSource.new n v;
      schedule = of_flag n v;
      Promises = FlagPromises n v;
    }

-- steps of a kind
abbrev pub Steps : Params → Type 0
Steps p = List (StepOf (kind_of p))
