-- What the four kinds bring to the demands: one fact after the other, of each of them. Assumes nothing.
use mathlib.Core.Path.{◌≡◌, refl}
use mathlib.Core.Bool.{true}
use mathlib.Core.List.{List, [], ◌∷◌}
use Rattle.machine.specs.Machine.{Machine}
use Rattle.machine.specs.History.{Run, start}
use Rattle.machine.specs.Replay.{AllAccepted, after, past}
use Rattle.machine.specs.Sourced.{Upholds}
use Rattle.machine.specs.Codes as code
use Rattle.machine.proofs.Pasts.{ran}
use Rattle.machine.proofs.Sourceds.{after_good}
use Rattle.schedule.specs.declared.steps.Params.{Params}
use Rattle.schedule.specs.declared.steps.Params.TheVariants.{Flat, Lock, Counting, Flag}
use Rattle.schedule.specs.declared.steps.FlatStep.TheVariants.{ClientSend, ClientRecv, CombinerRecv, CombinerSkip, CombinerGoToResponding, CombinerSend, CombinerSendSkip, CombinerGoToCollecting}
use Rattle.schedule.specs.declared.steps.LockStep.TheVariants.{ExcStart, ExcCheckCount, ExcFinish, ExcRelease, SharedStart, SharedFinish, SharedRelease}
use Rattle.schedule.specs.declared.steps.CountingStep.TheVariants.{WriteableToReadable, ReadableToWriteable, NewRef, DeleteRef}
use Rattle.schedule.specs.declared.steps.FlagStep.{FlagStep}
use Rattle.schedule.specs.declared.steps.FlagStep.TheVariants.{Begin, Move, Read}
use Rattle.schedule.specs.Carries.{Carries}
use Rattle.flat.specs.Flat as flat
use Rattle.flat.proofs.Refines as flatProved
use Rattle.flat.proofs.Demands as flatDemands
use Rattle.flat.proofs.Exact as flatExact
use Rattle.flat.proofs.Carried as flatRan
use Rattle.lock.specs.Lock as lock
use Rattle.lock.proofs.Refines as lockProved
use Rattle.lock.proofs.Demands as lockDemands
use Rattle.lock.proofs.Exact as lockExact
use Rattle.lock.proofs.Carried as lockRan
use Rattle.counting.specs.Counting as counting
use Rattle.counting.proofs.Refines as countingProved
use Rattle.counting.proofs.Demands as countingDemands
use Rattle.counting.proofs.Carried as countingRan
use Rattle.flag.specs.Flag as flag
use Rattle.flag.specs.Refined as flagTo
use Rattle.flag.specs.declared.state.State as flagState
use Rattle.flag.proofs.Refines as flagProved
use Rattle.flag.proofs.Demands as flagDemands
use Rattle.flag.proofs.Carried as flagRan
use Rattle.replayer.specs.Kinds.{machine_of, StateOf, StepOf, Sound, kind_of, Steps}
use Rattle.replayer.specs.Demands.{past_of, after_of}
use Rattle.replayer.proofs.Rooms.{spans}

-- ---------- the source is upheld, and the test of soundness is the record, where the rows are whole

pub upholds : (p : Params) → Upholds (kind_of p).source (Sound (kind_of p))
upholds (Flat n) = (flatProved.refines).upholds
upholds (Lock w t) = (lockProved.refines).upholds
upholds Counting = (countingProved.refines).upholds
upholds (Flag n v) = (flagProved.refines).upholds

pub sound_means : (p : Params) (s : StateOf (kind_of p)) → (kind_of p).Whole s → (kind_of p).stepper.sound s ≡ true → Sound (kind_of p) s
sound_means (Flat n) s w = (flatProved.refines).sound_means s w.0 w.1
sound_means (Lock n t) s w = (lockProved.refines).sound_means s w
sound_means Counting s w = (countingProved.refines).sound_means s
sound_means (Flag n v) s w = (flagProved.refines).sound_means s w

pub means_sound : (p : Params) (s : StateOf (kind_of p)) → Sound (kind_of p) s → (kind_of p).stepper.sound s ≡ true
means_sound (Flat n) = (flatProved.refines).means_sound
means_sound (Lock w t) = (lockProved.refines).means_sound
means_sound Counting = (countingProved.refines).means_sound
means_sound (Flag n v) = (flagProved.refines).means_sound

-- ---------- fresh machines

pub initial : (p : Params) → (kind_of p).Within → (kind_of p).Initial ((kind_of p).source.abs (kind_of p).fresh)
initial (Flat n) h = (flatProved.refines).fresh_initialize n h
initial (Lock w t) h = (lockProved.refines).fresh_initialize w t h.0 h.1
initial Counting h = (countingProved.refines).fresh_new
initial (Flag n v) h = (flagProved.refines).fresh_new n v

pub fresh : (p : Params) → (kind_of p).Within → Sound (kind_of p) (kind_of p).fresh
fresh (Flat n) h = sound_means (Flat n) (flat.fresh_state n) (refl, refl) ((flatProved.refines).fresh_sound n h)
fresh (Lock w t) h = sound_means (Lock w t) (lock.fresh_state w t) refl ((lockProved.refines).fresh_sound w t h.0 h.1)
fresh Counting h = sound_means Counting counting.fresh_state tt (countingProved.refines).fresh_sound
fresh (Flag n v) h = sound_means (Flag n v) (flag.fresh_state n v) refl ((flagProved.refines).fresh_sound n v h.0 h.1)

-- ---------- the runs: the laws of a loop, and the codes of steps, 11 to 18

pub carries : (p : Params) → Carries (kind_of p).runner
carries (Flat n) = flatRan.carries
carries (Lock w t) = lockRan.carries
carries Counting = countingRan.carries
carries (Flag n v) = flagRan.carries

pub codes : (p : Params) (q : StateOf (kind_of p)) (x : StepOf (kind_of p)) → spans code.outside code.full ((machine_of (kind_of p)).tests q x) ≡ true
codes (Flat n) q (ClientSend j rid req) = refl
codes (Flat n) q (ClientRecv j) = refl
codes (Flat n) q CombinerRecv = refl
codes (Flat n) q CombinerSkip = refl
codes (Flat n) q CombinerGoToResponding = refl
codes (Flat n) q (CombinerSend rid resp) = refl
codes (Flat n) q CombinerSendSkip = refl
codes (Flat n) q CombinerGoToCollecting = refl
codes (Lock w t) q ExcStart = refl
codes (Lock w t) q ExcCheckCount = refl
codes (Lock w t) q ExcFinish = refl
codes (Lock w t) q (ExcRelease u) = refl
codes (Lock w t) q (SharedStart r) = refl
codes (Lock w t) q (SharedFinish r) = refl
codes (Lock w t) q (SharedRelease r u) = refl
codes Counting q (WriteableToReadable t) = refl
codes Counting q ReadableToWriteable = refl
codes Counting q NewRef = refl
codes Counting q (DeleteRef t) = refl
codes (Flag n v) q (Begin k) = refl
codes (Flag n v) q (Move k) = refl
codes (Flag n v) q (Read k) = refl

-- ---------- what is promised of accepted steps

-- they are a history
history : (m : Machine) (s : m.State) (ys : List m.Step) → AllAccepted m s ys → Run m s (past m [] s ys) (after m s ys)
history m s ys a = ran m s [] s ys start a

-- no step changes how many threads there are
threads_kept : (s : flagState.State) (ys : List FlagStep) → (after flag.flag s ys).threads ≡ s.threads
threads_kept s [] = refl
threads_kept s (Begin k ∷ ys) = threads_kept (flag.next s (Begin k)) ys
threads_kept s (Move k ∷ ys) = threads_kept (flag.next s (Move k)) ys
threads_kept s (Read k ∷ ys) = threads_kept (flag.next s (Read k)) ys

pub promises : (p : Params) → (kind_of p).Within → (ys : Steps p) → AllAccepted (machine_of (kind_of p)) (kind_of p).fresh ys
    → (kind_of p).Promises (past_of (kind_of p) ys) (after_of (kind_of p) ys)
promises (Flat n) h ys a =
    let r = history flat.flat (flat.fresh_state n) ys a in
    let c = flatDemands.state_counted n h _ _ r in
    record { answers = flatExact.demanded n h _ _ r; combiner = c.0; clients = c.1; only = flatExact.exactly n h }
promises (Lock w t) h ys a =
    let r = history lock.lock (lock.fresh_state w t) ys a in
    let c = lockDemands.guards_counted w t h.0 h.1 _ _ r in
    record {
      guards = lockExact.demanded w t h.0 h.1 _ _ r;
      cells = lockDemands.cells_counted w t h.0 h.1 _ _ r;
      readers_counted = c.0;
      writers_counted = c.1;
      head = lockDemands.head_counted w t h.0 h.1 _ _ r;
      only = lockExact.exactly w t h.0 h.1;
    }
promises Counting h ys a =
    let r = history counting.counting counting.fresh_state ys a in
    let c = countingDemands.refs_counted _ _ r in
    record { references = countingDemands.demanded _ _ r; references_counted = c.0; stored = c.1 }
promises (Flag n v) h ys a =
    let r = history flag.flag (flag.fresh_state n v) ys a in
    let c = flagDemands.flips_owed n v h.0 h.1 _ _ r in
    let g = after_good flagTo.helping flagTo.Sound (upholds (Flag n v)) (flag.fresh_state n v) ys (fresh (Flag n v) h) a in
    record {
      flips = flagDemands.demanded n v h.0 h.1 _ _ r;
      owed = c.0;
      value = c.1;
      alone = λ k l. (flagProved.refines).ends _ g k (rw (threads_kept (flag.fresh_state n v) ys) l);
    }
