-- From the front to the kind's loop: what the rest of an opened file comes to is the answer to the decoded file. Assumes nothing.
use mathlib.Core.Path.{ap, ◌≡◌, refl, sym, ◌∙◌}
use mathlib.Core.Bool.{Bool}
use mathlib.Core.List.{List, map}
use Prim.Native.Nat.{ℕ, ◌+◌, ◌≤◌, ◌<◌}
use native.Mathlib.Omega.{arith}
use borrow.Author.Tests.{lt-ltb, le-ltb, ne_eqb}
use lib.ListN.{length}
use Rattle.rows.proofs.Cases.{clash}
use Rattle.machine.specs.Machine.{Machine}
use Rattle.machine.specs.Rest.{rest_of}
use Rattle.schedule.specs.Limits as limit
use Rattle.machine.specs.Codes as code
use Rattle.schedule.specs.Language.{Language, step_at}
use Rattle.schedule.specs.Spelling as spelled
use Rattle.schedule.specs.Widths as kind
use Rattle.schedule.specs.Reading.{Placed, broken, surplus, placed, places_from}
use Rattle.schedule.specs.Front.{opened_of}
use Rattle.schedule.specs.Given.{Ready, flat_ready, lock_ready, counting_ready, flag_ready}
use Rattle.schedule.specs.Schedule.{behind_params, Schedule, of_flat, of_lock, of_counting, of_flag, good, with_steps, behind_front, decode, params_in}
use Rattle.schedule.specs.Answers.{refused_as, refused_for, Leaves, rest_placed, rest_from}
use Rattle.schedule.specs.declared.answer.Answer.{Answer}
use Rattle.schedule.specs.declared.steps.Params.{Params}
use Rattle.schedule.specs.declared.steps.Params.TheVariants.{Flat, Lock, Counting, Flag}
use Rattle.schedule.specs.declared.front.Fault.{Fault}
use Rattle.std.specs.Prelude.{Ok, Err}
use Rattle.schedule.specs.Front.{Opened, open_at}
use Rattle.schedule.proofs.FrontSays.{params_of, Passed, front_says}
use Rattle.flat.specs.Flat as flat
use Rattle.flat.specs.Image as flat_bytes
use Rattle.lock.specs.Lock as lock
use Rattle.lock.specs.Image as lock_bytes
use Rattle.counting.specs.Counting as counting
use Rattle.counting.specs.Image as counting_bytes
use Rattle.flag.specs.Flag as flag
use Rattle.flag.specs.Image as flag_bytes
use Rattle.flat_run.specs.Run as flatRun
use Rattle.lock_run.specs.Run as lockRun
use Rattle.counting_run.specs.Run as countingRun
use Rattle.flag_run.specs.Run as flagRun
use Rattle.replayer.specs.Kinds.{kind_of}
use Rattle.replayer.specs.Replay.{replayed, answered, replay_of, input_of, opened_as}

-- ---------- parameters that passed the front are in their limits

ready_within : (f : List ℕ) (from : ℕ) (r : Ready f from) → (kind_of (params_of f r)).Within
ready_within f from (flat_ready k l n) = n
ready_within f from (lock_ready k l m n) = (m, n)
ready_within f from (counting_ready k) = tt
ready_within f from (flag_ready k l m n v) = (m, n)

pub opened_within : (f : List ℕ) (p : Params) (from : ℕ) → opened_of f ≡ open_at p from → (kind_of p).Within
opened_within f p from e =
    let s : Passed f p from = rw e at (front_says f) in
    rw s.params (ready_within f from s.ready)

-- and so are those of a schedule that was decoded
steps_params : {S : Type 0} (l : Language S) (f : List ℕ) (make : List S → Schedule) (p : Placed) (s : Schedule) → with_steps l f make p ≡ good s
    → (xs : List S) × (s ≡ make xs)
steps_params l f make (broken k) s e = clash (cc)
steps_params l f make surplus s e = clash (cc)
steps_params l f make (placed ps) s e = let h : make (map (step_at l f) ps) ≡ s = cc in (map (step_at l f) ps, sym h)

params_kept : (f : List ℕ) (p : Params) (at : ℕ) (s : Schedule) → behind_params f p at ≡ good s → p ≡ params_in s
params_kept f (Flat n) at s e = rw (steps_params spelled.flat f (of_flat n) (places_from kind.flat limit.steps f at 0) s e).1
params_kept f (Lock w t) at s e = rw (steps_params spelled.lock f (of_lock w t) (places_from kind.lock limit.steps f at 0) s e).1
params_kept f Counting at s e = rw (steps_params spelled.counting f of_counting (places_from kind.counting limit.steps f at 0) s e).1
params_kept f (Flag n v) at s e = rw (steps_params spelled.flag f (of_flag n v) (places_from kind.flag limit.steps f at 0) s e).1

opened_params : (f : List ℕ) (o : Opened) (s : Schedule) → behind_front f o ≡ good s → (from : ℕ) × (o ≡ open_at (params_in s) from)
opened_params f (Err x) s e = clash (cc)
opened_params f (Ok o) s e = let p = params_kept f o.params o.from s e in (o.from, ap (λ (q : Params). open_at q o.from) p)

pub decoded_within : (f : List ℕ) (s : Schedule) → decode f ≡ good s → (kind_of (params_in s)).Within
unfolding decode
decoded_within f s e = let o = opened_params f (opened_of f) s e in opened_within f (params_in s) o.0 o.1

-- ---------- they make a fresh machine

pub flat_made : (n : ℕ) → n ≤ limit.clients → flat.fresh_of n ≡ record { state = flat.fresh_state n; code = 0 }
flat_made n h = rw (le-ltb limit.clients n h)

pub lock_made : (w t : ℕ) → 1 ≤ w → w ≤ limit.width → lock.fresh_of w t ≡ record { state = lock.fresh_state w t; code = 0 }
lock_made w t l h = rw (ne_eqb w 0 (λ z. omega arith), le-ltb limit.width w h)

pub flag_made : (n : ℕ) (v : Bool) → 1 ≤ n → n ≤ limit.threads → flag.fresh_of n v ≡ record { state = flag.fresh_state n v; code = 0 }
flag_made n v l h = rw (ne_eqb n 0 (λ z. omega arith), le-ltb limit.threads n h)

-- ---------- the rest of the file is the answer to the decoded file

module _ (m : Machine) (l : Language m.Step) (bytes : m.Entry → List ℕ) (image_of : m.State → List ℕ) (s : m.State) (make : List m.Step → Schedule)
    (f log image : List ℕ) (same : (xs : List m.Step) → replayed (make xs) log image ≡ rest_of m bytes image_of limit.entry limit.image s xs log image) where
  placed_answered : (p : Placed) → rest_placed m l bytes image_of s f log image p ≡ answered (with_steps l f make p) log image
  placed_answered (broken k) = refl
  placed_answered surplus = refl
  placed_answered (placed ps) = sym (same _)

  rest_answered : (from : ℕ) → rest_from m l bytes image_of s f from log image ≡ answered (with_steps l f make (places_from l.kind limit.steps f from 0)) log image
  unfolding rest_from
  rest_answered from = placed_answered (places_from l.kind limit.steps f from 0)

module _ (f log image : List ℕ) where
  opened_answered : (p : Params) (from : ℕ) → (kind_of p).Within → opened_as f p from log image ≡ answered (behind_front f (open_at p from)) log image
  opened_answered (Flat n) from a =
      rw (flat_made n a) (rest_answered flat.flat spelled.flat flat_bytes.entry_bytes flat_bytes.image_bytes (flat.fresh_state n) (of_flat n) f log image (λ xs. refl) from)
  opened_answered (Lock w t) from a =
      rw (lock_made w t a.0 a.1)
      (rest_answered lock.lock spelled.lock lock_bytes.entry_bytes lock_bytes.image_bytes (lock.fresh_state w t) (of_lock w t) f log image (λ xs. refl) from)
  opened_answered Counting from a =
      rest_answered counting.counting spelled.counting counting_bytes.entry_bytes counting_bytes.image_bytes counting.fresh_state of_counting f log image (λ xs. refl) from
  opened_answered (Flag n v) from a =
      rw (flag_made n v a.0 a.1)
      (rest_answered flag.flag spelled.flag flag_bytes.entry_bytes flag_bytes.image_bytes (flag.fresh_state n v) (of_flag n v) f log image (λ xs. refl) from)

  -- ---------- the ways out of `replay`

  module _ (o : Opened) (q : o ≡ opened_of f) where
    pub faulty_answered : (x : Fault) → o ≡ Err x → (r : Answer) → r ≡ refused_for x
        → Leaves (replay_of f log image) r log image
    unfolding replay_of decode
    faulty_answered x e r p = rw (← q, e) (record { answer = p; log = refl; image = refl })

    pub open_answered : (p : Params) (from : ℕ) → o ≡ open_at p from → (r : Answer) (log' image' : List ℕ) → Leaves (opened_as f p from log image) r log' image'
        → Leaves (replay_of f log image) r log' image'
    unfolding replay_of decode
    open_answered p from e r log' image' d =
        let w : opened_of f ≡ open_at p from = sym q ∙ e in
        rw (w, ← opened_answered p from (opened_within f p from w)) d

-- ---------- the ways out of `behind_front`: the kind is known

module _ (f : List ℕ) (x : Params) (from : ℕ) (log image : List ℕ) (r : Answer) (log' image' : List ℕ) where
  pub as_flat : (n : ℕ) → x ≡ Flat n → Leaves (flatRun.rest_of_file f from n log image) r log' image' → Leaves (opened_as f x from log image) r log' image'
  as_flat n e d = rw e d

  pub as_lock : (w t : ℕ) → x ≡ Lock w t → Leaves (lockRun.rest_of_file f from w t log image) r log' image' → Leaves (opened_as f x from log image) r log' image'
  as_lock w t e d = rw e d

  pub as_counting : x ≡ Counting → Leaves (countingRun.rest_of_file f from log image) r log' image' → Leaves (opened_as f x from log image) r log' image'
  as_counting e d = rw e d

  pub as_flag : (n : ℕ) (v : Bool) → x ≡ Flag n v → Leaves (flagRun.rest_of_file f from n v log image) r log' image' → Leaves (opened_as f x from log image) r log' image'
  as_flag n v e d = rw e d

-- ---------- and of `replay_input`

module _ (f log image : List ℕ) (r : Answer) where
  pub too_large : limit.body + 3 < length f → r ≡ refused_as code.body 0 → Leaves (input_of f log image) r log image
  too_large h p = rw (lt-ltb (limit.body + 3) (length f) h) (record { answer = p; log = refl; image = refl })

  pub as_file : (log' image' : List ℕ) → length f ≤ limit.body + 3 → Leaves (replay_of f log image) r log' image' → Leaves (input_of f log image) r log' image'
  as_file log' image' h d = rw (le-ltb (limit.body + 3) (length f) h) d
