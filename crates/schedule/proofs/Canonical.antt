-- Files and schedules are one to one. Assumes nothing.
use mathlib.Core.Path.{◌≡◌, refl}
use mathlib.Core.Logic.{◌⊎◌, inl, inr}
use mathlib.Core.List.{List}
use Prim.Native.Nat.{ℕ}
use native.Mathlib.Omega.{arith}
use Rattle.rows.specs.Bytes.{Bytes}
use Rattle.rows.proofs.Cases.{clash}
use Rattle.schedule.specs.Limits as limit
use Rattle.schedule.specs.Spelling.{flat, lock, counting, flag}
use Rattle.std.specs.Prelude.{Ok, Err}
use Rattle.schedule.specs.Front.{opened_of, Opened}
use Rattle.schedule.specs.Schedule.{behind_params, Schedule, of_flat, of_lock, of_counting, of_flag, Decoded, faulty, good, behind_front, decode, encode, steps_bytes, InLimits}
use Rattle.schedule.specs.Given.{HasFault}
use Rattle.schedule.specs.Canonical.{WrittenAgain, ReadBack, OnlyInLimits, FileOf, AllSorted}
use Rattle.schedule.specs.declared.steps.Params.{Params}
use Rattle.schedule.specs.declared.steps.Params.TheVariants.{Flat, Lock, Counting, Flag}
use Rattle.schedule.specs.declared.front.Fault.{Fault}
use Rattle.schedule.proofs.FrontSays.{Passed, FrontSays, front_says}
use Rattle.schedule.proofs.Given.{faults_given}
use Rattle.schedule.proofs.Languages.{flat_lawful, lock_lawful, counting_lawful, flag_lawful}
use Rattle.schedule.proofs.AllSteps.{steps_short, steps_read, told}
use Rattle.schedule.proofs.FrontBytes.{front_read, front_allowed, front_again}

-- ---- from the file to the schedule and back

record Canonical (f : List ℕ) (s : Schedule) : Type 0 where
  again : encode s ≡ f
  within : InLimits s

behind_lem : (f : List ℕ) (s : Schedule) → Bytes f → (p : Params) (at : ℕ) → Passed f p at → behind_params f p at ≡ good s → Canonical f s
unfolding encode
behind_lem f s bytes (Flat n) at h e =
    let t = told flat flat_lawful f bytes (of_flat n) s limit.steps at 0 e in
    record { again = rw t.made (front_again f bytes (Flat n) at h _ t.again); within = rw t.made (record { allowed = front_allowed f bytes (Flat n) at h; few = t.few; fit = t.fit }) }
behind_lem f s bytes (Lock n v) at h e =
    let t = told lock lock_lawful f bytes (of_lock n v) s limit.steps at 0 e in
    record { again = rw t.made (front_again f bytes (Lock n v) at h _ t.again); within = rw t.made (record { allowed = front_allowed f bytes (Lock n v) at h; few = t.few; fit = t.fit }) }
behind_lem f s bytes Counting at h e =
    let t = told counting counting_lawful f bytes of_counting s limit.steps at 0 e in
    record { again = rw t.made (front_again f bytes Counting at h _ t.again); within = rw t.made (record { allowed = tt; few = t.few; fit = t.fit }) }
behind_lem f s bytes (Flag n v) at h e =
    let t = told flag flag_lawful f bytes (of_flag n v) s limit.steps at 0 e in
    record { again = rw t.made (front_again f bytes (Flag n v) at h _ t.again); within = rw t.made (record { allowed = front_allowed f bytes (Flag n v) at h; few = t.few; fit = t.fit }) }

behind : (f : List ℕ) (s : Schedule) → Bytes f → (o : Opened) → FrontSays f o → behind_front f o ≡ good s → Canonical f s
behind f s bytes (Err fault) h e = clash (cc)
behind f s bytes (Ok o) h e = behind_lem f s bytes o.params o.from h e

canonical : (f : List ℕ) (s : Schedule) → Bytes f → decode f ≡ good s → Canonical f s
unfolding decode
canonical f s bytes e = behind f s bytes (opened_of f) (front_says f) e

pub written_again : WrittenAgain
written_again f s bytes e = (canonical f s bytes e).again

pub only_in_limits : OnlyInLimits
only_in_limits f s bytes e = (canonical f s bytes e).within

-- ---- from the schedule to the file and back

-- a body is below its limit, and so below what two bytes say: each of 4096 steps takes at most 11 bytes, and a front at most 6
pub read_back : ReadBack
unfolding decode encode
read_back (of_flat n xs) h =
    let short = steps_short flat flat_lawful xs h.fit in
    rw (front_read (Flat n) (steps_bytes flat xs) h.allowed (omega (arith, h.few)))
    (steps_read flat flat_lawful (encode (of_flat n xs)) (of_flat n) xs limit.steps 5 0 h.few h.fit refl)
read_back (of_lock n t xs) h =
    let short = steps_short lock lock_lawful xs h.fit in
    rw (front_read (Lock n t) (steps_bytes lock xs) h.allowed (omega (arith, h.few)))
    (steps_read lock lock_lawful (encode (of_lock n t xs)) (of_lock n t) xs limit.steps 9 0 h.few h.fit refl)
read_back (of_counting xs) h =
    let short = steps_short counting counting_lawful xs h.fit in
    rw (front_read Counting (steps_bytes counting xs) tt (omega (arith, h.few)))
    (steps_read counting counting_lawful (encode (of_counting xs)) of_counting xs limit.steps 4 0 h.few h.fit refl)
read_back (of_flag n v xs) h =
    let short = steps_short flag flag_lawful xs h.fit in
    rw (front_read (Flag n v) (steps_bytes flag xs) h.allowed (omega (arith, h.few)))
    (steps_read flag flag_lawful (encode (of_flag n v xs)) (of_flag n v) xs limit.steps 6 0 h.few h.fit refl)

-- ---- with no reader

module _ (f : List ℕ) where
  pub file_read : (s : Schedule) → FileOf f s → decode f ≡ good s
  file_read s w = rw w.written at (read_back s w.within)

  pub read_file : Bytes f → (s : Schedule) → decode f ≡ good s → FileOf f s
  read_file bytes s e = record { written = written_again f s bytes e; within = only_in_limits f s bytes e }

  sorts : Bytes f → (d : Decoded) → decode f ≡ d → ((x : Fault) × HasFault f x) ⊎ ((s : Schedule) × FileOf f s)
  sorts bytes (faulty x) e = inl (x, (faults_given f).faulty_has x e)
  sorts bytes (good s) e = inr (s, read_file bytes s e)

pub all_sorted : AllSorted
all_sorted f bytes =
    record {
      either = sorts f bytes (decode f) refl;
      one_fault = λ x y p q. let a = (faults_given f).has_faulty x p in let b = (faults_given f).has_faulty y q in cc;
      one_schedule = λ s t p q. let a = file_read f s p in let b = file_read f t q in cc;
      never_both = λ x s p q. let a = (faults_given f).has_faulty x p in let b = file_read f s q in clash (cc);
      whole_steps = λ s w. (faults_given f).good_formed s (file_read f s w);
    }
