-- Each fault is given exactly when its line of the table of codes says so, and no fault exactly where the file is well formed. Assumes nothing.
use mathlib.Core.Path.{◌≡◌, refl, ◌∙◌}
use mathlib.Core.List.{List, map}
use Prim.Native.Nat.{ℕ, ◌≤◌}
use native.Mathlib.Nat.{zero-add}
use native.Mathlib.Omega.{arith}
use lib.Dec.{eqb}
use lib.ListN.{length, get_or, length-map}
use Rattle.rows.specs.Bytes.{number_at}
use Rattle.schedule.specs.Limits as limit
use Rattle.schedule.specs.Language.{Language, step_at}
use Rattle.schedule.specs.Spelling.{flat, lock, counting, flag}
use Rattle.schedule.specs.Reading.{Placed, broken, surplus, placed, places_from}
use Rattle.std.specs.Prelude.{Ok, Err}
use Rattle.schedule.specs.Front.{opened_of, Opened, open_at}
use Rattle.schedule.specs.Schedule.{Schedule, of_flat, of_lock, of_counting, of_flag, Decoded, faulty, good, with_steps, behind_front, decode, steps#}
use Rattle.schedule.specs.Given.{Framed, Ready, flat_ready, lock_ready, counting_ready, flag_ready, BrokenStep, SurplusBytes, WellFormed, HasFault, FaultsGiven}
use Rattle.schedule.specs.declared.front.Fault.{Fault}
use Rattle.schedule.specs.declared.front.Fault.TheVariants.{Length, Version, Body, Kind, Parameter, Step, Surplus}
use Rattle.schedule.proofs.PlacesSay.{places_of, length_places_of, whole_inside, PlacesSay, places_say, broken_placed, surplus_placed, whole_placed}
use Rattle.schedule.proofs.FrontSays.{params_of, FrontSays, front_says, ready_opened, length_opened, version_opened, body_opened, kind_opened, parameter_opened}

-- what each answer says of the file: the table, line by line
abbrev pub FileSays : List ℕ → Decoded → Type 0
FileSays f (faulty x) = HasFault f x
FileSays f (good s) = WellFormed f (steps# s)

ready_inside : {f : List ℕ} {from : ℕ} → Framed f → Ready f from → from ≤ length f
ready_inside g (flat_ready k l n) = l
ready_inside g (lock_ready k l m n) = l
ready_inside g (counting_ready k) = g.sized.long
ready_inside g (flag_ready k l m n v) = l

module _ (f : List ℕ) where
  -- what holds of the steps of any language, made a schedule of as many steps, holds behind a front that is ready
  behind_ready : (P : Decoded → Type 0) {from : ℕ} (r : Ready f from)
      → ((S : Type 0) (l : Language S) (make : List S → Schedule) → ((xs : List S) → steps# (make xs) ≡ length xs) → P (with_steps l f make (places_from (get_or f 3 0) limit.steps f from 0)))
      → P (behind_front f (open_at (params_of f r) from))
  behind_ready P (flat_ready k l n) h = rw k at (h _ flat (of_flat (get_or f 4 0)) (λ xs. refl))
  behind_ready P (lock_ready k l m n) h = rw k at (h _ lock (of_lock (get_or f 4 0) (number_at f 5 4)) (λ xs. refl))
  behind_ready P (counting_ready k) h = rw k at (h _ counting of_counting (λ xs. refl))
  behind_ready P (flag_ready k l m n v) h = rw k at (h _ flag (of_flag (get_or f 4 0) (eqb (get_or f 5 0) 1)) (λ xs. refl))

  -- ---- from the answer to the file

  module _ {S : Type 0} (l : Language S) (make : List S → Schedule) (many : (xs : List S) → steps# (make xs) ≡ length xs) (from : ℕ) (g : Framed f) (r : Ready f from) where
    steps_say : (p : Placed) → PlacesSay (get_or f 3 0) f limit.steps from 0 p → FileSays f (with_steps l f make p)
    steps_say (broken k) b =
        let e : k ≡ b.before = b.index ∙ zero-add b.before in
        record { framed = g; from = from; ready = r; at = b.to; before = rw e b.whole; below = rw e b.below; malformed = b.malformed }
    steps_say surplus b = record { framed = g; from = from; ready = r; at = b.to; before = b.whole; remain = b.remain }
    steps_say (placed ps) b =
        let e : b.to ≡ length f = omega (arith, b.over, whole_inside (get_or f 3 0) f (ready_inside g r) b.whole) in
        let n : steps# (make (map (step_at l f) ps)) ≡ b.steps = many _ ∙ rw (length-map ps (step_at l f), b.places) (length_places_of (get_or f 3 0) f b.whole) in
        record { framed = g; from = from; ready = r; few = rw n b.few; all = rw (n, ← e) b.whole }

  behind_says : (o : Opened) → FrontSays f o → FileSays f (behind_front f o)
  behind_says (Err Length) s = s
  behind_says (Err Version) s = s
  behind_says (Err Body) s = s
  behind_says (Err Kind) s = s
  behind_says (Err Parameter) s = s
  behind_says (Err (Step k)) s = absurd s
  behind_says (Err Surplus) s = absurd s
  behind_says (Ok o) s =
      let from = o.from in
      let ps = places_from (get_or f 3 0) limit.steps f from 0 in
      rw s.params
      (behind_ready (FileSays f) s.ready
      (λ S l make many. steps_say l make many from s.framed s.ready ps (places_say (get_or f 3 0) f limit.steps from 0)))

  pub file_says : FileSays f (decode f)
  unfolding decode
  file_says = behind_says (opened_of f) (front_says f)

  pub says : (d : Decoded) → decode f ≡ d → FileSays f d
  says d e = rw e at file_says

  -- ---- from the file to the answer

  front_given : (fault : Fault) → opened_of f ≡ Err fault → decode f ≡ faulty fault
  unfolding decode
  front_given fault e = rw e

  -- what holds of the steps of any language holds of a file whose front is ready
  ready_given : (P : Decoded → Type 0) {from : ℕ} → Framed f → Ready f from
      → ((S : Type 0) (l : Language S) (make : List S → Schedule) → P (with_steps l f make (places_from (get_or f 3 0) limit.steps f from 0))) → P (decode f)
  unfolding decode
  ready_given P g r h = rw (ready_opened f g r) (behind_ready P r (λ S l make many. h S l make))

  step_given : (k : ℕ) → BrokenStep f k → decode f ≡ faulty (Step k)
  step_given k b =
      ready_given (λ d. d ≡ faulty (Step k)) b.framed b.ready
      (λ S l make. rw (broken_placed (get_or f 3 0) f limit.steps 0 b.before b.below b.malformed, zero-add))

  surplus_given : SurplusBytes f → decode f ≡ faulty Surplus
  surplus_given b =
      ready_given (λ d. d ≡ faulty Surplus) b.framed b.ready
      (λ S l make. rw (surplus_placed (get_or f 3 0) f 0 b.before b.remain))

  formed_good : (n : ℕ) → WellFormed f n → (s : Schedule) × (decode f ≡ good s)
  formed_good n w =
      ready_given (λ d. (s : Schedule) × (d ≡ good s)) w.framed w.ready
      (λ S l make. (make (map (step_at l f) (places_of (get_or f 3 0) f w.all)), rw (whole_placed (get_or f 3 0) f limit.steps 0 w.all (omega arith) w.few)))

  has_faulty : (x : Fault) → HasFault f x → decode f ≡ faulty x
  has_faulty Length w = front_given Length (length_opened f w)
  has_faulty Version w = front_given Version (version_opened f w)
  has_faulty Body w = front_given Body (body_opened f w)
  has_faulty Kind w = front_given Kind (kind_opened f w)
  has_faulty Parameter w = front_given Parameter (parameter_opened f w)
  has_faulty (Step k) w = step_given k w
  has_faulty Surplus w = surplus_given w

pub faults_given : (f : List ℕ) → FaultsGiven decode f
faults_given f =
    record { faulty_has = λ x. says f (faulty x); has_faulty = has_faulty f; good_formed = λ s. says f (good s); formed_good = formed_good f }
