-- What the rest of a file leaves, for any machine and its language: a fault, a buffer that is too short, or the replay of the steps counted. Assumes nothing.
use mathlib.Core.Path.{◌≡◌, refl, ap, ◌∙◌}
use mathlib.Core.List.{List, map}
use Prim.Native.Nat.{ℕ, ◌*◌, ◌≤◌, ◌<◌}
use native.Mathlib.Nat.{zero-add}
use native.Mathlib.Omega.{arith}
use borrow.Author.Tests.{lt-ltb, le-ltb}
use lib.ListN.{length}
use Rattle.rows.specs.Stores.{Laid, puts}
use Rattle.rows.specs.Walk.{pieces}
use Rattle.rows.proofs.Cases.{clash}
use Rattle.rows.proofs.Stores.{laid_whole, puts_over}
use Rattle.machine.specs.Machine.{Machine}
use Rattle.machine.specs.Replay.{Replayed, replay}
use Rattle.machine.specs.Loop.{steps_from}
use Rattle.machine.specs.Rest.{Rested, untouched, finished, rest_of}
use Rattle.machine.proofs.Rests.{length_steps, replay_short}
use Rattle.schedule.specs.Limits as limit
use Rattle.machine.specs.Codes as code
use Rattle.schedule.specs.Language.{Language, step_at, size_of}
use Rattle.schedule.specs.Reading.{Placed, broken, surplus, placed, places_from}
use Rattle.schedule.specs.Counting.{counted, counted_of}
use Rattle.schedule.specs.Front.{fault_code, fault_place}
use Rattle.schedule.specs.Answers.{refused_as, refused_for, Leaves, rest_placed, rest_from}
use Rattle.schedule.specs.declared.answer.Answer.{Answer}
use Rattle.schedule.specs.declared.front.Fault.{Fault}
use Rattle.schedule.specs.declared.front.Fault.TheVariants.{Step, Surplus}
use Rattle.std.specs.Prelude.{Ok, Err}
use Rattle.schedule.specs.Lawful.{Lawful}
use Rattle.schedule.proofs.PlacesSay.{PlacedAt, length_places_of, places_say}
use Rattle.schedule.proofs.LoopSteps.{counted_places, bridge}

-- no more steps are counted than a file may have
pub counted_few : (kind : ℕ) (f : List ℕ) (from n : ℕ) → counted_of kind f from ≡ Ok n → n ≤ limit.steps
counted_few kind f from n e =
    let c = counted_places kind f from n e in
    let p : PlacedAt kind f limit.steps from c.list = rw c.are at (places_say kind f limit.steps from 0) in
    let many : length c.list ≡ p.steps = ap length p.places ∙ length_places_of kind f p.whole in
    omega (arith, c.many, many, p.few)

-- an answer that writes nothing
untouches : {o : Rested} {code place : ℕ} {log image : List ℕ} → o ≡ untouched code place log image → (r : Answer) → r ≡ refused_as code place → Leaves o r log image
untouches e r p = rw e (record { answer = p; log = refl; image = refl })

module _ (m : Machine) (l : Language m.Step) (bytes : m.Entry → List ℕ) (image_of : m.State → List ℕ)
    (s : m.State) (f : List ℕ) (from : ℕ) (log image : List ℕ) where
  abbrev rest : Rested
  rest = rest_from m l bytes image_of s f from log image

  by_fault : (p : Placed) (x : Fault) → counted 0 p ≡ Err x → rest_placed m l bytes image_of s f log image p ≡ untouched (fault_code x) (fault_place x) log image
  by_fault (broken i) x e = let h : Step i ≡ x = cc in rw (← h)
  by_fault surplus x e = let h : Surplus ≡ x = cc in rw (← h)
  by_fault (placed ps) x e = clash (cc)

  -- a fault among the steps is answered, and nothing is written
  pub faulty_leaves : (x : Fault) → counted_of l.kind f from ≡ Err x → (r : Answer) → r ≡ refused_for x → Leaves rest r log image
  unfolding rest_from counted_of
  faulty_leaves x e r p = untouches (by_fault (places_from l.kind limit.steps f from 0) x e) r p

  -- n steps are counted: they are those that the loop reads
  module _ (law : Lawful l) (n : ℕ) (c : counted_of l.kind f from ≡ Ok n) where
    abbrev steps : List m.Step
    steps = steps_from (step_at l) (size_of l) f from n

    are : rest ≡ rest_of m bytes image_of limit.entry limit.image s steps log image
    unfolding rest_from
    are =
        let p = counted_places l.kind f from n c in
        let e : steps ≡ map (step_at l f) p.list = rw p.many at (bridge l law f limit.steps from 0 p.list p.are).1 in
        rw (p.are, e)

    many : length steps ≡ n
    many = length_steps (step_at l) (size_of l) f from n

    pub log_short : length log < n * limit.entry → (r : Answer) → r ≡ refused_as code.room 0 → Leaves rest r log image
    log_short h = untouches (are ∙ rw (many, lt-ltb (length log) (n * limit.entry) h))

    module _ (h : n * limit.entry ≤ length log) where
      pub image_short : length image < limit.image → (r : Answer) → r ≡ refused_as code.room 0 → Leaves rest r log image
      image_short i = untouches (are ∙ rw (many, le-ltb (length log) (n * limit.entry) h, lt-ltb (length image) limit.image i))

      -- and both buffers are long enough: what the replay logs lies over the one, the image of the state that it leaves over the other
      module _ (i : limit.image ≤ length image) (short : (q : m.State) (x : m.Step) → length (pieces bytes (m.logs q x)) ≤ limit.entry) where
        abbrev ran : Replayed m
        ran = replay m s 0 steps

        whole : rest ≡ finished m bytes image_of ran log image
        whole = are ∙ rw (many, le-ltb (length log) (n * limit.entry) h, le-ltb (length image) limit.image i)

        pub ran_leaves : length (image_of ran.state) ≤ limit.image → (log' : List ℕ) → log' ≡ puts log 0 (pieces bytes ran.log)
            → (k : ℕ) (image' : List ℕ) → Laid image 0 (image_of ran.state) k image'
            → (r : Answer) → r ≡ record { place = ran.place; logged = length (pieces bytes ran.log); imaged = k; code = ran.code } → Leaves rest r log' image'
        ran_leaves small log' e k image' d r told =
            let room : length (pieces bytes ran.log) ≤ length log = omega (arith, h, rw many at (replay_short m bytes limit.entry short s 0 steps)) in
            let laid = laid_whole image 0 (image_of ran.state) k image' (omega (arith, i, small)) d in
            rw whole
            (record {
              answer = told ∙ rw (laid.0, zero-add);
              log = e ∙ puts_over log (pieces bytes ran.log) room;
              image = laid.1 ∙ puts_over image (image_of ran.state) (omega (arith, i, small));
            })
