-- All steps of a file, once over a lawful language: what was written is read, and what was read is written. Assumes nothing.
use mathlib.Core.Path.{◌≡◌, refl, ap, ◌∙◌}
use mathlib.Core.List.{List, [], ◌∷◌, ◌++◌, map, append_assoc, append-nil}
use Prim.Native.Nat.{ℕ, ◌+◌, ◌*◌, ◌≤◌}
use native.Mathlib.Omega.{arith}
use lib.ListN.{length, drop, length-append, length-drop, length-map}
use Rattle.rows.specs.Bytes.{Bytes}
use Rattle.rows.proofs.Rows.{drop_end}
use Rattle.rows.proofs.Cases.{clash}
use Rattle.schedule.specs.Language.{Language, step_at, step_length, step_bytes}
use Rattle.schedule.specs.Reading.{Placed, broken, surplus, placed, places_from}
use Rattle.schedule.specs.Schedule.{Schedule, good, with_steps, steps_bytes, StepsFit}
use Rattle.schedule.specs.Given.{Whole#, no_more, more}
use Rattle.schedule.proofs.PlacesSay.{places_of, length_places_of, PlacesSay, places_say, whole_placed}
use Rattle.schedule.specs.Lawful.{Lawful}
use Rattle.schedule.proofs.Languages.{sized}
use Rattle.schedule.proofs.OneStep.{length_step_bytes, step_next, step_read, step_stands, step_fits, step_again}

-- a file ends where nothing is left of it
nothing_left : (f : List ℕ) (at : ℕ) → drop at f ≡ [] → length f ≤ at
nothing_left f at e = omega (arith, length-drop at f, ap length e)

module _ {S : Type 0} (l : Language S) (f : List ℕ) where
  -- the steps that stand at the places of whole ones
  abbrev pub steps_of : {at k to : ℕ} → Whole# l.kind f at k to → List S
  steps_of w = map (step_at l f) (places_of l.kind f w)

  -- steps whose bytes are all that is left of the file stand there
  record Written (at : ℕ) (xs : List S) : Type 0 where
    to : ℕ
    whole : Whole# l.kind f at (length xs) to
    over : length f ≤ to
    same : steps_of whole ≡ xs

  -- the schedule s is made of steps whose bytes are all that is left of the file
  pub record Told (make : List S → Schedule) (s : Schedule) (n at : ℕ) : Type 0 where
    pub steps : List S
    pub made : s ≡ make steps
    pub few : length steps ≤ n
    pub fit : StepsFit l steps
    pub again : steps_bytes l steps ≡ drop at f

module _ {S : Type 0} (l : Language S) (law : Lawful l) where
  -- steps take at most 11 bytes each
  pub steps_short : (xs : List S) → StepsFit l xs → length (steps_bytes l xs) ≤ length xs * 11
  steps_short [] fit = omega arith
  steps_short (x ∷ xs) fit =
      let size = sized l law x in
      omega (arith, length-append (step_bytes l x) (steps_bytes l xs), length_step_bytes l law x fit.0, size.1, steps_short xs fit.1)

  module _ (f : List ℕ) where
    -- ---- steps that were written are read

    written : (xs : List S) (at : ℕ) → StepsFit l xs → drop at f ≡ steps_bytes l xs → Written l f at xs
    written [] at fit e = record { to = at; whole = no_more; over = nothing_left f at e; same = refl }
    written (x ∷ xs) at fit e =
        let rest = steps_bytes l xs in
        let g = written xs (at + 1 + step_length l x) fit.1 (step_next l law f at x rest fit.0 e) in
        record {
          to = g.to;
          whole = more (step_stands l law f at x rest fit.0 e) g.whole;
          over = g.over;
          same = rw (step_read l law f at x rest fit.0 e, g.same);
        }

    pub steps_read : (make : List S → Schedule) (xs : List S) (n at k : ℕ) → length xs ≤ n → StepsFit l xs → drop at f ≡ steps_bytes l xs
        → with_steps l f make (places_from l.kind n f at k) ≡ good (make xs)
    steps_read make xs n at k few fit e =
        let g = written xs at fit e in
        rw (whole_placed l.kind f n k g.whole g.over few, g.same)

    -- ---- steps that were read are written

    module _ (bytes : Bytes f) where
      steps_fit : {at k to : ℕ} (w : Whole# l.kind f at k to) → StepsFit l (steps_of l f w)
      steps_fit no_more = tt
      steps_fit (more {at} {next} s w) = (step_fits l law f at next s bytes, steps_fit w)

      steps_again : {at k to : ℕ} (w : Whole# l.kind f at k to) → steps_bytes l (steps_of l f w) ++ drop to f ≡ drop at f
      steps_again no_more = refl
      steps_again {to = to} (more {at} {next} s w) =
          append_assoc (step_bytes l (step_at l f at)) (steps_bytes l (steps_of l f w)) (drop to f)
          ∙ rw (steps_again w) (step_again l law f at next s bytes)

      told_by : (make : List S → Schedule) (s : Schedule) (n at k : ℕ) (p : Placed) → PlacesSay l.kind f n at k p
          → with_steps l f make p ≡ good s → Told l f make s n at
      told_by make s n at k (broken i) b e = clash (cc)
      told_by make s n at k surplus b e = clash (cc)
      told_by make s n at k (placed ps) b e =
          let made : s ≡ make (map (step_at l f) ps) = cc in
          let ps' = places_of l.kind f b.whole in
          record {
            steps = steps_of l f b.whole;
            made = rw b.places at made;
            few = omega (arith, length-map ps' (step_at l f), length_places_of l.kind f b.whole, b.few);
            fit = steps_fit b.whole;
            again = rw (drop_end f b.to b.over, append-nil) at (steps_again b.whole);
          }

      pub told : (make : List S → Schedule) (s : Schedule) (n at k : ℕ) → with_steps l f make (places_from l.kind n f at k) ≡ good s
          → Told l f make s n at
      told make s n at k e = told_by make s n at k (places_from l.kind n f at k) (places_say l.kind f n at k) e
