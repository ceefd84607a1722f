-- From the places of a counted file to the steps that the replay loop reads: as many, the same, and all in the file. Assumes nothing.
use mathlib.Core.Path.{◌≡◌, refl, sym, ◌∙◌}
use mathlib.Core.List.{List, map}
use Prim.Native.Nat.{ℕ, ◌+◌, ◌≤◌}
use native.Mathlib.Nat.{zero-add}
use lib.ListN.{length}
use Rattle.rows.proofs.Cases.{clash}
use Rattle.machine.specs.Loop.{steps_from, Formed}
use Rattle.schedule.specs.Limits as limit
use Rattle.schedule.specs.Widths as kind
use Rattle.schedule.specs.Language.{Language, step_at, size_of}
use Rattle.schedule.specs.Spelling.{flat, lock, counting, flag}
use Rattle.schedule.specs.Reading.{measured_at, Placed, broken, surplus, placed, places_from}
use Rattle.schedule.specs.Counting.{counted, counted_of}
use Rattle.schedule.specs.Given.{Whole#, no_more, more}
use Rattle.schedule.specs.Reading.{reaches}
use Rattle.std.specs.Prelude.{Ok}
use Rattle.schedule.proofs.MeasureSays.{whole_stands, stands_inside}
use Rattle.schedule.proofs.PlacesSay.{length_places_of, PlacedAt, places_say}
use Rattle.schedule.specs.Lawful.{Lawful}
use Rattle.schedule.proofs.Languages.{flat_lawful, lock_lawful, counting_lawful, flag_lawful}
use Rattle.schedule.proofs.OneStep.{step_ends}
use Rattle.schedule.proofs.AllSteps.{steps_of}

-- a step that was measured whole ends inside the file
pub inside : (kind : ℕ) (f : List ℕ) (at next : ℕ) → measured_at kind f at ≡ reaches next → next ≤ length f
inside kind f at next e = stands_inside kind f at next (whole_stands kind f at next e)

-- the loop's steps from `at` on are those at the places, and all lie in the file
abbrev pub Bridged : {S : Type 0} → Language S → List ℕ → ℕ → List ℕ → Type 0
Bridged l f at ps =
    Formed (step_at l) (size_of l) f at (length ps) × (steps_from (step_at l) (size_of l) f at (length ps) ≡ map (step_at l f) ps)

module _ {S : Type 0} (l : Language S) (law : Lawful l) (f : List ℕ) where
  -- a step reaches as far as was measured
  pub agrees : (at next : ℕ) → measured_at l.kind f at ≡ reaches next → next ≡ at + size_of l (step_at l f at)
  agrees at next e = step_ends l law f at next (whole_stands l.kind f at next e)

  -- and so the loop comes to each of the whole steps

  whole_formed : {at k to : ℕ} → Whole# l.kind f at k to → Formed (step_at l) (size_of l) f at k
  unfolding Formed
  whole_formed no_more = tt
  whole_formed (more {at} {next} s w) =
      let e = step_ends l law f at next s in
      (rw e at (stands_inside l.kind f at next s), rw e at (whole_formed w))

  whole_steps : {at k to : ℕ} (w : Whole# l.kind f at k to) → steps_from (step_at l) (size_of l) f at k ≡ steps_of l f w
  unfolding steps_from
  whole_steps no_more = refl
  whole_steps (more {at} {next} s w) = rw (← step_ends l law f at next s, whole_steps w)

  placed_bridged : (n at : ℕ) (ps : List ℕ) → PlacedAt l.kind f n at ps → Bridged l f at ps
  placed_bridged n at ps p =
      let w = p.whole in
      rw (p.places, length_places_of l.kind f w) (whole_formed w, whole_steps w)

  pub bridge : (n at k : ℕ) (ps : List ℕ) → places_from l.kind n f at k ≡ placed ps → Bridged l f at ps
  bridge n at k ps e = placed_bridged n at ps (rw e at (places_say l.kind f n at k))

-- ---- the four kinds

module _ (f : List ℕ) (n at k : ℕ) (ps : List ℕ) where
  pub flat_bridge : places_from kind.flat n f at k ≡ placed ps → Bridged flat f at ps
  flat_bridge = bridge flat flat_lawful f n at k ps

  pub lock_bridge : places_from kind.lock n f at k ≡ placed ps → Bridged lock f at ps
  lock_bridge = bridge lock lock_lawful f n at k ps

  pub counting_bridge : places_from kind.counting n f at k ≡ placed ps → Bridged counting f at ps
  counting_bridge = bridge counting counting_lawful f n at k ps

  pub flag_bridge : places_from kind.flag n f at k ≡ placed ps → Bridged flag f at ps
  flag_bridge = bridge flag flag_lawful f n at k ps

-- ---- from the count

-- an answer that is the places of n steps
pub record Places (n : ℕ) (p : Placed) : Type 0 where
  pub list : List ℕ
  pub many : length list ≡ n
  pub are : p ≡ placed list

by_count : (p : Placed) (n : ℕ) → counted 0 p ≡ Ok n → Places n p
by_count (broken i) n e = clash (cc)
by_count surplus n e = clash (cc)
by_count (placed ps) n e = let h : 0 + length ps ≡ n = cc in record { list = ps; many = sym (zero-add (length ps)) ∙ h; are = refl }

-- a file that counts n steps has as many places
pub counted_places : (kind : ℕ) (f : List ℕ) (from n : ℕ) → counted_of kind f from ≡ Ok n → Places n (places_from kind limit.steps f from 0)
unfolding counted_of
counted_places kind f from n e = by_count (places_from kind limit.steps f from 0) n e

-- so the loop may read n steps from there on
pub counted_formed : {S : Type 0} (l : Language S) (law : Lawful l) (f : List ℕ) (from n : ℕ) → counted_of l.kind f from ≡ Ok n
    → Formed (step_at l) (size_of l) f from n
counted_formed l law f from n e =
    let c = counted_places l.kind f from n e in
    rw c.many at (bridge l law f limit.steps from 0 c.list c.are).0
