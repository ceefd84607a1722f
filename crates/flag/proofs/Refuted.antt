-- Made-up histories, the newest step first, that the demand refuses: it is not met by just any history. Assumes nothing.
use Prim.Native.Nat.{ℕ}
use mathlib.Core.Path.{refl}
use mathlib.Core.Bool.{Bool, true, false}
use mathlib.Core.List.{[], ◌∷◌, ◌++◌}
use native.Mathlib.Omega.{arith}
use Rattle.rows.proofs.Cases.{clash}
use Rattle.machine.specs.History.{Event}
use Rattle.schedule.specs.declared.steps.FlagStep.{FlagStep}
use Rattle.schedule.specs.declared.steps.FlagStep.TheVariants.{Begin, Move, Read}
use Rattle.flag.specs.Flag.{fresh_state}
use Rattle.flag.specs.Demand.{Hist, happened, Demand}
use Rattle.flag.specs.declared.state.State.{State}
use Rattle.flag.specs.declared.entry.Entry.{Entry}
use Rattle.flag.specs.declared.entry.Entry.TheVariants.{Flip, Saw}

abbrev begins_one : ℕ → Event FlagStep Entry
begins_one k = happened (Begin k) []

-- a move that logs nothing, and one that logs
abbrev goes_on : ℕ → Event FlagStep Entry
goes_on k = happened (Move k) []

abbrev logs_flip : ℕ → ℕ → Event FlagStep Entry
logs_flip k j = happened (Move k) (Flip j ∷ [])

abbrev logs_twice : ℕ → Event FlagStep Entry
logs_twice k = happened (Move k) (Flip k ∷ Flip k ∷ [])

abbrev shows : ℕ → Bool → Event FlagStep Entry
shows k v = happened (Read k) (Saw k v ∷ [])

-- ---------- helping: thread 1 flips, then takes the offer of thread 0, who takes note and ends (P11)

-- the steps of thread 0's flip up to its offer: thread 1's first flip comes between its exchanges
abbrev to_offer : Hist
to_offer = goes_on 0 ∷ goes_on 0 ∷ logs_flip 1 1 ∷ goes_on 1 ∷ goes_on 1 ∷ begins_one 1 ∷ goes_on 0 ∷ goes_on 0 ∷ []

abbrev offered : Hist
offered = to_offer ++ (begins_one 0 ∷ [])

-- only the canceller is logged: the flip that it helped is finished, and logged nowhere
pub only_the_canceller : Demand (fresh_state 2 false) false (goes_on 0 ∷ goes_on 0 ∷ logs_flip 1 1 ∷ begins_one 1 ∷ offered) → ⊥
only_the_canceller d =
    let f = d.finished_once 0 [] [] (goes_on 0 ∷ goes_on 0 ∷ logs_flip 1 1 ∷ begins_one 1 ∷ to_offer) [] [] refl refl refl (refl, (refl, tt)) in
    omega (arith, f.0)

-- only the one helped is logged: the canceller's own flip is finished too
pub only_the_helped : Demand (fresh_state 2 false) false (logs_flip 1 0 ∷ begins_one 1 ∷ offered) → ⊥
only_the_helped d =
    let f = d.finished_once 1 [] [] (logs_flip 1 0 ∷ []) offered [] refl refl refl (refl, (refl, tt)) in
    omega (arith, f.0)

-- a flip is logged only after its end, by a step of another thread
pub logged_after_its_end : Demand (fresh_state 2 false) false (logs_flip 1 0 ∷ begins_one 1 ∷ goes_on 0 ∷ goes_on 0 ∷ goes_on 0 ∷ begins_one 0 ∷ []) → ⊥
logged_after_its_end d =
    let f = d.finished_once 0 [] (logs_flip 1 0 ∷ begins_one 1 ∷ []) (goes_on 0 ∷ goes_on 0 ∷ goes_on 0 ∷ []) [] [] refl refl refl (refl, (refl, tt)) in
    omega (arith, f.1)

-- a flip is finished and logged nowhere, and the thread's next one makes up for it: the two are told apart
abbrev next_one : Hist
next_one = logs_twice 0 ∷ goes_on 0 ∷ begins_one 0 ∷ []

pub made_up_for : Demand (fresh_state 1 false) false (next_one ++ (goes_on 0 ∷ goes_on 0 ∷ goes_on 0 ∷ begins_one 0 ∷ [])) → ⊥
made_up_for d =
    let f = d.finished_once 0 next_one [] (goes_on 0 ∷ goes_on 0 ∷ goes_on 0 ∷ []) [] [] refl refl refl (refl, (refl, tt)) in
    omega (arith, f.0)

-- ---------- from any state, with any value

module _ (s₀ : State) (v₀ : Bool) where
  -- a flip is logged for a thread that began none
  pub never_begun : Demand s₀ v₀ (logs_flip 1 0 ∷ begins_one 1 ∷ []) → ⊥
  never_begun d = omega (arith, d.none_unbegun 0)

  -- a flip is logged twice, by two steps or by one
  pub logged_twice : Demand s₀ v₀ (logs_flip 1 0 ∷ begins_one 1 ∷ logs_flip 0 0 ∷ begins_one 0 ∷ []) → ⊥
  logged_twice d = omega (arith, d.none_unbegun 0)

  pub twice_at_once : Demand s₀ v₀ (logs_twice 0 ∷ begins_one 0 ∷ []) → ⊥
  twice_at_once d = omega (arith, (d.at_most_once 0 [] (logs_twice 0 ∷ []) [] [] refl refl).1)

  -- also where the thread has begun another since, so that the counts agree
  pub twice_and_never : Demand s₀ v₀ (begins_one 0 ∷ logs_twice 0 ∷ begins_one 0 ∷ []) → ⊥
  twice_and_never d = omega (arith, (d.at_most_once 0 (begins_one 0 ∷ []) (logs_twice 0 ∷ []) [] [] refl refl).1)

  -- a flip is logged by its own begin
  pub by_its_begin : Demand s₀ v₀ (happened (Begin 0) (Flip 0 ∷ []) ∷ []) → ⊥
  by_its_begin d = let e = (d.at_most_once 0 [] [] [] (Flip 0 ∷ []) refl refl).0 in clash (cc)

  -- a read logs nothing, or for another thread
  pub shows_nothing : Demand s₀ v₀ (happened (Read 0) [] ∷ []) → ⊥
  shows_nothing d = let e = d.reads 0 [] [] [] refl in clash (cc)

  pub shows_for_another : Demand s₀ v₀ (happened (Read 0) (Saw 1 v₀ ∷ []) ∷ []) → ⊥
  shows_for_another d = let e = d.reads 0 [] [] (Saw 1 v₀ ∷ []) refl in clash (cc)

-- a read shows the value unturned after a flip, and turned after two
pub shows_unturned : (s₀ : State) → Demand s₀ false (shows 0 false ∷ logs_flip 1 1 ∷ begins_one 1 ∷ []) → ⊥
shows_unturned s₀ d = let e = d.reads 0 [] (logs_flip 1 1 ∷ begins_one 1 ∷ []) (Saw 0 false ∷ []) refl in clash (cc)

pub shows_turned : (s₀ : State) → Demand s₀ false (shows 1 true ∷ happened (Move 1) (Flip 0 ∷ Flip 1 ∷ []) ∷ begins_one 1 ∷ begins_one 0 ∷ []) → ⊥
shows_turned s₀ d =
    let e = d.reads 1 [] (happened (Move 1) (Flip 0 ∷ Flip 1 ∷ []) ∷ begins_one 1 ∷ begins_one 0 ∷ []) (Saw 1 true ∷ []) refl in
    clash (cc)
