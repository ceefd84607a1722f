-- A step applied in place, as the single step answers it and as a turn of the replay loop takes it. Assumes nothing.
use mathlib.Core.Path.{◌≡◌, refl, sym}
use mathlib.Core.Bool.{Bool, true}
use mathlib.Core.List.{List}
use mathlib.Core.Option.{Option, some}
use Prim.Native.Nat.{ℕ, ◌+◌, ◌≤◌}
use lib.ListN.{length}
use Rattle.std.specs.Prelude.{Result, Ok, Err}
use Rattle.machine.specs.Apply.{InPlace, Accepts, Refuses}
use Rattle.machine.specs.Refusals.{number, verdict_code}
use Rattle.machine.specs.Single.{Singled, told, bytes_logged}
use Rattle.machine.specs.declared.refusal.Refusal.{Refusal}
use Rattle.machine.proofs.Refusing.{number_nonzero}
use Rattle.machine.proofs.Answering.{own_step, accepted, refused}
use Rattle.machine.proofs.Fair.{Fair}
use Rattle.schedule.specs.Limits as limit
use Rattle.schedule.specs.Language.{step_at, size_of}
use Rattle.schedule.specs.Running.{Runner}
use Rattle.schedule.specs.Carries.{Carries, stepper_of}
use Rattle.schedule.specs.declared.steps.Step.{Step}
use Rattle.schedule.proofs.Running.{Runs, Out, fair_stops, fair_loud}

-- ---------- the single step

module _ (p : Runner) (o : Carries p) (own : Step → Option p.machine.Step) (sound : p.machine.State → Bool) (s : p.machine.State) (x : Step) (y : p.machine.Step)
    (e : own x ≡ some y) (log : List ℕ) (room : limit.entry ≤ length log) (safe : sound s ≡ true) where
  pub applied_single : (r : Result ℕ Refusal) (s' : p.machine.State) (l' : List ℕ) → InPlace p.machine p.bytes s y log 0 r s' l'
      → Singled (stepper_of p own sound) s x log (told s' (bytes_logged r) (verdict_code r)) l'
  applied_single (Ok w) s' l' a =
      let q = stepper_of p own sound in
      own_step q s x x log (told s' w 0) refl y l' e (accepted q s y log (told s' w 0) room safe w l' a.passes (o.short s y) a.log (rw a.state refl))
  applied_single (Err why) s' l' a =
      let q = stepper_of p own sound in
      let r = told s 0 (number why) in
      rw (a.log, a.state) (own_step q s x x log r refl y log e (refused q s y log r room safe (number why) (sym a.own) (number_nonzero why) refl))

-- ---------- a turn of the loop

module _ (p : Runner) (o : Carries p) (f : List ℕ) (from n : ℕ) (q₀ : p.machine.State) (log₀ : List ℕ) (used : ℕ) (log : List ℕ) (q : p.machine.State) (at k w : ℕ)
    (g : Runs p o f from n q₀ log₀ used log q at k w) (h : k ≡ n → ⊥) (x : p.machine.Step) (r : x ≡ step_at p.language f at) where
  pub goes_on : (w' : ℕ) (q' : p.machine.State) (log' : List ℕ) → Accepts p.machine p.bytes q x log w w' q' log'
      → Runs p o f from n q₀ log₀ used log' q' (at + size_of p.language x) (k + 1) w'
  goes_on w' q' log' a =
      let d : Fair p.machine q x 0 q' = record { own = sym a.passes; went = λ z. a.state; stayed = λ none. absurd (none refl) } in
      fair_loud p o f from n q₀ log₀ used log q at k w g h x r x refl 0 q' d refl w' log' a.log

  pub stops_here : (why : Refusal) (q' : p.machine.State) (log' : List ℕ) → Refuses p.machine p.bytes q x log why q' log'
      → Out p o f from n q₀ log₀ used log q at k w g (number why)
  stops_here why q' log' a =
      let d : Fair p.machine q x (number why) q' = record { own = a.own; went = λ z. absurd (number_nonzero why z); stayed = λ none. a.state } in
      fair_stops p o f from n q₀ log₀ used log q at k w g h x r x refl (number why) q' d (number_nonzero why)
