-- A step that logs nothing, as it is applied in place where it is accepted. Assumes nothing.
use mathlib.Core.Path.{◌≡◌, sym, ap}
use mathlib.Core.List.{List, []}
use Prim.Native.Nat.{ℕ}
use Prim.Native.Nat.{◌+◌}
use native.Mathlib.Nat.{add-zero}
use lib.Dec.{leb}
use Rattle.rows.proofs.Cases.{on}
use lib.ListN.{length}
use Rattle.rows.specs.Stores.{Laid, fitting}
use Rattle.machine.specs.Machine.{code_of}
use Rattle.machine.specs.Apply.{Accepts}
use Rattle.machine.specs.Single.{InNumbers, told}
use Rattle.schedule.specs.declared.steps.FlatStep.{FlatStep}
use Rattle.flat.specs.Flat.{flat, next, logs}
use Rattle.flat.specs.Image.{entry_bytes}
use Rattle.flat.specs.Single.{quietly}
use Rattle.flat.specs.declared.state.State.{State}

-- nothing laid down leaves all as it was, wherever that is
nothing_laid : (l : List ℕ) (at : ℕ) → Laid l at [] at l
unfolding fitting
nothing_laid l at = on (leb (at + 0) (length l))
    (λ b. record { place = rw (b, add-zero); bytes = rw b })
    (λ b. record { place = rw (b, add-zero); bytes = rw b })

pub quiet_accepts : (s : State) (x v : FlatStep) → x ≡ v → logs s v ≡ [] → (s' : State) → told s' 0 0 ≡ quietly s v → (l : List ℕ) (at : ℕ)
    → Accepts flat entry_bytes s x l at at s' l
quiet_accepts s x v e q s' r l at =
    let z : code_of flat s v ≡ 0 = sym (ap (λ (t : InNumbers State). t.code) r) in
    let went : s' ≡ next s v = rw z at (ap (λ (t : InNumbers State). t.state) r) in
    rw e (record { passes = z; state = went; log = rw q (nothing_laid l at) })
