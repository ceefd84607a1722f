-- A step applied in place, from what its transition answers: refused, accepted and logging nothing, accepted and logging. Assumes nothing.
use mathlib.Core.Path.{◌≡◌, refl, sym}
use mathlib.Core.List.{List, []}
use Prim.Native.Nat.{ℕ, ◌+◌}
use native.Mathlib.Nat.{add-zero}
use lib.Dec.{leb}
use lib.ListN.{length}
use Rattle.rows.specs.Stores.{fitting, Laid}
use Rattle.rows.specs.Walk.{pieces}
use Rattle.rows.proofs.Cases.{on}
use Rattle.machine.specs.Machine.{Machine}
use Rattle.machine.specs.Apply.{Accepts, Refuses}
use Rattle.machine.specs.Refusals.{number}
use Rattle.machine.specs.declared.refusal.Refusal.{Refusal}
use Rattle.machine.proofs.Fair.{Fair}

-- nothing laid down leaves the buffer and the place
nothing_laid : (l : List ℕ) (at : ℕ) → Laid l at [] at l
unfolding fitting
nothing_laid l at = on (leb (at + length {A = ℕ} []) (length l))
    (λ e. record { place = rw e (sym (add-zero at)); bytes = rw e refl })
    (λ e. record { place = rw e (sym (add-zero at)); bytes = rw e refl })

-- a step x of the form v, and what its transition comes to in the whole state
module _ (m : Machine) (bytes : m.Entry → List ℕ) (s : m.State) (x v : m.Step) (e : x ≡ v) (l : List ℕ) where
  pub refuses : (why : Refusal) (t : m.State) → Fair m s v (number why) t → Refuses m bytes s x l why s l
  refuses why t f = rw e (record { own = f.own; state = refl; log = refl })

  module _ (t : m.State) (f : Fair m s v 0 t) where
    pub accepts_loud : (at w : ℕ) (l' : List ℕ) → Laid l at (pieces bytes (m.logs s v)) w l' → Accepts m bytes s x l at w t l'
    accepts_loud at w l' d = rw e (record { passes = sym f.own; state = f.went refl; log = d })

    pub accepts_quiet : m.logs s v ≡ [] → (at : ℕ) → Accepts m bytes s x l at at t l
    accepts_quiet q at = accepts_loud at at l (rw q (nothing_laid l at))
