-- The source's values taken apart: what a map, a client, an element and the combiner of the source say of the flags that they are read from. Assumes nothing.
use Prim.Native.Nat.{ℕ}
use mathlib.Core.Path.{◌≡◌, refl}
use mathlib.Core.Bool.{Bool, true, false, cond}
use mathlib.Core.List.{List}
use mathlib.Core.Option.{Option, none, some}
use Rattle.rows.proofs.Cases.{on, clash}
use Rattle.flat.specs.Source.{Idle, Waiting, Collecting, Responding}
use Rattle.flat.specs.Refined.{given, client_of, elem_of}
use Rattle.flat.specs.declared.state.Client.{Client}
use Rattle.flat.specs.declared.state.Elem.{Elem}
use Rattle.flat.proofs.Stages.{holding, same_elem}

-- a map's value
pub given_some : {A : Type 0} (b : Bool) (a x : A) → given b a ≡ some x → (b ≡ true) × (a ≡ x)
given_some true a x e = (refl, cc)
given_some false a x e = clash (cc)

pub given_none : {A : Type 0} (b : Bool) (a : A) → given b a ≡ none → b ≡ false
given_none true a e = clash (cc)
given_none false a e = refl

-- a client
pub of_idle : (c : Client) → client_of c ≡ Idle → c.waiting ≡ false
of_idle c q = on c.waiting (λ w. let k : Waiting c.rid ≡ Idle = rw w at q in clash (cc)) (λ w. w)

pub of_waits : (c : Client) (rid : ℕ) → client_of c ≡ Waiting rid → (c.waiting ≡ true) × (c.rid ≡ rid)
of_waits c rid q = on c.waiting
    (λ w. let k : Waiting c.rid ≡ Waiting rid = rw w at q in (w, cc k))
    (λ w. let k : Idle ≡ Waiting rid = rw w at q in clash (cc))

-- an element
pub elem_some : (e : Elem) (rid : ℕ) → elem_of e ≡ some rid → e ≡ holding rid
elem_some e rid q = let g = given_some e.present e.rid rid q in same_elem g.1 g.0

pub elem_none : (e : Elem) → elem_of e ≡ none → e.present ≡ false
elem_none e q = given_none e.present e.rid q

-- the combiner
module _ (b : Bool) (es fs : List (Option ℕ)) (i : ℕ) where
  pub is_collecting : cond b (Responding es i) (Collecting es) ≡ Collecting fs → (b ≡ false) × (es ≡ fs)
  is_collecting e = on b
      (λ t. let q : Responding es i ≡ Collecting fs = rw t at e in clash (cc))
      (λ t. let q : Collecting es ≡ Collecting fs = rw t at e in (t, cc q))

  pub is_responding : (k : ℕ) → cond b (Responding es i) (Collecting es) ≡ Responding fs k → (b ≡ true) × (es ≡ fs) × (i ≡ k)
  is_responding k e = on b
      (λ t. let q : Responding es i ≡ Responding fs k = rw t at e in (t, cc q, cc q))
      (λ t. let q : Collecting es ≡ Responding fs k = rw t at e in clash (cc))
