-- The induction over a history, its last and its earlier steps, and its counts. Assumes nothing.
use mathlib.Core.Path.{◌≡◌, refl, ap, ◌∙◌}
use mathlib.Core.Bool.{Bool, true, false}
use mathlib.Core.List.{List, [], ◌∷◌, ◌++◌}
use Prim.Native.Nat.{ℕ, ◌+◌}
use native.Mathlib.Omega.{arith}
use Rattle.rows.specs.Walk.{tick}
use Rattle.machine.specs.Machine.{Machine, Accepted}
use Rattle.machine.specs.History.{Event, History, event, Run, start, then, in#, did#, logged#, AtEach, Throughout}

-- ---------- THE INDUCTION: what holds of the fresh machine and is kept by each accepted step holds always

pub always : (m : Machine) (s₀ : m.State) (I : History m → m.State → Type 0)
    → I [] s₀
    → ((h : History m) (s : m.State) (x : m.Step) → I h s → Accepted m s x → I (event m s x ∷ h) (m.next s x))
    → {h : History m} {s : m.State} → Run m s₀ h s → I h s
always m s₀ I base keep start = base
always m s₀ I base keep (then {h} {s} {x} r p) = keep h s x (always m s₀ I base keep r) p

-- ---------- the middle of a history

module _ (m : Machine) (s₀ : m.State) where
  -- the run before its last step, d, and what that step passed
  pub last : {h : History m} {e : Event m.Step m.Entry} {s : m.State} (d : m.Step) → e.did ≡ d → Run m s₀ (e ∷ h) s
      → (z : m.State) × Run m s₀ h z × Accepted m z d × (m.next z d ≡ s) × (m.logs z d ≡ e.wrote)
  last d q (then {s = z} r p) = (z, r, rw q at p, rw q, rw q)

  -- the run before its last steps g
  pub earlier : (g : History m) {h : History m} {s : m.State} → Run m s₀ (g ++ h) s → (z : m.State) × Run m s₀ h z
  earlier [] {s = s} r = (s, r)
  earlier (e ∷ g) r = earlier g (last e.did refl r).1

  -- what holds after every run holds after each part of one
  pub throughout : (P : History m → Type 0) → ((h : History m) (s : m.State) → Run m s₀ h s → P h) → {h : History m} {s : m.State} → Run m s₀ h s → Throughout P h
  throughout P inv r later before q = let z = earlier later (rw q at r) in inv before z.0 z.1

  -- THE STEPS: what an invariant of every run says of the next accepted step holds at each step of a run
  pub at_each : (I : History m → m.State → Type 0) (P : History m → m.Step → List m.Entry → Type 0)
      → ((h : History m) (s : m.State) → Run m s₀ h s → I h s)
      → ((h : History m) (s : m.State) (x : m.Step) → I h s → Accepted m s x → P h x (m.logs s x))
      → {h : History m} {s : m.State} → Run m s₀ h s → AtEach P h
  at_each I P inv local r later e before q =
      let l = last e.did refl (earlier later (rw q at r)).1 in
      rw (← l.4) (local before l.0 e.did (inv before l.0 l.1) l.2)

-- ---------- of any history: what holds of none and is kept by a step that shows P holds where each step shows P

module _ {X E : Type 0} (P : List (Event X E) → X → List E → Type 0) (G : List (Event X E) → Type 0) where
  pub suffices : G [] → ((h : List (Event X E)) (x : X) (l : List E) → G h → P h x l → G (record { did = x; wrote = l } ∷ h))
      → (h : List (Event X E)) → AtEach P h → G h
  suffices base keep [] a = base
  suffices base keep (e ∷ h) a =
      keep h e.did e.wrote (suffices base keep h (λ later d before q. a (e ∷ later) d before (ap (λ t. e ∷ t) q))) (a [] e h refl)

-- ---------- EXACTLY: if an invariant of every run makes P of a next step and its log the same as being accepted with that log, the histories where each step
-- shows P are those of runs

module _ (m : Machine) (s₀ : m.State) (I : History m → m.State → Type 0) (P : History m → m.Step → List m.Entry → Type 0) where
  pub exact : ((h : History m) (s : m.State) → Run m s₀ h s → I h s)
      → ((h : History m) (s : m.State) (x : m.Step) → I h s → Accepted m s x → P h x (m.logs s x))
      → ((h : History m) (s : m.State) (x : m.Step) (l : List m.Entry) → I h s → P h x l → Accepted m s x × (l ≡ m.logs s x))
      → (h : History m) → (((s : m.State) × Run m s₀ h s) → AtEach P h) × (AtEach P h → (s : m.State) × Run m s₀ h s)
  exact inv shows accepted h = (
    (λ z. at_each m s₀ I P inv shows z.1),
    suffices P (λ h. (s : m.State) × Run m s₀ h s) (s₀, start)
        (λ h x l z p. let a = accepted h z.0 x l (inv h z.0 z.1) p in (m.next z.0 x, rw a.1 (then z.1 a.0)))
        h,
  )

-- ---------- the counts of two histories, one after the other

pub tick_add : (b : Bool) (n k : ℕ) → tick b (n + k) ≡ tick b n + k
tick_add true n k = omega arith
tick_add false n k = refl

pub in_add : {E : Type 0} (q : E → Bool) (l : List E) (n k : ℕ) → in# q l (n + k) ≡ in# q l n + k
in_add q [] n k = refl
in_add q (x ∷ l) n k = ap (tick (q x)) (in_add q l n k) ∙ tick_add (q x) (in# q l n) k

module _ {X E : Type 0} where
  pub did_append : (p : X → Bool) (g h : List (Event X E)) → did# p (g ++ h) ≡ did# p g + did# p h
  did_append p [] h = omega arith
  did_append p (e ∷ g) h = ap (tick (p e.did)) (did_append p g h) ∙ tick_add (p e.did) (did# p g) (did# p h)

  pub logged_append : (q : E → Bool) (g h : List (Event X E)) → logged# q (g ++ h) ≡ logged# q g + logged# q h
  logged_append q [] h = omega arith
  logged_append q (e ∷ g) h = ap (in# q e.wrote) (logged_append q g h) ∙ in_add q e.wrote (logged# q g) (logged# q h)
