-- The test of a state says what soundness means: the source's invariant, the counter's limit, unused entries zero. Assumes nothing.
use Prim.Native.Nat.{ℕ}
use mathlib.Core.Path.{◌≡◌, refl, sym, ap, ◌∙◌}
use mathlib.Core.Bool.{Bool, true, false, cond, ◌&&◌}
use mathlib.Core.Option.{Option}
use native.Mathlib.Omega.{arith}
use lib.Dec.{eqb, leb}
use borrow.Author.Tests.{eqb-true, eq-eqb, leb-true, le-leb}
use Rattle.rows.proofs.Cases.{clash, both_true, true_both}
use Rattle.machine.specs.Multiset.{Multiset}
use Rattle.machine.proofs.Multisets.{only, only_here, only_other}
use Rattle.schedule.specs.Limits as limit
use Rattle.counting.specs.Source.{CountingPermissions, new}
use Rattle.counting.specs.Counting.{fresh_state}
use Rattle.counting.specs.Sound.{sound}
use Rattle.counting.specs.Refined.{abs, Sound}
use Rattle.counting.specs.declared.state.State.{State}
use Rattle.counting.proofs.Inductive.{same_counter}
use Rattle.counting.proofs.Moved.{refs_counted}

-- a state by its entries: a claim by the two cases of `present` is one about every state
abbrev pub state : Bool → ℕ → ℕ → ℕ → State
state present t count refs = record { t = t; count = count; refs = refs; present = present }

-- a multiset of no copies, whatever its value
pub only_none : (t u : ℕ) → only t 0 u ≡ 0
only_none t u = same (eqb u t)
  where
    same : (b : Bool) → ◌≡◌ {A = ℕ} (cond b 0 0) 0
    same true = refl
    same false = refl

pub none_same : (t t' n : ℕ) → n ≡ 0 → (u : ℕ) → only t n u ≡ only t' n u
none_same t t' n z u = rw z (only_none t u ∙ sym (only_none t' u))

-- two states of the source are equal by their fields, the references pointwise
pub same_permissions : {o o' : Option ℕ} {k k' : Option (ℕ × ℕ)} {f f' : Multiset ℕ} → o ≡ o' → k ≡ k' → ((u : ℕ) → f u ≡ f' u)
    → ◌≡◌ {A = CountingPermissions} (record { stored = o; main_counter = k; read_ref = f }) (record { stored = o'; main_counter = k'; read_ref = f' })
same_permissions p q r = λ i. record { stored = p i; main_counter = q i; read_ref = λ u. r u i }

-- ---------- the test says it

away : (t count refs : ℕ) → sound (state false t count refs) ≡ true → (t ≡ 0) × (count ≡ 0) × (refs ≡ 0)
away t count refs h =
    let k = both_true (eqb t 0) (eqb count 0 && eqb refs 0) h in
    let j = both_true (eqb count 0) (eqb refs 0) k.1 in
    (eqb-true t 0 k.0, eqb-true count 0 j.0, eqb-true refs 0 j.1)

means : (b : Bool) (t count refs : ℕ) → sound (state b t count refs) ≡ true → Sound (state b t count refs)
means true t count refs h =
    record {
      inv = (refl, only_here t refs ∙ refs_counted (state true t count refs) h refl, only_other t refs);
      limit = leb-true count limit.counter (both_true (leb count limit.counter) (eqb refs count) h).0;
      unused = λ e. clash (cc);
    }
means false t count refs h =
    let k = away t count refs h in
    record { inv = (refl, λ u. rw k.2 (only_none t u)); limit = omega arith; unused = λ e. k }

pub sound_means : (s : State) → sound s ≡ true → Sound s
sound_means s h = means s.present s.t s.count s.refs h

-- ---------- and where it holds the test says so

tests : (b : Bool) (t count refs : ℕ) → Sound (state b t count refs) → sound (state b t count refs) ≡ true
tests true t count refs h =
    let e : refs ≡ count = rw (only_here t refs) at h.inv.1 in
    true_both (le-leb count limit.counter h.limit) (eq-eqb refs count e)
tests false t count refs h =
    let k = h.unused refl in
    true_both (eq-eqb t 0 k.0) (true_both (eq-eqb count 0 k.1) (eq-eqb refs 0 k.2))

pub means_sound : (s : State) → Sound s → sound s ≡ true
means_sound s h = tests s.present s.t s.count s.refs h

-- ---------- a sound state is told by what it stands for

told : (b c : Bool) (t count refs u count' refs' : ℕ) → let s = state b t count refs in let s' = state c u count' refs' in
    Sound s → Sound s' → abs s ≡ abs s' → s ≡ s'
told true true t count refs u count' refs' k j e =
    let q = same_counter (ap (λ (m : CountingPermissions). m.main_counter) e) in
    let p : refs ≡ count = refs_counted (state true t count refs) (means_sound _ k) refl in
    let p' : refs' ≡ count' = refs_counted (state true u count' refs') (means_sound _ j) refl in
    rw (p, p', q.0, q.1)
told true false t count refs u count' refs' k j e = clash (cc (ap (λ (m : CountingPermissions). m.stored) e))
told false true t count refs u count' refs' k j e = clash (cc (ap (λ (m : CountingPermissions). m.stored) e))
told false false t count refs u count' refs' k j e =
    let p = k.unused refl in let q = j.unused refl in
    rw (p.0, p.1, p.2, q.0, q.1, q.2)

pub abs_tells : (s s' : State) → Sound s → Sound s' → abs s ≡ abs s' → s ≡ s'
abs_tells s s' k j e = told s.present s'.present s.t s.count s.refs s'.t s'.count s'.refs k j e

-- ---------- a counter at 0: no reference either

pub counted_none : (s : State) → Sound s → s.present ≡ true → eqb s.count 0 ≡ true → s.refs ≡ 0
counted_none s k p e = refs_counted s (means_sound s k) p ∙ eqb-true s.count 0 e

-- ---------- a fresh machine

pub fresh_sound : sound fresh_state ≡ true
fresh_sound = refl

pub fresh_means : Sound fresh_state
fresh_means = sound_means fresh_state fresh_sound

-- it is the source's
pub fresh_new : abs fresh_state ≡ new
fresh_new = same_permissions refl refl (only_none 0)
