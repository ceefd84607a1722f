-- The source's combiner, read off the row of elements: its Seq is the gathered part of the row, and it has an id of a client exactly where the row
-- has it between the cursor and the gathered length. Assumes nothing.
use Prim.Native.Nat.{ℕ, ◌+◌, ◌≤◌, ◌<◌}
use mathlib.Core.Path.{◌≡◌, refl, sym, ap, ◌∙◌}
use mathlib.Core.Bool.{false}
use mathlib.Core.List.{List, [], ◌∷◌, ◌++◌, map, map-append}
use mathlib.Core.Option.{none, some}
use native.Mathlib.Numerals.{add-one}
use native.Mathlib.Omega.{arith}
use lib.Dec.{ltb}
use lib.ListN.{length, get_or, take, set, length-map, get_or-map, get_or-eq_default}
use lib.Seq.{length-take-le, get_or-take, take-suc-set}
use borrow.Author.Tests.{ltb-true, ltb-false}
use Rattle.rows.proofs.Cases.{on, clash}
use Rattle.flat.specs.Invariants.{holds_rid, sized}
use Rattle.flat.specs.Flat.{zero_elem, elem}
use Rattle.flat.specs.Refined.{elem_of, gathered, combiner_of}
use Rattle.flat.specs.declared.state.Elem.{Elem}
use Rattle.flat.specs.declared.state.State.{State}
use Rattle.flat.proofs.Stages.{holding, Has, Mode, collects, responds}
use Rattle.flat.proofs.Values.{elem_some}

-- ---------- the Seq

-- one element more
pub gathered_more : (l : List Elem) (n : ℕ) (e : Elem) → n < length l → map elem_of (take (n + 1) (set l n e)) ≡ map elem_of (take n l) ++ (elem_of e ∷ [])
gathered_more l n e h = rw (add-one n, take-suc-set l n e h) (map-append elem_of (take n l) (e ∷ []))

module _ (s : State) (few : s.len ≤ length s.elems) where
  pub gathered_length : length (gathered s) ≡ s.len
  gathered_length = length-map (take s.len s.elems) elem_of ∙ length-take-le s.len s.elems few

  pub gathered_at : (j : ℕ) → j < s.len → get_or (gathered s) j none ≡ elem_of (elem s j)
  gathered_at j h = get_or-map elem_of (take s.len s.elems) j zero_elem ∙ ap elem_of (get_or-take s.len s.elems j zero_elem h)

  -- an id that stands in the Seq stands in the row
  pub gathered_some : (j rid : ℕ) → get_or (gathered s) j none ≡ some rid → (j < s.len) × (elem s j ≡ holding rid)
  gathered_some j rid q = on (ltb j s.len)
      (λ b. let h = ltb-true j s.len b in (h, elem_some (elem s j) rid (sym (gathered_at j h) ∙ q)))
      (λ b. clash (cc (get_or-eq_default (gathered s) none {n = j} (rw gathered_length (ltb-false j s.len b)))))

  -- the combiner has an id exactly where the row has it
  pub holds_has : {count turn : ℕ} (j rid : ℕ) → Mode s.responding s.idx s.len count turn → holds_rid (combiner_of s) j rid → Has s j rid
  holds_has j rid (collects e z b) h = let k = gathered_some j rid (rw e at h).1 in (omega arith, k.0, k.1)
  holds_has j rid (responds e l b t) h = let k = gathered_some j rid (rw e at h).1 in ((rw e at h).0, k.0, k.1)

  has_gathered : (j rid : ℕ) → Has s j rid → get_or (gathered s) j none ≡ some rid
  has_gathered j rid g = gathered_at j g.1 ∙ rw g.2

  pub has_holds : {count turn : ℕ} (j rid : ℕ) → Mode s.responding s.idx s.len count turn → Has s j rid → holds_rid (combiner_of s) j rid
  has_holds j rid (collects e z b) g = rw e (rw gathered_length g.1, has_gathered j rid g)
  has_holds j rid (responds e l b t) g = rw e (g.0, has_gathered j rid g)

  -- the source's size of it is the mode's
  pub mode_sized : {count turn : ℕ} → Mode s.responding s.idx s.len count turn → sized (combiner_of s) count
  mode_sized (collects e z b) = rw (e, gathered_length) b
  mode_sized (responds e l b t) = rw e (gathered_length ∙ l, b)

  pub sized_mode : (count : ℕ) → (s.responding ≡ false → s.idx ≡ 0) → sized (combiner_of s) count → Mode s.responding s.idx s.len count s.idx
  sized_mode count z h = on s.responding
      (λ e. let k = rw e at h in responds e (sym gathered_length ∙ k.0) k.1 refl)
      (λ e. collects e (z e) (rw (e, gathered_length) at h))
