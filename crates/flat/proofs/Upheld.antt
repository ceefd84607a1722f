-- What the source's invariants say where a transition looks, and what its maps and its Seq hold after one: helpers of proofs/Inductive.antt. Assumes nothing.
use Prim.Native.Nat.{ℕ, ◌+◌, ◌≤◌, ◌<◌}
use mathlib.Core.Path.{◌≡◌, refl, sym, ◌∙◌}
use mathlib.Core.Bool.{true, false}
use mathlib.Core.Logic.{◌⊎◌, inl, inr}
use mathlib.Core.List.{List, [], ◌∷◌, ◌++◌}
use mathlib.Core.Option.{Option, none, some}
use native.Mathlib.Omega.{arith}
use lib.Dec.{eqb, ltb}
use lib.ListN.{length, length-append, get_or-append}
use lib.Seq.{get_or-append_seam}
use borrow.Author.Tests.{ne_eqb, ltb-true, ltb-false}
use Rattle.rows.proofs.Cases.{on, clash}
use Rattle.machine.specs.Map.{at_key}
use Rattle.flat.specs.Source.{Client, Idle, Waiting, Collecting, FlatCombiner}
use Rattle.flat.specs.Invariants.{Contains, holds_rid, combiner_has, request_stored, response_stored, Invariants}

-- ---------- maps, and the combiner's Seq

-- a map with another value at a key that is inside
module _ {A : Type 0} (m : ℕ → Option A) (n j : ℕ) (a : A) where
  pub put_inside : ((k : ℕ) → k < n → Contains m k) → (k : ℕ) → k < n → Contains (at_key j a m) k
  put_inside f k h = on (eqb k j) (λ b. (a, rw b)) (λ b. let v = f k h in (v.0, rw b v.1))

  pub put_outside : j < n → ((k : ℕ) → n ≤ k → m k ≡ none) → (k : ℕ) → n ≤ k → at_key j a m k ≡ none
  put_outside h f k l = rw (ne_eqb k j (λ e. omega arith)) (f k l)

-- nothing is there where nothing can be
pub no_value : {A : Type 0} (o : Option A) → ((a : A) → o ≡ some a → ⊥) → o ≡ none
no_value none f = refl
no_value (some a) f = absurd (f a refl)

-- one of three, each as it was but for a step
pub stay : {A B C A' B' C' : Type 0} → (A → A') → (B → B') → (C → C') → A ⊎ B ⊎ C → A' ⊎ B' ⊎ C'
stay f g h (inl a) = inl (f a)
stay f g h (inr (inl b)) = inr (inl (g b))
stay f g h (inr (inr c)) = inr (inr (h c))

-- one element more: what stands in the Seq stood there, or is the new one
module _ (elems : List (Option ℕ)) (x : Option ℕ) where
  pub more_length : length (elems ++ (x ∷ [])) ≡ length elems + 1
  more_length = length-append elems (x ∷ [])

  pub stood : (k rid : ℕ) → holds_rid (Collecting elems) k rid → holds_rid (Collecting (elems ++ (x ∷ []))) k rid
  stood k rid g = (omega (arith, more_length, g.0), get_or-append elems (x ∷ []) none k g.0 ∙ g.1)

  pub newest : (rid : ℕ) → x ≡ some rid → holds_rid (Collecting (elems ++ (x ∷ []))) (length elems) rid
  newest rid e = (omega (arith, more_length), get_or-append_seam elems x [] none ∙ e)

  pub older : (k rid : ℕ) → holds_rid (Collecting (elems ++ (x ∷ []))) k rid → holds_rid (Collecting elems) k rid ⊎ ((k ≡ length elems) × (x ≡ some rid))
  older k rid g = on (ltb k (length elems))
      (λ b. let h = ltb-true k (length elems) b in inl (h, sym (get_or-append elems (x ∷ []) none k h) ∙ g.1))
      (λ b.
      let e : k ≡ length elems = omega (arith, ltb-false k (length elems) b, more_length, g.0) in
      inr (e, sym (get_or-append_seam elems x [] none) ∙ (rw e at g.1)))

-- ---------- what a transition finds that passes its tests

module _ (pre : FlatCombiner) (i : Invariants pre) where
  -- who waits with its slot clear has its response; the request that would be stored, or held by the combiner, has it set
  pub has_response : (j rid : ℕ) → j < pre.num_clients → pre.clients j ≡ some (Waiting rid) → pre.slots j ≡ some false → response_stored pre j
  has_response j rid h w t = stored (i.waiting j (h, (rid, w)))
    where
      stored : request_stored pre j ⊎ response_stored pre j ⊎ combiner_has pre j → response_stored pre j
      stored (inl q) = clash (cc ((i.requests j q.0 q.1).2, t))
      stored (inr (inl p)) = p
      stored (inr (inr g)) = clash (cc ((i.combiner j g.1.0 h g.1.1).1, t))

  -- the next client to gather, its slot set, has its request
  pub has_request : (elems : List (Option ℕ)) → pre.combiner ≡ Collecting elems → length elems < pre.num_clients → pre.slots (length elems) ≡ some true
      → request_stored pre (length elems)
  has_request elems c h t = of_client (i.clients.inside (length elems) h).0 (i.clients.inside (length elems) h).1
    where
      stored : request_stored pre (length elems) ⊎ response_stored pre (length elems) ⊎ combiner_has pre (length elems) → request_stored pre (length elems)
      stored (inl q) = q
      stored (inr (inl p)) = clash (cc ((i.responses (length elems) p.0 p.1).2, t))
      stored (inr (inr g)) = absurd (omega (arith, (rw c at g.1.1).0))

      of_client : (v : Client) → pre.clients (length elems) ≡ some v → request_stored pre (length elems)
      of_client Idle e = clash (cc (i.idle (length elems) h e, t))
      of_client (Waiting rid) e = stored (i.waiting (length elems) (h, (rid, e)))
