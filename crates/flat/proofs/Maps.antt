-- The source's maps, read off the row of clients: a client written anew is a value put at one key, taken out at it, or nothing at all. Assumes nothing.
use Prim.Native.Nat.{ℕ, ◌<◌}
use mathlib.Core.Path.{◌≡◌}
use mathlib.Core.Bool.{cond}
use mathlib.Core.List.{List}
use mathlib.Core.Option.{Option}
use lib.Dec.{eqb}
use lib.ListN.{length, get_or, set}
use borrow.Author.Tests.{eqb-true}
use Rattle.rows.proofs.Cases.{on}
use Rattle.rows.proofs.Row.{row}
use Rattle.flat.specs.Source.{FlatCombiner}
use Rattle.flat.specs.Flat.{zero_client}
use Rattle.flat.specs.declared.state.Client as own

-- two states of the source are equal by their fields, the maps pointwise
pub same_machine : {m n : FlatCombiner} → m.num_clients ≡ n.num_clients → ((i : ℕ) → m.clients i ≡ n.clients i) → ((i : ℕ) → m.slots i ≡ n.slots i)
    → m.combiner ≡ n.combiner → ((i : ℕ) → m.requests i ≡ n.requests i) → ((i : ℕ) → m.responses i ≡ n.responses i) → m ≡ n
same_machine a b c d e f =
    λ k. record { num_clients = a k; clients = λ i. b i k; slots = λ i. c i k; combiner = d k; requests = λ i. e i k; responses = λ i. f i k }

-- what f reads at each key, after client k was written anew
module _ {A : Type 0} (f : ℕ → own.Client → Option A) (cs : List own.Client) (k : ℕ) (c : own.Client) (h : k < length cs) where
  pub map_put : (v : Option A) → f k c ≡ v → (i : ℕ) → f i (get_or (set cs k c) i zero_client) ≡ cond (eqb i k) v (f i (get_or cs i zero_client))
  map_put v e i = rw (row cs k i c zero_client h)
      (on (eqb i k) (λ b. rw (b, eqb-true i k b) e) (λ b. rw b))

  pub map_same : f k c ≡ f k (get_or cs k zero_client) → (i : ℕ) → f i (get_or (set cs k c) i zero_client) ≡ f i (get_or cs i zero_client)
  map_same e i = rw (row cs k i c zero_client h)
      (on (eqb i k) (λ b. rw (b, eqb-true i k b) e) (λ b. rw b))
