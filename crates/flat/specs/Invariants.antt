-- The eight invariants of flat_combine.rs and the predicates that they are made of, under their own names. Assumes nothing.
use Rattle.std.specs.Prelude.{ℕ, ◌≤◌, ◌<◌, ◌≡◌, true, false, ◌⊎◌, length, get_or}
use Rattle.std.proofs.Math.Option.{Option, none, some}
use Rattle.flat.specs.Source.{Request, Response, Idle, Waiting, Combiner, Collecting, Responding, FlatCombiner}

-- a key is in a map's domain
abbrev pub Contains : {A : Type 0} → (ℕ → Option A) → ℕ → Type 0
Contains {A} m i = (a : A) × (m i ≡ some a)

abbrev pub valid_idx : FlatCombiner → ℕ → Type 0
valid_idx m i = i < m.num_clients

abbrev pub client_waiting : FlatCombiner → ℕ → Type 0
client_waiting m i = valid_idx m i × ((rid : ℕ) × (m.clients i ≡ some (Waiting rid)))

-- the combiner holds this id of client i
abbrev pub holds_rid : Combiner → ℕ → ℕ → Type 0
holds_rid (Collecting elems) i rid = (i < length elems) × (get_or elems i none ≡ some rid)
holds_rid (Responding elems idx) i rid = (idx ≤ i) × (get_or elems i none ≡ some rid)

abbrev pub combiner_has : FlatCombiner → ℕ → Type 0
combiner_has m i = valid_idx m i × ((rid : ℕ) × holds_rid m.combiner i rid)

abbrev pub request_stored : FlatCombiner → ℕ → Type 0
request_stored m i = Contains m.requests i

abbrev pub response_stored : FlatCombiner → ℕ → Type 0
response_stored m i = Contains m.responses i

pub record clients_complete (m : FlatCombiner) : Type 0 where
  pub inside : (i : ℕ) → valid_idx m i → Contains m.clients i
  pub outside : (i : ℕ) → m.num_clients ≤ i → m.clients i ≡ none

pub record slots_complete (m : FlatCombiner) : Type 0 where
  pub inside : (i : ℕ) → valid_idx m i → Contains m.slots i
  pub outside : (i : ℕ) → m.num_clients ≤ i → m.slots i ≡ none

abbrev pub sized : Combiner → ℕ → Type 0
sized (Collecting elems) n = length elems ≤ n
sized (Responding elems idx) n = (length elems ≡ n) × (idx ≤ n)

abbrev pub clients_size : FlatCombiner → Type 0
clients_size m = sized m.combiner m.num_clients

abbrev pub not_waiting_inv : FlatCombiner → Type 0
not_waiting_inv m = (i : ℕ) → valid_idx m i → m.clients i ≡ some Idle → m.slots i ≡ some false

abbrev pub waiting_inv : FlatCombiner → Type 0
waiting_inv m = (i : ℕ) → client_waiting m i → request_stored m i ⊎ response_stored m i ⊎ combiner_has m i

abbrev pub request_stored_inv : FlatCombiner → Type 0
request_stored_inv m = (i : ℕ) (q : Request) → m.requests i ≡ some q
    → valid_idx m i × (m.clients i ≡ some (Waiting q.rid)) × (m.slots i ≡ some true)

abbrev pub response_stored_inv : FlatCombiner → Type 0
response_stored_inv m = (i : ℕ) (p : Response) → m.responses i ≡ some p
    → valid_idx m i × (m.clients i ≡ some (Waiting p.rid)) × (m.slots i ≡ some false)

abbrev pub combiner_has_inv : FlatCombiner → Type 0
combiner_has_inv m = (i rid : ℕ) → valid_idx m i → holds_rid m.combiner i rid
    → (m.clients i ≡ some (Waiting rid)) × (m.slots i ≡ some true) × (m.requests i ≡ none)

pub record Invariants (m : FlatCombiner) : Type 0 where
  pub clients : clients_complete m
  pub slots : slots_complete m
  pub size : clients_size m
  pub idle : not_waiting_inv m
  pub waiting : waiting_inv m
  pub requests : request_stored_inv m
  pub responses : response_stored_inv m
  pub combiner : combiner_has_inv m
