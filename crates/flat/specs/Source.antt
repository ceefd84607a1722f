-- flat_combine.rs, FlatCombiner, transcribed with numbers for rid, req and resp: its fields, `initialize`, its eight transitions and what they deposit and
-- withdraw, under their own names. A map is a function to options, the combiner's Seq a list. A transition is a record with the variables that a `let`
-- binds, a field for each `require`, `have` and for what a `remove` finds, and the state after as one equation. Assumes nothing.
use Rattle.std.specs.Prelude.{ℕ, ◌+◌, ◌<◌, ◌≡◌, Bool, true, false, cond, List, [], ◌∷◌, ◌++◌, ltb, length, get_or}
use Rattle.std.proofs.Math.Option.{Option, none, some}
use Rattle.machine.specs.Map.{Map, at_key, without}

pub record Request : Type 0 where
  pub rid : ℕ
  pub req : ℕ

pub record Response : Type 0 where
  pub rid : ℕ
  pub resp : ℕ

pub data Client : Type 0 where
  Idle : Client
  Waiting : ℕ → Client

pub data Combiner : Type 0 where
  Collecting : List (Option ℕ) → Combiner
  Responding : List (Option ℕ) → ℕ → Combiner

pub record FlatCombiner : Type 0 where
  pub num_clients : ℕ
  pub clients : Map Client
  pub slots : Map Bool
  pub combiner : Combiner
  pub requests : Map Request
  pub responses : Map Response

abbrev pub with_parts : FlatCombiner → Map Client → Map Bool → Combiner → Map Request → Map Response → FlatCombiner
with_parts pre clients slots combiner requests responses =
    record { num_clients = pre.num_clients; clients = clients; slots = slots; combiner = combiner; requests = requests; responses = responses }

abbrev pub initialize : ℕ → FlatCombiner
initialize num_clients =
    record {
      num_clients = num_clients;
      clients = λ i. cond (ltb i num_clients) (some Idle) none;
      slots = λ i. cond (ltb i num_clients) (some false) none;
      combiner = Collecting [];
      requests = λ i. none;
      responses = λ i. none;
    }

-- ---------- client transitions

-- cur_slot is read from the state
pub record ClientSend (pre : FlatCombiner) (j : ℕ) (request : Request) (post : FlatCombiner) : Type 0 where
  pub require : j < pre.num_clients
  pub removes_client : pre.clients j ≡ some Idle
  pub cur_slot : Bool
  pub removes_slot : pre.slots j ≡ some cur_slot
  pub update : post ≡
      with_parts pre (at_key j (Waiting request.rid) pre.clients) (at_key j true pre.slots) pre.combiner
      (at_key j request pre.requests) pre.responses

pub record ClientRecv (pre : FlatCombiner) (j : ℕ) (post : FlatCombiner) : Type 0 where
  pub require : j < pre.num_clients
  pub rid : ℕ
  pub removes : pre.clients j ≡ some (Waiting rid)
  pub have : pre.slots j ≡ some false
  pub update : post ≡ with_parts pre (at_key j Idle pre.clients) pre.slots pre.combiner pre.requests (without j pre.responses)

-- ---------- combiner transitions

-- the request that is withdrawn is the one that is stored; Safe says that one is
pub record CombinerRecv (pre post : FlatCombiner) : Type 0 where
  pub elems : List (Option ℕ)
  pub require : pre.combiner ≡ Collecting elems
  pub require_left : length elems < pre.num_clients
  pub have : pre.slots (length elems) ≡ some true
  pub request : Request
  pub withdraws : (stored : Request) → pre.requests (length elems) ≡ some stored → request ≡ stored
  pub update : post ≡
      with_parts pre pre.clients pre.slots (Collecting (elems ++ (some request.rid ∷ []))) (without (length elems) pre.requests) pre.responses

pub record CombinerSkip (pre post : FlatCombiner) : Type 0 where
  pub elems : List (Option ℕ)
  pub require : pre.combiner ≡ Collecting elems
  pub require_left : length elems < pre.num_clients
  pub update : post ≡ with_parts pre pre.clients pre.slots (Collecting (elems ++ (none ∷ []))) pre.requests pre.responses

pub record CombinerGoToResponding (pre post : FlatCombiner) : Type 0 where
  pub elems : List (Option ℕ)
  pub require : pre.combiner ≡ Collecting elems
  pub require_full : length elems ≡ pre.num_clients
  pub update : post ≡ with_parts pre pre.clients pre.slots (Responding elems 0) pre.requests pre.responses

pub record CombinerSend (pre : FlatCombiner) (response : Response) (post : FlatCombiner) : Type 0 where
  pub elems : List (Option ℕ)
  pub j : ℕ
  pub require : pre.combiner ≡ Responding elems j
  pub require_left : j < pre.num_clients
  pub require_rid : get_or elems j none ≡ some response.rid
  pub cur_slot : Bool
  pub removes_slot : pre.slots j ≡ some cur_slot
  pub update : post ≡
      with_parts pre pre.clients (at_key j false pre.slots) (Responding elems (j + 1)) pre.requests (at_key j response pre.responses)

pub record CombinerSendSkip (pre post : FlatCombiner) : Type 0 where
  pub elems : List (Option ℕ)
  pub j : ℕ
  pub require : pre.combiner ≡ Responding elems j
  pub require_left : j < pre.num_clients
  pub require_none : get_or elems j none ≡ none
  pub update : post ≡ with_parts pre pre.clients pre.slots (Responding elems (j + 1)) pre.requests pre.responses

pub record CombinerGoToCollecting (pre post : FlatCombiner) : Type 0 where
  pub elems : List (Option ℕ)
  pub require : pre.combiner ≡ Responding elems pre.num_clients
  pub update : post ≡ with_parts pre pre.clients pre.slots (Collecting []) pre.requests pre.responses

pub data Transition : Type 0 where
  client_send : ℕ → Request → Transition
  client_recv : ℕ → Transition
  combiner_recv combiner_skip combiner_go_to_responding : Transition
  combiner_send : Response → Transition
  combiner_send_skip combiner_go_to_collecting : Transition

abbrev pub Moves : FlatCombiner → Transition → FlatCombiner → Type 0
Moves pre (client_send j request) post = ClientSend pre j request post
Moves pre (client_recv j) post = ClientRecv pre j post
Moves pre combiner_recv post = CombinerRecv pre post
Moves pre combiner_skip post = CombinerSkip pre post
Moves pre combiner_go_to_responding post = CombinerGoToResponding pre post
Moves pre (combiner_send response) post = CombinerSend pre response post
Moves pre combiner_send_skip post = CombinerSendSkip pre post
Moves pre combiner_go_to_collecting post = CombinerGoToCollecting pre post

-- `deposit` and `withdraw` ask nothing of a caller; the source owes that they are safe: a deposit finds its place empty, a withdrawal finds what it takes,
-- and the response that a client takes carries the client's own id (a comment there)
abbrev pub Safe : FlatCombiner → Transition → Type 0
Safe pre (client_send j request) = pre.requests j ≡ none
Safe pre (client_recv j) = (rid resp : ℕ) × (pre.clients j ≡ some (Waiting rid)) × (pre.responses j ≡ some (record { rid = rid; resp = resp }))
Safe pre combiner_recv = (elems : List (Option ℕ)) × (request : Request) × (pre.combiner ≡ Collecting elems) × (pre.requests (length elems) ≡ some request)
Safe pre combiner_skip = Unit {0}
Safe pre combiner_go_to_responding = Unit {0}
Safe pre (combiner_send response) = (elems : List (Option ℕ)) × (j : ℕ) × (pre.combiner ≡ Responding elems j) × (pre.responses j ≡ none)
Safe pre combiner_send_skip = Unit {0}
Safe pre combiner_go_to_collecting = Unit {0}
