-- How a state stands for the source's, and what is proved of the two: proofs/Refines.antt. Assumes nothing.
use Rattle.std.specs.Prelude.{ℕ, ◌≤◌, ◌≡◌, Bool, true, false, cond, List, [], ◌∷◌, map, ltb, length, get_or, take}
use Rattle.std.proofs.Math.Option.{Option, none, some}
use Rattle.machine.specs.Codes as code
use Rattle.machine.specs.Sourced.{Line, line, Sourced, Inductive, Complete, Upholds}
use Rattle.schedule.specs.Limits as limit
use Rattle.schedule.specs.declared.steps.FlatStep.{FlatStep}
use Rattle.schedule.specs.declared.steps.FlatStep.TheVariants.{ClientSend, ClientRecv, CombinerRecv, CombinerSkip, CombinerGoToResponding}
use Rattle.schedule.specs.declared.steps.FlatStep.TheVariants.{CombinerSend, CombinerSendSkip, CombinerGoToCollecting}
use Rattle.flat.specs.Source as source
use Rattle.flat.specs.Source.{FlatCombiner, Transition, Moves, Safe}
use Rattle.flat.specs.Invariants.{Invariants}
use Rattle.flat.specs.Flat.{flat, zero_client, zero_elem, fresh_state, client, elem}
use Rattle.flat.specs.Sound.{sound}
use Rattle.flat.specs.declared.state.Client.{Client}
use Rattle.flat.specs.declared.state.Elem.{Elem}
use Rattle.flat.specs.declared.state.State.{State}
use Rattle.flat.specs.declared.entry.Entry.{Entry}
use Rattle.flat.specs.declared.entry.Entry.TheVariants.{Answer}

-- a value where there is one
abbrev pub given : {A : Type 0} → Bool → A → Option A
given b a = cond b (some a) none

abbrev pub client_of : Client → source.Client
client_of c = cond c.waiting (source.Waiting c.rid) source.Idle

abbrev pub elem_of : Elem → Option ℕ
elem_of e = given e.present e.rid

-- the combiner's Seq: the gathered elements, kept in a row beside the mode
abbrev pub gathered : State → List (Option ℕ)
gathered s = map elem_of (take s.len s.elems)

abbrev pub combiner_of : State → source.Combiner
combiner_of s = cond s.responding (source.Responding (gathered s) s.idx) (source.Collecting (gathered s))

-- request and response carry the client's own id
abbrev pub abs : State → FlatCombiner
abs s =
    record {
      num_clients = s.count;
      clients = λ i. given (ltb i s.count) (client_of (client s i));
      slots = λ i. given (ltb i s.count) (client s i).slot;
      combiner = combiner_of s;
      requests = λ i. given (client s i).asked (record { rid = (client s i).rid; req = (client s i).req });
      responses = λ i. given (client s i).told (record { rid = (client s i).rid; resp = (client s i).resp });
    }

abbrev pub label : FlatStep → Transition
label (ClientSend j rid req) = source.client_send j (record { rid = rid; req = req })
label (ClientRecv j) = source.client_recv j
label CombinerRecv = source.combiner_recv
label CombinerSkip = source.combiner_skip
label CombinerGoToResponding = source.combiner_go_to_responding
label (CombinerSend rid resp) = source.combiner_send (record { rid = rid; resp = resp })
label CombinerSendSkip = source.combiner_send_skip
label CombinerGoToCollecting = source.combiner_go_to_collecting

-- ---------- soundness: the source's invariants, the limits, unused entries zero

pub record Sound (s : State) : Type 0 where
  pub inv : Invariants (abs s)
  -- the rows are whole, the clients in their limits, and what was gathered lies in its row
  pub whole_clients : length s.clients ≡ limit.clients
  pub whole_elems : length s.elems ≡ limit.clients
  pub few : s.count ≤ limit.clients
  pub few_gathered : s.len ≤ limit.clients
  -- a client that is not there; an idle client's id; what no request and no response is stored in; the cursor while collecting; an element not gathered; the id
  -- of an empty one
  pub unused_clients : (j : ℕ) → s.count ≤ j → client s j ≡ zero_client
  pub unused_rid : (j : ℕ) → (client s j).waiting ≡ false → (client s j).rid ≡ 0
  pub unused_req : (j : ℕ) → (client s j).asked ≡ false → (client s j).req ≡ 0
  pub unused_resp : (j : ℕ) → (client s j).told ≡ false → (client s j).resp ≡ 0
  pub unused_cursor : s.responding ≡ false → s.idx ≡ 0
  pub unused_elems : (j : ℕ) → s.len ≤ j → elem s j ≡ zero_elem
  pub unused_ids : (j : ℕ) → (elem s j).present ≡ false → (elem s j).rid ≡ 0

-- ---------- the scope's table of codes, said of flat_combine.rs. No step counts, so that no counter's limit is ever reached

-- the combiner collects, and P of what it has gathered; it responds, and P of that and its cursor
abbrev pub Collects : source.Combiner → (List (Option ℕ) → Type 0) → Type 0
Collects (source.Collecting elems) P = P elems
Collects (source.Responding elems j) P = ⊥

abbrev pub Responds : source.Combiner → (List (Option ℕ) → ℕ → Type 0) → Type 0
Responds (source.Collecting elems) P = ⊥
Responds (source.Responding elems j) P = P elems j

module _ (a : FlatCombiner) where
  abbrev at_work : Line
  at_work = line code.phase (Responds a.combiner (λ elems j. Unit {0}))

  abbrev at_rest : Line
  at_rest = line code.phase (Collects a.combiner (λ elems. Unit {0}))

  abbrev pub lines : Transition → List Line
  lines (source.client_send j request) =
      line code.outside (a.num_clients ≤ j) ∷ line code.phase ((rid : ℕ) × (a.clients j ≡ some (source.Waiting rid))) ∷ []
  lines (source.client_recv j) =
      line code.outside (a.num_clients ≤ j) ∷ line code.phase (a.clients j ≡ some source.Idle) ∷ line code.slot (a.slots j ≡ some true) ∷ []
  lines source.combiner_recv =
      at_work
      ∷ line code.cursor (Collects a.combiner (λ elems. a.num_clients ≤ length elems))
      ∷ line code.slot (Collects a.combiner (λ elems. a.slots (length elems) ≡ some false)) ∷ []
  lines source.combiner_skip = at_work ∷ line code.cursor (Collects a.combiner (λ elems. a.num_clients ≤ length elems)) ∷ []
  lines source.combiner_go_to_responding = at_work ∷ line code.cursor (Collects a.combiner (λ elems. length elems ≡ a.num_clients → ⊥)) ∷ []
  lines (source.combiner_send response) =
      at_rest
      ∷ line code.cursor (Responds a.combiner (λ elems j. a.num_clients ≤ j))
      ∷ line code.element (Responds a.combiner (λ elems j. get_or elems j none ≡ some response.rid → ⊥)) ∷ []
  lines source.combiner_send_skip =
      at_rest
      ∷ line code.cursor (Responds a.combiner (λ elems j. a.num_clients ≤ j))
      ∷ line code.element (Responds a.combiner (λ elems j. (rid : ℕ) × (get_or elems j none ≡ some rid))) ∷ []
  lines source.combiner_go_to_collecting = at_rest ∷ line code.cursor (Responds a.combiner (λ elems j. j ≡ a.num_clients → ⊥)) ∷ []

-- what the source hands out: client_recv the response that it withdraws
abbrev pub HandsOut : FlatCombiner → Transition → List Entry → Type 0
HandsOut pre (source.client_send j request) es = es ≡ []
HandsOut pre (source.client_recv j) es = (p : source.Response) × (pre.responses j ≡ some p) × (es ≡ Answer j p.rid p.resp ∷ [])
HandsOut pre source.combiner_recv es = es ≡ []
HandsOut pre source.combiner_skip es = es ≡ []
HandsOut pre source.combiner_go_to_responding es = es ≡ []
HandsOut pre (source.combiner_send response) es = es ≡ []
HandsOut pre source.combiner_send_skip es = es ≡ []
HandsOut pre source.combiner_go_to_collecting es = es ≡ []

-- the machine beside flat_combine.rs: `Enabled`, `Route` and `Exact` of machine/specs/Sourced.antt are said of it
abbrev pub flat_combine : Sourced flat
flat_combine =
    record {
      Source = FlatCombiner;
      Transition = Transition;
      Moves = Moves;
      Safe = Safe;
      HandsOut = HandsOut;
      lines = lines;
      abs = abs;
      label = label;
    }

-- ---------- what is proved

pub record Refines : Type 0 where
  -- a fresh machine of any number of clients in its limits is the source's, and sound
  pub fresh_initialize : (n : ℕ) → n ≤ limit.clients → abs (fresh_state n) ≡ source.initialize n
  pub fresh_sound : (n : ℕ) → n ≤ limit.clients → sound (fresh_state n) ≡ true
  -- the test is the record, where the rows are whole, as every row of the code is
  pub sound_means : (s : State) → length s.clients ≡ limit.clients → length s.elems ≡ limit.clients → sound s ≡ true → Sound s
  pub means_sound : (s : State) → Sound s → sound s ≡ true
  -- of a sound state: a step is accepted exactly when it is enabled, and then does what the source says and leaves a sound state
  pub upholds : Upholds flat_combine Sound
  -- the source's own proofs, over all of its states: it starts with its invariants, and its transitions keep them
  pub initial : (n : ℕ) → Invariants (source.initialize n)
  pub inductive : Inductive flat_combine Invariants
  -- its table: a transition leads somewhere exactly if no line applies
  pub complete : Complete flat_combine Invariants
