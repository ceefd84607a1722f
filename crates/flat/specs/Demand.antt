-- Demand 3's share of the flat combiner, said of an accepted history alone. Proved in proofs/Demands.antt and proofs/Exact.antt. Assumes nothing.
use Rattle.std.specs.Prelude.{ℕ, suc, ◌+◌, ◌*◌, ◌≤◌, ◌<◌, ◌≡◌, Bool, true, false, List, [], ◌∷◌, ◌++◌, eqb, length, get_or}
use Rattle.rows.specs.Walk.{tick, bit}
use Rattle.machine.specs.History.{History, Run, did#, AtEach, Throughout}
use Rattle.schedule.specs.Limits as limit
use Rattle.schedule.specs.declared.steps.FlatStep.{FlatStep}
use Rattle.schedule.specs.declared.steps.FlatStep.TheVariants.{ClientSend, ClientRecv, CombinerRecv, CombinerSkip, CombinerGoToResponding}
use Rattle.schedule.specs.declared.steps.FlatStep.TheVariants.{CombinerSend, CombinerSendSkip, CombinerGoToCollecting}
use Rattle.flat.specs.Flat.{flat, fresh_state, client}
use Rattle.flat.specs.declared.state.Client.{Client}
use Rattle.flat.specs.declared.state.State.{State}
use Rattle.flat.specs.declared.entry.Entry.{Entry}
use Rattle.flat.specs.declared.entry.Entry.TheVariants.{Answer}

abbrev pub Hist : Type 0
Hist = History flat

-- a request or a response: an id and a payload
pub record Message : Type 0 where
  pub id : ℕ
  pub load : ℕ

abbrev pub message : ℕ → ℕ → Message
message id load = record { id = id; load = load }

-- l, and m behind it if the test holds
abbrev pub add : Bool → Message → List Message → List Message
add true m l = l ++ m ∷ []
add false m l = l

-- ---------- what is counted: the messages of a history, oldest first

-- the requests that client j sent
abbrev pub add_request : ℕ → FlatStep → List Message → List Message
add_request j (ClientSend i rid req) l = add (eqb j i) (message rid req) l
add_request j (ClientRecv i) l = l
add_request j CombinerRecv l = l
add_request j CombinerSkip l = l
add_request j CombinerGoToResponding l = l
add_request j (CombinerSend rid resp) l = l
add_request j CombinerSendSkip l = l
add_request j CombinerGoToCollecting l = l

abbrev pub requests : Hist → ℕ → List Message
requests [] j = []
requests (e ∷ h) j = add_request j e.did (requests h j)

-- the answers logged for client j
abbrev pub add_answers : ℕ → List Entry → List Message → List Message
add_answers j [] l = l
add_answers j (Answer i rid resp ∷ es) l = add_answers j es (add (eqb j i) (message rid resp) l)

abbrev pub answers : Hist → ℕ → List Message
answers [] j = []
answers (e ∷ h) j = add_answers j e.wrote (answers h j)

-- whose turn it is in a round of responses: the combiner_sends and combiner_send_skips since the latest combiner_go_to_responding
abbrev pub turn_after : FlatStep → ℕ → ℕ
turn_after (ClientSend i rid req) c = c
turn_after (ClientRecv i) c = c
turn_after CombinerRecv c = c
turn_after CombinerSkip c = c
turn_after CombinerGoToResponding c = 0
turn_after (CombinerSend rid resp) c = c + 1
turn_after CombinerSendSkip c = c + 1
turn_after CombinerGoToCollecting c = c

abbrev pub turn : Hist → ℕ
turn [] = 0
turn (e ∷ h) = turn_after e.did (turn h)

-- the combiner_sends made for client j: those at its turn
abbrev pub add_send : ℕ → ℕ → FlatStep → List Message → List Message
add_send j c (ClientSend i rid req) l = l
add_send j c (ClientRecv i) l = l
add_send j c CombinerRecv l = l
add_send j c CombinerSkip l = l
add_send j c CombinerGoToResponding l = l
add_send j c (CombinerSend rid resp) l = add (eqb j c) (message rid resp) l
add_send j c CombinerSendSkip l = l
add_send j c CombinerGoToCollecting l = l

abbrev pub sends : Hist → ℕ → List Message
sends [] j = []
sends (e ∷ h) j = add_send j (turn h) e.did (sends h j)

-- whose place it is in a round of gatherings: the combiner_recvs and combiner_skips since the latest combiner_go_to_collecting
abbrev pub place_after : FlatStep → ℕ → ℕ
place_after (ClientSend i rid req) c = c
place_after (ClientRecv i) c = c
place_after CombinerRecv c = c + 1
place_after CombinerSkip c = c + 1
place_after CombinerGoToResponding c = c
place_after (CombinerSend rid resp) c = c
place_after CombinerSendSkip c = c
place_after CombinerGoToCollecting c = 0

abbrev pub place : Hist → ℕ
place [] = 0
place (e ∷ h) = place_after e.did (place h)

-- the gatherings from client j: the combiner_recvs at its place
abbrev pub add_gathering : ℕ → ℕ → FlatStep → ℕ → ℕ
add_gathering j c (ClientSend i rid req) n = n
add_gathering j c (ClientRecv i) n = n
add_gathering j c CombinerRecv n = tick (eqb j c) n
add_gathering j c CombinerSkip n = n
add_gathering j c CombinerGoToResponding n = n
add_gathering j c (CombinerSend rid resp) n = n
add_gathering j c CombinerSendSkip n = n
add_gathering j c CombinerGoToCollecting n = n

abbrev pub gatherings : Hist → ℕ → ℕ
gatherings [] j = 0
gatherings (e ∷ h) j = add_gathering j (place h) e.did (gatherings h j)

-- the client_recvs of client j
abbrev pub receives : ℕ → FlatStep → Bool
receives j (ClientSend i rid req) = false
receives j (ClientRecv i) = eqb j i
receives j CombinerRecv = false
receives j CombinerSkip = false
receives j CombinerGoToResponding = false
receives j (CombinerSend rid resp) = false
receives j CombinerSendSkip = false
receives j CombinerGoToCollecting = false

abbrev pub recvs : Hist → ℕ → ℕ
recvs h j = did# (receives j) h

-- the combiner's rounds: turned to responding, turned to collecting; its steps in them: at a place, at a turn
abbrev pub to_responding : FlatStep → Bool
to_responding (ClientSend i rid req) = false
to_responding (ClientRecv i) = false
to_responding CombinerRecv = false
to_responding CombinerSkip = false
to_responding CombinerGoToResponding = true
to_responding (CombinerSend rid resp) = false
to_responding CombinerSendSkip = false
to_responding CombinerGoToCollecting = false

abbrev pub to_collecting : FlatStep → Bool
to_collecting (ClientSend i rid req) = false
to_collecting (ClientRecv i) = false
to_collecting CombinerRecv = false
to_collecting CombinerSkip = false
to_collecting CombinerGoToResponding = false
to_collecting (CombinerSend rid resp) = false
to_collecting CombinerSendSkip = false
to_collecting CombinerGoToCollecting = true

abbrev pub at_place : FlatStep → Bool
at_place (ClientSend i rid req) = false
at_place (ClientRecv i) = false
at_place CombinerRecv = true
at_place CombinerSkip = true
at_place CombinerGoToResponding = false
at_place (CombinerSend rid resp) = false
at_place CombinerSendSkip = false
at_place CombinerGoToCollecting = false

abbrev pub at_turn : FlatStep → Bool
at_turn (ClientSend i rid req) = false
at_turn (ClientRecv i) = false
at_turn CombinerRecv = false
at_turn CombinerSkip = false
at_turn CombinerGoToResponding = false
at_turn (CombinerSend rid resp) = true
at_turn CombinerSendSkip = true
at_turn CombinerGoToCollecting = false

-- the k-th, from 0
abbrev pub nth : List Message → ℕ → Message
nth l k = get_or l k (message 0 0)

-- ---------- what each step shows, of the history before it, and what it logs

-- client j takes an answer, its k-th from 0: it has sent k + 1 requests, each was gathered and each got a combiner_send. The k-th of these has the id of the
-- k-th request, and the step logs it, and nothing else
pub record AtClientRecv (before : Hist) (j : ℕ) (log : List Entry) : Type 0 where
  pub asked : length (requests before j) ≡ recvs before j + 1
  pub gathered : gatherings before j ≡ recvs before j + 1
  pub sent : length (sends before j) ≡ recvs before j + 1
  pub own_id : (nth (sends before j) (recvs before j)).id ≡ (nth (requests before j) (recvs before j)).id
  pub told : let m = nth (sends before j) (recvs before j) in log ≡ Answer j m.id m.load ∷ []

-- a combiner_send for client j: of its requests one more was gathered than got one, and this is that one's id
pub record AtCombinerSend (before : Hist) (j rid : ℕ) (log : List Entry) : Type 0 where
  pub gathered : gatherings before j ≡ length (sends before j) + 1
  pub meant : rid ≡ (nth (requests before j) (length (sends before j))).id
  pub quiet : log ≡ []

-- a client_send comes when all requests are answered, a combiner_recv when one more was sent than gathered; nothing else is logged
abbrev pub At : Hist → FlatStep → List Entry → Type 0
At before (ClientSend j rid req) log = (log ≡ []) × (length (requests before j) ≡ recvs before j)
At before (ClientRecv j) log = AtClientRecv before j log
At before CombinerRecv log = (log ≡ []) × (length (requests before (place before)) ≡ gatherings before (place before) + 1)
At before CombinerSkip log = log ≡ []
At before CombinerGoToResponding log = log ≡ []
At before (CombinerSend rid resp) log = AtCombinerSend before (turn before) rid log
At before CombinerSendSkip log = log ≡ []
At before CombinerGoToCollecting log = log ≡ []

-- ---------- which step could come next, by counts alone: the combiner collects, or it responds

abbrev pub Collects : Hist → Type 0
Collects h = did# to_responding h ≡ did# to_collecting h

abbrev pub Responds : Hist → Type 0
Responds h = did# to_responding h ≡ did# to_collecting h + 1

abbrev pub Could : ℕ → Hist → FlatStep → Type 0
Could n h (ClientSend j rid req) = (j < n) × (length (requests h j) ≡ recvs h j)
Could n h (ClientRecv j) = (j < n) × (length (sends h j) ≡ recvs h j + 1)
Could n h CombinerRecv = Collects h × (place h < n) × (length (requests h (place h)) ≡ gatherings h (place h) + 1)
Could n h CombinerSkip = Collects h × (place h < n)
Could n h CombinerGoToResponding = Collects h × (place h ≡ n)
Could n h (CombinerSend rid resp) =
    Responds h × (turn h < n) × (gatherings h (turn h) ≡ length (sends h (turn h)) + 1) × (rid ≡ (nth (requests h (turn h)) (length (sends h (turn h)))).id)
Could n h CombinerSendSkip = Responds h × (turn h < n) × (gatherings h (turn h) ≡ length (sends h (turn h)))
Could n h CombinerGoToCollecting = Responds h × (turn h ≡ n)

-- it could come there, and shows what it must
abbrev pub CouldAt : ℕ → Hist → FlatStep → List Entry → Type 0
CouldAt n before x log = Could n before x × At before x log

-- ---------- the demand

-- the messages of one client: those that it asked, was sent and was told, its gatherings and its client_recvs
pub record InTurn (asked sent told : List Message) (gathered received : ℕ) : Type 0 where
  -- its k-th answer has the id of its k-th request ..
  pub own_id : (k : ℕ) → k < length told → (nth told k).id ≡ (nth asked k).id
  -- .. and is the k-th combiner_send made for it, id and payload, which was made for that request
  pub own_payload : (k : ℕ) → k < length told → nth told k ≡ nth sent k
  pub sent_for : (k : ℕ) → k < length sent → (nth sent k).id ≡ (nth asked k).id
  -- in turn: each client_recv logs one answer, which comes after its combiner_send, that after its gathering, that after its request, and the next request
  -- after the answer. So exactly one gathering and one combiner_send lie between a request and its answer
  pub one_each : length told ≡ received
  pub after_send : received ≤ length sent
  pub after_gathering : length sent ≤ gathered
  pub after_request : gathered ≤ length asked
  pub one_at_a_time : length asked ≤ suc received

abbrev pub Turns : Hist → Type 0
Turns h = (j : ℕ) → InTurn (requests h j) (sends h j) (answers h j) (gatherings h j) (recvs h j)

-- of a history from a fresh machine of n clients: each step could come where it did, and what it shows; and the messages after each part of it
pub record Demand (n : ℕ) (h : Hist) : Type 0 where
  pub steps : AtEach (CouldAt n) h
  pub turns : Throughout Turns h

-- after every accepted prefix from a fresh machine
abbrev pub Demanded : Type 0
Demanded = (n : ℕ) → n ≤ limit.clients → (h : Hist) (s : State) → Run flat (fresh_state n) h s → Demand n h

-- ---------- the state, told by the history

-- client j: it waits if a request was not answered, its request is stored if it was not gathered, a response is stored if it was not received; and what is
-- stored is that request and that combiner_send
pub record ClientTold (h : Hist) (j : ℕ) (c : Client) : Type 0 where
  pub waiting : length (requests h j) ≡ recvs h j + bit c.waiting
  pub asked : length (requests h j) ≡ gatherings h j + bit c.asked
  pub told : length (sends h j) ≡ recvs h j + bit c.told
  pub id : c.waiting ≡ true → c.rid ≡ (nth (requests h j) (recvs h j)).id
  pub request : c.asked ≡ true → message c.rid c.req ≡ nth (requests h j) (recvs h j)
  pub response : c.told ≡ true → message c.rid c.resp ≡ nth (sends h j) (recvs h j)

-- the combiner of n clients: each round has n steps at a place and n at a turn
pub record CombinerTold (n : ℕ) (h : Hist) (s : State) : Type 0 where
  pub count : s.count ≡ n
  pub mode : did# to_responding h ≡ did# to_collecting h + bit s.responding
  pub gathered : s.len + n * did# to_collecting h ≡ did# at_place h
  pub cursor : s.idx + n * did# to_collecting h ≡ did# at_turn h
  pub place_is : place h ≡ s.len
  pub turn_is : s.responding ≡ true → turn h ≡ s.idx

abbrev pub StateCounted : Type 0
StateCounted = (n : ℕ) → n ≤ limit.clients → (h : Hist) (s : State) → Run flat (fresh_state n) h s
    → CombinerTold n h s × ((j : ℕ) → ClientTold h j (client s j))

-- ---------- no other histories: where each step could come and shows what it must, a machine did it

abbrev pub Only : ℕ → Type 0
Only n = (h : Hist) → (((s : State) × Run flat (fresh_state n) h s) → AtEach (CouldAt n) h) × (AtEach (CouldAt n) h → (s : State) × Run flat (fresh_state n) h s)

abbrev pub Exactly : Type 0
Exactly = (n : ℕ) → n ≤ limit.clients → Only n
