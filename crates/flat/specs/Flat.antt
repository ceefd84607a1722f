-- The flat combiner as the scope has it: a step's tests, the state after it, what it logs. Assumes nothing.
use Rattle.std.specs.Prelude.{ℕ, ◌+◌, ◌≡◌, refl, Bool, true, false, cond, not, List, [], ◌∷◌, ◌++◌, eqb, ltb, get_or, set, replicate}
use Rattle.machine.specs.Check.{Check, need, rises}
use Rattle.machine.specs.Machine.{Machine}
use Rattle.machine.specs.Codes as code
use Rattle.schedule.specs.Limits as limit
use Rattle.schedule.specs.declared.steps.FlatStep.{FlatStep}
use Rattle.schedule.specs.declared.steps.FlatStep.TheVariants.{ClientSend, ClientRecv, CombinerRecv, CombinerSkip, CombinerGoToResponding}
use Rattle.schedule.specs.declared.steps.FlatStep.TheVariants.{CombinerSend, CombinerSendSkip, CombinerGoToCollecting}
use Rattle.flat.specs.declared.state.Client.{Client}
use Rattle.flat.specs.declared.state.Elem.{Elem}
use Rattle.flat.specs.declared.state.State.{State}
use Rattle.machine.specs.Made.{Fresh}
use Rattle.flat.specs.declared.entry.Entry.{Entry}
use Rattle.flat.specs.declared.entry.Entry.TheVariants.{Answer}

-- ---------- fresh: all idle, slots clear, collecting, nothing gathered; bad parameters are 5 with a state of zeros

abbrev pub zero_client : Client
zero_client = record { rid = 0; req = 0; resp = 0; waiting = false; asked = false; told = false; slot = false }

abbrev pub zero_elem : Elem
zero_elem = record { rid = 0; present = false }

abbrev pub fresh_state : ℕ → State
fresh_state count =
    record { clients = replicate limit.clients zero_client; elems = replicate limit.clients zero_elem; count = count; len = 0; idx = 0; responding = false }

-- a machine that is made, and the code
abbrev pub fresh_of : ℕ → Fresh State
fresh_of count =
    cond (ltb limit.clients count) (record { state = fresh_state 0; code = code.parameter })
    (record { state = fresh_state count; code = code.accepted })

-- ---------- the tests: those on the combiner, then those on the client or the element that the step looks at

abbrev pub client : State → ℕ → Client
client s j = get_or s.clients j zero_client

abbrev pub elem : State → ℕ → Elem
elem s j = get_or s.elems j zero_elem

abbrev pub inside_tests : ℕ → ℕ → List Check
inside_tests count j = need code.outside (ltb j count) ∷ []

abbrev pub gather_tests : Bool → ℕ → ℕ → List Check
gather_tests responding len count = need code.phase (not responding) ∷ need code.cursor (ltb len count) ∷ []

abbrev pub respond_tests : Bool → ℕ → ℕ → List Check
respond_tests responding len count = need code.phase (not responding) ∷ need code.cursor (eqb len count) ∷ []

abbrev pub answer_tests : Bool → ℕ → ℕ → List Check
answer_tests responding idx count = need code.phase responding ∷ need code.cursor (ltb idx count) ∷ []

abbrev pub collect_tests : Bool → ℕ → ℕ → List Check
collect_tests responding idx count = need code.phase responding ∷ need code.cursor (eqb idx count) ∷ []

abbrev pub send_tests : Client → List Check
send_tests c = need code.phase (not c.waiting) ∷ []

abbrev pub recv_tests : Client → List Check
recv_tests c = need code.phase c.waiting ∷ need code.slot (not c.slot) ∷ []

abbrev pub slot_tests : Client → List Check
slot_tests c = need code.slot c.slot ∷ []

-- the element is this very id; the element holds no id
abbrev pub elem_tests : Elem → ℕ → List Check
elem_tests e rid = need code.element e.present ∷ need code.element (eqb rid e.rid) ∷ []

abbrev pub skip_tests : Elem → List Check
skip_tests e = need code.element (not e.present) ∷ []

abbrev pub combiner_tests : State → FlatStep → List Check
combiner_tests s (ClientSend j rid req) = inside_tests s.count j
combiner_tests s (ClientRecv j) = inside_tests s.count j
combiner_tests s CombinerRecv = gather_tests s.responding s.len s.count
combiner_tests s CombinerSkip = gather_tests s.responding s.len s.count
combiner_tests s CombinerGoToResponding = respond_tests s.responding s.len s.count
combiner_tests s (CombinerSend rid resp) = answer_tests s.responding s.idx s.count
combiner_tests s CombinerSendSkip = answer_tests s.responding s.idx s.count
combiner_tests s CombinerGoToCollecting = collect_tests s.responding s.idx s.count

-- combiner_skip is allowed with the slot set
abbrev pub client_tests : State → FlatStep → List Check
client_tests s (ClientSend j rid req) = send_tests (client s j)
client_tests s (ClientRecv j) = recv_tests (client s j)
client_tests s CombinerRecv = slot_tests (client s s.len)
client_tests s CombinerSkip = []
client_tests s CombinerGoToResponding = []
client_tests s (CombinerSend rid resp) = elem_tests (elem s s.idx) rid
client_tests s CombinerSendSkip = skip_tests (elem s s.idx)
client_tests s CombinerGoToCollecting = []

abbrev pub tests : State → FlatStep → List Check
tests s x = combiner_tests s x ++ client_tests s x

-- ---------- the state after

abbrev pub sending : Client → ℕ → ℕ → Client
sending c rid req = record { rid = rid; req = req; resp = c.resp; waiting = true; asked = true; told = c.told; slot = true }

abbrev pub receiving : Client → Client
receiving c = record { rid = 0; req = c.req; resp = 0; waiting = false; asked = c.asked; told = false; slot = c.slot }

-- combiner_recv does not clear the slot
abbrev pub gathering : Client → Client
gathering c = record { rid = c.rid; req = 0; resp = c.resp; waiting = c.waiting; asked = false; told = c.told; slot = c.slot }

abbrev pub keeping : Client → Elem
keeping c = record { rid = c.rid; present = true }

abbrev pub answering : Client → ℕ → Client
answering c resp = record { rid = c.rid; req = c.req; resp = resp; waiting = c.waiting; asked = c.asked; told = true; slot = false }

abbrev pub with_parts : State → List Client → List Elem → ℕ → ℕ → Bool → State
with_parts s cs es l i m = record { clients = cs; elems = es; count = s.count; len = l; idx = i; responding = m }

-- another client at j; one element more; the cursor at the next element
abbrev pub with_client : State → ℕ → Client → State
with_client s j c = with_parts s (set s.clients j c) s.elems s.len s.idx s.responding

abbrev pub with_elem : State → Elem → State
with_elem s e = with_parts s s.clients (set s.elems s.len e) (s.len + 1) s.idx s.responding

abbrev pub with_next : State → State
with_next s = with_parts s s.clients s.elems s.len (s.idx + 1) s.responding

abbrev pub next : State → FlatStep → State
next s (ClientSend j rid req) = with_client s j (sending (client s j) rid req)
next s (ClientRecv j) = with_client s j (receiving (client s j))
next s CombinerRecv = let c = client s s.len in with_elem (with_client s s.len (gathering c)) (keeping c)
next s CombinerSkip = with_elem s zero_elem
next s CombinerGoToResponding = with_parts s s.clients s.elems s.len 0 true
next s (CombinerSend rid resp) = with_next (with_client s s.idx (answering (client s s.idx) resp))
next s CombinerSendSkip = with_next s
next s CombinerGoToCollecting = with_parts s s.clients (replicate limit.clients zero_elem) 0 0 false

-- client_recv logs client, rid, resp
abbrev pub logs : State → FlatStep → List Entry
logs s (ClientSend j rid req) = []
logs s (ClientRecv j) = Answer j (client s j).rid (client s j).resp ∷ []
logs s CombinerRecv = []
logs s CombinerSkip = []
logs s CombinerGoToResponding = []
logs s (CombinerSend rid resp) = []
logs s CombinerSendSkip = []
logs s CombinerGoToCollecting = []

pub rising : (s : State) (x : FlatStep) → rises 1 (tests s x) ≡ true
rising s (ClientSend j rid req) = refl
rising s (ClientRecv j) = refl
rising s CombinerRecv = refl
rising s CombinerSkip = refl
rising s CombinerGoToResponding = refl
rising s (CombinerSend rid resp) = refl
rising s CombinerSendSkip = refl
rising s CombinerGoToCollecting = refl

abbrev pub flat : Machine
flat = record { State = State; Step = FlatStep; Entry = Entry; tests = tests; next = next; logs = logs; rising = rising }
