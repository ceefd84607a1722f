-- Made-up histories, the newest step first, that the demand refuses: it is not met by just any history. The machine has two clients, or one. Assumes nothing.
use Prim.Native.Nat.{ℕ}
use mathlib.Core.Path.{refl, ap}
use mathlib.Core.List.{[], ◌∷◌}
use native.Mathlib.Omega.{arith}
use Rattle.rows.proofs.Cases.{clash}
use Rattle.machine.specs.History.{Event}
use Rattle.schedule.specs.declared.steps.FlatStep.{FlatStep}
use Rattle.schedule.specs.declared.steps.FlatStep.TheVariants.{ClientSend, ClientRecv, CombinerRecv, CombinerSkip, CombinerGoToResponding}
use Rattle.schedule.specs.declared.steps.FlatStep.TheVariants.{CombinerSend, CombinerSendSkip, CombinerGoToCollecting}
use Rattle.flat.specs.Demand.{Hist, Message, Demand}
use Rattle.flat.specs.declared.entry.Entry.{Entry}
use Rattle.flat.specs.declared.entry.Entry.TheVariants.{Answer}

-- a step that logs nothing
abbrev does : FlatStep → Event FlatStep Entry
does x = record { did = x; wrote = [] }

abbrev asks : ℕ → ℕ → ℕ → Event FlatStep Entry
asks j rid req = does (ClientSend j rid req)

abbrev sends : ℕ → ℕ → Event FlatStep Entry
sends rid resp = does (CombinerSend rid resp)

abbrev is_told : ℕ → ℕ → ℕ → Event FlatStep Entry
is_told j rid resp = record { did = ClientRecv j; wrote = Answer j rid resp ∷ [] }

abbrev gathers : Event FlatStep Entry
gathers = does CombinerRecv

abbrev responds : Event FlatStep Entry
responds = does CombinerGoToResponding

abbrev collects : Event FlatStep Entry
collects = does CombinerGoToCollecting

-- two clients ask under one id, and 10 is sent for client 0, 20 for client 1
abbrev two_served : Hist
two_served = sends 7 20 ∷ sends 7 10 ∷ responds ∷ gathers ∷ gathers ∷ asks 1 7 2 ∷ asks 0 7 1 ∷ []

-- one client is served
abbrev one_served : Hist
one_served = sends 7 10 ∷ responds ∷ gathers ∷ asks 0 7 1 ∷ []

-- the answers of two clients are swapped: matched by id, either would do
pub swapped : Demand 2 (is_told 1 7 10 ∷ is_told 0 7 20 ∷ two_served) → ⊥
swapped d = omega (arith, ap (λ (m : Message). m.load) ((d.turns [] _ refl 0).own_payload 0 (omega arith)))

-- one of them alone is wrong already
pub another_clients : Demand 2 (is_told 1 7 10 ∷ two_served) → ⊥
another_clients d = omega (arith, ap (λ (m : Message). m.load) ((d.turns [] _ refl 1).own_payload 0 (omega arith)))

-- two combiner_sends are made for one request
pub sent_twice : Demand 2 (sends 7 11 ∷ responds ∷ does CombinerSkip ∷ collects ∷ one_served) → ⊥
sent_twice d = omega (arith, (d.turns [] _ refl 0).after_gathering)

-- an answer has the payload of an earlier turn, its id being the same
pub another_turns : Demand 2 (is_told 0 7 10 ∷ sends 7 20 ∷ responds ∷ gathers ∷ asks 0 7 2 ∷ collects ∷ is_told 0 7 10 ∷ one_served) → ⊥
another_turns d = omega (arith, ap (λ (m : Message). m.load) ((d.turns [] _ refl 0).own_payload 1 (omega arith)))

-- an answer, and a combiner_send, has the id of another request
pub another_id : Demand 2 (is_told 0 8 10 ∷ sends 8 20 ∷ sends 7 10 ∷ responds ∷ gathers ∷ gathers ∷ asks 1 8 2 ∷ asks 0 7 1 ∷ []) → ⊥
another_id d = omega (arith, (d.turns [] _ refl 0).own_id 0 (omega arith))

pub sent_another_id : Demand 2 (sends 8 10 ∷ responds ∷ gathers ∷ asks 0 7 1 ∷ []) → ⊥
sent_another_id d = omega (arith, (d.turns [] _ refl 0).sent_for 0 (omega arith))

-- a combiner_send goes to the client whose turn it is: after a skip that is the next one, who asked nothing
pub another_turn : Demand 2 (sends 7 10 ∷ does CombinerSendSkip ∷ responds ∷ does CombinerSkip ∷ gathers ∷ asks 0 7 1 ∷ []) → ⊥
another_turn d = omega (arith, (d.turns [] _ refl 1).after_gathering)

-- an answer comes with no request, and one comes with no combiner_send
pub unasked : Demand 2 (is_told 0 0 0 ∷ []) → ⊥
unasked d = omega (arith, (d.turns [] _ refl 0).after_send)

pub unasked_sent : Demand 2 (is_told 0 7 10 ∷ sends 7 10 ∷ responds ∷ []) → ⊥
unasked_sent d = omega (arith, (d.turns [] _ refl 0).after_gathering)

pub unserved : Demand 2 (is_told 0 7 10 ∷ responds ∷ gathers ∷ asks 0 7 1 ∷ []) → ⊥
unserved d = omega (arith, (d.turns [] _ refl 0).after_send)

-- the answer is logged twice
pub told_twice : Demand 2 (is_told 0 7 10 ∷ is_told 0 7 10 ∷ one_served) → ⊥
told_twice d = omega (arith, (d.turns [] _ refl 0).after_send)

-- a second request comes before the answer
pub asked_twice : Demand 2 (asks 0 8 2 ∷ asks 0 7 1 ∷ []) → ⊥
asked_twice d = omega (arith, (d.turns [] _ refl 0).one_at_a_time)

-- ---------- what a step logs, and where it stands in the history

-- a client_recv that logs nothing, or another payload than that of its combiner_send
pub untold : Demand 2 (does (ClientRecv 0) ∷ one_served) → ⊥
untold d = clash (cc (d.steps [] _ _ refl).1.told)

pub told_otherwise : Demand 2 (is_told 0 7 11 ∷ one_served) → ⊥
told_otherwise d = clash (cc (d.steps [] _ _ refl).1.told)

-- an answer is logged by another step
pub told_elsewhere : Demand 2 (record { did = CombinerGoToCollecting; wrote = Answer 0 7 10 ∷ [] } ∷ one_served) → ⊥
told_elsewhere d = clash (cc (d.steps [] _ _ refl).1)

-- answered, and never gathered
pub ungathered : Demand 2 (is_told 0 7 10 ∷ sends 7 10 ∷ responds ∷ does CombinerSkip ∷ asks 0 7 1 ∷ []) → ⊥
ungathered d = omega (arith, (d.steps [] (is_told 0 7 10) (sends 7 10 ∷ responds ∷ does CombinerSkip ∷ asks 0 7 1 ∷ []) refl).1.gathered)

-- gathered at the place of another, who asked nothing
pub gathered_elsewhere : Demand 2 (gathers ∷ does CombinerSkip ∷ asks 0 7 1 ∷ []) → ⊥
gathered_elsewhere d = omega (arith, (d.turns [] _ refl 1).after_request)

-- wrong at first, and right at the end: the answer was logged before it was sent
pub told_too_early : Demand 2 (sends 7 10 ∷ is_told 0 7 10 ∷ responds ∷ gathers ∷ asks 0 7 1 ∷ []) → ⊥
told_too_early d = omega (arith, (d.steps (sends 7 10 ∷ []) (is_told 0 7 10) (responds ∷ gathers ∷ asks 0 7 1 ∷ []) refl).1.sent)

-- ---------- a step that could not come there

-- a combiner_send while the combiner collects; one round's combiner_recv for a client that is not there
pub sent_collecting : Demand 1 (sends 7 10 ∷ gathers ∷ asks 0 7 1 ∷ []) → ⊥
sent_collecting d = omega (arith, (d.steps [] (sends 7 10) (gathers ∷ asks 0 7 1 ∷ []) refl).0.0)

pub gathered_outside : Demand 1 (gathers ∷ gathers ∷ asks 0 7 1 ∷ []) → ⊥
gathered_outside d = omega (arith, (d.steps [] gathers (gathers ∷ asks 0 7 1 ∷ []) refl).0.1)
