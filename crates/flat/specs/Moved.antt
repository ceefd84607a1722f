-- The transitions on one client and its element, also on those that no sound state has. Assumes nothing.
use Rattle.std.specs.Prelude.{ℕ, ◌≡◌, ◌<◌, true, Result, Ok, Err}
use Rattle.machine.specs.Check.{first}
use Rattle.machine.specs.Move.{Moved, moving}
use Rattle.machine.specs.Refusals.{number}
use Rattle.machine.specs.declared.refusal.Refusal.{Refusal}
use Rattle.schedule.specs.Limits as limit
use Rattle.flat.specs.Flat.{zero_elem, inside_tests, send_tests, recv_tests, slot_tests, elem_tests, sending, receiving, gathering, keeping, answering}
use Rattle.flat.specs.Sound.{sound}
use Rattle.flat.specs.declared.state.Client.{Client}
use Rattle.flat.specs.declared.state.Elem.{Elem}
use Rattle.flat.specs.declared.state.State.{State}
use Rattle.flat.specs.declared.combiner.Gathered.{Gathered}

abbrev pub sent_client : Client → ℕ → ℕ → Moved Client
sent_client c rid req = moving (send_tests c) true (sending c rid req) c

-- a waiting client with its slot clear has its response stored
abbrev pub received_client : Client → Moved Client
received_client c = moving (recv_tests c) c.told (receiving c) c

-- a client of which nothing was gathered
abbrev pub ungathered : Client → Gathered
ungathered c = record { client = c; elem = zero_elem }

-- at the combiner's turn a client with its slot set has its request stored
abbrev pub gathered_client : Client → Moved Gathered
gathered_client c = moving (slot_tests c) c.asked (record { client = gathering c; elem = keeping c }) (ungathered c)

abbrev pub answered_client : Client → Elem → ℕ → ℕ → Moved Client
answered_client c e rid resp = moving (elem_tests e rid) true (answering c resp) c

-- the index of client j in the row; where there is no such client the refusal is that of its test
abbrev pub Indexed : State → ℕ → Result ℕ Refusal → Type 0
Indexed s j (Ok i) = (i ≡ j) × (i < limit.clients) × (0 ≡ first (inside_tests s.count j))
Indexed s j (Err why) = sound s ≡ true → number why ≡ first (inside_tests s.count j)
