-- Small cases of each step, written from the scope ("Codes", "Flat combiner", "Log and image", P1, P3 to P6) and not from specs/Flat.antt: for each step
-- one that is accepted, and for each of its tests one that this test refuses. Proved by one claim, in proofs/Tabled.antt. Assumes nothing.
use Rattle.std.specs.Prelude.{ℕ, ◌≡◌, Bool, true, false, ◌&&◌, List, [], ◌∷◌, ◌++◌, length, take, replicate}
use Rattle.machine.specs.Table.{Case, runs, does, refuses, Start, starts, all_right, all_wrong, all_started, none_started}
use Rattle.schedule.specs.Limits as limit
use Rattle.schedule.specs.declared.steps.FlatStep.TheVariants.{ClientSend, ClientRecv, CombinerRecv, CombinerSkip, CombinerGoToResponding}
use Rattle.schedule.specs.declared.steps.FlatStep.TheVariants.{CombinerSend, CombinerSendSkip, CombinerGoToCollecting}
use Rattle.flat.specs.Flat.{flat, fresh_of}
use Rattle.flat.specs.Sound.{sound}
use Rattle.flat.specs.Image.{image_bytes, entry_bytes}
use Rattle.flat.specs.declared.state.Client.{Client}
use Rattle.flat.specs.declared.state.Elem.{Elem}
use Rattle.flat.specs.declared.state.State.{State}

-- ---------- the states

-- a client with its request stored, gathered, with its response stored, idle: written out from the scope, and not taken from the stages of
-- proofs/Stages.antt, so that the table stays apart from what is proved

abbrev asks : ℕ → ℕ → Client
asks rid req = record { rid = rid; req = req; resp = 0; waiting = true; asked = true; told = false; slot = true }

abbrev gathered : ℕ → Client
gathered rid = record { rid = rid; req = 0; resp = 0; waiting = true; asked = false; told = false; slot = true }

abbrev answered : ℕ → ℕ → Client
answered rid resp = record { rid = rid; req = 0; resp = resp; waiting = true; asked = false; told = true; slot = false }

abbrev idle : Client
idle = record { rid = 0; req = 0; resp = 0; waiting = false; asked = false; told = false; slot = false }

abbrev holds : ℕ → Elem
holds rid = record { rid = rid; present = true }

abbrev nothing : Elem
nothing = record { rid = 0; present = false }

abbrev row : {A : Type 0} → A → List A → List A
row z l = take limit.clients (l ++ replicate limit.clients z)

abbrev standing : List Client → List Elem → ℕ → Bool → State
standing cs es idx responding =
    record { clients = row idle cs; elems = row nothing es; count = length cs; len = length es; idx = idx; responding = responding }

abbrev collecting : List Client → List Elem → State
collecting cs es = standing cs es 0 false

abbrev responding : List Client → List Elem → ℕ → State
responding cs es idx = standing cs es idx true

abbrev fresh_code : ℕ → ℕ
fresh_code n = (fresh_of n).code

abbrev fresh_made : ℕ → State
fresh_made n = (fresh_of n).state

-- ---------- the bytes: of small numbers, and of 01020304 and 05060708

abbrev zeros : ℕ → List ℕ
zeros n = replicate n 0

abbrev four : ℕ → List ℕ
four n = 0 ∷ 0 ∷ 0 ∷ n ∷ []

abbrev idle_bytes : List ℕ
idle_bytes = zeros 23

abbrev ask_bytes : ℕ → ℕ → List ℕ
ask_bytes rid req = 1 ∷ four rid ++ (1 ∷ four rid ++ (four req ++ zeros 9))

abbrev gathered_bytes : ℕ → List ℕ
gathered_bytes rid = 1 ∷ four rid ++ zeros 18

abbrev answered_bytes : ℕ → ℕ → List ℕ
answered_bytes rid resp = 1 ∷ four rid ++ (zeros 9 ++ (1 ∷ four rid ++ four resp))

abbrev wide : ℕ
wide = 16909060

abbrev wider : ℕ
wider = 84281096

abbrev wide_bytes : List ℕ
wide_bytes = 1 ∷ 2 ∷ 3 ∷ 4 ∷ []

abbrev wider_bytes : List ℕ
wider_bytes = 5 ∷ 6 ∷ 7 ∷ 8 ∷ []

-- ---------- the table

abbrev pub client_sends : List (Case flat)
client_sends =
    -- client_send stores the request and sets the slot; it needs a client that is there, and that idle
    does (collecting (idle ∷ []) []) (ClientSend 0 wide wider)
    (1 ∷ wide_bytes ++ (1 ∷ wide_bytes ++ (wider_bytes ++ (zeros 9 ++ (0 ∷ 1 ∷ 0 ∷ 0 ∷ 0 ∷ []))))) []
    ∷ does (collecting (idle ∷ idle ∷ []) []) (ClientSend 1 7 42) (idle_bytes ++ (ask_bytes 7 42 ++ (0 ∷ 2 ∷ 0 ∷ 0 ∷ 0 ∷ []))) []
    ∷ does (collecting (replicate 16 idle) []) (ClientSend 15 0 0) (zeros 345 ++ (ask_bytes 0 0 ++ (128 ∷ 0 ∷ 0 ∷ 0 ∷ 0 ∷ []))) []
    -- ids may repeat; and the combiner may be anywhere
    ∷ does (collecting (asks 7 42 ∷ idle ∷ []) []) (ClientSend 1 7 42) (ask_bytes 7 42 ++ (ask_bytes 7 42 ++ (0 ∷ 3 ∷ 0 ∷ 0 ∷ 0 ∷ []))) []
    ∷ does (responding (idle ∷ []) (nothing ∷ []) 1) (ClientSend 0 7 42) (ask_bytes 7 42 ++ (0 ∷ 1 ∷ 1 ∷ 1 ∷ 1 ∷ zeros 5)) []
    ∷ refuses (collecting [] []) (ClientSend 0 7 42) 11 (zeros 5)
    ∷ refuses (collecting (idle ∷ []) []) (ClientSend 1 7 42) 11 (zeros 28)
    ∷ refuses (collecting (replicate 16 idle) []) (ClientSend 16 7 42) 11 (zeros 373)
    ∷ refuses (collecting (asks 7 42 ∷ []) []) (ClientSend 0 8 43) 12 (ask_bytes 7 42 ++ (0 ∷ 1 ∷ zeros 3))
    ∷ refuses (collecting (gathered 7 ∷ []) (holds 7 ∷ [])) (ClientSend 0 8 43) 12 (gathered_bytes 7 ++ (0 ∷ 1 ∷ 0 ∷ 0 ∷ 1 ∷ 1 ∷ four 7))
    ∷ refuses (collecting (answered 7 99 ∷ []) []) (ClientSend 0 8 43) 12 (answered_bytes 7 99 ++ zeros 5)
    ∷ []

abbrev pub client_recvs : List (Case flat)
client_recvs =
    -- client_recv empties the response and logs client, rid, resp; it needs a client that is there, that waits, and its slot clear (14: P5)
    does (collecting (answered wide wider ∷ []) []) (ClientRecv 0) (zeros 28) (9 ∷ 0 ∷ wide_bytes ++ wider_bytes)
    ∷ does (collecting (asks 7 42 ∷ answered 7 99 ∷ []) []) (ClientRecv 1) (ask_bytes 7 42 ++ (idle_bytes ++ (0 ∷ 1 ∷ zeros 3))) (9 ∷ 1 ∷ four 7 ++ four 99)
    ∷ does (responding (answered 7 99 ∷ []) (holds 7 ∷ []) 1) (ClientRecv 0) (zeros 25 ++ (1 ∷ 1 ∷ 1 ∷ 1 ∷ four 7)) (9 ∷ 0 ∷ four 7 ++ four 99)
    ∷ refuses (collecting [] []) (ClientRecv 0) 11 (zeros 5)
    ∷ refuses (collecting (answered 7 99 ∷ []) []) (ClientRecv 1) 11 (answered_bytes 7 99 ++ zeros 5)
    ∷ refuses (collecting (replicate 16 idle) []) (ClientRecv 16) 11 (zeros 373)
    ∷ refuses (collecting (idle ∷ []) []) (ClientRecv 0) 12 (zeros 28)
    ∷ refuses (collecting (asks 7 42 ∷ []) []) (ClientRecv 0) 14 (ask_bytes 7 42 ++ (0 ∷ 1 ∷ zeros 3))
    ∷ refuses (collecting (gathered 7 ∷ []) (holds 7 ∷ [])) (ClientRecv 0) 14 (gathered_bytes 7 ++ (0 ∷ 1 ∷ 0 ∷ 0 ∷ 1 ∷ 1 ∷ four 7))
    ∷ []

abbrev pub combiner_gathers : List (Case flat)
combiner_gathers =
    -- combiner_recv takes the request, leaves the slot set and keeps the id; it needs to collect, a client left, and its slot set
    does (collecting (asks wide wider ∷ []) []) CombinerRecv (1 ∷ wide_bytes ++ (zeros 18 ++ (0 ∷ 1 ∷ 0 ∷ 0 ∷ 1 ∷ 1 ∷ wide_bytes))) []
    ∷ does (collecting (asks 7 42 ∷ asks 8 43 ∷ []) (nothing ∷ [])) CombinerRecv (ask_bytes 7 42 ++ (gathered_bytes 8 ++ (0 ∷ 3 ∷ 0 ∷ 0 ∷ 2 ∷ zeros 5 ++ (1 ∷ four 8)))) []
    ∷ does (collecting (idle ∷ asks 8 43 ∷ []) (nothing ∷ [])) CombinerRecv (idle_bytes ++ (gathered_bytes 8 ++ (0 ∷ 2 ∷ 0 ∷ 0 ∷ 2 ∷ zeros 5 ++ (1 ∷ four 8)))) []
    ∷ refuses (responding (asks 7 42 ∷ []) (nothing ∷ []) 0) CombinerRecv 12 (ask_bytes 7 42 ++ (0 ∷ 1 ∷ 1 ∷ 0 ∷ 1 ∷ zeros 5))
    ∷ refuses (collecting [] []) CombinerRecv 13 (zeros 5)
    ∷ refuses (collecting (asks 7 42 ∷ []) (nothing ∷ [])) CombinerRecv 13 (ask_bytes 7 42 ++ (0 ∷ 1 ∷ 0 ∷ 0 ∷ 1 ∷ zeros 5))
    ∷ refuses (collecting (idle ∷ []) []) CombinerRecv 14 (zeros 28)
    ∷ refuses (collecting (answered 7 99 ∷ []) []) CombinerRecv 14 (answered_bytes 7 99 ++ zeros 5)
    -- combiner_skip keeps nothing, also with the slot set (P4); it needs to collect, and a client left
    ∷ does (collecting (idle ∷ []) []) CombinerSkip (zeros 27 ++ (1 ∷ zeros 5)) []
    ∷ does (collecting (asks 7 42 ∷ []) []) CombinerSkip (ask_bytes 7 42 ++ (0 ∷ 1 ∷ 0 ∷ 0 ∷ 1 ∷ zeros 5)) []
    ∷ refuses (responding (idle ∷ []) (nothing ∷ []) 0) CombinerSkip 12 (zeros 25 ++ (1 ∷ 0 ∷ 1 ∷ zeros 5))
    ∷ refuses (collecting (idle ∷ []) (nothing ∷ [])) CombinerSkip 13 (zeros 27 ++ (1 ∷ zeros 5))
    -- combiner_go_to_responding starts at the first client; it needs to collect, and all clients looked at
    ∷ does (collecting (gathered 7 ∷ idle ∷ []) (holds 7 ∷ nothing ∷ [])) CombinerGoToResponding
    (gathered_bytes 7 ++ (idle_bytes ++ (0 ∷ 1 ∷ 1 ∷ 0 ∷ 2 ∷ 1 ∷ four 7 ++ zeros 5))) []
    ∷ refuses (responding (idle ∷ []) (nothing ∷ []) 1) CombinerGoToResponding 12 (zeros 25 ++ (1 ∷ 1 ∷ 1 ∷ zeros 5))
    ∷ refuses (collecting (idle ∷ idle ∷ []) (nothing ∷ [])) CombinerGoToResponding 13 (zeros 50 ++ (1 ∷ zeros 5))
    ∷ []

abbrev pub combiner_responds : List (Case flat)
combiner_responds =
    -- combiner_send stores the response, clears the slot and goes on to the next client; it needs to respond, a client left, and that very id
    does (responding (gathered wide ∷ []) (holds wide ∷ []) 0) (CombinerSend wide wider)
    (1 ∷ wide_bytes ++ (zeros 9 ++ (1 ∷ wide_bytes ++ (wider_bytes ++ (0 ∷ 0 ∷ 1 ∷ 1 ∷ 1 ∷ 1 ∷ wide_bytes))))) []
    ∷ does (responding (answered 7 98 ∷ gathered 8 ∷ []) (holds 7 ∷ holds 8 ∷ []) 1) (CombinerSend 8 99)
    (answered_bytes 7 98 ++ (answered_bytes 8 99 ++ (0 ∷ 0 ∷ 1 ∷ 2 ∷ 2 ∷ 1 ∷ four 7 ++ (1 ∷ four 8)))) []
    ∷ refuses (collecting (gathered 7 ∷ []) (holds 7 ∷ [])) (CombinerSend 7 99) 12 (gathered_bytes 7 ++ (0 ∷ 1 ∷ 0 ∷ 0 ∷ 1 ∷ 1 ∷ four 7))
    ∷ refuses (responding (answered 7 99 ∷ []) (holds 7 ∷ []) 1) (CombinerSend 7 99) 13 (answered_bytes 7 99 ++ (0 ∷ 0 ∷ 1 ∷ 1 ∷ 1 ∷ 1 ∷ four 7))
    ∷ refuses (responding (gathered 7 ∷ []) (holds 7 ∷ []) 0) (CombinerSend 8 99) 15 (gathered_bytes 7 ++ (0 ∷ 1 ∷ 1 ∷ 0 ∷ 1 ∷ 1 ∷ four 7))
    -- an element without an id is no id, 0 neither
    ∷ refuses (responding (idle ∷ []) (nothing ∷ []) 0) (CombinerSend 0 99) 15 (zeros 25 ++ (1 ∷ 0 ∷ 1 ∷ zeros 5))
    -- combiner_send_skip goes on; it needs to respond, a client left, and no id (15 also where the id is 0)
    ∷ does (responding (asks 7 42 ∷ idle ∷ []) (nothing ∷ nothing ∷ []) 0) CombinerSendSkip (ask_bytes 7 42 ++ (idle_bytes ++ (0 ∷ 1 ∷ 1 ∷ 1 ∷ 2 ∷ zeros 10))) []
    ∷ refuses (collecting (idle ∷ []) (nothing ∷ [])) CombinerSendSkip 12 (zeros 27 ++ (1 ∷ zeros 5))
    ∷ refuses (responding (idle ∷ []) (nothing ∷ []) 1) CombinerSendSkip 13 (zeros 25 ++ (1 ∷ 1 ∷ 1 ∷ zeros 5))
    ∷ refuses (responding (gathered 7 ∷ []) (holds 7 ∷ []) 0) CombinerSendSkip 15 (gathered_bytes 7 ++ (0 ∷ 1 ∷ 1 ∷ 0 ∷ 1 ∷ 1 ∷ four 7))
    ∷ refuses (responding (gathered 0 ∷ []) (holds 0 ∷ []) 0) CombinerSendSkip 15 (gathered_bytes 0 ++ (0 ∷ 1 ∷ 1 ∷ 0 ∷ 1 ∷ 1 ∷ zeros 4))
    -- combiner_go_to_collecting drops what was gathered; it needs to respond, and all clients done
    ∷ does (responding (answered 7 99 ∷ []) (holds 7 ∷ []) 1) CombinerGoToCollecting (answered_bytes 7 99 ++ zeros 5) []
    ∷ refuses (collecting (idle ∷ []) (nothing ∷ [])) CombinerGoToCollecting 12 (zeros 27 ++ (1 ∷ zeros 5))
    ∷ refuses (responding (idle ∷ idle ∷ []) (nothing ∷ nothing ∷ []) 1) CombinerGoToCollecting 13 (zeros 48 ++ (1 ∷ 1 ∷ 2 ∷ zeros 10))
    ∷ []

abbrev pub whole_runs : List (Case flat)
whole_runs =
    -- P1: of 0 clients both go_to steps are accepted, and combiner_skip is 13
    runs (fresh_made 0) (CombinerGoToResponding ∷ CombinerGoToCollecting ∷ CombinerSkip ∷ []) 13 2 (zeros 5) []
    -- P3, the state being 25 zeros and then 01 01 01 01 00 00 00 07
    ∷ runs (fresh_made 1)
    (ClientSend 0 7 42 ∷ CombinerRecv ∷ CombinerGoToResponding ∷ CombinerSend 7 99 ∷ ClientRecv 0 ∷ []) 0 5
    (zeros 25 ++ (1 ∷ 1 ∷ 1 ∷ 1 ∷ 0 ∷ 0 ∷ 0 ∷ 7 ∷ [])) (9 ∷ 0 ∷ 0 ∷ 0 ∷ 0 ∷ 7 ∷ 0 ∷ 0 ∷ 0 ∷ 99 ∷ [])
    -- P4, P5, and P6: P3's fourth step with rid 8
    ∷ runs (fresh_made 1) (ClientSend 0 7 42 ∷ CombinerSkip ∷ []) 0 2 (ask_bytes 7 42 ++ (0 ∷ 1 ∷ 0 ∷ 0 ∷ 1 ∷ zeros 5)) []
    ∷ runs (fresh_made 1) (ClientSend 0 7 42 ∷ ClientRecv 0 ∷ []) 14 1 (ask_bytes 7 42 ++ (0 ∷ 1 ∷ zeros 3)) []
    ∷ runs (fresh_made 1)
    (ClientSend 0 7 42 ∷ CombinerRecv ∷ CombinerGoToResponding ∷ CombinerSend 8 99 ∷ ClientRecv 0 ∷ []) 15 3
    (gathered_bytes 7 ++ (0 ∷ 1 ∷ 1 ∷ 0 ∷ 1 ∷ 1 ∷ four 7)) []
    -- two rounds: a request that was skipped is served in the next one
    ∷ runs (fresh_made 1)
    (ClientSend 0 7 42 ∷ CombinerSkip ∷ CombinerGoToResponding ∷ CombinerSendSkip ∷ CombinerGoToCollecting
    ∷ CombinerRecv ∷ CombinerGoToResponding ∷ CombinerSend 7 99 ∷ ClientRecv 0 ∷ CombinerGoToCollecting ∷ []) 0 10
    (zeros 28) (9 ∷ 0 ∷ four 7 ++ four 99)
    -- two clients with one id: turns, and not ids, match answers to requests
    ∷ runs (fresh_made 2)
    (ClientSend 1 7 2 ∷ ClientSend 0 7 1 ∷ CombinerRecv ∷ CombinerRecv ∷ CombinerGoToResponding ∷ CombinerSend 7 10 ∷ CombinerSend 7 20
    ∷ CombinerGoToCollecting ∷ ClientRecv 1 ∷ ClientRecv 0 ∷ []) 0 10
    (zeros 51) (9 ∷ 1 ∷ four 7 ++ (four 20 ++ (9 ∷ 0 ∷ four 7 ++ four 10)))
    -- a round of 16 clients who ask nothing
    ∷ runs (fresh_made 16) (replicate 16 CombinerSkip ++ (CombinerGoToResponding ∷ replicate 16 CombinerSendSkip ++ (CombinerGoToCollecting ∷ []))) 0 34 (zeros 373) []
    ∷ []

-- a fresh machine of so many clients: its code, and the image of its state
abbrev pub fresh_cases : List (Start ℕ)
fresh_cases =
    starts 0 0 (zeros 5)
    ∷ starts 1 0 (zeros 28)
    ∷ starts 2 0 (zeros 51)
    ∷ starts 16 0 (zeros 373)
    ∷ starts 17 5 (zeros 5)
    ∷ starts 255 5 (zeros 5)
    ∷ []

-- rows with one thing wrong in each: the code, the place, the image, that the state is sound (a request is kept where none is asked, which no image shows),
-- the log
abbrev pub wrong_cases : List (Case flat)
wrong_cases =
    runs (collecting (answered 7 9 ∷ []) []) (ClientRecv 0 ∷ []) 12 1 (zeros 28) (9 ∷ 0 ∷ four 7 ++ four 9)
    ∷ runs (collecting (answered 7 9 ∷ []) []) (ClientRecv 0 ∷ []) 0 2 (zeros 28) (9 ∷ 0 ∷ four 7 ++ four 9)
    ∷ runs (collecting (answered 7 9 ∷ []) []) (ClientRecv 0 ∷ []) 0 1 (zeros 27) (9 ∷ 0 ∷ four 7 ++ four 9)
    ∷ runs (collecting (record { rid = 0; req = 9; resp = 0; waiting = false; asked = false; told = false; slot = false } ∷ []) []) (CombinerSkip ∷ []) 0 1
    (zeros 27 ++ (1 ∷ zeros 5)) []
    ∷ runs (collecting (answered 7 9 ∷ []) []) (ClientRecv 0 ∷ []) 0 1 (zeros 28) []
    ∷ []

-- the code, the image
abbrev pub wrong_fresh : List (Start ℕ)
wrong_fresh = starts 1 5 (zeros 28) ∷ starts 1 0 (zeros 27) ∷ []

-- ---------- every row is right, and every wrong one is not

abbrev pub Tabled : Type 0
Tabled =
    (all_started flat sound image_bytes entry_bytes fresh_code fresh_made fresh_cases
    && (all_right flat sound image_bytes entry_bytes client_sends && (all_right flat sound image_bytes entry_bytes client_recvs
    && (all_right flat sound image_bytes entry_bytes combiner_gathers && (all_right flat sound image_bytes entry_bytes combiner_responds
    && (all_right flat sound image_bytes entry_bytes whole_runs
    && (all_wrong flat sound image_bytes entry_bytes wrong_cases && none_started flat sound image_bytes entry_bytes fresh_code fresh_made wrong_fresh))))))) ≡ true
