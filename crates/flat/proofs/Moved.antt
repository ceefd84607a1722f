-- What a sound state tells of the client at which client_recv or combiner_recv looks: its response or its request is stored, so that neither step is refused
-- as unsound. Assumes nothing.
use mathlib.Core.Path.{◌≡◌, refl, sym, ◌∙◌}
use mathlib.Core.Bool.{true, false}
use Prim.Native.Nat.{ℕ, ◌<◌}
use native.Mathlib.Omega.{arith}
use borrow.Author.Tests.{ltb-true, ltb-false, not-true}
use lib.Dec.{ltb}
use lib.ListN.{length, get_or-eq_default}
use Rattle.rows.specs.Walk.{every}
use Rattle.rows.proofs.Cases.{on, clash, both_true}
use Rattle.rows.proofs.Walks.{every_at}
use Rattle.machine.specs.Check.{first}
use Rattle.machine.specs.Machine.{code_of}
use Rattle.machine.specs.Move.{Moved}
use Rattle.machine.proofs.Checks.{all_first, rises_append, first_past}
use Rattle.machine.proofs.Moves.{move_code_lem}
use Rattle.schedule.specs.declared.steps.FlatStep.{FlatStep}
use Rattle.schedule.specs.declared.steps.FlatStep.TheVariants.{ClientRecv, CombinerRecv}
use Rattle.flat.specs.Flat.{flat, rising, zero_client, client, elem, combiner_tests, client_tests, inside_tests, gather_tests, recv_tests, slot_tests}
use Rattle.flat.specs.Moved.{received_client, gathered_client}
use Rattle.flat.specs.Sound.{sound, combiner_sound, place_sound, elem_sound}
use Rattle.flat.specs.declared.state.Client.{Client}
use Rattle.flat.specs.declared.state.State.{State}
use Rattle.flat.specs.declared.combiner.Gathered.{Gathered}
use Rattle.flat.proofs.Stages.{Free, Has, Stand}
use Rattle.flat.proofs.Tests.{client_told}
use Rattle.flat.proofs.Flags.{clear_told, set_asks}

module _ (s : State) (safe : sound s ≡ true) where
  -- each client is in one of its stages; a place past the row holds a client of zeros
  stand : (j : ℕ) → j < length s.clients → Stand (client s j) (Free s j) (Has s j)
  stand j h =
      let each = (both_true (combiner_sound s.count s.len s.idx s.responding) (every (place_sound s) 0 s.clients) safe).1 in
      let own = (both_true (elem_sound j s.len (elem s j)) _ (every_at (place_sound s) zero_client s.clients each j h)).1 in
      (client_told j s.count s.len s.idx (client s j) (elem s j) own).1

  past : (j : ℕ) → ltb j (length s.clients) ≡ false → client s j ≡ zero_client
  past j b = get_or-eq_default s.clients zero_client {n = j} (ltb-false j (length s.clients) b)

  -- an accepted client_recv has its response
  pub client_recv_told : (j : ℕ) → first (recv_tests (client s j)) ≡ 0 → (client s j).told ≡ true
  client_recv_told j z =
      let t = all_first (recv_tests (client s j)) refl z in
      on (ltb j (length s.clients))
      (λ b. (clear_told (stand j (ltb-true j (length s.clients) b)) t.0 (not-true (client s j).slot t.1.0)).1)
      (λ b. let w = rw (past j b) at t.0 in clash (cc))

  -- and an accepted combiner_recv its request: the client at the cursor is not with the combiner yet
  pub combiner_recv_asked : first (slot_tests (client s s.len)) ≡ 0 → (client s s.len).asked ≡ true
  combiner_recv_asked z =
      let j = s.len in
      let t = all_first (slot_tests (client s j)) refl z in
      on (ltb j (length s.clients))
      (λ b. set_asks (stand j (ltb-true j (length s.clients) b)) (λ rid g. omega (arith, g.1)) t.0)
      (λ b. let w = rw (past j b) at t.0 in clash (cc))

  -- ---------- so neither is refused as unsound: its code is that of the step

  decided : (x : FlatStep) → 0 ≡ first (combiner_tests s x) → code_of flat s x ≡ first (client_tests s x)
  decided x p = first_past (combiner_tests s x) (client_tests s x) (rises_append 1 (combiner_tests s x) (client_tests s x) (rising s x)) (sym p)

  pub client_recv_code : (i j : ℕ) → i ≡ j → 0 ≡ first (inside_tests s.count j) → (m : Moved Client) → m ≡ received_client (client s i)
      → m.code ≡ code_of flat s (ClientRecv j)
  client_recv_code i j at p m e =
      let c = client s j in
      rw (e, at) (move_code_lem (recv_tests c) c.told (client_recv_told j) ∙ sym (decided (ClientRecv j) p))

  pub combiner_recv_code : (i : ℕ) → i ≡ s.len → 0 ≡ first (gather_tests s.responding s.len s.count) → (m : Moved Gathered) → m ≡ gathered_client (client s i)
      → m.code ≡ code_of flat s CombinerRecv
  combiner_recv_code i at p m e =
      let c = client s s.len in
      rw (e, at) (move_code_lem (slot_tests c) c.asked combiner_recv_asked ∙ sym (decided CombinerRecv p))
