-- Demands 1 and 2 settle the replayer: two that meet them are equal, on any bytes and any two buffers. Assumes nothing.
use mathlib.Core.Path.{◌≡◌, sym, ap, ◌∙◌}
use mathlib.Core.List.{List}
use Prim.Native.Nat.{ℕ}
use lib.ListN.{length}
use Rattle.rows.specs.Bytes.{Bytes}
use Rattle.machine.specs.Replay.{Replayed}
use Rattle.machine.specs.Rest.{Rested, finished}
use Rattle.machine.proofs.Sourceds.{one_exact}
use Rattle.replayer.specs.Replay.{replay_of}
use Rattle.replayer.specs.Kinds as kinds
use Rattle.replayer.specs.Kinds.{machine_of, StepOf, kind_of}
use Rattle.replayer.specs.Demands.{Replayer, Demand1, Demand2, Demand3, Replays, Meets}
use Rattle.replayer.proofs.Rooms.{by_room}
use Rattle.replayer.proofs.ByKind.{by_file}
use Rattle.replayer.proofs.Demands as held

-- one answer to the steps of a file
pub one_replay : (k : kinds.Kind) (xs : List (StepOf k)) (log image : List ℕ) (a b : Rested) → Replays k xs log image a → Replays k xs log image b → a ≡ b
one_replay k xs log image a b x y =
    x.answer ∙ ap (λ (r : Replayed (machine_of k)). finished (machine_of k) k.runner.bytes k.runner.image r log image)
    (one_exact k.source k.fresh xs x.said y.said x.exact y.exact) ∙ sym y.answer

-- a fault, too little room, or steps: each has its answer
module _ (R Q : Replayer) (f log image : List ℕ) (r1 : Demand1 R f log image) (r2 : Demand2 R f log image) (q1 : Demand1 Q f log image) (q2 : Demand2 Q f log image) where
  pub one_replayer : Bytes f → R f log image ≡ Q f log image
  one_replayer bytes = by_file f bytes
      (λ x h. r1.fault x h ∙ sym (q1.fault x h))
      (λ p xs e. by_room (length xs) log image
      (λ r. one_replay (kind_of p) xs log image (R f log image) (Q f log image) (r2.file p xs e r) (q2.file p xs e r))
      (λ n. r1.short p xs e n ∙ sym (q1.short p xs e n)))

pub settles : (R : Replayer) → Meets R → (f log image : List ℕ) → Bytes f → R f log image ≡ replay_of f log image
settles R h f log image bytes =
    let d = h f log image bytes in
    one_replayer R replay_of f log image d.0 d.1 (held.demand1 f log image bytes) (held.demand2 f log image bytes) bytes

-- so what holds of `replay_of` holds of R: demand 3
pub settles_3 : (R : Replayer) → Meets R → (f log image : List ℕ) → Bytes f → Demand3 R f log image
settles_3 R h f log image bytes =
    let e = settles R h f log image bytes in let d = held.demand3 f log image bytes in
    record {
      promised = λ p xs q. rw e (d.promised p xs q);
      logged = λ p xs q. rw e (d.logged p xs q);
      grows = λ p xs q n m l o. d.grows p xs q n m l (rw e at o);
      shown = λ p xs q r. rw e (d.shown p xs q r);
    }
