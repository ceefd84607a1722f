-- Histories and schedules: what a replay accepted is a history, and every history is what a replay accepts. Assumes nothing.
use mathlib.Core.Path.{◌≡◌, refl, sym, ◌∙◌}
use mathlib.Core.List.{List, [], ◌∷◌, ◌++◌, append_assoc, append-nil}
use lib.ListN.{length, take}
use Rattle.machine.specs.Machine.{Machine}
use Rattle.machine.specs.History.{History, event, Run, start, then, steps_of, log_of}
use Rattle.machine.specs.Replay.{replay, AllAccepted, after, entries, past}
use Rattle.machine.proofs.Replays.{told, all_replay}

module _ (m : Machine) where
  -- ---------- steps that are accepted carry a history on

  pub ran : (s₀ : m.State) (h : History m) (s : m.State) (xs : List m.Step) → Run m s₀ h s → AllAccepted m s xs → Run m s₀ (past m h s xs) (after m s xs)
  ran s₀ h s [] r a = r
  ran s₀ h s (x ∷ xs) r a = ran s₀ (event m s x ∷ h) (m.next s x) xs (then r a.0) a.1

  -- they are its steps, and what they logged is its log, oldest first
  pub past_steps : (h : History m) (s : m.State) (xs : List m.Step) → steps_of (past m h s xs) ≡ steps_of h ++ xs
  past_steps h s [] = rw append-nil
  past_steps h s (x ∷ xs) = past_steps (event m s x ∷ h) (m.next s x) xs ∙ rw append_assoc

  pub past_log : (h : History m) (s : m.State) (xs : List m.Step) → log_of (past m h s xs) ≡ log_of h ++ entries m s xs
  past_log h s [] = rw append-nil
  past_log h s (x ∷ xs) = past_log (event m s x ∷ h) (m.next s x) xs ∙ rw append_assoc

  -- what a replay accepted is a history, its log the replay's
  pub replay_run : (s : m.State) (xs : List m.Step) → let r = replay m s 0 xs in Run m s (past m [] s (take r.place xs)) r.state
  replay_run s xs = let t = told m s xs in rw t.state (ran s [] s (take (replay m s 0 xs).place xs) start t.accepted)

  pub replay_log : (s : m.State) (xs : List m.Step) → let r = replay m s 0 xs in log_of (past m [] s (take r.place xs)) ≡ r.log
  replay_log s xs = past_log [] s (take (replay m s 0 xs).place xs) ∙ sym (told m s xs).log

  -- ---------- one schedule after the other

  pub after_append : (s : m.State) (xs ys : List m.Step) → after m s (xs ++ ys) ≡ after m (after m s xs) ys
  after_append s [] ys = refl
  after_append s (x ∷ xs) ys = after_append (m.next s x) xs ys

  pub entries_append : (s : m.State) (xs ys : List m.Step) → entries m s (xs ++ ys) ≡ entries m s xs ++ entries m (after m s xs) ys
  entries_append s [] ys = refl
  entries_append s (x ∷ xs) ys = rw (entries_append (m.next s x) xs ys, append_assoc)

  pub accepted_append : (s : m.State) (xs ys : List m.Step) → AllAccepted m s xs → AllAccepted m (after m s xs) ys → AllAccepted m s (xs ++ ys)
  accepted_append s [] ys a b = b
  accepted_append s (x ∷ xs) ys a b = (a.0, accepted_append (m.next s x) xs ys a.1 b)

  -- ---------- every history is what a replay accepts

  run_after : {s₀ : m.State} {h : History m} {s : m.State} → Run m s₀ h s → after m s₀ (steps_of h) ≡ s
  run_after start = refl
  run_after {s₀} (then {h} {s} {x} r p) = after_append s₀ (steps_of h) (x ∷ []) ∙ rw (run_after r)

  run_log : {s₀ : m.State} {h : History m} {s : m.State} → Run m s₀ h s → entries m s₀ (steps_of h) ≡ log_of h
  run_log start = refl
  run_log {s₀} (then {h} {s} {x} r p) = entries_append s₀ (steps_of h) (x ∷ []) ∙ rw (run_after r, run_log r, append-nil)

  pub run_all : {s₀ : m.State} {h : History m} {s : m.State} → Run m s₀ h s → AllAccepted m s₀ (steps_of h)
  run_all start = tt
  run_all {s₀} (then {h} {s} {x} r p) = accepted_append s₀ (steps_of h) (x ∷ []) (run_all r) (rw (run_after r) (p, tt))

  pub run_replay : (s₀ : m.State) (h : History m) (s : m.State) → Run m s₀ h s → replay m s₀ 0 (steps_of h) ≡ record { code = 0; place = length (steps_of h); log = log_of h; state = s }
  run_replay s₀ h s r = all_replay m s₀ (steps_of h) (run_all r) ∙ rw (run_log r, run_after r)
