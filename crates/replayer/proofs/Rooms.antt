-- The answer to the steps of a schedule, for any kind: 8 without room, and else the replay; its codes, what it writes, and the history that it tells of.
-- Assumes nothing.
use mathlib.Core.Path.{◌≡◌, refl, sym, ap, ◌∙◌}
use mathlib.Core.Bool.{Bool, true, ◌&&◌}
use mathlib.Core.Logic.{◌⊎◌, inl, inr}
use mathlib.Core.List.{List, [], ◌∷◌, ◌++◌}
use Prim.Native.Nat.{ℕ, ◌*◌, ◌≤◌}
use native.Mathlib.Omega.{arith}
use borrow.Author.Tests.{leb-true, ltb-true, ltb-false, le-ltb}
use lib.Dec.{leb, ltb}
use lib.ListN.{length, take, drop, take-append-drop}
use lib.Seq.{take-take}
use Rattle.rows.specs.Stores.{over}
use Rattle.rows.specs.Walk.{pieces}
use Rattle.rows.proofs.Cases.{on, both_true}
use Rattle.machine.specs.Codes as code
use Rattle.machine.specs.Check.{Check, first}
use Rattle.machine.specs.History.{log_of}
use Rattle.machine.specs.Replay.{Replayed, replay, AllAccepted, Finished, Stopped, entries}
use Rattle.machine.specs.Rest.{Rested, untouched, finished}
use Rattle.machine.specs.Sourced.{Upholds}
use Rattle.machine.proofs.Replays.{told, all_take}
use Rattle.machine.proofs.Pasts.{replay_log, past_log, entries_append}
use Rattle.machine.proofs.Rests.{replay_short}
use Rattle.machine.proofs.Sourceds.{exact}
use Rattle.schedule.specs.Limits as limit
use Rattle.schedule.specs.Running.{run_steps}
use Rattle.schedule.specs.Carries.{Carries}
use Rattle.replayer.specs.Kinds.{Kind, machine_of, StateOf, StepOf, EntryOf, Sound}
use Rattle.replayer.specs.Demands.{Room, OfAStep, Wrote, Replays, past_of, after_of}

-- ---------- the codes of a step

-- all codes lie from a to b
abbrev pub spans : ℕ → ℕ → List Check → Bool
spans a b [] = true
spans a b (c ∷ cs) = leb a c.code && (leb c.code b && spans a b cs)

abbrev pub Between : ℕ → Type 0
Between c = (c ≡ 0) ⊎ OfAStep c

first_spans : (cs : List Check) → spans code.outside code.full cs ≡ true → Between (first cs)
first_spans [] e = inl refl
first_spans (c ∷ cs) e =
    let low = both_true (leb code.outside c.code) _ e in
    let high = both_true (leb c.code code.full) (spans code.outside code.full cs) low.1 in
    on c.holds
    (λ h. rw h (first_spans cs high.1))
    (λ h. rw h (inr (leb-true code.outside c.code low.0, leb-true c.code code.full high.0)))

-- ---------- what demand 1 says of an answer

pub record Keeps (log image : List ℕ) (a : Rested) : Type 0 where
  pub refused_file : 1 ≤ a.code → a.code ≤ code.unsound → a ≡ untouched a.code a.place log image
  pub known : (a.code ≡ 0) ⊎ ((1 ≤ a.code) × (a.code ≤ code.room)) ⊎ OfAStep a.code
  pub log_kept : Wrote a.logged log a.log
  pub image_kept : Wrote a.imaged image a.image

nothing : (l : List ℕ) → Wrote 0 l l
nothing l = record { bytes = []; many = refl; fits = omega arith; over_front = refl }

-- a file's own codes write nothing
pub untouched_keeps : (c p : ℕ) (log image : List ℕ) → 1 ≤ c → c ≤ code.room → Keeps log image (untouched c p log image)
untouched_keeps c p log image l h = record { refused_file = λ a b. refl; known = inr (inl (l, h)); log_kept = nothing log; image_kept = nothing image }

-- the two cases of the buffers, each with its fact
pub by_room : {P : Type 0} (n : ℕ) (log image : List ℕ) → (Room n log image → P) → ((Room n log image → ⊥) → P) → P
by_room n log image f g = on (ltb (length log) (n * limit.entry))
    (λ a. g (λ r. omega (arith, r.entries, ltb-true (length log) (n * limit.entry) a)))
    (λ a. on (ltb (length image) limit.image)
    (λ b. g (λ r. omega (arith, r.state, ltb-true (length image) limit.image b)))
    (λ b. f (record { entries = ltb-false (length log) (n * limit.entry) a; state = ltb-false (length image) limit.image b })))

module _ (k : Kind) (xs : List (StepOf k)) (log image : List ℕ) where
  abbrev answer : Rested
  answer = run_steps k.runner k.fresh xs log image

  abbrev ran : Replayed (machine_of k)
  ran = replay (machine_of k) k.fresh 0 xs

  -- ---------- with room and without

  pub no_room : (Room (length xs) log image → ⊥) → answer ≡ untouched code.room 0 log image
  no_room n = on (ltb (length log) (length xs * limit.entry)) (λ a. rw a)
      (λ a. on (ltb (length image) limit.image) (λ b. rw (a, b))
      (λ b. absurd (n (record { entries = ltb-false (length log) (length xs * limit.entry) a; state = ltb-false (length image) limit.image b }))))

  pub with_room : Room (length xs) log image → answer ≡ finished (machine_of k) k.runner.bytes k.runner.image ran log image
  with_room r = rw (le-ltb (length log) (length xs * limit.entry) r.entries, le-ltb (length image) limit.image r.state)

  -- ---------- the machine's own codes and lengths

  module _ (o : Carries k.runner) (codes : (q : StateOf k) (x : StepOf k) → spans code.outside code.full ((machine_of k).tests q x) ≡ true) where
    ends_code : Finished (machine_of k) xs ran ⊎ Stopped (machine_of k) xs ran → Between ran.code
    ends_code (inl f) = inl f.code
    ends_code (inr f) = rw (← f.refused) (first_spans ((machine_of k).tests ran.state f.step) (codes ran.state f.step))

    ran_code : Between ran.code
    ran_code = ends_code (told (machine_of k) k.fresh xs).ends

    code_known : Between ran.code → (ran.code ≡ 0) ⊎ ((1 ≤ ran.code) × (ran.code ≤ code.room)) ⊎ OfAStep ran.code
    code_known (inl z) = inl z
    code_known (inr b) = inr (inr b)

    never_file : Between ran.code → 1 ≤ ran.code → ran.code ≤ code.unsound → ⊥
    never_file (inl z) l h = omega (arith, z)
    never_file (inr b) l h = omega (arith, b.0)

    finished_keeps : Room (length xs) log image → Keeps log image (finished (machine_of k) k.runner.bytes k.runner.image ran log image)
    finished_keeps r =
        let few = replay_short (machine_of k) k.runner.bytes limit.entry o.short k.fresh 0 xs in
        record {
          refused_file = λ l h. absurd (never_file ran_code l h);
          known = code_known ran_code;
          log_kept = record { bytes = pieces k.runner.bytes ran.log; many = refl; fits = omega (arith, r.entries, few); over_front = refl };
          image_kept = record { bytes = k.runner.image ran.state; many = refl; fits = omega (arith, r.state, o.small ran.state); over_front = refl };
        }

    pub roomy : Room (length xs) log image → Between answer.code
    roomy r = rw (with_room r) ran_code

    pub steps_keep : Keeps log image answer
    steps_keep = by_room (length xs) log image
        (λ r. rw (with_room r) (finished_keeps r))
        (λ n. rw (no_room n) (untouched_keeps code.room 0 log image (omega arith) (omega arith)))

  -- ---------- by the source

  pub replays : Upholds k.source (Sound k) → Sound k k.fresh → Room (length xs) log image → Replays k xs log image answer
  replays u g r = record { said = ran; exact = exact k.source (Sound k) u k.fresh g xs; answer = with_room r }

  -- ---------- the history that is told of

  accepted_first : (n : ℕ) → n ≤ ran.place → AllAccepted (machine_of k) k.fresh (take n xs)
  accepted_first n h =
      rw (take-take n ran.place xs h) at (all_take (machine_of k) k.fresh n (take ran.place xs) (told (machine_of k) k.fresh xs).accepted)

  none_first : (n : ℕ) → n ≡ 0 → AllAccepted (machine_of k) k.fresh (take n xs)
  none_first n z = rw z tt

  pub accepted_to : (n : ℕ) → n ≤ answer.place → AllAccepted (machine_of k) k.fresh (take n xs)
  accepted_to n h = by_room (length xs) log image
      (λ r. accepted_first n (rw (with_room r) at h))
      (λ z. none_first n (omega (arith, rw (no_room z) at h)))

  pub logs_history : let es = pieces k.runner.bytes (log_of (past_of k (take answer.place xs))) in (answer.logged ≡ length es) × (answer.log ≡ over es log)
  logs_history = by_room (length xs) log image
      (λ r. rw (with_room r, replay_log (machine_of k) k.fresh xs) (refl, refl))
      (λ z. rw (no_room z) (refl, refl))

  -- a longer part logs what a shorter one did, and more behind it
  pub logs_grow : (n m : ℕ) → n ≤ m
      → (more : List (EntryOf k)) × (log_of (past_of k (take m xs)) ≡ log_of (past_of k (take n xs)) ++ more)
  logs_grow n m l =
      let ys = drop n (take m xs) in
      let split : take m xs ≡ take n xs ++ ys = rw (← take-take n m xs l) (sym (take-append-drop n (take m xs))) in
      let more = entries (machine_of k) (after_of k (take n xs)) ys in (
        more,
        past_log (machine_of k) [] k.fresh (take m xs)
            ∙ ap (λ (zs : List (StepOf k)). entries (machine_of k) k.fresh zs) split
            ∙ entries_append (machine_of k) k.fresh (take n xs) ys
            ∙ ap (λ (es : List (EntryOf k)). es ++ more) (sym (past_log (machine_of k) [] k.fresh (take n xs))),
      )

  pub shows_state : Room (length xs) log image → let i = k.runner.image (after_of k (take answer.place xs)) in (answer.imaged ≡ length i) × (answer.image ≡ over i image)
  shows_state r = rw (with_room r, ← (told (machine_of k) k.fresh xs).state) (refl, refl)
