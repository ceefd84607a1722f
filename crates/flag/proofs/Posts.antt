-- What an accepted step does in the source: where it leads, to no other state, and what it hands out, nothing else. Assumes nothing.
use Prim.Native.Nat.{ℕ, ◌<◌}
use mathlib.Core.Path.{◌≡◌, refl, sym, ap, ◌∙◌}
use mathlib.Core.Bool.{Bool, cond}
use mathlib.Core.Logic.{inl}
use mathlib.Core.List.{List}
use lib.Dec.{eqb}
use borrow.Author.Tests.{eqb-true, eq-eqb, ne_eqb, ltb-true}
use Rattle.rows.proofs.Row.{row_case}
use Rattle.machine.specs.Machine.{Accepted}
use Rattle.schedule.specs.declared.steps.FlagStep.{FlagStep}
use Rattle.schedule.specs.declared.steps.FlagStep.TheVariants.{Begin, Move, Read}
use Rattle.flag.specs.Source as source
use Rattle.flag.specs.Source.{Control, Memory, Resolves, Flag, Transition, Moves, with_thread, control_after, memory_after, resolves}
use Rattle.flag.specs.Invariants.{FlagInv}
use Rattle.flag.specs.Flag.{flag, place, went, went_by, offerer, with_place, next, logs, flipped}
use Rattle.flag.specs.Refined.{number, control, flips_of, abs, label, Sound, Resolved, HandsOut}
use Rattle.flag.specs.declared.state.State.{State}
use Rattle.flag.specs.declared.entry.Entry.{Entry}
use Rattle.flag.specs.declared.moves.Went.{Went}
use Rattle.flag.proofs.Loop.{numbered, table}
use Rattle.flag.proofs.Inductive.{one_waits}
use Rattle.flag.proofs.Offerer.{offerer_second, offerer_thread, both_offered}
use Rattle.flag.proofs.Sounds.{in_row}
use Rattle.flag.proofs.Kept.{inside_loop, stands_at}

-- ---------- where a move leads, by the table

-- where the source's loop goes from c, as the scope tells it
abbrev loop_goes : Control → Memory → Went
loop_goes c m =
    record {
      place = number (control_after c m);
      pending = (memory_after c m).pending;
      value = (memory_after c m).value;
      flips = flips_of (resolves c m);
    }

went_at : (p : ℕ) (c : Control) (m : Memory) → p ≡ number c → (c ≡ source.returned → ⊥) → went p m.pending m.value ≡ loop_goes c m
went_at p c m e n = rw e (table c m n)

by_table : (s : State) (k : ℕ) → Sound s → Accepted flag s (Move k) → went_by s k ≡ loop_goes ((abs s).controls k) (abs s).memory
by_table s k i a = went_at (place s k) ((abs s).controls k) (abs s).memory (stands_at s k i) (inside_loop s k i a.1.0)

-- ---------- an accepted step does what the source does

-- the place written anew is where the thread stands, and the others stand where they stood
module _ (s : State) (k : ℕ) (i : Sound s) (b : k < s.threads) (p d : ℕ) (v : Bool) where
  put_control : (j : ℕ) → control (place (with_place s k p d v) j) ≡ cond (eqb j k) (control p) (control (place s j))
  put_control j = row_case (λ q. control q ≡ cond (eqb j k) (control p) (control (place s j))) s.places k j p 0 (in_row s k i b)
      (λ x. rw (eq-eqb j k x))
      (λ n. rw (ne_eqb j k n))

  put_thread : abs (with_place s k p d v) ≡ with_thread (abs s) k (control p) (record { value = v; pending = d })
  put_thread = λ t. record { memory = record { value = v; pending = d }; threads = s.threads; controls = λ j. put_control j t }

-- the state of the source after a move, by where the table leads
abbrev led : State → ℕ → Went → Flag
led s k w = with_thread (abs s) k (control w.place) (record { value = w.value; pending = w.pending })

move_update : (s : State) (k : ℕ) → Sound s → Accepted flag s (Move k)
    → abs (next s (Move k)) ≡ with_thread (abs s) k (control_after ((abs s).controls k) (abs s).memory) (memory_after ((abs s).controls k) (abs s).memory)
move_update s k i a =
    let c = (abs s).controls k in
    let m = (abs s).memory in
    let w = went_by s k in
    put_thread s k i (ltb-true k s.threads a.0) w.place w.pending w.value
    ∙ ap (led s k) (by_table s k i a)
    ∙ ap (λ (d : Control). with_thread (abs s) k d (memory_after c m)) (numbered (control_after c m))

pub accepted_moves : (s : State) (x : FlagStep) → Sound s → Accepted flag s x → Moves (abs s) (label x) (abs (next s x))
accepted_moves s (Begin k) i a =
    let b = ltb-true k s.threads a.0 in
    record { thread = b; outside = rw (eqb-true (place s k) 0 a.1.0); update = put_thread s k i b 1 s.pending s.value }
accepted_moves s (Move k) i a = record { thread = ltb-true k s.threads a.0; inside = inside_loop s k i a.1.0; update = move_update s k i a }
accepted_moves s (Read k) i a = record { thread = ltb-true k s.threads a.0; outside = rw (eqb-true (place s k) 0 a.1.0); update = refl }

-- ---------- and a transition has one state after it

pub moves_one : (l : Transition) (m p q : Flag) → Moves m l p → Moves m l q → p ≡ q
moves_one (source.begin k) m p q v w = v.update ∙ sym w.update
moves_one (source.move k) m p q v w = v.update ∙ sym w.update
moves_one (source.read k) m p q v w = v.update ∙ sym w.update

-- ---------- the log is what the source resolves or reads

resolved : (s : State) (k : ℕ) → Sound s → (r : Resolves) → resolves ((abs s).controls k) (abs s).memory ≡ r
    → Resolved (abs s) k r (flipped (flips_of r) (offerer s.places) k)
resolved s k i source.none_resolved e = refl
resolved s k i source.own_resolved e = refl
resolved s k i source.both_resolved e =
    let one = both_offered ((abs s).controls k) (abs s).memory e in
    (offerer s.places, offerer_thread s i one, offerer_second s i one, refl)

pub accepted_logs : (s : State) (x : FlagStep) → Sound s → Accepted flag s x → HandsOut (abs s) (label x) (logs s x)
accepted_logs s (Begin k) i a = refl
accepted_logs s (Move k) i a = rw (by_table s k i a) (resolved s k i (resolves ((abs s).controls k) (abs s).memory) refl)
accepted_logs s (Read k) i a = refl

-- and nothing else is: one thread only waits with its offer
resolved_one : (m : Flag) (k : ℕ) (r : Resolves) (es fs : List Entry) → FlagInv m → Resolved m k r es → Resolved m k r fs → es ≡ fs
resolved_one m k source.none_resolved es fs i p q = p ∙ sym q
resolved_one m k source.own_resolved es fs i p q = p ∙ sym q
resolved_one m k source.both_resolved es fs i p q = rw (p.3, q.3, one_waits i p.0 q.0 (inl p.2) (inl q.2))

pub hands_one : (y : Transition) (m : Flag) (es fs : List Entry) → FlagInv m → HandsOut m y es → HandsOut m y fs → es ≡ fs
hands_one (source.begin k) m es fs i p q = p ∙ sym q
hands_one (source.move k) m es fs i p q = resolved_one m k (resolves (m.controls k) m.memory) es fs i p q
hands_one (source.read k) m es fs i p q = p ∙ sym q
