-- How a state stands for the source's, and what is proved of the two: proofs/Refines.antt. Assumes nothing.
use Rattle.std.specs.Prelude.{ℕ, suc, ◌≤◌, ◌<◌, ◌≡◌, Bool, true, cond, false, List, [], ◌∷◌, ◌++◌, eqb, length}
use Rattle.machine.specs.Machine.{Accepted}
use Rattle.machine.specs.Replay.{AllAccepted, after}
use Rattle.machine.specs.Codes as code
use Rattle.machine.specs.Sourced.{Line, line, Sourced, Inductive, Complete, Upholds}
use Rattle.schedule.specs.Limits as limit
use Rattle.schedule.specs.declared.steps.FlagStep.{FlagStep}
use Rattle.schedule.specs.declared.steps.FlagStep.TheVariants.{Begin, Move, Read}
use Rattle.flag.specs.Source as source
use Rattle.flag.specs.Source.{Control, Memory, Resolves, Flag, Transition, Moves, Safe, control_after, memory_after, resolves}
use Rattle.flag.specs.Invariants.{FlagInv}
use Rattle.flag.specs.Flag.{flag, fresh_state, place, went, next}
use Rattle.flag.specs.Sound.{sound}
use Rattle.flag.specs.declared.state.State.{State}
use Rattle.flag.specs.declared.moves.Flips.{Flips}
use Rattle.flag.specs.declared.moves.Flips.TheVariants.{Nobody, Mover, Both}
use Rattle.flag.specs.declared.entry.Entry.{Entry}
use Rattle.flag.specs.declared.entry.Entry.TheVariants.{Flip, Saw}

-- the scope's number of each place of the loop
abbrev pub number : Control → ℕ
number source.returned = 0
number source.try_cancel_two_flips = 1
number source.try_simple_flip = 2
number source.try_simple_flip_second = 3
number source.try_handshake = 4
number source.try_handshake_second = 5
number source.try_handshake_store = 6

-- and back; a number over 6 is no place
abbrev pub control : ℕ → Control
control p =
    cond (eqb p 1) source.try_cancel_two_flips
    (cond (eqb p 2) source.try_simple_flip
    (cond (eqb p 3) source.try_simple_flip_second
    (cond (eqb p 4) source.try_handshake
    (cond (eqb p 5) source.try_handshake_second
    (cond (eqb p 6) source.try_handshake_store
    source.returned)))))

abbrev pub flips_of : Resolves → Flips
flips_of source.none_resolved = Nobody
flips_of source.own_resolved = Mover
flips_of source.both_resolved = Both

abbrev pub abs : State → Flag
abs s =
    record { memory = record { value = s.value; pending = s.pending }; threads = s.threads; controls = λ k. control (place s k) }

abbrev pub label : FlagStep → Transition
label (Begin k) = source.begin k
label (Move k) = source.move k
label (Read k) = source.read k

-- ---------- soundness: the source's invariant, the limits, unused entries zero

pub record Sound (s : State) : Type 0 where
  pub inv : FlagInv (abs s)
  -- the row is whole, there are threads, and no more than its room
  pub whole : length s.places ≡ limit.threads
  pub any : 1 ≤ s.threads
  pub few : s.threads ≤ limit.threads
  pub places : (k : ℕ) → place s k ≤ 6
  pub unused : (k : ℕ) → s.threads ≤ k → place s k ≡ 0

-- ---------- the scope's table of codes, said of helping.rs. No step counts, so that no counter's limit is ever reached

abbrev pub lines : Flag → Transition → List Line
lines a (source.begin k) = line code.outside (a.threads ≤ k) ∷ line code.phase (a.controls k ≡ source.returned → ⊥) ∷ []
lines a (source.move k) = line code.outside (a.threads ≤ k) ∷ line code.phase (a.controls k ≡ source.returned) ∷ []
lines a (source.read k) = line code.outside (a.threads ≤ k) ∷ line code.phase (a.controls k ≡ source.returned → ⊥) ∷ []

-- what the source hands out: `flip` the flips that an operation resolves, `read` the value. The offer taken is that of the thread that waits with it
abbrev pub Resolved : Flag → ℕ → Resolves → List Entry → Type 0
Resolved pre k source.none_resolved es = es ≡ []
Resolved pre k source.own_resolved es = es ≡ Flip k ∷ []
Resolved pre k source.both_resolved es =
    (o : ℕ) × (o < pre.threads) × (pre.controls o ≡ source.try_handshake_second) × (es ≡ Flip o ∷ Flip k ∷ [])

abbrev pub HandsOut : Flag → Transition → List Entry → Type 0
HandsOut pre (source.begin k) es = es ≡ []
HandsOut pre (source.move k) es = Resolved pre k (resolves (pre.controls k) pre.memory) es
HandsOut pre (source.read k) es = es ≡ Saw k pre.memory.value ∷ []

-- the machine beside helping.rs: `Enabled`, `Route` and `Exact` of machine/specs/Sourced.antt are said of it
abbrev pub helping : Sourced flag
helping =
    record {
      Source = Flag;
      Transition = Transition;
      Moves = Moves;
      Safe = Safe;
      HandsOut = HandsOut;
      lines = lines;
      abs = abs;
      label = label;
    }

-- ---------- a flip whose thread moves alone: over, or its next move is accepted and it is over within m moves after that

pub data EndsWithin (k : ℕ) : ℕ → State → Type 0 where
  over : {m : ℕ} {s : State} → place s k ≡ 0 → EndsWithin k m s
  goes : {m : ℕ} {s : State} → Accepted flag s (Move k) → EndsWithin k m (next s (Move k)) → EndsWithin k (suc m) s

-- under interference no bound holds: for every n there is an accepted schedule in which thread k makes n moves and more in one flip
abbrev pub moves_of : ℕ → List FlagStep → ℕ
moves_of k [] = 0
moves_of k (Begin j ∷ xs) = moves_of k xs
moves_of k (Move j ∷ xs) = cond (eqb j k) (suc (moves_of k xs)) (moves_of k xs)
moves_of k (Read j ∷ xs) = moves_of k xs

pub record Wanders (s : State) (k n : ℕ) : Type 0 where
  pub steps : List FlagStep
  pub accepted : AllAccepted flag s steps
  pub returns : after flag s steps ≡ s
  pub many : n ≤ moves_of k steps
  pub never : (xs ys : List FlagStep) → steps ≡ xs ++ ys → place (after flag s xs) k ≡ 0 → ⊥

-- ---------- what is proved

pub record Refines : Type 0 where
  -- a fresh flag is the source's `new` with the value asked for, and sound
  pub fresh_new : (n : ℕ) (v : Bool) → abs (fresh_state n v) ≡ source.new n v
  pub fresh_sound : (n : ℕ) (v : Bool) → 1 ≤ n → n ≤ limit.threads → sound (fresh_state n v) ≡ true
  -- the test is the record, where the row is whole, as every row of the code is
  pub sound_means : (s : State) → length s.places ≡ limit.threads → sound s ≡ true → Sound s
  pub means_sound : (s : State) → Sound s → sound s ≡ true
  -- of a sound state: a step is accepted exactly when it is enabled, and then does what the source says and leaves a sound state
  pub upholds : Upholds helping Sound
  -- the source's own proofs, over all of its states: it starts with its invariants, and its transitions keep them
  pub initial : (n : ℕ) (v : Bool) → FlagInv (source.new n v)
  pub inductive : Inductive helping FlagInv
  -- its table: a transition leads somewhere exactly if no line applies
  pub complete : Complete helping FlagInv
  -- the scope's table of places is the source's loop
  pub table : (c : Control) (m : Memory) → (c ≡ source.returned → ⊥)
      → went (number c) m.pending m.value
      ≡ record {
        place = number (control_after c m);
        pending = (memory_after c m).pending;
        value = (memory_after c m).value;
        flips = flips_of (resolves c m);
      }
  pub numbered : (c : Control) → control (number c) ≡ c
  -- a lone flip ends within five moves, from any sound state with the thread anywhere in its flip
  pub ends : (s : State) → Sound s → (k : ℕ) → k < s.threads → EndsWithin k 5 s
  -- and under interference no bound holds: from where thread 0 of two has just begun (P12)
  pub unbounded : (n : ℕ) → Wanders (next (fresh_state 2 false) (Begin 0)) 0 n
