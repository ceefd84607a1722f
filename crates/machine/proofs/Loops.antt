-- The loop that reads, steps, logs and stops, for any machine: what it keeps, and what it leaves. Assumes nothing.
use mathlib.Core.Path.{◌≡◌, refl, sym, ap, ◌∙◌}
use mathlib.Core.List.{List}
use Prim.Native.Nat.{ℕ, suc, ◌+◌, ◌-◌, ◌*◌, ◌^◌, ◌≤◌, ◌<◌}
use native.Mathlib.Nat.{add-zero, add_assoc, suc-mul, lt_of_le_of_lt}
use native.Mathlib.Omega.{arith}
use mir.Syntax.{w64}
use mir.Val.{Fits}
use lib.ListN.{length, length-append}
use Rattle.rows.specs.Stores.{puts}
use Rattle.rows.specs.Walk.{pieces}
use Rattle.rows.proofs.Stores.{length_puts, puts_append}
use Rattle.rows.proofs.Walks.{pieces_append}
use Rattle.machine.specs.Machine.{Machine, code_of}
use Rattle.machine.specs.Replay.{Replayed, replay, behind}
use Rattle.machine.specs.Loop.{steps_from, Formed, Left, left}
use Rattle.machine.proofs.Replays.{replay_on, replay_stop}

-- what is left behind a step that logged es, and whose entries stand in the log already
pub left_behind : {m : Machine} (bytes : m.Entry → List ℕ) (log : List ℕ) (w : ℕ) (es : List m.Entry) (r : Replayed m)
    → left bytes (puts log w (pieces bytes es)) (w + length (pieces bytes es)) r ≡ left bytes log w (behind es r)
left_behind bytes log w es r =
    let new = pieces bytes es in
    let rest = pieces bytes r.log in
    rw (pieces_append bytes es r.log, puts_append log w new rest, length-append new rest, add_assoc w (length new) (length rest))

module _ (m : Machine) (step_at : List ℕ → ℕ → m.Step) (size_of : m.Step → ℕ) (bytes : m.Entry → List ℕ) (most : ℕ)
    (short : (q : m.State) (x : m.Step) → length (pieces bytes (m.logs q x)) ≤ most)
    (Good : m.State → Type 0) (kept : (q : m.State) (x : m.Step) → code_of m q x ≡ 0 → Good q → Good (m.next q x))
    (f : List ℕ) (from k₀ n : ℕ) (q₀ : m.State) (log₀ : List ℕ) (w₀ : ℕ) where
  -- the loop runs the steps k₀ to n - 1, the first of them at `from`, and logs from w₀ on
  abbrev pub ends₀ : Left m
  ends₀ = left bytes log₀ w₀ (replay m q₀ k₀ (steps_from step_at size_of f from (n - k₀)))

  -- before step k, at the place `at` of the file, with the log written up to w: what is left is formed and fits, and running it ends as the whole run does
  pub record Going (log : List ℕ) (q : m.State) (at k w : ℕ) : Type 0 where
    pub below : k ≤ n
    pub held : length f < 2 ^ 64
    pub good : Good q
    pub sound : Formed step_at size_of f at (n - k)
    pub room : w + (n - k) * most ≤ length log
    pub same : length log ≡ length log₀
    pub ends : left bytes log w (replay m q k (steps_from step_at size_of f at (n - k))) ≡ ends₀

  pub begins : k₀ ≤ n → length f < 2 ^ 64 → Good q₀ → Formed step_at size_of f from (n - k₀) → w₀ + (n - k₀) * most ≤ length log₀ → Going log₀ q₀ from k₀ w₀
  begins l b g s r = record { below = l; held = b; good = g; sound = s; room = r; same = refl; ends = refl }

  module _ (log : List ℕ) (q : m.State) (at k w : ℕ) (g : Going log q at k w) where
    -- no step is left
    pub going_end : k ≡ n → ends₀ ≡ record { code = 0; place = k; state = q; log = log; upto = w }
    unfolding replay steps_from
    going_end e = let z : n - k ≡ 0 = omega arith in sym (rw (z, add-zero) at g.ends)

    -- a place that is in the file is a usize
    pub going_fits : (d : ℕ) → at + d ≤ length f → Fits w64 (at + d)
    going_fits d e = record { fits = lt_of_le_of_lt e g.held }

    module _ (h : k ≡ n → ⊥) where
      pub going_below : k < n
      going_below = omega (arith, g.below)

      one : n - k ≡ suc (n - (k + 1))
      one = omega (arith, going_below)

      -- the step to read is in the file
      pub going_well : at + size_of (step_at f at) ≤ length f
      unfolding Formed
      going_well = (rw one at g.sound).0

      module _ (x : m.Step) (r : x ≡ step_at f at) where
        -- the step read lies in the file, and the place after it is a usize
        pub going_ahead : at + size_of x ≤ length f
        going_ahead = rw r going_well

        pub going_next : Fits w64 (at + size_of x)
        going_next = going_fits (size_of x) going_ahead

        spare : w + most + (n - (k + 1)) * most ≤ length log
        spare =
            let d = suc-mul (n - (k + 1)) most in
            let e : w + suc (n - (k + 1)) * most ≤ length log = rw one at g.room in
            omega (arith, e)

        -- the log has room for what the step logs, and for the largest entries
        pub going_most : w + most ≤ length log
        going_most = omega (arith, spare)

        -- the step is refused
        pub going_stop : (c : ℕ) → c ≡ code_of m q x → (c ≡ 0 → ⊥) → ends₀ ≡ record { code = c; place = k; state = q; log = log; upto = w }
        unfolding steps_from
        going_stop c e z = rw (e, r) (sym (rw (one, replay_stop m q k _ _ (rw (e, r) at z), add-zero) at g.ends))

        -- the step is accepted: the next turn
        pub going_turn : code_of m q x ≡ 0 → (q' : m.State) (log' : List ℕ) (at' w' : ℕ)
            → q' ≡ m.next q x → log' ≡ puts log w (pieces bytes (m.logs q x)) → at' ≡ at + size_of x → w' ≡ w + length (pieces bytes (m.logs q x))
            → Going log' q' at' (k + 1) w'
        unfolding steps_from Formed
        going_turn z q' log' at' w' eq el ea ew =
            let es = m.logs q x in
            let rest = replay m (m.next q x) (k + 1) (steps_from step_at size_of f (at + size_of x) (n - (k + 1))) in
            let len : length log' ≡ length log = ap length el ∙ length_puts log w (pieces bytes es) in
            let e₁ : left bytes log w (behind es rest) ≡ ends₀ = rw r (rw (one, replay_on m q k _ _ (rw r at z)) at g.ends) in
            record {
              below = omega (arith, going_below);
              held = g.held;
              good = rw eq (kept q x z g.good);
              sound = rw (ea, r) (rw one at g.sound).1;
              room = omega (arith, spare, short q x);
              same = len ∙ g.same;
              ends = rw (eq, el, ea, ew) (left_behind bytes log w es rest ∙ e₁);
            }
