-- A machine that does what its source does answers every schedule as the source would have it. Assumes nothing.
use mathlib.Core.Path.{◌≡◌, sym, ap, ◌∙◌}
use mathlib.Core.Logic.{◌⊎◌, inl, inr}
use mathlib.Core.List.{List, [], ◌∷◌}
use Prim.Native.Nat.{ℕ}
use borrow.Author.Tests.{eqb-true, eqb-false}
use lib.Dec.{eqb}
use lib.ListN.{length, take}
use lib.Seq.{take-append_seam}
use Rattle.rows.proofs.Cases.{on}
use Rattle.machine.specs.Machine.{Machine, code_of}
use Rattle.machine.specs.Replay.{Replayed, replay, AllAccepted, after, entries, Stopped, Finished, Told}
use Rattle.machine.specs.Sourced.{Sourced, AllEnabled, Route, stay, move, StopsAt, Exact, Upholds}
use Rattle.machine.proofs.Steps.{accepted_code}
use Rattle.machine.proofs.Replays.{told, only, zero_all, all_replay}

module _ {m : Machine} (o : Sourced m) (Good : m.State → Type 0) (u : Upholds o Good) where
  -- ---------- accepted and enabled, step after step

  pub all_accepted : (s : m.State) (xs : List m.Step) → Good s → AllEnabled o s xs → AllAccepted m s xs
  all_accepted s [] g e = tt
  all_accepted s (x ∷ xs) g e =
      let a = u.enabled_accepted s x g e.0 in
      (a, all_accepted (m.next s x) xs (u.accepted_good s x g a) e.1)

  pub all_enabled : (s : m.State) (xs : List m.Step) → Good s → AllAccepted m s xs → AllEnabled o s xs
  all_enabled s [] g a = tt
  all_enabled s (x ∷ xs) g a = (u.accepted_enabled s x g a.0, all_enabled (m.next s x) xs (u.accepted_good s x g a.0) a.1)

  pub after_good : (s : m.State) (xs : List m.Step) → Good s → AllAccepted m s xs → Good (after m s xs)
  after_good s [] g a = g
  after_good s (x ∷ xs) g a = after_good (m.next s x) xs (u.accepted_good s x g a.0) a.1

  -- accepted steps are a route of the source, and their entries what it hands out
  pub accepted_route : (s : m.State) (xs : List m.Step) → Good s → AllAccepted m s xs → Route o (o.abs s) xs (entries m s xs) (o.abs (after m s xs))
  accepted_route s [] g a = stay
  accepted_route s (x ∷ xs) g a =
      move (u.accepted_moves s x g a.0) (u.accepted_safe s x g a.0) (u.accepted_logs s x g a.0) (accepted_route (m.next s x) xs (u.accepted_good s x g a.0) a.1)

  -- ---------- a whole replay

  module _ (s₀ : m.State) (g : Good s₀) (xs : List m.Step) where
    abbrev r : Replayed m
    r = replay m s₀ 0 xs

    t : Told m s₀ xs r
    t = told m s₀ xs

    reached : Good (after m s₀ (take r.place xs))
    reached = after_good s₀ (take r.place xs) g t.accepted

    -- the replay stopped at a step that is disabled, and those before it are enabled
    stopped : Finished m xs r ⊎ Stopped m xs r → (r.code ≡ 0 → ⊥) → StopsAt o s₀ xs r.place r.code
    stopped (inl f) n = absurd (n f.code)
    stopped (inr f) n =
        let code : code_of m (after m s₀ (take r.place xs)) f.step ≡ r.code = rw t.state at f.refused in
        record {
          before = take r.place xs;
          step = f.step;
          behind = f.rest;
          split = f.split;
          index = f.place;
          enabled = all_enabled s₀ (take r.place xs) g t.accepted;
          disabled = λ e. n (sym code ∙ accepted_code m _ f.step (u.enabled_accepted _ f.step reached e));
          reason = u.code_reason _ f.step r.code reached code n;
        }

    -- a first disabled step is where the replay stops, with that code
    refused : (k c : ℕ) → StopsAt o s₀ xs k c → (r.place ≡ k) × (r.code ≡ c)
    refused k c p =
        let s = after m s₀ p.before in
        let q : Replayed m = record { code = c; place = length p.before; log = entries m s₀ p.before; state = s } in
        let code = u.reason_code s p.step c (after_good s₀ p.before g (all_accepted s₀ p.before g p.enabled)) p.reason in
        let seam : take (length p.before) xs ≡ p.before = rw p.split (take-append_seam p.before (p.step ∷ p.behind)) in
        let stop : Stopped m xs q =
        record {
          step = p.step;
          rest = p.behind;
          split = rw seam p.split;
          place = rw seam;
          refused = code.0;
          nonzero = code.1;
        }
        in
        let e : q ≡ r = only m s₀ xs q (record { accepted = rw seam (all_accepted s₀ p.before g p.enabled); state = rw seam; log = rw seam; ends = inr stop }) in
        (sym (ap (λ (a : Replayed m). a.place) e) ∙ p.index, sym (ap (λ (a : Replayed m). a.code) e))

    accepts : AllEnabled o s₀ xs → (r.code ≡ 0) × (r.place ≡ length xs)
    accepts e =
        let w = all_replay m s₀ xs (all_accepted s₀ xs g e) in
        (ap (λ (a : Replayed m). a.code) w, ap (λ (a : Replayed m). a.place) w)

    pub exact : Exact o s₀ xs r
    exact =
        record {
          all_enabled = λ z. all_enabled s₀ xs g (zero_all m s₀ xs z);
          accepts = accepts;
          stops = stopped t.ends;
          refuses = refused;
          state = t.state;
          log = t.log;
          route = rw (t.log, t.state) (accepted_route s₀ (take r.place xs) g t.accepted);
        }

-- ---------- one answer goes exactly by the source

module _ {m : Machine} (o : Sourced m) (s : m.State) (xs : List m.Step) (r q : Replayed m) (e : Exact o s xs r) (d : Exact o s xs q) where
  -- where all is enabled both end, and else both stop at the first disabled step
  same_end : (r.place ≡ q.place) × (r.code ≡ q.code)
  same_end = on (eqb q.code 0)
      (λ b. let z = eqb-true q.code 0 b in let a = d.all_enabled z in
      let x = e.accepts a in let y = d.accepts a in
      (x.1 ∙ sym y.1, x.0 ∙ sym y.0))
      (λ b. e.refuses q.place q.code (d.stops (eqb-false q.code 0 b)))

  same_state : r.state ≡ q.state
  same_state = e.state ∙ ap (λ (n : ℕ). after m s (take n xs)) same_end.0 ∙ sym d.state

  same_log : r.log ≡ q.log
  same_log = e.log ∙ ap (λ (n : ℕ). entries m s (take n xs)) same_end.0 ∙ sym d.log

  pub one_exact : r ≡ q
  one_exact = λ i. record { code = same_end.1 i; place = same_end.0 i; log = same_log i; state = same_state i }
