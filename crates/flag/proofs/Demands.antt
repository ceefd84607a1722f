-- Demand 3's share: the state after a history is told by counts of the history, so that every history from a fresh flag meets the demand. Assumes
-- nothing.
use Prim.Native.Nat.{ℕ, suc, ◌+◌, ◌≤◌, zero}
use mathlib.Core.Path.{◌≡◌, refl, sym, ◌∙◌, ap}
use mathlib.Core.Bool.{Bool, true}
use mathlib.Core.List.{List, [], ◌∷◌, ◌++◌}
use native.Mathlib.Omega.{arith}
use lib.Dec.{eqb}
use borrow.Author.Tests.{ltb-true, eqb-true, eq-eqb, ne_eqb}
use Rattle.rows.specs.Walk.{tick}
use Rattle.rows.proofs.Row.{row_case}
use Rattle.machine.specs.Machine.{Accepted}
use Rattle.machine.specs.History as history
use Rattle.machine.specs.History.{Run, steps_of}
use Rattle.machine.specs.Replay.{Replayed, after}
use Rattle.machine.proofs.Runs.{always, earlier, last, did_append, logged_append}
use Rattle.machine.proofs.Replays.{all_replay}
use Rattle.machine.proofs.Pasts.{run_all, run_replay}
use Rattle.schedule.specs.Limits as limit
use Rattle.schedule.specs.declared.steps.FlagStep.{FlagStep}
use Rattle.schedule.specs.declared.steps.FlagStep.TheVariants.{Begin, Move, Read}
use Rattle.flag.specs.Flag.{flag, fresh_state, place, offerer, next}
use Rattle.flag.specs.Refined.{control, abs, Sound}
use Rattle.flag.specs.Demand.{Hist, happened, begins_of, flip_of, begins, flips, all_flips, turned, MayRead, Demanded, owed, FlipsOwed}
use Rattle.flag.specs.declared.state.State.{State}
use Rattle.flag.specs.declared.entry.Entry.{Entry}
use Rattle.flag.proofs.Sounds.{sound_handshake, fresh_means, fresh_outside, in_row}
use Rattle.flag.proofs.Kept.{accepted_sound, inside_loop, stands_at}
use Rattle.flag.proofs.Debts.{owes, debt_move, shown_move}

-- a begin of k, and what came before it
abbrev begun : ℕ → List Entry → Hist → Hist
begun k es before = happened (Begin k) es ∷ before

-- ---------- the state as counts of the history

pub record Inv (v₀ : Bool) (h : Hist) (s : State) : Type 0 where
  pub right : Sound s
  -- of each thread: begun are the flips that are logged and the one that it still owes
  pub debt : (k : ℕ) → begins h k ≡ flips h k + owes ((abs s).controls k) s.pending
  pub shown : s.value ≡ turned (all_flips h) v₀

keep : (v₀ : Bool) (h : Hist) (s : State) (x : FlagStep) → Inv v₀ h s → Accepted flag s x → Inv v₀ (history.event flag s x ∷ h) (next s x)
keep v₀ h s (Begin k) i a =
    let r = in_row s k i.right (ltb-true k s.threads a.0) in
    let z : place s k ≡ 0 = eqb-true (place s k) 0 a.1.0 in
    record {
      right = accepted_sound s (Begin k) i.right a;
      debt = λ q. row_case (λ p. tick (eqb q k) (begins h q) ≡ flips h q + owes (control p) s.pending) s.places k q 1 0 r
          (λ x. rw (eq-eqb q k x, x) (omega (arith, rw z at (i.debt k))))
          (λ n. rw (ne_eqb q k n) (i.debt q));
      shown = i.shown;
    }
keep v₀ h s (Move k) i a =
    let r = in_row s k i.right (ltb-true k s.threads a.0) in
    let n = inside_loop s k i.right a.1.0 in
    let e = stands_at s k i.right in
    record {
      right = accepted_sound s (Move k) i.right a;
      debt = rw e (debt_move (begins h) (flips h) s.places k ((abs s).controls k) s.pending s.value r e n (sound_handshake s i.right) i.debt);
      shown = rw e (shown_move v₀ (all_flips h) ((abs s).controls k) s.pending s.value (offerer s.places) k i.shown);
    }
keep v₀ h s (Read k) i a = record { right = i.right; debt = i.debt; shown = i.shown }

module _ (n : ℕ) (v₀ : Bool) (any : 1 ≤ n) (few : n ≤ limit.threads) where
  fresh : Inv v₀ [] (fresh_state n v₀)
  fresh = record { right = fresh_means n v₀ any few; debt = λ k. rw (fresh_outside n v₀ k); shown = refl }

  pub run_inv : {h : Hist} {s : State} → Run flag (fresh_state n v₀) h s → Inv v₀ h s
  run_inv r = always flag (fresh_state n v₀) (Inv v₀) fresh (keep v₀) r

  -- ---------- where a thread is idle, each flip that it began is logged

  settled : (h : Hist) (s : State) (k : ℕ) → Run flag (fresh_state n v₀) h s → eqb (place s k) 0 ≡ true → begins h k ≡ flips h k
  settled h s k r e = let i = (run_inv r).debt k in omega (arith, rw (eqb-true (place s k) 0 e) at i)

  -- the steps of a history lead to its state
  leads : (h : Hist) (s : State) → Run flag (fresh_state n v₀) h s → after flag (fresh_state n v₀) (steps_of h) ≡ s
  leads h s r =
      let a = all_replay flag (fresh_state n v₀) (steps_of h) (run_all flag r) in
      ap (λ (t : Replayed flag). t.state) (sym a ∙ run_replay flag (fresh_state n v₀) h s r)

  may_settled : (h : Hist) (s : State) (k : ℕ) → Run flag (fresh_state n v₀) h s → MayRead (fresh_state n v₀) h k → begins h k ≡ flips h k
  may_settled h s k r m = let a = rw (leads h s r) at m in settled h s k r a.1.0

  -- ---------- one flip of k, from its begin on

  module _ (k : ℕ) (during before : Hist) (es : List Entry) (s : State) (r : Run flag (fresh_state n v₀) (during ++ begun k es before) s) (f : begins during k ≡ 0) where
    -- the begin logs nothing, and before it nothing was owed: so what is logged since then is the flip's
    one_flip : (es ≡ []) × (begins (during ++ begun k es before) k + flips during k ≡ suc (flips (during ++ begun k es before) k))
    one_flip =
        let t = earlier flag (fresh_state n v₀) during r in
        let l = last flag (fresh_state n v₀) (Begin k) refl t.1 in
        let w : es ≡ [] = sym l.4 in
        let z = settled before l.0 k l.1 l.2.1.0 in
        let a : begins (begun k es before) k ≡ suc (flips (begun k es before) k) = rw (w, eq-eqb k k refl) (ap suc z) in
        (w, omega (arith, a, did_append (begins_of k) during (begun k es before), logged_append (flip_of k) during (begun k es before)))

    once : (es ≡ []) × (flips during k ≤ 1)
    once = (one_flip.0, omega (arith, one_flip.1, (run_inv r).debt k))

    done_once : MayRead (fresh_state n v₀) (during ++ begun k es before) k → flips during k ≡ 1
    done_once m = omega (arith, one_flip.1, may_settled (during ++ begun k es before) s k r m)

  -- what was settled stays so while k begins no other flip
  nothing_later : (k : ℕ) (later h : Hist) (s : State) → Run flag (fresh_state n v₀) (later ++ h) s → begins later k ≡ 0 → begins h k ≡ flips h k
      → flips later k ≡ 0
  nothing_later k later h s r g u = omega (arith, u, g, did_append (begins_of k) later h, logged_append (flip_of k) later h, (run_inv r).debt k)

pub demanded : Demanded
demanded n v₀ any few h s r =
    record {
      none_unbegun = λ k. omega (arith, (run_inv n v₀ any few r).debt k);
      at_most_once = λ k rest during before es q f.
          let t = earlier flag (fresh_state n v₀) rest (rw q at r) in
          once n v₀ any few k during before es t.0 t.1 f;
      finished_once = λ k rest later during before es q f g m.
          let t = earlier flag (fresh_state n v₀) rest (rw q at r) in
          let u = earlier flag (fresh_state n v₀) later t.1 in
          let over = may_settled n v₀ any few (during ++ begun k es before) u.0 k u.1 m in (
            done_once n v₀ any few k during before es u.0 u.1 f m,
            nothing_later n v₀ any few k later (during ++ begun k es before) t.0 t.1 g over,
          );
      reads = λ k later before es q.
          let t = earlier flag (fresh_state n v₀) later (rw q at r) in
          let l = last flag (fresh_state n v₀) (Read k) refl t.1 in
          sym l.4 ∙ rw (run_inv n v₀ any few l.1).shown;
    }

-- what the place owes is what the control there owes, of the seven places that there are
owed_owes : (p d : ℕ) → p ≤ 6 → owed p d ≡ owes (control p) d
owed_owes zero d h = refl
owed_owes (suc zero) d h = refl
owed_owes (suc (suc zero)) d h = refl
owed_owes (suc (suc (suc zero))) d h = refl
owed_owes (suc (suc (suc (suc zero)))) d h = refl
owed_owes (suc (suc (suc (suc (suc zero))))) d h = refl
owed_owes (suc (suc (suc (suc (suc (suc zero)))))) d h = refl
owed_owes (suc (suc (suc (suc (suc (suc (suc p))))))) d h = absurd (omega (arith, h))

pub flips_owed : FlipsOwed
flips_owed n v₀ any few h s r =
    let i = run_inv n v₀ any few r in
    (λ k. i.debt k ∙ rw (← owed_owes (place s k) s.pending (i.right.places k)), i.shown)
