-- Demand 3's share: the state after a history is told by counts of the history, so that every history from a fresh lock meets the demand, and its cells
-- are counted. Assumes nothing.
use Prim.Native.Nat.{ℕ, ◌+◌, ◌*◌, ◌≤◌}
use native.Mathlib.Nat.{mul-zero, mul-suc}
use mathlib.Core.Path.{◌≡◌, refl, sym, subst, ◌∙◌}
use mathlib.Core.Bool.{true, ◌&&◌}
use mathlib.Core.List.{List, [], ◌∷◌}
use native.Mathlib.Omega.{arith}
use lib.Dec.{eqb}
use borrow.Author.Tests.{eqb-true, eq-eqb, ltb-true, not-true}
use Rattle.rows.specs.Walk.{bit}
use Rattle.rows.proofs.Cases.{on, clash, both_true, tick_bit}
use Rattle.rows.proofs.Rows.{get_d_replicate}
use Rattle.machine.specs.Machine.{Accepted}
use Rattle.machine.specs.History.{event, Run, did#, AtEach, Throughout}
use Rattle.machine.proofs.Runs.{always, throughout, at_each, suffices}
use Rattle.schedule.specs.Limits as limit
use Rattle.schedule.specs.declared.steps.LockStep.{LockStep}
use Rattle.schedule.specs.declared.steps.LockStep.TheVariants.{ExcStart, ExcCheckCount, ExcFinish, ExcRelease, SharedStart, SharedFinish, SharedRelease}
use Rattle.lock.specs.Lock.{lock, zero_cell, fresh_state, cell, next, logs}
use Rattle.lock.specs.Demand.{Hist, ReaderAt, shared_starts, shared_releases, handed_out, given_back, taken, returned, in_force, finishes_at, starts, checks, finishes}
use Rattle.lock.specs.Demand.{At, Guards, CellsCounted, GuardsCounted, HeadCounted}
use Rattle.lock.specs.declared.entry.Entry.{Entry}
use Rattle.lock.specs.declared.state.State.{State}
use Rattle.lock.proofs.Filtered.{carrying, carrying_none, carrying_more, carrying_down}
use Rattle.lock.proofs.Phases.{unlocked_away, checking_stored, held_locked, unused_cursor, stored_or_held}
use Rattle.lock.proofs.Plain.{guards, Plain}
use Rattle.lock.proofs.Sounds.{fresh_plain}
use Rattle.lock.proofs.Changed.{in_row, at_start, at_finish, at_release}
use Rattle.lock.proofs.Kept.{plain_next}

-- ---------- the state as counts of the history

pub record Inv (t₀ : ℕ) (h : Hist) (s : State) : Type 0 where
  pub plain : Plain s
  -- a record in store is the one in force
  pub store : s.head.stored ≡ true → s.head.t ≡ in_force t₀ h
  pub cells : (r : ℕ) → (cell s r).count + shared_releases h r ≡ shared_starts h r
  -- of each cell and record: handed out are those given back and those that the state still counts, and these carry the record in force
  pub readers : (r u : ℕ) → handed_out h r u ≡ given_back h r u + carrying (in_force t₀ h) (guards s.cells) (r, u)
  pub writers : taken h ≡ returned h + bit s.head.guard
  -- the walks of the writers: whole ones, and the one under way
  pub under_way : did# starts h ≡ returned h + bit s.head.locked
  pub pending : did# starts h ≡ did# finishes h + bit s.head.pending
  pub announced : (r : ℕ) → (cell s r).pending + did# (finishes_at r) h ≡ shared_starts h r
  pub walked : s.head.cursor + s.head.width * did# finishes h ≡ did# checks h

module _ (t₀ : ℕ) (h : Hist) (s : State) (i : Inv t₀ h s) where
  -- the writer starts, or checks a cell: nothing that is counted here
  keep_start : Accepted lock s ExcStart → Inv t₀ (event lock s ExcStart ∷ h) (next s ExcStart)
  keep_start a =
      record {
        plain = plain_next s ExcStart i.plain a;
        store = i.store;
        cells = i.cells;
        readers = i.readers;
        writers = i.writers;
        under_way = omega (arith, rw (not-true s.head.locked a.0) at i.under_way);
        pending = omega (arith, rw (unlocked_away i.plain.phase (not-true s.head.locked a.0)).1 at i.pending);
        announced = i.announced;
        walked = omega (arith, i.walked, unused_cursor i.plain.phase (unlocked_away i.plain.phase (not-true s.head.locked a.0)).1);
      }

  keep_check : Accepted lock s ExcCheckCount → Inv t₀ (event lock s ExcCheckCount ∷ h) (next s ExcCheckCount)
  keep_check a =
      record {
        plain = plain_next s ExcCheckCount i.plain a;
        store = i.store;
        cells = i.cells;
        readers = i.readers;
        writers = i.writers;
        under_way = i.under_way;
        pending = i.pending;
        announced = i.announced;
        walked = omega (arith, i.walked);
      }

  -- it takes the guard that it did not hold
  keep_finish : Accepted lock s ExcFinish → Inv t₀ (event lock s ExcFinish ∷ h) (next s ExcFinish)
  keep_finish a =
      record {
        plain = plain_next s ExcFinish i.plain a;
        store = λ e. clash (cc);
        cells = i.cells;
        readers = i.readers;
        writers = omega (arith, rw (checking_stored i.plain.phase a.0).1 at i.writers);
        under_way = i.under_way;
        pending = omega (arith, rw a.0 at i.pending);
        announced = i.announced;
        walked = rw (mul-suc s.head.width (did# finishes h)) (omega (arith, eqb-true, a.1.0, i.walked));
      }

  -- it gives it back, and another record is in force: no reader has a guard, so none carries either
  keep_release : (t : ℕ) → Accepted lock s (ExcRelease t) → Inv t₀ (event lock s (ExcRelease t) ∷ h) (next s (ExcRelease t))
  keep_release t a =
      record {
        plain = plain_next s (ExcRelease t) i.plain a;
        store = λ e. refl;
        cells = i.cells;
        readers = λ r u.
            let z = (i.plain.cells r).clear (rw a.0) in
            omega (arith, i.readers r u, carrying_none (in_force t₀ h) (guards s.cells) r u z, carrying_none t (guards s.cells) r u z);
        writers = omega (arith, rw a.0 at i.writers);
        under_way = omega (arith, rw (held_locked i.plain.phase a.0) at i.under_way);
        pending = i.pending;
        announced = i.announced;
        walked = i.walked;
      }

  keep_shared_start : (r : ℕ) → Accepted lock s (SharedStart r) → Inv t₀ (event lock s (SharedStart r) ∷ h) (next s (SharedStart r))
  keep_shared_start r a =
      let f = at_start s r (in_row s r i.plain a.0) in
      record {
        plain = plain_next s (SharedStart r) i.plain a;
        store = i.store;
        cells = λ q. rw (tick_bit (eqb q r)) (omega (arith, f q, i.cells q));
        readers = λ q u. rw (f q).2 (i.readers q u);
        writers = i.writers;
        under_way = i.under_way;
        pending = i.pending;
        announced = λ q. rw (tick_bit (eqb q r)) (omega (arith, f q, i.announced q));
        walked = i.walked;
      }

  -- unlocked, so that a record is in store, and the guard carries it
  keep_shared_finish : (r : ℕ) → Accepted lock s (SharedFinish r) → Inv t₀ (event lock s (SharedFinish r) ∷ h) (next s (SharedFinish r))
  keep_shared_finish r a =
      let f = at_finish s r (in_row s r i.plain a.0) (ltb-true 0 (cell s r).pending a.1.1.0) in
      let e = i.store (unlocked_away i.plain.phase (not-true s.head.locked a.1.0)).0 in
      record {
        plain = plain_next s (SharedFinish r) i.plain a;
        store = i.store;
        cells = λ q. omega (arith, (f q).0, i.cells q);
        readers = λ q u. rw (e, tick_bit (eqb u (in_force t₀ h) && eqb q r))
            (omega (arith, i.readers q u, carrying_more (in_force t₀ h) r (guards s.cells) (guards (next s (SharedFinish r)).cells) (λ k. (f k).2) (q, u)));
        writers = i.writers;
        under_way = i.under_way;
        pending = i.pending;
        announced = λ q. rw (tick_bit (eqb q r)) (omega (arith, (f q).1, i.announced q));
        walked = i.walked;
      }

  -- the guard that goes carries the record in force
  keep_shared_release : (r t : ℕ) → Accepted lock s (SharedRelease r t) → Inv t₀ (event lock s (SharedRelease r t) ∷ h) (next s (SharedRelease r t))
  keep_shared_release r t a =
      let f = at_release s r (in_row s r i.plain a.0) t (ltb-true 0 (cell s r).guards a.1.0) (i.plain.cells r).counted in
      let e = eqb-true t s.head.t a.1.1.1.0 ∙ i.store a.1.1.0 in
      record {
        plain = plain_next s (SharedRelease r t) i.plain a;
        store = i.store;
        cells = λ q. rw (tick_bit (eqb q r)) (omega (arith, (f q).0, i.cells q));
        readers = λ q u. rw (e, tick_bit (eqb u (in_force t₀ h) && eqb q r))
            (omega (arith, i.readers q u, carrying_down (in_force t₀ h) r (guards s.cells) (guards (next s (SharedRelease r t)).cells) (λ k. (f k).2) (q, u)));
        writers = i.writers;
        under_way = i.under_way;
        pending = i.pending;
        announced = λ q. omega (arith, (f q).1, i.announced q);
        walked = i.walked;
      }

keep : (t₀ : ℕ) (h : Hist) (s : State) (x : LockStep) → Inv t₀ h s → Accepted lock s x → Inv t₀ (event lock s x ∷ h) (next s x)
keep t₀ h s ExcStart i a = keep_start t₀ h s i a
keep t₀ h s ExcCheckCount i a = keep_check t₀ h s i a
keep t₀ h s ExcFinish i a = keep_finish t₀ h s i a
keep t₀ h s (ExcRelease t) i a = keep_release t₀ h s i t a
keep t₀ h s (SharedStart r) i a = keep_shared_start t₀ h s i r a
keep t₀ h s (SharedFinish r) i a = keep_shared_finish t₀ h s i r a
keep t₀ h s (SharedRelease r t) i a = keep_shared_release t₀ h s i r t a

-- ---------- what each step shows

pub shows : (t₀ : ℕ) (h : Hist) (s : State) (x : LockStep) → Inv t₀ h s → Accepted lock s x → At t₀ h x (logs s x)
shows t₀ h s ExcStart i a = refl
shows t₀ h s ExcCheckCount i a = refl
shows t₀ h s ExcFinish i a =
    let k = checking_stored i.plain.phase a.0 in
    record {
      withdrawn = rw (i.store k.0);
      no_writer = omega (arith, rw k.1 at i.writers);
      no_reader = λ r t.
          omega (arith, i.readers r t, carrying_none (in_force t₀ h) (guards s.cells) r t (((plain_next s ExcFinish i.plain a).cells r).clear refl));
    }
shows t₀ h s (ExcRelease t) i a = (refl, omega (arith, rw a.0 at i.writers))
shows t₀ h s (SharedStart r) i a = refl
shows t₀ h s (SharedFinish r) i a =
    let k = unlocked_away i.plain.phase (not-true s.head.locked a.1.0) in
    record { granted = rw (i.store k.0); no_writer = omega (arith, rw k.2 at i.writers) }
shows t₀ h s (SharedRelease r t) i a =
    let e = eqb-true t s.head.t a.1.1.1.0 ∙ i.store a.1.1.0 in
    (refl, omega (arith, ltb-true, a.1.0, rw (eq-eqb t (in_force t₀ h) e) at (i.readers r t)))

-- ---------- what the steps show says what guards stand: of any history

guards_step : (t₀ : ℕ) (h : Hist) (x : LockStep) (l : List Entry) → Guards t₀ h → At t₀ h x l → Guards t₀ (record { did = x; wrote = l } ∷ h)
guards_step t₀ h ExcStart l g p =
    rw p (record { readers_exact = g.readers_exact; writers_exact = g.writers_exact; one_writer = g.one_writer; apart = g.apart; current = g.current })
guards_step t₀ h ExcCheckCount l g p =
    rw p (record { readers_exact = g.readers_exact; writers_exact = g.writers_exact; one_writer = g.one_writer; apart = g.apart; current = g.current })
guards_step t₀ h ExcFinish l g p =
    rw p.withdrawn
    (record {
      readers_exact = g.readers_exact;
      writers_exact = omega (arith, p.no_writer);
      one_writer = omega (arith, p.no_writer);
      apart = λ w r t k. omega (arith, p.no_reader r t);
      current = λ r t k. absurd (omega (arith, p.no_reader r t));
    })
guards_step t₀ h (ExcRelease u) l g p =
    rw p.0
    (record {
      readers_exact = g.readers_exact;
      writers_exact = omega (arith, p.1);
      one_writer = omega (arith, g.one_writer);
      apart = λ w r t k. omega (arith, g.one_writer);
      current = λ r t k. absurd (g.apart p.1 r t k);
    })
guards_step t₀ h (SharedStart r) l g p =
    rw p (record { readers_exact = g.readers_exact; writers_exact = g.writers_exact; one_writer = g.one_writer; apart = g.apart; current = g.current })
guards_step t₀ h (SharedFinish r) l g p =
    rw p.granted
    (record {
      readers_exact = λ q u. rw (tick_bit (eqb u (in_force t₀ h) && eqb q r)) (omega (arith, g.readers_exact q u));
      writers_exact = g.writers_exact;
      one_writer = g.one_writer;
      apart = λ w q u k. omega (arith, p.no_writer);
      current = λ q u k. on (eqb u (in_force t₀ h) && eqb q r)
          (λ b. eqb-true u (in_force t₀ h) (both_true (eqb u (in_force t₀ h)) (eqb q r) b).0)
          (λ b. g.current q u (rw b at k));
    })
guards_step t₀ h (SharedRelease r t) l g p =
    rw p.0
    (record {
      readers_exact = λ q u. on (eqb u t && eqb q r)
          (λ b. let k = both_true (eqb u t) (eqb q r) b in rw b (subst (λ x. ReaderAt h q x) (sym (eqb-true u t k.0)) (subst (λ x. ReaderAt h x t) (sym (eqb-true q r k.1)) p.1)))
          (λ b. rw b (g.readers_exact q u));
      writers_exact = g.writers_exact;
      one_writer = g.one_writer;
      apart = λ w q u k. g.apart w q u (omega (arith, rw (tick_bit (eqb u t && eqb q r)) at k));
      current = λ q u k. g.current q u (omega (arith, rw (tick_bit (eqb u t && eqb q r)) at k));
    })

pub steps_suffice : (t₀ : ℕ) (h : Hist) → AtEach (At t₀) h → Guards t₀ h
steps_suffice t₀ = suffices (At t₀) (Guards t₀) none (guards_step t₀)
  where
    none : Guards t₀ []
    none =
        record {
          readers_exact = λ r t. omega arith;
          writers_exact = omega arith;
          one_writer = omega arith;
          apart = λ w r t k. omega arith;
          current = λ r t k. absurd (omega arith);
        }

-- ---------- from a fresh lock on

module _ (w t₀ : ℕ) (low : 1 ≤ w) (high : w ≤ limit.width) where
  fresh : Inv t₀ [] (fresh_state w t₀)
  fresh =
      record {
        plain = fresh_plain w t₀ low high;
        store = λ e. refl;
        cells = λ r. rw (get_d_replicate limit.width r zero_cell);
        readers = λ r u. rw (carrying_none t₀ (guards (fresh_state w t₀).cells) r u (rw (get_d_replicate limit.width r zero_cell)));
        writers = refl;
        under_way = refl;
        pending = refl;
        announced = λ r. rw (get_d_replicate limit.width r zero_cell);
        walked = rw mul-zero;
      }

  pub run_inv : {h : Hist} {s : State} → Run lock (fresh_state w t₀) h s → Inv t₀ h s
  run_inv r = always lock (fresh_state w t₀) (Inv t₀) fresh (keep t₀) r

  steps : {h : Hist} {s : State} → Run lock (fresh_state w t₀) h s → AtEach (At t₀) h
  steps r = at_each lock (fresh_state w t₀) (Inv t₀) (At t₀) (λ h s. run_inv) (shows t₀) r

  pub guards_throughout : {h : Hist} {s : State} → Run lock (fresh_state w t₀) h s → Throughout (Guards t₀) h
  guards_throughout r = throughout lock (fresh_state w t₀) (Guards t₀) (λ h s r. steps_suffice t₀ h (steps r)) r

pub cells_counted : CellsCounted
cells_counted w t₀ low high h s r = (run_inv w t₀ low high r).cells

pub guards_counted : GuardsCounted
guards_counted w t₀ low high h s r = let i = run_inv w t₀ low high r in (i.readers, i.writers)

-- ---------- the head, told by the history

width_kept : (s : State) (x : LockStep) → (next s x).head.width ≡ s.head.width
width_kept s ExcStart = refl
width_kept s ExcCheckCount = refl
width_kept s ExcFinish = refl
width_kept s (ExcRelease t) = refl
width_kept s (SharedStart r) = refl
width_kept s (SharedFinish r) = refl
width_kept s (SharedRelease r t) = refl

pub width_run : (w t₀ : ℕ) {h : Hist} {s : State} → Run lock (fresh_state w t₀) h s → s.head.width ≡ w
width_run w t₀ r = always lock (fresh_state w t₀) (λ h s. s.head.width ≡ w) refl (λ h s x e a. width_kept s x ∙ e) r

pub head_counted : HeadCounted
head_counted w t₀ low high h s r =
    let i = run_inv w t₀ low high r in
    let e = width_run w t₀ r in
    record { width = e; stored_in_force = i.store; stored = rw (stored_or_held i.plain.phase) i.writers; cursor = rw e at i.walked }
