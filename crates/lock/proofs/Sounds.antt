-- The test of a state says what soundness means: the source's invariants, the limits, unused entries zero. Assumes nothing.
use Prim.Native.Nat.{ℕ, ◌+◌, ◌≤◌, ◌<◌}
use mathlib.Core.Path.{◌≡◌, refl, sym, ap, ◌∙◌}
use mathlib.Core.Bool.{Bool, true, false}
use mathlib.Core.Logic.{inl, inr}
use mathlib.Core.List.{List}
use mathlib.Core.Option.{some}
use native.Mathlib.Omega.{arith}
use lib.Dec.{ltb}
use lib.ListN.{length, length-replicate}
use borrow.Author.Tests.{ltb-true, ltb-false, lt-ltb, le-ltb}
use Rattle.rows.proofs.Cases.{on, clash}
use Rattle.rows.proofs.Rows.{get_d_replicate}
use Rattle.machine.proofs.Known.{there_same, rows_alike}
use Rattle.machine.proofs.Multisets.{only_here, only_other}
use Rattle.schedule.specs.Limits as limit
use Rattle.lock.specs.Source.{DistRwLock, Initialize}
use Rattle.lock.specs.Invariants.{ref_counts_domain, exc_inv, shared_inv_agree, shared_counts_agree, Invariants, New}
use Rattle.lock.specs.Lock.{zero_cell, fresh_state, cell}
use Rattle.lock.specs.Sound.{sound, must_be_clear}
use Rattle.lock.specs.Refined.{abs, Sound}
use Rattle.lock.specs.declared.state.Cell.{Cell}
use Rattle.lock.specs.declared.state.Head.{Head}
use Rattle.lock.specs.declared.state.State.{State}
use Rattle.lock.proofs.Filtered.{stands, carrying_none, Carry, counted, agreeing}
use Rattle.lock.proofs.Upheld.{neither, same_readers}
use Rattle.lock.proofs.Phases.{checking_head, head, Phase, away, checking, holding, unused_record, unused_cursor}
use Rattle.lock.proofs.Plain.{PlainCell, PlainCells, guards, Plain, zero_plain, test_plain, plain_test}

-- a state by its head and its cells: a claim by the phases of the writer is one about every state
abbrev pub state : Head → List Cell → State
state h cs = record { head = h; cells = cs }

-- the guards carry the record in the head
pub all_carry : (s : State) → Carry (abs s) s.head.t
all_carry s r u n = only_other s.head.t (cell s r).guards u n

-- ---------- what is plain has the source's invariants

module _ (cs : List Cell) where
  exc_holds : {h : Head} → Phase h → PlainCells h cs → exc_inv (abs (state h cs))
  exc_holds (away t w) p =
      record {
        locked = λ e. clash (cc);
        unlocked = λ o. neither o;
        stored = λ x. refl;
        unguarded = λ e. tt;
        pending = λ k e. clash (cc);
      }
  exc_holds (holding w) p =
      record { locked = λ e. inr tt; unlocked = λ o. refl; stored = λ x. absurd x; unguarded = λ e. clash (cc); pending = λ k e. clash (cc) }
  exc_holds (checking t w c l) p =
      record {
        locked = λ e. inl tt;
        unlocked = λ o. refl;
        stored = λ x. refl;
        unguarded = λ e. tt;
        pending = λ k e. let q : c ≡ k = cc in rw (← q) (l, refl, unchecked);
      }
    where
      unchecked : (r u : ℕ) → 0 < (abs (state (checking_head t w c) cs)).shared_guard (r, u) → c ≤ r
      unchecked r u g = on (ltb r c)
          (λ b. absurd (omega (arith, (stands t (guards cs) r u g).1, (p r).clear b)))
          (λ b. ltb-false r c b)

  agree_holds : {h : Head} → Phase h → PlainCells h cs → shared_inv_agree (abs (state h cs))
  agree_holds (away t w) p r u g = rw (stands t (guards cs) r u g).0
  agree_holds (checking t w c l) p r u g = rw (stands t (guards cs) r u g).0
  agree_holds (holding w) p r u g = absurd (omega (arith, (stands 0 (guards cs) r u g).1, (p r).clear refl))

module _ (s : State) (p : Plain s) where
  -- who is pending at a cell, or has a guard there, is at a cell in use
  in_range : (r : ℕ) → 0 < (cell s r).pending + (cell s r).guards → r < s.head.width
  in_range r h = on (ltb r s.head.width)
      (λ b. ltb-true r s.head.width b)
      (λ b. let z = (p.cells r).unused (ltb-false r s.head.width b) in absurd (omega (arith, rw z at h)))

  domain_holds : ref_counts_domain (abs s)
  domain_holds =
      record {
        positive = p.low;
        inside = λ i l. rw (lt-ltb i s.head.width l) tt;
        outside = λ i l. rw (le-ltb i s.head.width l);
      }

  counts_hold : shared_counts_agree (abs s)
  counts_hold = agreeing (abs s) s.head.t (all_carry s) (λ r l rc e.
      let q : some (cell s r).count ≡ some rc = rw (lt-ltb r s.head.width l) at e in
      let c : (cell s r).count ≡ rc = cc in
      omega (arith, (p.cells r).counted, only_here s.head.t (cell s r).guards))

  pub plain_sound : Sound s
  plain_sound = record {
    inv = record {
      domain = domain_holds;
      exc = exc_holds s.cells p.phase p.cells;
      pending_range = λ r h. in_range r (omega arith);
      guard_range = λ r t h. in_range r (omega (arith, (stands s.head.t (guards s.cells) r t h).1));
      agree = agree_holds s.cells p.phase p.cells;
      counts = counts_hold;
    };
    whole = p.whole;
    few = p.high;
    counts = λ r. (p.cells r).small;
    unused_cells = λ r. (p.cells r).unused;
    unused_record = unused_record p.phase;
    unused_cursor = unused_cursor p.phase;
  }

-- ---------- and what has them is plain

module _ (cs : List Cell) where
  -- where the writer is, by what exc_inv says of its four flags
  phase_means : (guard pending stored locked : Bool) (t w c : ℕ) → let h = head guard pending stored locked t w c in
      exc_inv (abs (state h cs)) → (stored ≡ false → t ≡ 0) → (pending ≡ false → c ≡ 0) → Phase h
  phase_means true true stored locked t w c i zt zc = let e = (i.pending c refl).1 in clash (cc)
  phase_means true false true locked t w c i zt zc = let e = i.stored tt in clash (cc)
  phase_means true false false locked t w c i zt zc = rw (zt refl, zc refl, i.unlocked (inr tt)) (holding w)
  phase_means false pending false locked t w c i zt zc = absurd (i.unguarded refl)
  phase_means false true true locked t w c i zt zc = rw (i.unlocked (inl tt)) (checking t w c (i.pending c refl).0)
  phase_means false false true true t w c i zt zc = neither (i.locked refl)
  phase_means false false true false t w c i zt zc = rw (zc refl) (away t w)

  -- no guard where it has checked: exc_inv says so while it checks, and while it holds the guard there is no record that a guard could carry
  clear_means : {h : Head} → Phase h → Invariants (abs (state h cs)) → (r : ℕ) → must_be_clear h r ≡ true → guards cs r ≡ 0
  clear_means (away t w) i r m = clash (cc)
  clear_means (checking t w c l) i r m =
      let n : ¬ (0 < guards cs r) = λ g. omega (arith, ltb-true r c m, (i.exc.pending c refl).2 r t (rw (only_here t (guards cs r)) g)) in
      omega arith
  clear_means (holding w) i r m = let n : ¬ (0 < guards cs r) = λ g. let e = i.agree r 0 g in clash (cc) in omega arith

module _ (s : State) (k : Sound s) where
  sound_phase : Phase s.head
  sound_phase =
      let h = s.head in
      phase_means s.cells h.guard h.pending h.stored h.locked h.t h.width h.cursor k.inv.exc
      k.unused_record k.unused_cursor

  sound_cell : (r : ℕ) → PlainCell s.head r (cell s r)
  sound_cell r = on (ltb r s.head.width)
      (λ b. in_use (ltb-true r s.head.width b))
      (λ b. rw (k.unused_cells r (ltb-false r s.head.width b)) (zero_plain s.head r))
    where
      in_use : r < s.head.width → PlainCell s.head r (cell s r)
      in_use l = record {
        small = k.counts r;
        counted =
            let c = counted (abs s) s.head.t (all_carry s) k.inv.counts r l (cell s r).count (rw (lt-ltb r s.head.width l)) in
            omega (arith, only_here s.head.t (cell s r).guards);
        unused = λ u. absurd (omega arith);
        clear = clear_means s.cells sound_phase k.inv r;
      }

  pub sound_plain : Plain s
  sound_plain = record { whole = k.whole; low = k.inv.domain.positive; high = k.few; phase = sound_phase; cells = sound_cell }

-- ---------- the test is the record, where the row is whole

pub sound_means : (s : State) → length s.cells ≡ limit.width → sound s ≡ true → Sound s
sound_means s whole e = plain_sound s (test_plain s e whole)

pub means_sound : (s : State) → Sound s → sound s ≡ true
means_sound s k = plain_test s (sound_plain s k)

-- ---------- a sound state is told by what it stands for

module _ (s s' : State) (k : Sound s) (k' : Sound s') (e : abs s ≡ abs s') where
  same_head : s.head ≡ s'.head
  same_head =
      let h = s.head in let h' = s'.head in
      let t = there_same h.stored h'.stored h.t h'.t 0 k.unused_record k'.unused_record (ap (λ (m : DistRwLock). m.storage) e) in
      let c = there_same h.pending h'.pending h.cursor h'.cursor 0 k.unused_cursor k'.unused_cursor (ap (λ (m : DistRwLock). m.exc_pending) e) in
      let g = there_same h.guard h'.guard tt tt tt (λ z. refl) (λ z. refl) (ap (λ (m : DistRwLock). m.exc_guard) e) in
      λ i. record {
        t = t.1 i;
        width = (e i).rc_width;
        cursor = c.1 i;
        locked = (e i).exc_locked;
        stored = t.0 i;
        pending = c.0 i;
        guard = g.0 i;
      }

  same_cell : (r : ℕ) → cell s r ≡ cell s' r
  same_cell r =
      let p : (cell s r).pending ≡ (cell s' r).pending = ap (λ (m : DistRwLock). m.shared_pending r) e in
      let u = s.head.t in
      let g : (cell s r).guards ≡ (cell s' r).guards =
      sym (only_here u (cell s r).guards) ∙ ap (λ (m : DistRwLock). m.shared_guard (r, u)) e
      ∙ rw (← same_head) (only_here u (cell s' r).guards)
      in
      let n : (cell s r).count ≡ (cell s' r).count = omega (arith, ((sound_plain s k).cells r).counted, ((sound_plain s' k').cells r).counted) in
      λ i. record { count = n i; pending = p i; guards = g i }

  pub abs_tells : s ≡ s'
  abs_tells = λ i. record { head = same_head i; cells = rows_alike s.cells s'.cells zero_cell (omega (arith, k.whole, k'.whole)) same_cell i }

-- ---------- a fresh lock

pub fresh_plain : (w t : ℕ) → 1 ≤ w → w ≤ limit.width → Plain (fresh_state w t)
fresh_plain w t low high = record {
  whole = length-replicate limit.width zero_cell;
  low = low;
  high = high;
  phase = away t w;
  cells = λ r. rw (get_d_replicate limit.width r zero_cell) (zero_plain (fresh_state w t).head r);
}

pub fresh_means : (w t : ℕ) → 1 ≤ w → w ≤ limit.width → Sound (fresh_state w t)
fresh_means w t low high = plain_sound (fresh_state w t) (fresh_plain w t low high)

pub fresh_sound : (w t : ℕ) → 1 ≤ w → w ≤ limit.width → sound (fresh_state w t) ≡ true
fresh_sound w t low high = plain_test (fresh_state w t) (fresh_plain w t low high)

-- it is the source's, of the width and with the record that were asked for
module _ (w t : ℕ) (low : 1 ≤ w) (high : w ≤ limit.width) where
  pub fresh_initialize : Initialize w t (abs (fresh_state w t))
  fresh_initialize =
      record {
        require = low;
        init = same_readers (abs (fresh_state w t))
            (λ i. rw (get_d_replicate limit.width i zero_cell))
            (λ r. rw (get_d_replicate limit.width r zero_cell))
            (λ v. carrying_none t (guards (fresh_state w t).cells) v.0 v.1 (rw (get_d_replicate limit.width v.0 zero_cell)));
      }

  pub fresh_new : New w t (abs (fresh_state w t))
  fresh_new = record { width = refl; cells = λ i l. rw (lt-ltb i w l, get_d_replicate limit.width i zero_cell); beyond = λ i l. rw (le-ltb i w l); unlocked = refl; stored = refl }
