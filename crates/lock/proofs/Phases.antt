-- Where the writer is: away, checking the cells, or holding the guard. The test of the head says which, and each says what the flags are. Assumes nothing.
use Prim.Native.Nat.{ℕ, ◌≤◌}
use mathlib.Core.Path.{◌≡◌, refl}
use mathlib.Core.Bool.{Bool, true, false, not, ◌&&◌}
use native.Mathlib.Omega.{arith}
use lib.Dec.{eqb, ltb}
use borrow.Author.Tests.{eqb-true, eqb-false, ne_eqb, ltb-false, le-ltb, not-true}
use Rattle.rows.proofs.Cases.{clash, both_true}
use Rattle.schedule.specs.Limits as limit
use Rattle.lock.specs.Sound.{writer_sound, head_sound}
use Rattle.lock.specs.declared.state.Head.{Head}

abbrev pub away_head : ℕ → ℕ → Head
away_head t w = record { t = t; width = w; cursor = 0; locked = false; stored = true; pending = false; guard = false }

abbrev pub checking_head : ℕ → ℕ → ℕ → Head
checking_head t w c = record { t = t; width = w; cursor = c; locked = true; stored = true; pending = true; guard = false }

abbrev pub holding_head : ℕ → Head
holding_head w = record { t = 0; width = w; cursor = 0; locked = true; stored = false; pending = false; guard = true }

-- away, with the record t in store; checking the cells, up to c; or holding the guard, with nothing in store
pub data Phase : Head → Type 0 where
  away : (t w : ℕ) → Phase (away_head t w)
  checking : (t w c : ℕ) → c ≤ w → Phase (checking_head t w c)
  holding : (w : ℕ) → Phase (holding_head w)

-- ---------- the test of the head

-- a head by its flags and its numbers: a claim by the cases of the flags is one about every head
abbrev pub head : Bool → Bool → Bool → Bool → ℕ → ℕ → ℕ → Head
head guard pending stored locked t w c = record { t = t; width = w; cursor = c; locked = locked; stored = stored; pending = pending; guard = guard }

phase_of : (guard pending stored locked : Bool) (t w c : ℕ) → let h = head guard pending stored locked t w c in writer_sound h ≡ true → Phase h
phase_of true true stored locked t w c e = clash (cc)
phase_of true false true locked t w c e = clash (cc)
phase_of true false false locked t w c e =
    let k = both_true (eqb t 0) (eqb c 0 && locked) e in
    let j = both_true (eqb c 0) locked k.1 in
    rw (eqb-true t 0 k.0, eqb-true c 0 j.0, j.1) (holding w)
phase_of false pending false locked t w c e = clash (cc)
phase_of false true true locked t w c e =
    let k = both_true (not (ltb w c)) locked e in
    rw k.1 (checking t w c (ltb-false w c (not-true (ltb w c) k.0)))
phase_of false false true locked t w c e =
    let k = both_true (not locked) (eqb c 0) e in
    rw (eqb-true c 0 k.1, not-true locked k.0) (away t w)

phase_tested : {h : Head} → Phase h → writer_sound h ≡ true
phase_tested (away t w) = refl
phase_tested (checking t w c l) = rw (le-ltb w c l)
phase_tested (holding w) = refl

pub head_means : (h : Head) → head_sound h ≡ true → (1 ≤ h.width) × (h.width ≤ limit.width) × Phase h
head_means h e =
    let k = both_true (not (eqb h.width 0)) (not (ltb limit.width h.width) && writer_sound h) e in
    let j = both_true (not (ltb limit.width h.width)) (writer_sound h) k.1 in
    let n = eqb-false h.width 0 (not-true (eqb h.width 0) k.0) in (
      omega arith,
      ltb-false limit.width h.width (not-true (ltb limit.width h.width) j.0),
      phase_of h.guard h.pending h.stored h.locked h.t h.width h.cursor j.1,
    )

pub means_head : (h : Head) → 1 ≤ h.width → h.width ≤ limit.width → Phase h → head_sound h ≡ true
means_head h low high p = rw (ne_eqb h.width 0 (omega arith), le-ltb limit.width h.width high) (phase_tested p)

-- ---------- what the flags are

-- unlocked: the writer is away, and a record in store
pub unlocked_away : {h : Head} → Phase h → h.locked ≡ false → (h.stored ≡ true) × (h.pending ≡ false) × (h.guard ≡ false)
unlocked_away (away t w) e = (refl, refl, refl)
unlocked_away (checking t w c l) e = clash (cc)
unlocked_away (holding w) e = clash (cc)

-- a writer that checks finds a record in store, and has no guard yet
pub checking_stored : {h : Head} → Phase h → h.pending ≡ true → (h.stored ≡ true) × (h.guard ≡ false)
checking_stored (away t w) e = clash (cc)
checking_stored (checking t w c l) e = (refl, refl)
checking_stored (holding w) e = clash (cc)

-- a writer that holds the guard has locked
pub held_locked : {h : Head} → Phase h → h.guard ≡ true → h.locked ≡ true
held_locked (away t w) e = clash (cc)
held_locked (checking t w c l) e = clash (cc)
held_locked (holding w) e = refl

-- a record is in store while the writer has no guard
pub stored_or_held : {h : Head} → Phase h → not h.stored ≡ h.guard
stored_or_held (away t w) = refl
stored_or_held (checking t w c l) = refl
stored_or_held (holding w) = refl

-- what is not in use is zero
pub unused_record : {h : Head} → Phase h → h.stored ≡ false → h.t ≡ 0
unused_record (away t w) e = clash (cc)
unused_record (checking t w c l) e = clash (cc)
unused_record (holding w) e = refl

pub unused_cursor : {h : Head} → Phase h → h.pending ≡ false → h.cursor ≡ 0
unused_cursor (away t w) e = refl
unused_cursor (checking t w c l) e = clash (cc)
unused_cursor (holding w) e = refl
