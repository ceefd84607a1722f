-- The test of a state says what soundness means: the source's protocol, the limits, unused entries zero. Assumes nothing.
use Prim.Native.Nat.{ℕ, ◌≤◌, ◌<◌}
use mathlib.Core.Path.{◌≡◌, refl, sym, ap, ◌∙◌}
use mathlib.Core.Bool.{Bool, true, false}
use native.Mathlib.Omega.{arith}
use lib.Dec.{eqb, ltb}
use lib.ListN.{length, length-replicate}
use borrow.Author.Tests.{eqb-true, eq-eqb, ne_eqb, ltb-false, le-ltb, le-leb}
use Rattle.rows.specs.Walk.{many}
use Rattle.rows.proofs.Cases.{on, clash, true_both}
use Rattle.rows.proofs.Rows.{get_d_replicate}
use Rattle.rows.proofs.Walks.{every_all}
use Rattle.machine.proofs.Known.{rows_alike}
use Rattle.schedule.specs.Limits as limit
use Rattle.flag.specs.Source as source
use Rattle.flag.specs.Source.{Flag}
use Rattle.flag.specs.Invariants.{Empty}
use Rattle.flag.specs.Flag.{place, fresh_state}
use Rattle.flag.specs.Sound.{sound, place_sound, at_second, at_store}
use Rattle.flag.specs.Refined.{number, abs, Sound}
use Rattle.flag.specs.declared.state.State.{State}
use Rattle.flag.proofs.Moved.{any_threads, few_threads, pending_agrees, entry_sound, place_small}
use Rattle.flag.proofs.Loop.{placed, waits_waiting}
use Rattle.flag.proofs.Offers.{Handshake, test_handshake, handshake_test, handshake_protocol, protocol_handshake}

-- ---------- an entry of the row

entry_unused : (threads k p : ℕ) → threads ≤ k → place_sound threads k p ≡ true → p ≡ 0
entry_unused threads k p u h = eqb-true p 0 (rw (le-ltb k threads u) at h)

entry_test : (threads k p : ℕ) → p ≤ 6 → (threads ≤ k → p ≡ 0) → place_sound threads k p ≡ true
entry_test threads k p h u = on (ltb k threads)
    (λ b. rw b (le-leb p 6 h))
    (λ b. rw b (eq-eqb p 0 (u (ltb-false k threads b))))

-- ---------- the test says it

pub sound_means : (s : State) → length s.places ≡ limit.threads → sound s ≡ true → Sound s
sound_means s whole h =
    record {
      inv = handshake_protocol s.pending s.places (test_handshake s.pending (many at_second s.places) (many at_store s.places) (pending_agrees s h));
      whole = whole;
      any = any_threads s h;
      few = few_threads s h;
      places = place_small s h;
      unused = λ k u. entry_unused s.threads k (place s k) u (entry_sound s h k);
    }

-- ---------- and where it holds the test says so

pub sound_handshake : (s : State) → Sound s → Handshake s.pending (many at_second s.places) (many at_store s.places)
sound_handshake s i = protocol_handshake s.pending s.places i.inv

pub means_sound : (s : State) → Sound s → sound s ≡ true
means_sound s i =
    let any : eqb s.threads 0 ≡ false = ne_eqb s.threads 0 (λ e. omega (arith, i.any)) in
    let few : ltb limit.threads s.threads ≡ false = le-ltb limit.threads s.threads i.few in
    let row = every_all (place_sound s.threads) 0 s.places (λ k b. entry_test s.threads k (place s k) (i.places k) (i.unused k)) in
    let agree = handshake_test s.pending (many at_second s.places) (many at_store s.places) (sound_handshake s i) in
    rw (any, few) (true_both row agree)

-- ---------- a sound state is told by what it stands for

pub abs_tells : (s s' : State) → Sound s → Sound s' → abs s ≡ abs s' → s ≡ s'
abs_tells s s' i i' e =
    let p : (k : ℕ) → place s k ≡ place s' k = λ k. placed (place s k) (i.places k) ∙ ap (λ (m : Flag). number (m.controls k)) e
    ∙ sym (placed (place s' k) (i'.places k)) in
    λ j. record {
      threads = (e j).threads;
      pending = (e j).memory.pending;
      value = (e j).memory.value;
      places = rows_alike s.places s'.places 0 (i.whole ∙ sym i'.whole) p j;
    }

-- ---------- a fresh flag

fresh_place : (n : ℕ) (v : Bool) (k : ℕ) → place (fresh_state n v) k ≡ 0
fresh_place n v k = get_d_replicate limit.threads k 0

pub fresh_outside : (n : ℕ) (v : Bool) (k : ℕ) → (abs (fresh_state n v)).controls k ≡ source.returned
fresh_outside n v k = rw (fresh_place n v k)

pub fresh_new : (n : ℕ) (v : Bool) → abs (fresh_state n v) ≡ source.new n v
fresh_new n v = λ t. record { memory = record { value = v; pending = 0 }; threads = n; controls = λ k. fresh_outside n v k t }

pub fresh_means : (n : ℕ) (v : Bool) → 1 ≤ n → n ≤ limit.threads → Sound (fresh_state n v)
fresh_means n v any few =
    record {
      inv = Empty refl (λ k w. let t = waits_waiting (place (fresh_state n v) k) w in clash (cc (fresh_place n v k)));
      whole = length-replicate {A = ℕ} limit.threads 0;
      any = any;
      few = few;
      places = λ k. omega (arith, fresh_place n v k);
      unused = λ k u. fresh_place n v k;
    }

pub fresh_sound : (n : ℕ) (v : Bool) → 1 ≤ n → n ≤ limit.threads → sound (fresh_state n v) ≡ true
fresh_sound n v any few = means_sound (fresh_state n v) (fresh_means n v any few)

-- ---------- what the proofs take from a sound state

-- a thread of the machine has its entry in the row
pub in_row : (s : State) (k : ℕ) → Sound s → k < s.threads → k < length s.places
in_row s k i b = omega (arith, i.few, i.whole)
