-- The demands hold: of the machines of all kinds, and of `replay_of` on any bytes and any two buffers. Assumes nothing.
use mathlib.Core.Path.{◌≡◌, refl, sym, ◌∙◌}
use mathlib.Core.Bool.{cond}
use mathlib.Core.Logic.{inl, inr}
use mathlib.Core.List.{List}
use Prim.Native.Nat.{ℕ, ◌+◌, ◌≤◌, ◌<◌}
use native.Mathlib.Omega.{arith}
use borrow.Author.Tests.{lt-ltb, le-ltb}
use lib.Dec.{eqb}
use lib.ListN.{length, take}
use Rattle.rows.specs.Bytes.{Bytes}
use Rattle.rows.proofs.Cases.{on}
use Rattle.machine.specs.Machine.{code_of}
use Rattle.machine.specs.Rest.{Rested, untouched}
use Rattle.machine.specs.Codes as code
use Rattle.machine.proofs.Steps.{accepted_code, code_accepted}
use Rattle.machine.proofs.Singles.{single_unsound, kept_state, single_foreign, single_room, single_refused, single_accepted, zero_accepted}
use Rattle.machine.proofs.Sourceds.{all_accepted}
use Rattle.schedule.specs.Limits as limit
use Rattle.schedule.specs.Front.{fault_code, fault_place}
use Rattle.schedule.specs.Given.{HasFault}
use Rattle.schedule.specs.declared.front.Fault.{Fault}
use Rattle.schedule.specs.declared.front.Fault.TheVariants.{Length, Version, Body, Kind, Parameter, Step, Surplus}
use Rattle.schedule.specs.declared.steps.Params.{Params}
use Rattle.schedule.proofs.Canonical.{all_sorted}
use Rattle.replayer.specs.Replay.{replay_of, input_of}
use Rattle.replayer.specs.Kinds.{machine_of, Sound, kind_of, Steps}
use Rattle.replayer.specs.Demands.{Replayer, Says, Room, SingleExact, OfMachine, Demand1, Demand2, Demand3, Demanded, Meets, OfInput}
use Rattle.replayer.proofs.Rooms.{Between, Keeps, untouched_keeps, by_room, no_room, roomy, steps_keep, replays, accepted_to, logs_history, logs_grow, shows_state}
use Rattle.replayer.proofs.Four.{upholds, sound_means, means_sound, initial, fresh, carries, codes, promises}
use Rattle.replayer.proofs.ByKind.{by_file, refused, decodes, ran, within}

-- ---------- the machines

module _ (p : Params) where
  single_exact : SingleExact (kind_of p)
  single_exact =
      let k = kind_of p in let m = machine_of k in let o = k.stepper in let u = upholds p in
      record {
        enabled = λ s x log h g z. u.accepted_enabled s x g (zero_accepted m o.sound o.room s x log z);
        does = λ s x log h g e. single_accepted m o.sound o.room s x log h (means_sound p s g) (accepted_code m s x (u.enabled_accepted s x g e));
        reason = λ s x log h g n.
            let z : code_of m s x ≡ 0 → ⊥ = λ e. n (u.accepted_enabled s x g (code_accepted m s x e)) in
            rw (single_refused m o.sound o.room s x log h (means_sound p s g) (code_of m s x) refl z) (u.code_reason s x (code_of m s x) g refl z);
        foreign = λ s log. single_foreign m o.sound o.room s log;
        short = λ s x log h. single_room m o.sound o.room s x log h;
      }

  pub machines : OfMachine (kind_of p)
  machines =
      let k = kind_of p in let m = machine_of k in let o = k.stepper in
      record {
        refusal_keeps = kept_state m o.sound o.room;
        made_up = λ s x log h w n. on (o.sound s) (λ t. absurd (n (sound_means p s w t))) (λ t. single_unsound m o.sound o.room s x log h t);
        step = upholds p;
        singles = single_exact;
        initial = initial p;
        fresh = fresh p;
        promised = λ h ys e. promises p h ys (all_accepted k.source (Sound k) (upholds p) k.fresh ys (fresh p h) e);
      }

-- ---------- a file's own codes

-- code and place tell the fault
abbrev fault_of : ℕ → ℕ → Fault
fault_of c k =
    cond (eqb c code.wrong_length) Length
    (cond (eqb c code.version) Version
    (cond (eqb c code.body) Body
    (cond (eqb c code.kind) Kind
    (cond (eqb c code.parameter) Parameter
    (cond (eqb c code.malformed) (Step k)
    Surplus)))))

fault_back : (x : Fault) → fault_of (fault_code x) (fault_place x) ≡ x
fault_back Length = refl
fault_back Version = refl
fault_back Body = refl
fault_back Kind = refl
fault_back Parameter = refl
fault_back (Step k) = refl
fault_back Surplus = refl

fault_tells : (x y : Fault) → fault_code x ≡ fault_code y → fault_place x ≡ fault_place y → x ≡ y
fault_tells x y c k = sym (fault_back x) ∙ rw (c, k) (fault_back y)

-- they are 1 to 7
fault_span : (x : Fault) → (1 ≤ fault_code x) × (fault_code x < code.room)
fault_span Length = (omega arith, omega arith)
fault_span Version = (omega arith, omega arith)
fault_span Body = (omega arith, omega arith)
fault_span Kind = (omega arith, omega arith)
fault_span Parameter = (omega arith, omega arith)
fault_span (Step k) = (omega arith, omega arith)
fault_span Surplus = (omega arith, omega arith)

-- ---------- the files

module _ (f log image : List ℕ) (bytes : Bytes f) where
  abbrev a : Rested
  a = replay_of f log image

  fault_code_lem : (x : Fault) → HasFault f x → a.code ≡ fault_code x
  fault_code_lem x h = rw (refused f log image x h)

  no_fault : (x : Fault) → HasFault f x → Between a.code → ⊥
  no_fault x h (inl z) = omega (arith, z, fault_code_lem x h, fault_span x)
  no_fault x h (inr s) = omega (arith, s.0, fault_code_lem x h, fault_span x)

  no_room_code : Between a.code → a.code ≡ code.room → ⊥
  no_room_code (inl z) e = omega (arith, z, e)
  no_room_code (inr s) e = omega (arith, s.0, e)

  keeps : Keeps log image a
  keeps = by_file f bytes
      (λ x h. let s = fault_span x in rw (refused f log image x h) (untouched_keeps (fault_code x) (fault_place x) log image s.0 (omega (arith, s.1))))
      (λ p xs e. rw (ran f log image p xs e) (steps_keep (kind_of p) xs log image (carries p) (codes p)))

  module _ (p : Params) (xs : Steps p) (e : Says f p xs) where
    short_of : (Room (length xs) log image → ⊥) → a ≡ untouched code.room 0 log image
    short_of n = ran f log image p xs e ∙ no_room (kind_of p) xs log image n

    roomy_of : Room (length xs) log image → Between a.code
    roomy_of r = rw (ran f log image p xs e) (roomy (kind_of p) xs log image (carries p) (codes p) r)

    -- which of the two it was
    by_code : {P : Type 0} → (Room (length xs) log image → Between a.code → P) → ((Room (length xs) log image → ⊥) → a.code ≡ code.room → P) → P
    by_code g h = by_room (length xs) log image (λ r. g r (roomy_of r)) (λ n. h n (rw (short_of n)))

  only_fault : (x : Fault) → a.code ≡ fault_code x → a.place ≡ fault_place x → HasFault f x
  only_fault x c k = by_file f bytes
      (λ y h. rw (fault_tells x y (sym c ∙ fault_code_lem y h) (sym k ∙ rw (refused f log image y h))) h)
      (λ p xs e. let s = fault_span x in by_code p xs e (λ r b. absurd (never_fault b s)) (λ n z. absurd (omega (arith, z, c, s.1))))
    where
      never_fault : Between a.code → (1 ≤ fault_code x) × (fault_code x < code.room) → ⊥
      never_fault (inl z) s = omega (arith, z, c, s.0)
      never_fault (inr b) s = omega (arith, b.0, c, s.1)

  only_short : a.code ≡ code.room → (p : Params) × (xs : Steps p) × Says f p xs × (Room (length xs) log image → ⊥)
  only_short z = by_file f bytes
      (λ x h. absurd (omega (arith, z, fault_code_lem x h, (fault_span x).1)))
      (λ p xs e. by_code p xs e (λ r b. absurd (no_room_code b z)) (λ n y. (p, xs, e, n)))

  only_roomy : Between a.code → (p : Params) × (xs : Steps p) × Says f p xs × Room (length xs) log image
  only_roomy b = by_file f bytes
      (λ x h. absurd (no_fault x h b))
      (λ p xs e. by_code p xs e (λ r c. (p, xs, e, r)) (λ n z. absurd (no_room_code b z)))

  pub demand1 : Demand1 replay_of f log image
  demand1 =
      record {
        sorted = all_sorted f bytes;
        fault = refused f log image;
        short = short_of;
        roomy = roomy_of;
        only_fault = only_fault;
        only_short = only_short;
        only_roomy = only_roomy;
        refused_file = keeps.refused_file;
        known = keeps.known;
        log_kept = keeps.log_kept;
        image_kept = keeps.image_kept;
      }

  pub demand2 : Demand2 replay_of f log image
  demand2 =
      record {
        file = λ p xs e r.
            rw (ran f log image p xs e) (replays (kind_of p) xs log image (upholds p) (fresh p (within f p xs (decodes f log image p xs e))) r);
      }

  pub demand3 : Demand3 replay_of f log image
  demand3 =
      record {
        promised = λ p xs e n h.
            promises p (within f p xs (decodes f log image p xs e)) (take n xs) (accepted_to (kind_of p) xs log image n (rw (ran f log image p xs e) at h));
        logged = λ p xs e. rw (ran f log image p xs e) (logs_history (kind_of p) xs log image);
        grows = λ p xs e n m l h. logs_grow (kind_of p) xs log image n m l;
        shown = λ p xs e r. rw (ran f log image p xs e) (shows_state (kind_of p) xs log image r);
      }

  pub demanded : Demanded replay_of f log image
  demanded = record { demand1 = demand1; demand2 = demand2; demand3 = demand3 }

pub meets : Meets replay_of
meets f log image bytes = (demand1 f log image bytes, demand2 f log image bytes)

-- ---------- the program's own entry

-- an answer is demanded whatever gives it
same_demanded : (R Q : Replayer) (f log image : List ℕ) → R f log image ≡ Q f log image → Demanded Q f log image → Demanded R f log image
same_demanded R Q f log image e d =
    let a = d.demand1 in let b = d.demand2 in let c = d.demand3 in
    record {
      demand1 =
          record {
            sorted = a.sorted;
            fault = λ x h. e ∙ a.fault x h;
            short = λ p xs s n. e ∙ a.short p xs s n;
            roomy = λ p xs s r. rw e (a.roomy p xs s r);
            only_fault = rw e a.only_fault;
            only_short = rw e a.only_short;
            only_roomy = rw e a.only_roomy;
            refused_file = rw e a.refused_file;
            known = rw e a.known;
            log_kept = rw e a.log_kept;
            image_kept = rw e a.image_kept;
          };
      demand2 = record { file = λ p xs s r. rw e (b.file p xs s r) };
      demand3 =
          record {
            promised = rw e c.promised;
            logged = rw e c.logged;
            grows = rw e c.grows;
            shown = rw e c.shown;
          };
    }

pub of_input : OfInput input_of
of_input =
    record {
      over = λ f log image h. rw (lt-ltb (limit.body + 3) (length f) h);
      under = λ f log image bytes h.
          let e : input_of f log image ≡ replay_of f log image = rw (le-ltb (limit.body + 3) (length f) h) in
          same_demanded input_of replay_of f log image e (demanded f log image bytes);
    }
