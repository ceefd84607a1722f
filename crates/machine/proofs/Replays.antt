-- A replay tells the least step that is refused, and what the steps before it did; and no other answer does. Assumes nothing.
use mathlib.Core.Path.{◌≡◌, refl, sym, ap, ◌∙◌}
use mathlib.Core.Logic.{◌⊎◌, inl, inr}
use mathlib.Core.List.{List, [], ◌∷◌, ◌++◌, append_cancel_left}
use Prim.Native.Nat.{ℕ, zero, suc, ◌+◌, ◌≤◌, ◌<◌}
use native.Mathlib.Omega.{arith}
use native.Mathlib.Numerals.{add-one}
use borrow.Author.Tests.{eq-eqb, ne_eqb, eqb-true, eqb-false}
use lib.Dec.{eqb}
use lib.ListN.{length, take, length-append}
use lib.Seq.{take-length, take-take, length-take-le, take-append_seam}
use Rattle.machine.specs.Machine.{Machine, code_of, Accepted}
use Rattle.machine.specs.Replay.{Replayed, behind, replay, AllAccepted, after, entries, Stopped, Finished, Told}
use Rattle.rows.proofs.Cases.{on, clash}
use Rattle.machine.proofs.Steps.{accepted_code, code_accepted}

-- a replay whose first step has the next number
abbrev pub later : {m : Machine} → Replayed m → Replayed m
later r = record { code = r.code; place = suc r.place; log = r.log; state = r.state }

module _ (m : Machine) where
  -- ---------- one step of a replay

  pub replay_on : (s : m.State) (k : ℕ) (x : m.Step) (xs : List m.Step) → code_of m s x ≡ 0
      → replay m s k (x ∷ xs) ≡ behind (m.logs s x) (replay m (m.next s x) (k + 1) xs)
  unfolding replay
  replay_on s k x xs z = rw (eq-eqb (code_of m s x) 0 z)

  pub replay_stop : (s : m.State) (k : ℕ) (x : m.Step) (xs : List m.Step) → (code_of m s x ≡ 0 → ⊥)
      → replay m s k (x ∷ xs) ≡ record { code = code_of m s x; place = k; log = []; state = s }
  unfolding replay
  replay_stop s k x xs z = rw (ne_eqb (code_of m s x) 0 z)

  -- the two cases of a step, each with its fact
  by_code : {P : Type 0} (s : m.State) (x : m.Step) → (code_of m s x ≡ 0 → P) → ((code_of m s x ≡ 0 → ⊥) → P) → P
  by_code s x f g = on (eqb (code_of m s x) 0) (λ b. f (eqb-true (code_of m s x) 0 b)) (λ b. g (eqb-false (code_of m s x) 0 b))

  -- the number of the first step moves the place, and nothing else
  pub shift : (s : m.State) (k : ℕ) (xs : List m.Step) → replay m s (k + 1) xs ≡ later (replay m s k xs)
  unfolding replay
  shift s k [] = rw add-one
  shift s k (x ∷ xs) = by_code s x
      (λ z. rw (replay_on s (k + 1) x xs z, replay_on s k x xs z, shift (m.next s x) (k + 1) xs))
      (λ z. rw (replay_stop s (k + 1) x xs z, replay_stop s k x xs z, add-one))

  -- a whole replay, numbered from 0, by its first step
  replay_cons : (s : m.State) (x : m.Step) (xs : List m.Step) → code_of m s x ≡ 0 → replay m s 0 (x ∷ xs) ≡ behind (m.logs s x) (later (replay m (m.next s x) 0 xs))
  replay_cons s x xs z = replay_on s 0 x xs z ∙ ap (λ (r : Replayed m). behind (m.logs s x) r) (shift (m.next s x) 0 xs)

  -- ---------- the answer tells

  told_none : (s : m.State) → Told m s [] (record { code = 0; place = 0; log = []; state = s })
  told_none s = record { accepted = tt; state = refl; log = refl; ends = inl (record { code = refl; place = refl }) }

  told_stop : (s : m.State) (x : m.Step) (xs : List m.Step) → (code_of m s x ≡ 0 → ⊥) → Told m s (x ∷ xs) (record { code = code_of m s x; place = 0; log = []; state = s })
  told_stop s x xs z =
      record { accepted = tt; state = refl; log = refl; ends = inr (record { step = x; rest = xs; split = refl; place = refl; refused = refl; nonzero = z }) }

  module _ (x : m.Step) (xs : List m.Step) (es : List m.Entry) (r : Replayed m) where
    ends_on : Finished m xs r ⊎ Stopped m xs r → Finished m (x ∷ xs) (behind es (later r)) ⊎ Stopped m (x ∷ xs) (behind es (later r))
    ends_on (inl f) = inl (record { code = f.code; place = ap suc f.place })
    ends_on (inr f) =
        inr (record {
          step = f.step;
          rest = f.rest;
          split = ap (λ (l : List m.Step). x ∷ l) f.split;
          place = ap suc f.place;
          refused = f.refused;
          nonzero = f.nonzero;
        })

  told_on : (s : m.State) (x : m.Step) (xs : List m.Step) (r : Replayed m) → code_of m s x ≡ 0 → Told m (m.next s x) xs r → Told m s (x ∷ xs) (behind (m.logs s x) (later r))
  told_on s x xs r z t =
      record {
        accepted = (code_accepted m s x z, t.accepted);
        state = t.state;
        log = ap (λ (l : List m.Entry). m.logs s x ++ l) t.log;
        ends = ends_on x xs (m.logs s x) r t.ends;
      }

  pub told : (s : m.State) (xs : List m.Step) → Told m s xs (replay m s 0 xs)
  unfolding replay
  told s [] = told_none s
  told s (x ∷ xs) = by_code s x
      (λ z. rw (replay_cons s x xs z) (told_on s x xs (replay m (m.next s x) 0 xs) z (told (m.next s x) xs)))
      (λ z. rw (replay_stop s 0 x xs z) (told_stop s x xs z))

  -- ---------- and no other answer does

  abbrev answer : ℕ → ℕ → List m.Entry → m.State → Replayed m
  answer c p l t = record { code = c; place = p; log = l; state = t }

  abbrev Ends : List m.Step → Replayed m → Type 0
  Ends xs r = Finished m xs r ⊎ Stopped m xs r

  -- an answer behind the first step, taken as an answer to the others
  ends_off : (x : m.Step) (xs : List m.Step) (c p : ℕ) (l l' : List m.Entry) (t : m.State) → Ends (x ∷ xs) (answer c (suc p) l t) → Ends xs (answer c p l' t)
  ends_off x xs c p l l' t (inl f) = inl (record { code = f.code; place = omega (arith, f.place) })
  ends_off x xs c p l l' t (inr f) =
      inr (record { step = f.step; rest = f.rest; split = cc f.split; place = omega (arith, f.place); refused = f.refused; nonzero = f.nonzero })

  -- no step: the answer is 0; a first step: it is refused
  ends_none : (c p : ℕ) (l : List m.Entry) (t : m.State) → Ends [] (answer c p l t) → (c ≡ 0) × (p ≡ 0)
  ends_none c p l t (inl f) = (f.code, f.place)
  ends_none c zero l t (inr f) = clash (cc f.split)
  ends_none c (suc p) l t (inr f) = clash (cc)

  ends_first : (x : m.Step) (xs : List m.Step) (c : ℕ) (l : List m.Entry) (t : m.State) → Ends (x ∷ xs) (answer c 0 l t) → (code_of m t x ≡ c) × (c ≡ 0 → ⊥)
  ends_first x xs c l t (inl f) = absurd (omega (arith, f.place))
  ends_first x xs c l t (inr f) = let same : f.step ≡ x = cc f.split in (rw same at f.refused, f.nonzero)

  only_at : (s : m.State) (xs : List m.Step) (c p : ℕ) (l : List m.Entry) (t : m.State) → Told m s xs (answer c p l t) → answer c p l t ≡ replay m s 0 xs
  unfolding replay
  only_at s [] c zero l t a = let e = ends_none c 0 l t a.ends in rw (e.0, a.log, a.state)
  only_at s [] c (suc p) l t a = let e = ends_none c (suc p) l t a.ends in absurd (omega (arith, e.1))
  only_at s (x ∷ xs) c zero l t a =
      let e = ends_first x xs c l t a.ends in
      let same : code_of m s x ≡ c = rw a.state at e.0 in
      rw (replay_stop s 0 x xs (λ z. e.1 (sym same ∙ z)), same, a.log, a.state)
  only_at s (x ∷ xs) c (suc p) l t a =
      let es = entries m (m.next s x) (take p xs) in
      let rest : Told m (m.next s x) xs (answer c p es t) = record { accepted = a.accepted.1; state = a.state; log = refl; ends = ends_off x xs c p l es t a.ends } in
      rw (replay_cons s x xs (accepted_code m s x a.accepted.0), ← only_at (m.next s x) xs c p es t rest, a.log)

  pub only : (s : m.State) (xs : List m.Step) (r : Replayed m) → Told m s xs r → r ≡ replay m s 0 xs
  only s xs r a = only_at s xs r.code r.place r.log r.state a

  -- ---------- the code is 0 exactly if every step is accepted

  ends_zero : (xs : List m.Step) (r : Replayed m) → Ends xs r → r.code ≡ 0 → r.place ≡ length xs
  ends_zero xs r (inl f) e = f.place
  ends_zero xs r (inr f) e = absurd (f.nonzero e)

  pub zero_all : (s : m.State) (xs : List m.Step) → (replay m s 0 xs).code ≡ 0 → AllAccepted m s xs
  zero_all s xs e =
      let t = told s xs in
      let p : (replay m s 0 xs).place ≡ length xs = ends_zero xs (replay m s 0 xs) t.ends e in
      rw (p, take-length) at t.accepted

  pub all_replay : (s : m.State) (xs : List m.Step) → AllAccepted m s xs → replay m s 0 xs ≡ record { code = 0; place = length xs; log = entries m s xs; state = after m s xs }
  all_replay s xs a =
      sym (only s xs _ (record { accepted = rw take-length a; state = rw take-length; log = rw take-length; ends = inl (record { code = refl; place = refl }) }))

  pub all_zero : (s : m.State) (xs : List m.Step) → AllAccepted m s xs → (replay m s 0 xs).code ≡ 0
  all_zero s xs a = rw (all_replay s xs a)

  -- ---------- prefixes of a schedule

  pub all_take : (s : m.State) (n : ℕ) (xs : List m.Step) → AllAccepted m s xs → AllAccepted m s (take n xs)
  all_take s zero xs a = tt
  all_take s (suc n) [] a = tt
  all_take s (suc n) (x ∷ xs) a = (a.0, all_take (m.next s x) n xs a.1)

  -- the place is in the schedule, or at its end
  ends_place : (xs : List m.Step) (r : Replayed m) → Ends xs r → r.place ≤ length xs
  ends_place xs r (inl f) = omega (arith, f.place)
  ends_place xs r (inr f) = omega (arith, f.place, simp length-append at (ap length f.split))

  pub place_inside : (s : m.State) (xs : List m.Step) → (replay m s 0 xs).place ≤ length xs
  place_inside s xs = ends_place xs (replay m s 0 xs) (told s xs).ends

  -- up to the place every prefix is accepted, with the log and the state of its own steps
  pub prefix : (s : m.State) (xs : List m.Step) (n : ℕ) → n ≤ (replay m s 0 xs).place
      → replay m s 0 (take n xs) ≡ record { code = 0; place = n; log = entries m s (take n xs); state = after m s (take n xs) }
  prefix s xs n h =
      let p = (replay m s 0 xs).place in
      let a : AllAccepted m s (take n xs) = rw (take-take n p xs h) at (all_take s n (take p xs) (told s xs).accepted) in
      let l : length (take n xs) ≡ n = length-take-le n xs (omega (arith, place_inside s xs)) in
      all_replay s (take n xs) a ∙ rw l

  -- a longer prefix ends as the whole schedule does
  pub longer : (s : m.State) (xs : List m.Step) (n : ℕ) → (replay m s 0 xs).place < n → replay m s 0 (take n xs) ≡ replay m s 0 xs
  longer s xs zero h = absurd (omega arith)
  longer s [] (suc n) h = refl
  longer s (x ∷ xs) (suc n) h = by_code s x
      (λ z. rw (replay_cons s x (take n xs) z, replay_cons s x xs z, longer (m.next s x) xs n (omega (arith, rw (replay_cons s x xs z) at h))))
      (λ z. rw (replay_stop s 0 x (take n xs) z, replay_stop s 0 x xs z))

  -- ---------- the place is the least refused step

  all_mid : (s : m.State) (p : ℕ) (ys : List m.Step) (x : m.Step) (zs : List m.Step) → AllAccepted m s (take p (ys ++ (x ∷ zs))) → length ys < p → Accepted m (after m s ys) x
  all_mid s zero ys x zs a h = absurd (omega arith)
  all_mid s (suc p) [] x zs a h = a.0
  all_mid s (suc p) (y ∷ ys) x zs a h = all_mid (m.next s y) p ys x zs a.1 (omega arith)

  -- a step before it is accepted, and the step at it is refused with the code answered
  pub least : (s : m.State) (ys : List m.Step) (x : m.Step) (zs : List m.Step) → length ys < (replay m s 0 (ys ++ (x ∷ zs))).place → Accepted m (after m s ys) x
  least s ys x zs h = all_mid s (replay m s 0 (ys ++ (x ∷ zs))).place ys x zs (told s (ys ++ (x ∷ zs))).accepted h

  ends_at : (xs ys : List m.Step) (x : m.Step) (zs : List m.Step) (r : Replayed m) → xs ≡ ys ++ (x ∷ zs) → take r.place xs ≡ ys → r.place ≡ length ys
      → Ends xs r → (code_of m r.state x ≡ r.code) × (r.code ≡ 0 → ⊥)
  ends_at xs ys x zs r e t p (inl f) = absurd (omega (arith, f.place, simp length-append at (ap length e)))
  ends_at xs ys x zs r e t p (inr f) =
      let e' : ys ++ (x ∷ zs) ≡ ys ++ (f.step ∷ f.rest) = sym e ∙ f.split ∙ rw t in
      let same : x ≡ f.step = cc (append_cancel_left ys (x ∷ zs) (f.step ∷ f.rest) e') in
      (rw same f.refused, f.nonzero)

  pub refused_at : (s : m.State) (ys : List m.Step) (x : m.Step) (zs : List m.Step) → let r = replay m s 0 (ys ++ (x ∷ zs)) in
      r.place ≡ length ys → (code_of m (after m s ys) x ≡ r.code) × (r.code ≡ 0 → ⊥)
  refused_at s ys x zs p =
      let xs = ys ++ (x ∷ zs) in
      let t = told s xs in
      let y : take (replay m s 0 xs).place xs ≡ ys = rw p (take-append_seam ys (x ∷ zs)) in
      rw (← (rw y at t.state)) (ends_at xs ys x zs (replay m s 0 xs) refl y p t.ends)
