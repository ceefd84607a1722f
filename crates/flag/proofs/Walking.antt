-- The walk that tests a state's places: one loop that tests every place and counts the threads at 5 and at 6; and the first thread at 5. Assumes nothing.
use mathlib.Core.Path.{◌≡◌, refl, sym, ◌∙◌}
use mathlib.Core.Bool.{Bool, true, false, cond}
use mathlib.Core.List.{List, [], ◌∷◌}
use Prim.Native.Nat.{ℕ, ◌+◌, ◌≤◌, ◌<◌}
use native.Mathlib.Nat.{add-zero, zero-add}
use native.Mathlib.Omega.{arith}
use mir.Syntax.{w64}
use mir.Val.{Fits, bool_byte}
use borrow.Author.Tests.{ltb-false}
use lib.Dec.{eqb, ltb}
use lib.ListN.{length, get_or, drop}
use Rattle.std.specs.List.{position_or_len}
use Rattle.std.specs.Option.{unwrap_or}
use Rattle.std.specs.declared.option.Option.{Option}
use Rattle.std.specs.declared.option.Option.TheVariants.{None, Some}
use Rattle.std.proofs.lemmas.List.Recursion.{is_position_or_len}
use Rattle.rows.specs.Walk.{every, many}
use Rattle.rows.proofs.Cases.{on}
use Rattle.rows.proofs.Walks.{every_more, every_stop, every_end, many_more, many_skip, many_end}
use Rattle.schedule.specs.Limits as limit
use Rattle.flag.specs.Flag.{offerer}
use Rattle.flag.specs.Sound.{place_sound, at_second, at_store, handshake, places_sound}
use Rattle.flag.specs.declared.state.State.{State}

-- a test as a number is at most 1, and counts the entry that it tests
bit_small : (b : Bool) → bool_byte b ≤ 1
bit_small true = omega arith
bit_small false = omega arith

module _ (p : ℕ → Bool) (xs : List ℕ) (n i r : ℕ) (inv : n + many p (drop i xs) ≡ r) (h : i < length xs) where
  many_bit : n + bool_byte (p (get_or xs i 0)) + many p (drop (i + 1) xs) ≡ r
  many_bit = on (p (get_or xs i 0))
      (λ b. rw b (many_more p xs 0 n i r inv h b))
      (λ b. rw (b, add-zero n) (many_skip p xs 0 n i r inv h b))

module _ (s : State) where
  -- before i every place is sound, and `fives` and `sixes` threads stand at 5 and at 6
  pub record Walking (i fives sixes : ℕ) : Type 0 where
    pub below : i ≤ limit.threads
    pub long : length s.places ≡ limit.threads
    pub few_fives : fives ≤ i
    pub few_sixes : sixes ≤ i
    pub rest : every (place_sound s.threads) i (drop i s.places) ≡ every (place_sound s.threads) 0 s.places
    pub at_five : fives + many at_second (drop i s.places) ≡ many at_second s.places
    pub at_six : sixes + many at_store (drop i s.places) ≡ many at_store s.places

  pub walking_begins : length s.places ≡ limit.threads → Walking 0 0 0
  walking_begins l =
      record {
        below = omega arith;
        long = l;
        few_fives = omega arith;
        few_sixes = omega arith;
        rest = refl;
        at_five = zero-add (many at_second s.places);
        at_six = zero-add (many at_store s.places);
      }

  module _ (i fives sixes : ℕ) (w : Walking i fives sixes) where
    -- what the counts come to is small
    pub walking_few : fives + sixes ≤ 255
    walking_few = omega (arith, w.below, w.few_fives, w.few_sixes)

    pub five_fits : (b : Bool) → Fits w64 (fives + bool_byte b)
    five_fits b = omega (arith, w.below, w.few_fives, bit_small b)

    pub six_fits : (b : Bool) → Fits w64 (sixes + bool_byte b)
    six_fits b = omega (arith, w.below, w.few_sixes, bit_small b)

    pub walking_ends : limit.threads ≤ i → (b : Bool) → b ≡ handshake s.pending fives sixes → b ≡ places_sound s
    walking_ends h b e =
        let l : length s.places ≤ i = omega (arith, w.long) in
        let five = many_end at_second s.places 0 fives i _ w.at_five l in
        let six = many_end at_store s.places 0 sixes i _ w.at_six l in
        rw (e, ← every_end (place_sound s.threads) s.places 0 i _ w.rest l, ← five, ← six)

    module _ (h : i < limit.threads) (b : Bool) (told : b ≡ place_sound s.threads i (get_or s.places i 0)) where
      inside : i < length s.places
      inside = omega (arith, w.long)

      pub walking_stops : b ≡ false → false ≡ places_sound s
      walking_stops e = rw (← every_stop (place_sound s.threads) s.places 0 i _ w.rest inside (sym told ∙ e))

      pub walking_more : b ≡ true → (x y : ℕ) → x ≡ bool_byte (at_second (get_or s.places i 0)) → y ≡ bool_byte (at_store (get_or s.places i 0))
          → Walking (i + 1) (fives + x) (sixes + y)
      walking_more e x y five six =
          rw (five, six)
          (record {
            below = omega arith;
            long = w.long;
            few_fives = omega (arith, w.few_fives, bit_small (at_second (get_or s.places i 0)));
            few_sixes = omega (arith, w.few_sixes, bit_small (at_store (get_or s.places i 0)));
            rest = every_more (place_sound s.threads) s.places 0 i _ w.rest inside (sym told ∙ e);
            at_five = many_bit at_second s.places fives i _ w.at_five inside;
            at_six = many_bit at_store s.places sixes i _ w.at_six inside;
          })

-- ---------- the first thread that offers its flip, or how many there are

few_offers : (ps : List ℕ) → offerer ps ≤ length ps
few_offers [] = omega arith
few_offers (p ∷ ps) = on (eqb p 5) (λ b. rw b (omega arith)) (λ b. rw b (omega (arith, few_offers ps)))

pub first_offer : (ps : List ℕ) (r : Option ℕ)
    → r ≡ cond (ltb (position_or_len at_second ps) (length ps)) (Some (position_or_len at_second ps)) None
    → unwrap_or r (length ps) ≡ offerer ps
first_offer ps r e =
    let o : offerer ps ≡ position_or_len at_second ps =
    is_position_or_len offerer at_second refl (λ x xs. on (eqb x 5) (λ b. rw b refl) (λ b. rw b (omega arith))) ps in
    on (ltb (offerer ps) (length ps))
    (λ b. rw (e, ← o, b))
    (λ b. rw (e, ← o, b) (omega (arith, few_offers ps, ltb-false (offerer ps) (length ps) b)))
