-- No flips laid down, an image laid down piece by piece, and how little either takes. Assumes nothing.
use mathlib.Core.Path.{◌≡◌, refl, sym}
use mathlib.Core.List.{List, [], ◌∷◌}
use Prim.Native.Nat.{ℕ, ◌+◌, ◌≤◌, ◌<◌}
use native.Mathlib.Omega.{arith}
use borrow.Author.Tests.{leb-true, leb-false}
use mir.Val.{bool_byte}
use lib.Dec.{leb}
use lib.ListN.{length, take, length-take}
use Rattle.rows.specs.Stores.{Laid}
use Rattle.rows.specs.Walk.{pieces}
use Rattle.rows.proofs.Cases.{on}
use Rattle.rows.proofs.Rows.{first_long}
use Rattle.rows.proofs.Walks.{at_most_lem}
use Rattle.rows.proofs.Stores.{whole_laid, none_laid, laid_then}
use Rattle.schedule.specs.Limits as limit
use Rattle.schedule.specs.declared.steps.FlagStep.{FlagStep}
use Rattle.schedule.specs.declared.steps.FlagStep.TheVariants.{Begin, Move, Read}
use Rattle.flag.specs.Flag.{went_by, flipped, offerer, logs}
use Rattle.flag.specs.Image.{entry_bytes, image_bytes, in_use}
use Rattle.flag.specs.declared.state.State.{State}
use Rattle.flag.specs.declared.moves.Flips.{Flips}
use Rattle.flag.specs.declared.moves.Flips.TheVariants.{Nobody, Mover, Both}

-- ---------- the flips of a move

-- nothing is laid down anywhere
nothing_laid : (l : List ℕ) (at : ℕ) → Laid l at [] at l
nothing_laid l at =
    on (leb (at + length {A = ℕ} []) (length l))
    (λ b. let h = leb-true _ _ b in whole_laid l at [] at l h (omega arith) refl)
    (λ b. let h = leb-false _ _ b in none_laid l at [] h)

pub flips_nobody : (flips : Flips) (o k : ℕ) (l : List ℕ) (at : ℕ) → flips ≡ Nobody → Laid l at (pieces entry_bytes (flipped flips o k)) at l
flips_nobody flips o k l at e = rw e (nothing_laid l at)

few_flips : (f : Flips) (o k : ℕ) → length (pieces entry_bytes (flipped f o k)) ≤ limit.entry
few_flips Nobody o k = omega arith
few_flips Mover o k = omega arith
few_flips Both o k = omega arith

-- whatever a step logs is few bytes
pub logs_short : (s : State) (x : FlagStep) → length (pieces entry_bytes (logs s x)) ≤ limit.entry
logs_short s (Begin k) = omega arith
logs_short s (Move k) = few_flips (went_by s k).flips (offerer s.places) k
logs_short s (Read k) = omega arith

-- ---------- the image

used_small : (n : ℕ) → in_use n ≤ limit.threads
used_small n = at_most_lem limit.threads n

module _ (s : State) (n : ℕ) (e : n ≡ in_use s.threads) where
  small : n ≤ limit.threads
  small = rw e (used_small s.threads)

  module _ (long : length s.places ≡ limit.threads) where
    pub used_inside : n ≤ length s.places
    used_inside = omega (arith, small)

    pub used_long : n ≡ length (take n s.places)
    used_long = sym (first_long s.places n used_inside)

    module _ (l : List ℕ) where
      pub image_short : length l < 2 + n → Laid l 0 (image_bytes s) 0 l
      image_short h = rw (← e) (none_laid l 0 (bool_byte s.value ∷ s.pending ∷ take n s.places) (omega (arith, used_long)))

      pub image_laid : 2 + n ≤ length l → (v : ℕ) → v ≡ bool_byte s.value → (a c : ℕ) (k o : List ℕ) → Laid l 0 (v ∷ s.pending ∷ []) a k
          → Laid k a (take n s.places) c o → Laid l 0 (image_bytes s) c o
      image_laid h v f a c k o p q =
          rw (← e) (laid_then l 0 (bool_byte s.value ∷ s.pending ∷ []) (take n s.places) a k c o (omega (arith, used_long)) (rw f at p) q)

-- an image is small: it tells of no more threads than there is room for
pub image_small : (s : State) → length (image_bytes s) ≤ limit.image
image_small s = simp length-take (omega (arith, used_small s.threads))
