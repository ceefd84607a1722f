-- What reading and writing ask of a language of steps, and that each of the four kinds gives it. Assumes nothing.
use mathlib.Core.Path.{◌≡◌, refl, sym, ap}
use mathlib.Core.List.{List, [], ◌∷◌}
use Prim.Native.Nat.{ℕ, zero, suc, ◌+◌, ◌≤◌}
use native.Mathlib.Omega.{arith}
use lib.ListN.{length, get_or, drop}
use Rattle.rows.proofs.Rows.{drop_one, drop_end}
use Rattle.schedule.specs.Widths.{widths, widths_of, number_widths}
use Rattle.schedule.specs.Language.{Language, step_length, size_of}
use Rattle.schedule.specs.Spelling.{flat, lock, counting, flag}
use Rattle.schedule.specs.declared.steps.FlatStep.{FlatStep}
use Rattle.schedule.specs.declared.steps.FlatStep.TheVariants.{ClientSend, ClientRecv, CombinerRecv, CombinerSkip, CombinerGoToResponding, CombinerSend, CombinerSendSkip, CombinerGoToCollecting}
use Rattle.schedule.specs.declared.steps.LockStep.{LockStep}
use Rattle.schedule.specs.declared.steps.LockStep.TheVariants.{ExcStart, ExcCheckCount, ExcFinish, ExcRelease, SharedStart, SharedFinish, SharedRelease}
use Rattle.schedule.specs.declared.steps.CountingStep.{CountingStep}
use Rattle.schedule.specs.declared.steps.CountingStep.TheVariants.{WriteableToReadable, ReadableToWriteable, NewRef, DeleteRef}
use Rattle.schedule.specs.declared.steps.FlagStep.{FlagStep}
use Rattle.schedule.specs.declared.steps.FlagStep.TheVariants.{Begin, Move, Read}
use Rattle.schedule.specs.Lawful.{Spelled, Keeps, Lawful}
use Rattle.schedule.proofs.Numbers.{total}

-- ---- a step's size, as its law has it

module _ {S : Type 0} (l : Language S) (law : Lawful l) (x : S) where
  -- a byte for the tag, and the bytes of the numbers
  pub parts : step_length l x ≡ 1 + total (number_widths l.kind (l.tag x))
  parts = ap total (law.spelled x).tagged

  -- a length byte, a tag, and at most nine bytes of numbers
  pub sized : (2 ≤ size_of l x) × (size_of l x ≤ 11)
  sized = (omega (arith, parts), omega (arith, (law.spelled x).short))

-- ---- a list of known length, entry by entry, as `step` reads it

abbrev entries : ℕ → ℕ → List ℕ → List ℕ
entries zero i ns = []
entries (suc n) i ns = get_or ns i 0 ∷ entries n (i + 1) ns

entries_from : (n i : ℕ) (ns : List ℕ) → length ns ≡ i + n → entries n i ns ≡ drop i ns
entries_from zero i ns e = sym (drop_end ns i (omega arith))
entries_from (suc n) i ns e = rw (entries_from n (i + 1) ns (omega arith)) (sym (drop_one ns i 0 (omega arith)))

exactly : (n : ℕ) (ns : List ℕ) → length ns ≡ n → entries n 0 ns ≡ ns
exactly n ns e = entries_from n 0 ns (omega arith)

-- ---- kind 1

flat_spelled : (x : FlatStep) → Spelled flat x
unfolding widths_of widths
flat_spelled (ClientSend j rid req) = record { again = refl; tagged = refl; short = omega arith }
flat_spelled (ClientRecv j) = record { again = refl; tagged = refl; short = omega arith }
flat_spelled CombinerRecv = record { again = refl; tagged = refl; short = omega arith }
flat_spelled CombinerSkip = record { again = refl; tagged = refl; short = omega arith }
flat_spelled CombinerGoToResponding = record { again = refl; tagged = refl; short = omega arith }
flat_spelled (CombinerSend rid resp) = record { again = refl; tagged = refl; short = omega arith }
flat_spelled CombinerSendSkip = record { again = refl; tagged = refl; short = omega arith }
flat_spelled CombinerGoToCollecting = record { again = refl; tagged = refl; short = omega arith }

flat_kept : Keeps flat
unfolding widths_of widths
flat_kept zero ns h e = absurd (omega arith)
flat_kept (suc zero) ns h e = record { tag = refl; numbers = exactly 3 ns e }
flat_kept (suc (suc zero)) ns h e = record { tag = refl; numbers = exactly 1 ns e }
flat_kept (suc (suc (suc zero))) ns h e = record { tag = refl; numbers = exactly 0 ns e }
flat_kept (suc (suc (suc (suc zero)))) ns h e = record { tag = refl; numbers = exactly 0 ns e }
flat_kept (suc (suc (suc (suc (suc zero))))) ns h e = record { tag = refl; numbers = exactly 0 ns e }
flat_kept (suc (suc (suc (suc (suc (suc zero)))))) ns h e = record { tag = refl; numbers = exactly 2 ns e }
flat_kept (suc (suc (suc (suc (suc (suc (suc zero))))))) ns h e = record { tag = refl; numbers = exactly 0 ns e }
flat_kept (suc (suc (suc (suc (suc (suc (suc (suc zero)))))))) ns h e = record { tag = refl; numbers = exactly 0 ns e }
flat_kept (suc (suc (suc (suc (suc (suc (suc (suc (suc t))))))))) ns h e = absurd (omega arith)

pub flat_lawful : Lawful flat
flat_lawful = record { spelled = flat_spelled; kept = flat_kept }

-- ---- kind 2

lock_spelled : (x : LockStep) → Spelled lock x
unfolding widths_of widths
lock_spelled ExcStart = record { again = refl; tagged = refl; short = omega arith }
lock_spelled ExcCheckCount = record { again = refl; tagged = refl; short = omega arith }
lock_spelled ExcFinish = record { again = refl; tagged = refl; short = omega arith }
lock_spelled (ExcRelease t) = record { again = refl; tagged = refl; short = omega arith }
lock_spelled (SharedStart r) = record { again = refl; tagged = refl; short = omega arith }
lock_spelled (SharedFinish r) = record { again = refl; tagged = refl; short = omega arith }
lock_spelled (SharedRelease r t) = record { again = refl; tagged = refl; short = omega arith }

lock_kept : Keeps lock
unfolding widths_of widths
lock_kept zero ns h e = absurd (omega arith)
lock_kept (suc zero) ns h e = record { tag = refl; numbers = exactly 0 ns e }
lock_kept (suc (suc zero)) ns h e = record { tag = refl; numbers = exactly 0 ns e }
lock_kept (suc (suc (suc zero))) ns h e = record { tag = refl; numbers = exactly 0 ns e }
lock_kept (suc (suc (suc (suc zero)))) ns h e = record { tag = refl; numbers = exactly 1 ns e }
lock_kept (suc (suc (suc (suc (suc zero))))) ns h e = record { tag = refl; numbers = exactly 1 ns e }
lock_kept (suc (suc (suc (suc (suc (suc zero)))))) ns h e = record { tag = refl; numbers = exactly 1 ns e }
lock_kept (suc (suc (suc (suc (suc (suc (suc zero))))))) ns h e = record { tag = refl; numbers = exactly 2 ns e }
lock_kept (suc (suc (suc (suc (suc (suc (suc (suc t)))))))) ns h e = absurd (omega arith)

pub lock_lawful : Lawful lock
lock_lawful = record { spelled = lock_spelled; kept = lock_kept }

-- ---- kind 3

counting_spelled : (x : CountingStep) → Spelled counting x
unfolding widths_of widths
counting_spelled (WriteableToReadable t) = record { again = refl; tagged = refl; short = omega arith }
counting_spelled ReadableToWriteable = record { again = refl; tagged = refl; short = omega arith }
counting_spelled NewRef = record { again = refl; tagged = refl; short = omega arith }
counting_spelled (DeleteRef t) = record { again = refl; tagged = refl; short = omega arith }

counting_kept : Keeps counting
unfolding widths_of widths
counting_kept zero ns h e = absurd (omega arith)
counting_kept (suc zero) ns h e = record { tag = refl; numbers = exactly 1 ns e }
counting_kept (suc (suc zero)) ns h e = record { tag = refl; numbers = exactly 0 ns e }
counting_kept (suc (suc (suc zero))) ns h e = record { tag = refl; numbers = exactly 0 ns e }
counting_kept (suc (suc (suc (suc zero)))) ns h e = record { tag = refl; numbers = exactly 1 ns e }
counting_kept (suc (suc (suc (suc (suc t))))) ns h e = absurd (omega arith)

pub counting_lawful : Lawful counting
counting_lawful = record { spelled = counting_spelled; kept = counting_kept }

-- ---- kind 4

flag_spelled : (x : FlagStep) → Spelled flag x
unfolding widths_of widths
flag_spelled (Begin k) = record { again = refl; tagged = refl; short = omega arith }
flag_spelled (Move k) = record { again = refl; tagged = refl; short = omega arith }
flag_spelled (Read k) = record { again = refl; tagged = refl; short = omega arith }

flag_kept : Keeps flag
unfolding widths_of widths
flag_kept zero ns h e = absurd (omega arith)
flag_kept (suc zero) ns h e = record { tag = refl; numbers = exactly 1 ns e }
flag_kept (suc (suc zero)) ns h e = record { tag = refl; numbers = exactly 1 ns e }
flag_kept (suc (suc (suc zero))) ns h e = record { tag = refl; numbers = exactly 1 ns e }
flag_kept (suc (suc (suc (suc t)))) ns h e = absurd (omega arith)

pub flag_lawful : Lawful flag
flag_lawful = record { spelled = flag_spelled; kept = flag_kept }
