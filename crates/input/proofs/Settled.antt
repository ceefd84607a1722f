-- Of a reader whose bytes are known, what `read_full` has read is settled: as many of them as the buffer holds. Assumes nothing.
use Rattle.std.proofs.Common.{◌≡◌, ℕ, ◌<◌, ◌≤◌, List, [], ◌++◌, length, take, sym, ap, ◌∙◌, arith, append-nil, take_all}
use Rattle.std.proofs.lemmas.List.{take_at}
use borrow.Author.Tests.{ltb-true, ltb-false}
use Rattle.rows.proofs.Cases.{on}
use lib.Dec.{ltb}

module _ (xs rest front : List ℕ) (room : ℕ) (given : xs ≡ front ++ rest) where
  -- the buffer is full
  full : length front ≡ room → front ≡ take room xs
  full e = sym (ap (take room) given ∙ take_at front rest room e)

  -- or the reader had no more
  ended : length front ≤ room → rest ≡ [] → front ≡ take room xs
  ended within e = sym (ap (take room) (given ∙ ap (λ l. front ++ l) e ∙ append-nil front) ∙ take_all room front within)

  pub read_full_settled : length front ≤ room → (length front < room → rest ≡ []) → front ≡ take room xs
  read_full_settled within end = on (ltb (length front) room)
      (λ b. ended within (end (ltb-true (length front) room b)))
      (λ b. let over : room ≤ length front = ltb-false (length front) room b in full (omega arith))
