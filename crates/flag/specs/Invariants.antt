-- FlagInv of helping.rs with the protocol's three cases, under the source's names: what `pending` says of the offer. A thread makes it at try_handshake,
-- and stands at the second exchange until it looks. Assumes nothing.
use Rattle.std.specs.Prelude.{ℕ, ◌≡◌, ◌⊎◌}
use Rattle.flag.specs.Source.{Control, try_handshake_second, try_handshake_store, Flag}

abbrev pub Waits : Control → Type 0
Waits c = (c ≡ try_handshake_second) ⊎ (c ≡ try_handshake_store)

pub data Protocol (pending : ℕ) (at : ℕ → Control) : Type 0 where
  -- nobody offers
  Empty : pending ≡ 0 → ((k : ℕ) → Waits (at k) → ⊥) → Protocol pending at
  -- one thread offers its flip, and has not looked again
  Offering : (k : ℕ) → pending ≡ 1 → at k ≡ try_handshake_second → ((j : ℕ) → Waits (at j) → j ≡ k) → Protocol pending at
  -- its flip was carried out by another, and it has not taken note
  Accepted : (k : ℕ) → pending ≡ 2 → Waits (at k) → ((j : ℕ) → Waits (at j) → j ≡ k) → Protocol pending at

abbrev pub FlagInv : Flag → Type 0
FlagInv m = Protocol m.memory.pending m.controls
