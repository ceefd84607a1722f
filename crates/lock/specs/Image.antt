-- The bytes of an entry and of a state: the scope, "Log and image". Assumes nothing.
use Rattle.std.specs.Prelude.{ℕ, List, [], ◌∷◌, ◌++◌, take}
use mir.Val.{bool_byte}
use Rattle.rows.specs.Bytes.{big}
use Rattle.rows.specs.Walk.{pieces, at_most}
use Rattle.schedule.specs.Limits as limit
use Rattle.lock.specs.declared.state.Cell.{Cell}
use Rattle.lock.specs.declared.state.Head.{Head}
use Rattle.lock.specs.declared.state.State.{State}
use Rattle.lock.specs.declared.entry.Entry.{Entry}
use Rattle.lock.specs.declared.entry.Entry.TheVariants.{Withdrawn, Granted}

-- 05 01 t (exc_finish), 06 02 r t (shared_finish)
abbrev pub entry_bytes : Entry → List ℕ
entry_bytes (Withdrawn t) = 5 ∷ 1 ∷ big 4 t
entry_bytes (Granted r t) = 6 ∷ 2 ∷ r ∷ big 4 t

abbrev pub cell_bytes : Cell → List ℕ
cell_bytes c = c.count ∷ c.pending ∷ c.guards ∷ []

-- locked; storage present, t; writer cursor present, cursor; writer guard
abbrev pub head_bytes : Head → List ℕ
head_bytes h = bool_byte h.locked ∷ bool_byte h.stored ∷ (big 4 h.t ++ (bool_byte h.pending ∷ h.cursor ∷ bool_byte h.guard ∷ []))

-- how many of the row are in use; in a made-up state no more than there are
abbrev pub in_use : ℕ → ℕ
in_use n = at_most limit.width n

abbrev pub image_bytes : State → List ℕ
image_bytes s = head_bytes s.head ++ pieces cell_bytes (take (in_use s.head.width) s.cells)
