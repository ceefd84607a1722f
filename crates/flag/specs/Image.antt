-- The bytes of an entry and of a state: the scope, "Log and image". Assumes nothing.
use Rattle.std.specs.Prelude.{ℕ, List, [], ◌∷◌, take}
use mir.Val.{bool_byte}
use Rattle.rows.specs.Walk.{at_most}
use Rattle.schedule.specs.Limits as limit
use Rattle.flag.specs.declared.state.State.{State}
use Rattle.flag.specs.declared.entry.Entry.{Entry}
use Rattle.flag.specs.declared.entry.Entry.TheVariants.{Flip, Saw}

-- 02 01 k (flip), 03 02 k value (read)
abbrev pub entry_bytes : Entry → List ℕ
entry_bytes (Flip k) = 2 ∷ 1 ∷ k ∷ []
entry_bytes (Saw k v) = 3 ∷ 2 ∷ k ∷ bool_byte v ∷ []

-- how many of the row are in use; in a made-up state no more than there are
abbrev pub in_use : ℕ → ℕ
in_use n = at_most limit.threads n

-- value, pending, places
abbrev pub image_bytes : State → List ℕ
image_bytes s = bool_byte s.value ∷ s.pending ∷ take (in_use s.threads) s.places
