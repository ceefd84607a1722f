-- The bytes of an entry and of a state: the scope, "Log and image". Assumes nothing.
use Rattle.std.specs.Prelude.{ℕ, List, [], ◌∷◌, ◌++◌}
use mir.Val.{bool_byte}
use Rattle.rows.specs.Bytes.{big}
use Rattle.counting.specs.declared.state.State.{State}
use Rattle.counting.specs.declared.entry.Entry.{Entry}
use Rattle.counting.specs.declared.entry.Entry.TheVariants.{Withdrawn, Granted}

-- 05 01 t (withdrawn), 05 02 t (new_ref)
abbrev pub tagged : ℕ → ℕ → List ℕ
tagged tag t = 5 ∷ tag ∷ big 4 t

abbrev pub entry_bytes : Entry → List ℕ
entry_bytes (Withdrawn t) = tagged 1 t
entry_bytes (Granted t) = tagged 2 t

-- present, t, count, refs
abbrev pub image_bytes : State → List ℕ
image_bytes s = bool_byte s.present ∷ (big 4 s.t ++ (s.count ∷ s.refs ∷ []))
