-- A row's flags as one number, entry 0 lowest. Assumes nothing.
use Rattle.std.specs.Prelude.{ℕ, ◌+◌, ◌*◌, Bool, List, [], ◌∷◌}
use mir.Val.{bool_byte}

abbrev pub mask : {A : Type 0} → (A → Bool) → List A → ℕ
mask f [] = 0
mask f (x ∷ xs) = mask f xs * 2 + bool_byte (f x)
