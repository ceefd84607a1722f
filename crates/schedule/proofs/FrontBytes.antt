-- The front of a file, once over its parameters: what was written is read, and what was read is written. Assumes nothing.
use mathlib.Core.Path.{◌≡◌, refl, sym, ap, ◌∙◌}
use mathlib.Core.Bool.{Bool, true, false}
use mathlib.Core.List.{List, ◌∷◌, ◌++◌}
use Prim.Native.Nat.{ℕ, ◌+◌, ◌≤◌}
use native.Mathlib.Omega.{arith}
use borrow.Author.Tests.{eqb-true, eqb-false}
use lib.Dec.{eqb}
use lib.ListN.{length, get_or, drop, length-drop}
use mir.Val.{bool_byte}
use Rattle.rows.specs.Bytes.{Bytes, big, number_at}
use Rattle.rows.proofs.Rows.{drop_one}
use Rattle.rows.proofs.Cases.{on}
use Rattle.schedule.specs.Limits as limit
use Rattle.schedule.specs.Widths as kind
use Rattle.schedule.specs.Front.{opened_of, open_at}
use Rattle.schedule.specs.Schedule.{front_bytes, Allowed}
use Rattle.schedule.specs.Given.{Framed, Ready, flat_ready, lock_ready, counting_ready, flag_ready}
use Rattle.schedule.specs.declared.steps.Params.{Params}
use Rattle.schedule.specs.declared.steps.Params.TheVariants.{Flat, Lock, Counting, Flag}
use Rattle.schedule.specs.Front.{open_at}
use Rattle.schedule.proofs.FrontSays.{params_of, Passed, ready_opened}
use Rattle.schedule.proofs.Numbers.{left_number, number_fits, number_again}

-- the file of a body
abbrev pub file_of : List ℕ → List ℕ
file_of b = 1 ∷ (big 2 (length b) ++ b)

-- ---- a front that was written is read

-- the body's length stands in front of it
body_framed : (b : List ℕ) → 1 ≤ length b → length b ≤ limit.body → Framed (file_of b)
body_framed b some h =
    let n : number_at (file_of b) 1 2 ≡ length b = left_number (file_of b) 1 2 (length b) b refl (omega arith) in
    record { sized = record { long = omega arith; told = omega arith }; version = refl; short = omega arith }

byte_of_flag : (v : Bool) → (bool_byte v ≤ 1) × (eqb (bool_byte v) 1 ≡ v)
byte_of_flag true = (omega arith, refl)
byte_of_flag false = (omega arith, refl)

pub front_read : (p : Params) (rest : List ℕ) → Allowed p → length (front_bytes p ++ rest) ≤ limit.body
    → opened_of (file_of (front_bytes p ++ rest)) ≡ open_at p (3 + length (front_bytes p))
front_read (Flat n) rest a h =
    let b = front_bytes (Flat n) ++ rest in
    ready_opened (file_of b) (body_framed b (omega arith) h) (flat_ready refl (omega arith) a)
front_read (Lock n t) rest a h =
    let b = front_bytes (Lock n t) ++ rest in
    let e : number_at (file_of b) 5 4 ≡ t = left_number (file_of b) 5 4 t rest refl a.2 in
    ready_opened (file_of b) (body_framed b (omega arith) h) (lock_ready refl (omega arith) a.0 a.1) ∙ rw e
front_read Counting rest a h =
    let b = front_bytes Counting ++ rest in
    ready_opened (file_of b) (body_framed b (omega arith) h) (counting_ready refl)
front_read (Flag n v) rest a h =
    let b = front_bytes (Flag n v) ++ rest in
    let e = byte_of_flag v in
    ready_opened (file_of b) (body_framed b (omega arith) h) (flag_ready refl (omega arith) a.0 a.1 e.0) ∙ rw e.1

-- ---- a front that was read is written

flag_of_byte : (b : ℕ) → b ≤ 1 → bool_byte (eqb b 1) ≡ b
flag_of_byte b h = on (eqb b 1) (λ t. rw t (sym (eqb-true b 1 t))) (λ t. rw t (omega (arith, eqb-false b 1 t)))

module _ (f : List ℕ) (bytes : Bytes f) where
  -- the file's version and length are those of its body
  file_again : Framed f → file_of (drop 3 f) ≡ f
  file_again g =
      let long = g.sized.long in
      let first : f ≡ 1 ∷ drop 1 f = rw g.version at (drop_one f 0 0 (omega arith)) in
      rw (length-drop 3 f, ← g.sized.told, number_again f bytes 1 2 (omega arith)) (sym first)

  kind_left : (k : ℕ) → get_or f 3 0 ≡ k → 4 ≤ length f → drop 3 f ≡ k ∷ drop 4 f
  kind_left k e h = rw e at (drop_one f 3 0 h)

  -- the kind's byte and the next one
  two_left : (k : ℕ) → get_or f 3 0 ≡ k → 5 ≤ length f → drop 3 f ≡ k ∷ get_or f 4 0 ∷ drop 5 f
  two_left k e h = kind_left k e (omega arith) ∙ ap (λ (r : List ℕ). k ∷ r) (drop_one f 4 0 h)

  -- parameters that are ready are in their limits, and a body begins with their bytes

  ready_allowed : {from : ℕ} (r : Ready f from) → Allowed (params_of f r)
  ready_allowed (flat_ready k l n) = n
  ready_allowed (lock_ready k l m n) = (m, n, number_fits f bytes 5 4 l)
  ready_allowed (counting_ready k) = tt
  ready_allowed (flag_ready k l m n v) = (m, n)

  ready_left : {from : ℕ} → Framed f → (r : Ready f from) → drop 3 f ≡ front_bytes (params_of f r) ++ drop from f
  ready_left g (flat_ready k l n) = two_left kind.flat k l
  ready_left g (lock_ready k l m n) = rw (← number_again f bytes 5 4 l) at (two_left kind.lock k (omega arith))
  ready_left g (counting_ready k) = kind_left kind.counting k g.sized.long
  ready_left g (flag_ready k l m n v) =
      rw (flag_of_byte (get_or f 5 0) v) (rw (drop_one f 5 0 l) at (two_left kind.flag k (omega arith)))

  module _ (p : Params) (at : ℕ) (h : Passed f p at) where
    pub front_allowed : Allowed p
    front_allowed = rw h.params (ready_allowed h.ready)

    pub front_again : (rest : List ℕ) → rest ≡ drop at f → file_of (front_bytes p ++ rest) ≡ f
    front_again rest e = rw (e, h.params, ← ready_left h.framed h.ready) (file_again h.framed)
