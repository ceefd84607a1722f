-- Each contract settles its answer: two answers that meet a function's promise are equal, and so are the bytes that they leave. Assumes nothing.
use mathlib.Core.Path.{◌≡◌}
use mathlib.Core.Bool.{Bool}
use mathlib.Core.List.{List}
use Prim.Native.Nat.{ℕ}
use Rattle.std.specs.Prelude.{Result}
use Rattle.rows.specs.Stores.{Laid}
use Rattle.rows.proofs.Settled.{settled, laid_settled}
use Rattle.machine.specs.Check.{first}
use Rattle.machine.specs.Move.{as_moved}
use Rattle.machine.specs.Refusals.{verdict_code}
use Rattle.machine.specs.Single.{told_by}
use Rattle.machine.specs.declared.refusal.Refusal.{Refusal}
use Rattle.machine.specs.declared.single.Answer.{Answer}
use Rattle.machine.specs.Made.{made_by}
use Rattle.machine.proofs.Refusing.{made_tells, verdict_tells, moved_tells, answer_tells}
use Rattle.schedule.specs.declared.steps.Step.{Step}
use Rattle.lock.specs.Lock.{fresh_of, exc_check_count_tests, inside_tests, shared_finish_tests}
use Rattle.lock.specs.Moved.{started_head, checked_head, finished_head, released_head, started_cell, finished_cell, released_cell}
use Rattle.lock.specs.Sound.{sound}
use Rattle.lock.specs.Image.{entry_bytes, image_bytes}
use Rattle.lock.specs.Single.{Singled}
use Rattle.lock.specs.declared.state.Cell.{Cell}
use Rattle.lock.specs.declared.state.Head.{Head}
use Rattle.lock.specs.declared.state.State.{State}
use Rattle.machine.specs.declared.made.Made.{Made}
use Rattle.lock.specs.declared.entry.Entry.{Entry}

abbrev Verdict : Type 0
Verdict = Result (Unit {0}) Refusal

-- ---------- state and sound

pub fresh_settled : (width t : ℕ) {r q : Made State} → made_by r ≡ fresh_of width t → made_by q ≡ fresh_of width t → r ≡ q
fresh_settled width t {r} {q} a b = made_tells r q (settled a b)

pub is_sound_settled : (s : State) {r q : Bool} → r ≡ sound s → q ≡ sound s → r ≡ q
is_sound_settled s = settled

pub image_settled : (s : State) {l : List ℕ} {r q : ℕ} {l' m : List ℕ} → Laid l 0 (image_bytes s) r l' → Laid l 0 (image_bytes s) q m → (r ≡ q) × (l' ≡ m)
image_settled s = laid_settled

-- ---------- moves

module _ (h : Head) where
  abbrev Heads : Type 0
  Heads = Result Head Refusal

  -- the writer's
  pub exc_start_settled : {r q : Heads} → as_moved h r ≡ started_head h → as_moved h q ≡ started_head h → r ≡ q
  exc_start_settled {r} {q} a b = moved_tells h r q (settled a b)

  pub may_check_settled : {r q : Verdict} → verdict_code r ≡ first (exc_check_count_tests h) → verdict_code q ≡ first (exc_check_count_tests h) → r ≡ q
  may_check_settled {r} {q} a b = verdict_tells r q (settled a b)

  pub exc_check_count_settled : (c : Cell) {r q : Heads} → as_moved h r ≡ checked_head h c → as_moved h q ≡ checked_head h c → r ≡ q
  exc_check_count_settled c {r} {q} a b = moved_tells h r q (settled a b)

  pub exc_finish_settled : {r q : Heads} → as_moved h r ≡ finished_head h → as_moved h q ≡ finished_head h → r ≡ q
  exc_finish_settled {r} {q} a b = moved_tells h r q (settled a b)

  pub exc_release_settled : (t : ℕ) {r q : Heads} → as_moved h r ≡ released_head h t → as_moved h q ≡ released_head h t → r ≡ q
  exc_release_settled t {r} {q} a b = moved_tells h r q (settled a b)

  -- the readers'
  pub inside_settled : (k : ℕ) {r q : Verdict} → verdict_code r ≡ first (inside_tests h k) → verdict_code q ≡ first (inside_tests h k) → r ≡ q
  inside_settled k {r} {q} a b = verdict_tells r q (settled a b)

  pub may_finish_settled : (k : ℕ) {r q : Verdict} → verdict_code r ≡ first (shared_finish_tests h k) → verdict_code q ≡ first (shared_finish_tests h k) → r ≡ q
  may_finish_settled k {r} {q} a b = verdict_tells r q (settled a b)

  module _ (c : Cell) where
    abbrev Cells : Type 0
    Cells = Result Cell Refusal

    pub shared_start_settled : {r q : Cells} → as_moved c r ≡ started_cell c → as_moved c q ≡ started_cell c → r ≡ q
    shared_start_settled {r} {q} a b = moved_tells c r q (settled a b)

    pub shared_finish_settled : {r q : Cells} → as_moved c r ≡ finished_cell c → as_moved c q ≡ finished_cell c → r ≡ q
    shared_finish_settled {r} {q} a b = moved_tells c r q (settled a b)

    pub shared_release_settled : (t : ℕ) {r q : Cells} → as_moved c r ≡ released_cell h c t → as_moved c q ≡ released_cell h c t → r ≡ q
    shared_release_settled t {r} {q} a b = moved_tells c r q (settled a b)

-- ---------- entry

pub put_entry_settled : (e : Entry) {l : List ℕ} {at r q : ℕ} {l' m : List ℕ} → Laid l at (entry_bytes e) r l' → Laid l at (entry_bytes e) q m → (r ≡ q) × (l' ≡ m)
put_entry_settled e = laid_settled

-- ---------- single

pub single_settled : (s : State) (x : Step) (l : List ℕ) {r q : Answer State} {l' m : List ℕ} → Singled s x l (told_by r) l' → Singled s x l (told_by q) m
    → (r ≡ q) × (l' ≡ m)
single_settled s x l {r} {q} a b = (answer_tells r q (settled a.answer b.answer), settled a.log b.log)
