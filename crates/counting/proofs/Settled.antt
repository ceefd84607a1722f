-- Each contract settles its answer: two answers that meet a function's promise are equal, and so are the bytes that they leave. Assumes nothing.
use mathlib.Core.Path.{◌≡◌}
use mathlib.Core.Bool.{Bool}
use mathlib.Core.List.{List}
use Prim.Native.Nat.{ℕ}
use Rattle.std.specs.Prelude.{Result}
use Rattle.rows.specs.Stores.{Laid}
use Rattle.rows.proofs.Settled.{settled, laid_settled}
use Rattle.machine.specs.Move.{as_moved}
use Rattle.machine.specs.Single.{told_by}
use Rattle.machine.specs.declared.refusal.Refusal.{Refusal}
use Rattle.machine.specs.declared.single.Answer.{Answer}
use Rattle.machine.proofs.Refusing.{moved_tells, answer_tells}
use Rattle.schedule.specs.declared.steps.CountingStep.{CountingStep}
use Rattle.schedule.specs.declared.steps.CountingStep.TheVariants.{WriteableToReadable, ReadableToWriteable, NewRef, DeleteRef}
use Rattle.schedule.specs.declared.steps.Step.{Step}
use Rattle.counting.specs.Counting.{fresh_state}
use Rattle.counting.specs.Moved.{moved}
use Rattle.counting.specs.Sound.{sound}
use Rattle.counting.specs.Image.{entry_bytes, image_bytes}
use Rattle.counting.specs.Single.{Singled}
use Rattle.counting.specs.declared.state.State.{State}
use Rattle.counting.specs.declared.entry.Entry.{Entry}

-- ---------- state and sound

pub fresh_settled : {r q : State} → r ≡ fresh_state → q ≡ fresh_state → r ≡ q
fresh_settled = settled

pub is_sound_settled : (s : State) {r q : Bool} → r ≡ sound s → q ≡ sound s → r ≡ q
is_sound_settled s = settled

pub image_settled : (s : State) {l : List ℕ} {r q : ℕ} {l' m : List ℕ} → Laid l 0 (image_bytes s) r l' → Laid l 0 (image_bytes s) q m → (r ≡ q) × (l' ≡ m)
image_settled s = laid_settled

-- ---------- moves

module _ (s : State) where
  abbrev Answered : Type 0
  Answered = Result State Refusal

  pub moved_settled : (x : CountingStep) {r q : Answered} → as_moved s r ≡ moved s x → as_moved s q ≡ moved s x → r ≡ q
  moved_settled x {r} {q} a b = moved_tells s r q (settled a b)

  pub writeable_to_readable_settled : (t : ℕ) {r q : Answered} → as_moved s r ≡ moved s (WriteableToReadable t) → as_moved s q ≡ moved s (WriteableToReadable t) → r ≡ q
  writeable_to_readable_settled t = moved_settled (WriteableToReadable t)

  pub readable_to_writeable_settled : {r q : Answered} → as_moved s r ≡ moved s ReadableToWriteable → as_moved s q ≡ moved s ReadableToWriteable → r ≡ q
  readable_to_writeable_settled = moved_settled ReadableToWriteable

  pub new_ref_settled : {r q : Answered} → as_moved s r ≡ moved s NewRef → as_moved s q ≡ moved s NewRef → r ≡ q
  new_ref_settled = moved_settled NewRef

  pub delete_ref_settled : (t : ℕ) {r q : Answered} → as_moved s r ≡ moved s (DeleteRef t) → as_moved s q ≡ moved s (DeleteRef t) → r ≡ q
  delete_ref_settled t = moved_settled (DeleteRef t)

-- ---------- entry

pub put_entry_settled : (e : Entry) {l : List ℕ} {at r q : ℕ} {l' m : List ℕ} → Laid l at (entry_bytes e) r l' → Laid l at (entry_bytes e) q m → (r ≡ q) × (l' ≡ m)
put_entry_settled e = laid_settled

-- ---------- single

pub single_settled : (s : State) (x : Step) (l : List ℕ) {r q : Answer State} {l' m : List ℕ}
    → Singled s x l (told_by r) l' → Singled s x l (told_by q) m → (r ≡ q) × (l' ≡ m)
single_settled s x l {r} {q} a b = (answer_tells r q (settled a.answer b.answer), settled a.log b.log)
