-- Each contract settles its answer: two answers that meet a function's promise are equal, and so are the bytes that they leave. Assumes nothing.
use mathlib.Core.Path.{◌≡◌, sym, ◌∙◌}
use mathlib.Core.Bool.{Bool}
use mathlib.Core.List.{List}
use Prim.Native.Nat.{ℕ}
use Rattle.rows.specs.Stores.{Laid}
use Rattle.rows.proofs.Settled.{settled, laid_settled}
use Rattle.std.specs.Prelude.{Result}
use Rattle.machine.specs.Check.{first}
use Rattle.machine.specs.Move.{Moved, as_moved}
use Rattle.machine.specs.Refusals.{verdict_code}
use Rattle.machine.specs.Single.{told_by}
use Rattle.machine.specs.declared.refusal.Refusal.{Refusal}
use Rattle.machine.specs.declared.single.Answer.{Answer}
use Rattle.machine.specs.Made.{made_by}
use Rattle.machine.proofs.Refusing.{made_tells, verdict_tells, moved_tells, answer_tells}
use Rattle.schedule.specs.declared.steps.Step.{Step}
use Rattle.flat.specs.Flat.{zero_elem, fresh_of, inside_tests, gather_tests, respond_tests, answer_tests, collect_tests, skip_tests}
use Rattle.flat.specs.Moved.{sent_client, received_client, ungathered, gathered_client, answered_client}
use Rattle.flat.specs.Sound.{sound}
use Rattle.flat.specs.Image.{entry_bytes, image_bytes}
use Rattle.flat.specs.Single.{Singled}
use Rattle.flat.specs.declared.state.Client.{Client}
use Rattle.flat.specs.declared.state.Elem.{Elem}
use Rattle.flat.specs.declared.state.State.{State}
use Rattle.machine.specs.declared.made.Made.{Made}
use Rattle.flat.specs.declared.entry.Entry.{Entry}
use Rattle.flat.specs.declared.combiner.Gathered.{Gathered}

-- what tests and transitions answer
verdict_settled : {c : ℕ} {r q : Result (Unit {0}) Refusal} → verdict_code r ≡ c → verdict_code q ≡ c → r ≡ q
verdict_settled {c} {r} {q} e f = verdict_tells r q (e ∙ sym f)

moved_settled : {A : Type 0} (s : A) {m : Moved A} {r q : Result A Refusal} → as_moved s r ≡ m → as_moved s q ≡ m → r ≡ q
moved_settled s {m} {r} {q} e f = moved_tells s r q (e ∙ sym f)

-- ---------- state and sound

pub fresh_settled : (clients : ℕ) {r q : Made State} → made_by r ≡ fresh_of clients → made_by q ≡ fresh_of clients → r ≡ q
fresh_settled clients {r} {q} e f = made_tells r q (e ∙ sym f)

pub is_sound_settled : (s : State) {r q : Bool} → r ≡ sound s → q ≡ sound s → r ≡ q
is_sound_settled s = settled

pub image_settled : (s : State) {l : List ℕ} {r q : ℕ} {l' m : List ℕ} → Laid l 0 (image_bytes s) r l' → Laid l 0 (image_bytes s) q m → (r ≡ q) × (l' ≡ m)
image_settled s = laid_settled

-- ---------- moves

-- the clients'
pub inside_settled : (count j : ℕ) {r q : Result (Unit {0}) Refusal} → verdict_code r ≡ first (inside_tests count j) → verdict_code q ≡ first (inside_tests count j) → r ≡ q
inside_settled count j = verdict_settled

pub client_send_settled : (c : Client) (rid req : ℕ) {r q : Result Client Refusal} → as_moved c r ≡ sent_client c rid req → as_moved c q ≡ sent_client c rid req → r ≡ q
client_send_settled c rid req = moved_settled c

pub client_recv_settled : (c : Client) {r q : Result Client Refusal} → as_moved c r ≡ received_client c → as_moved c q ≡ received_client c → r ≡ q
client_recv_settled c = moved_settled c

-- the combiner's
module _ (responding : Bool) (at count : ℕ) {r q : Result (Unit {0}) Refusal} where
  pub may_gather_settled : verdict_code r ≡ first (gather_tests responding at count) → verdict_code q ≡ first (gather_tests responding at count) → r ≡ q
  may_gather_settled = verdict_settled

  pub may_respond_settled : verdict_code r ≡ first (respond_tests responding at count) → verdict_code q ≡ first (respond_tests responding at count) → r ≡ q
  may_respond_settled = verdict_settled

  pub may_answer_settled : verdict_code r ≡ first (answer_tests responding at count) → verdict_code q ≡ first (answer_tests responding at count) → r ≡ q
  may_answer_settled = verdict_settled

  pub may_collect_settled : verdict_code r ≡ first (collect_tests responding at count) → verdict_code q ≡ first (collect_tests responding at count) → r ≡ q
  may_collect_settled = verdict_settled

pub no_elem_settled : {r q : Elem} → r ≡ zero_elem → q ≡ zero_elem → r ≡ q
no_elem_settled = settled

pub combiner_recv_settled : (c : Client) {r q : Result Gathered Refusal} → as_moved (ungathered c) r ≡ gathered_client c → as_moved (ungathered c) q ≡ gathered_client c → r ≡ q
combiner_recv_settled c = moved_settled (ungathered c)

pub combiner_send_settled : (c : Client) (e : Elem) (rid resp : ℕ) {r q : Result Client Refusal} → as_moved c r ≡ answered_client c e rid resp
    → as_moved c q ≡ answered_client c e rid resp → r ≡ q
combiner_send_settled c e rid resp = moved_settled c

pub may_skip_settled : (e : Elem) {r q : Result (Unit {0}) Refusal} → verdict_code r ≡ first (skip_tests e) → verdict_code q ≡ first (skip_tests e) → r ≡ q
may_skip_settled e = verdict_settled

-- ---------- entry

pub put_entry_settled : (e : Entry) {l : List ℕ} {at r q : ℕ} {l' m : List ℕ} → Laid l at (entry_bytes e) r l' → Laid l at (entry_bytes e) q m → (r ≡ q) × (l' ≡ m)
put_entry_settled e = laid_settled

-- ---------- single

pub single_settled : (s : State) (x : Step) (l : List ℕ) {r q : Answer State} {l' m : List ℕ} → Singled s x l (told_by r) l' → Singled s x l (told_by q) m
    → (r ≡ q) × (l' ≡ m)
single_settled s x l {r} {q} a b = (answer_tells r q (a.answer ∙ sym b.answer), settled a.log b.log)
