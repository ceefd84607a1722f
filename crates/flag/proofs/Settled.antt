-- Each contract settles its answer: two answers that meet a function's promise are equal, and so are the bytes that they leave. Assumes nothing.
use mathlib.Core.Path.{◌≡◌}
use mathlib.Core.Bool.{Bool}
use mathlib.Core.List.{List}
use Prim.Native.Nat.{ℕ}
use Rattle.std.specs.Prelude.{Result}
use Rattle.rows.specs.Stores.{Laid}
use Rattle.rows.specs.Walk.{pieces}
use Rattle.rows.proofs.Settled.{settled, laid_settled}
use Rattle.machine.specs.Check.{first}
use Rattle.machine.specs.Refusals.{verdict_code}
use Rattle.machine.specs.Single.{told_by}
use Rattle.machine.specs.declared.refusal.Refusal.{Refusal}
use Rattle.machine.specs.declared.single.Answer.{Answer}
use Rattle.machine.specs.Made.{made_by}
use Rattle.machine.proofs.Refusing.{made_tells, verdict_tells, answer_tells}
use Rattle.schedule.specs.declared.steps.Step.{Step}
use Rattle.flag.specs.Flag.{fresh_of, inside_tests, idle_tests, went, offerer, flipped}
use Rattle.flag.specs.Moved.{may_move}
use Rattle.flag.specs.Sound.{sound}
use Rattle.flag.specs.Image.{entry_bytes, image_bytes}
use Rattle.flag.specs.Single.{Singled}
use Rattle.flag.specs.declared.state.State.{State}
use Rattle.machine.specs.declared.made.Made.{Made}
use Rattle.flag.specs.declared.moves.Flips.{Flips}
use Rattle.flag.specs.declared.moves.Went.{Went}
use Rattle.flag.specs.declared.entry.Entry.{Entry}

abbrev Verdict : Type 0
Verdict = Result (Unit {0}) Refusal

-- ---------- state and sound

pub fresh_settled : (threads : ℕ) (value : Bool) {r q : Made State} → made_by r ≡ fresh_of threads value → made_by q ≡ fresh_of threads value → r ≡ q
fresh_settled threads value {r} {q} a b = made_tells r q (settled a b)

pub is_sound_settled : (s : State) {r q : Bool} → r ≡ sound s → q ≡ sound s → r ≡ q
is_sound_settled s = settled

pub image_settled : (s : State) {l : List ℕ} {r q : ℕ} {l' m : List ℕ} → Laid l 0 (image_bytes s) r l' → Laid l 0 (image_bytes s) q m → (r ≡ q) × (l' ≡ m)
image_settled s = laid_settled

-- ---------- moves

pub inside_settled : (threads k : ℕ) {r q : Verdict} → verdict_code r ≡ first (inside_tests threads k) → verdict_code q ≡ first (inside_tests threads k) → r ≡ q
inside_settled threads k {r} {q} a b = verdict_tells r q (settled a b)

pub may_begin_settled : (place : ℕ) {r q : Verdict} → verdict_code r ≡ first (idle_tests place) → verdict_code q ≡ first (idle_tests place) → r ≡ q
may_begin_settled place {r} {q} a b = verdict_tells r q (settled a b)

pub may_move_settled : (place : ℕ) {r q : Verdict} → verdict_code r ≡ may_move place → verdict_code q ≡ may_move place → r ≡ q
may_move_settled place {r} {q} a b = verdict_tells r q (settled a b)

pub go_on_settled : (place pending : ℕ) (value : Bool) {r q : Went} → r ≡ went place pending value → q ≡ went place pending value → r ≡ q
go_on_settled place pending value = settled

pub offerer_settled : (places : List ℕ) {r q : ℕ} → r ≡ offerer places → q ≡ offerer places → r ≡ q
offerer_settled places = settled

-- ---------- entry

pub put_entry_settled : (e : Entry) {l : List ℕ} {at r q : ℕ} {l' m : List ℕ} → Laid l at (entry_bytes e) r l' → Laid l at (entry_bytes e) q m
    → (r ≡ q) × (l' ≡ m)
put_entry_settled e = laid_settled

pub put_flips_settled : (flips : Flips) (places : List ℕ) (k : ℕ) {l : List ℕ} {at r q : ℕ} {l' m : List ℕ}
    → Laid l at (pieces entry_bytes (flipped flips (offerer places) k)) r l' → Laid l at (pieces entry_bytes (flipped flips (offerer places) k)) q m
    → (r ≡ q) × (l' ≡ m)
put_flips_settled flips places k = laid_settled

-- ---------- single

pub single_settled : (s : State) (x : Step) (l : List ℕ) {r q : Answer State} {l' m : List ℕ}
    → Singled s x l (told_by r) l' → Singled s x l (told_by q) m → (r ≡ q) × (l' ≡ m)
single_settled s x l {r} {q} a b = (answer_tells r q (settled a.answer b.answer), settled a.log b.log)
