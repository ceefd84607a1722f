-- Each public function's promise settles its answer: two answers that meet it are equal. Assumes nothing.
use mathlib.Core.Path.{◌≡◌, refl, sym, ap, ◌∙◌}
use mathlib.Core.List.{List, [], ◌∷◌}
use Prim.Native.Nat.{ℕ}
use native.Mathlib.Omega.{arith}
use lib.ListN.{length, get_or}
use lib.Seq.{ext_get_or}
use Rattle.rows.proofs.Settled.{settled, laid_settled}
use Rattle.machine.specs.Rest.{Rested}
use Rattle.schedule.specs.Widths.{length_of, RowOf, tags}
use Rattle.schedule.specs.Language.{Language, step_at}
use Rattle.schedule.specs.Reading.{measured_at}
use Rattle.schedule.specs.Front.{fault_code, fault_place, opened_of, Opened}
use Rattle.schedule.specs.Counting.{counted_of}
use Rattle.schedule.specs.Finding.{found_at}
use Rattle.std.specs.Prelude.{Option, Some, None, Result, Ok, Err}
use Rattle.schedule.specs.Kinds.{KindOf}
use Rattle.schedule.specs.Kinds as kinds_of
use Rattle.schedule.specs.declared.kinds.Kind.{Kind}
use Rattle.schedule.specs.declared.kinds.Kind.TheVariants.{Flat, Lock, Counting, Flag}
use Rattle.schedule.specs.declared.kinds.UnknownKind.{UnknownKind}
use Rattle.machine.specs.Machine.{Machine}
use Rattle.machine.specs.Apply.{InPlace}
use Rattle.machine.specs.Refusals.{number}
use Rattle.machine.specs.declared.refusal.Refusal.{Refusal}
use Rattle.machine.proofs.Refusing.{number_nonzero, number_tells}
use Rattle.schedule.specs.Answers.{refused_as, refused_for, Leaves}
use Rattle.schedule.specs.declared.front.Fault.{Fault}
use Rattle.schedule.specs.Reading.{Measured}
use Rattle.schedule.specs.Counting.{Counted}
use Rattle.schedule.specs.Finding.{Found}
use Rattle.schedule.specs.declared.answer.Answer.{Answer}

-- an answer to a whole file, with both buffers; every other promise here names its answer
pub leaves_settled : (o : Rested) {r q : Answer} {k m i j : List ℕ} → Leaves o r k i → Leaves o q m j → (r ≡ q) × (k ≡ m) × (i ≡ j)
leaves_settled o a b = (settled a.answer b.answer, settled a.log b.log, settled a.image b.image)

pub refusal_settled : (fault : Fault) {r q : Refusal} → number r ≡ fault_code fault → number q ≡ fault_code fault → r ≡ q
refusal_settled fault {r} {q} a b = number_tells r q (settled a b)

pub place_settled : (fault : Fault) {r q : ℕ} → r ≡ fault_place fault → q ≡ fault_place fault → r ≡ q
place_settled fault = settled

pub front_settled : (f : List ℕ) {r q : Opened} → r ≡ opened_of f → q ≡ opened_of f → r ≡ q
front_settled f = settled

pub length_of_settled : (kind tag : ℕ) {r q : ℕ} → r ≡ length_of kind tag → q ≡ length_of kind tag → r ≡ q
length_of_settled kind tag = settled

-- rows with a length for each tag, as the answer's type says
pub row_of_settled : (kind : ℕ) (r q : List ℕ) → length r ≡ tags → length q ≡ tags → RowOf kind r → RowOf kind q → r ≡ q
row_of_settled kind r q a b x y = ext_get_or 0 r q (a ∙ sym b) (λ i h. x.at i (omega (arith, h)) ∙ sym (y.at i (omega (arith, h))))

pub measure_settled : (kind : ℕ) (f : List ℕ) (at : ℕ) {r q : Measured} → r ≡ measured_at kind f at → q ≡ measured_at kind f at → r ≡ q
measure_settled kind f at = settled

pub count_settled : (kind : ℕ) (f : List ℕ) (from : ℕ) {r q : Counted} → r ≡ counted_of kind f from → q ≡ counted_of kind f from → r ≡ q
count_settled kind f from = settled

pub step_at_settled : {S : Type 0} (l : Language S) (f : List ℕ) (at : ℕ) {r q : S} → r ≡ step_at l f at → q ≡ step_at l f at → r ≡ q
step_at_settled l f at = settled

pub read_settled : (kind : ℕ) (f : List ℕ) (at : ℕ) {r q : Found} → r ≡ found_at kind f at → q ≡ found_at kind f at → r ≡ q
read_settled kind f at = settled

abbrev kinds : List (Option Kind)
kinds = None ∷ Some Flat ∷ Some Lock ∷ Some Counting ∷ Some Flag ∷ []

kind_back : (k : Kind) → get_or kinds (kinds_of.number k) None ≡ Some k
kind_back Flat = refl
kind_back Lock = refl
kind_back Counting = refl
kind_back Flag = refl

-- each kind has a byte of its own
pub kind_tells : (a b : Kind) → kinds_of.number a ≡ kinds_of.number b → a ≡ b
kind_tells a b e = let p = kind_back a in let q = kind_back b in let same : get_or kinds (kinds_of.number a) None ≡ get_or kinds (kinds_of.number b) None = rw e refl in cc

pub byte_settled : (k : Kind) {r q : ℕ} → r ≡ kinds_of.number k → q ≡ kinds_of.number k → r ≡ q
byte_settled k = settled

-- a byte as a kind
pub kind_settled : (byte : ℕ) (r q : Result Kind UnknownKind) → KindOf byte r → KindOf byte q → r ≡ q
kind_settled byte (Ok j) (Ok k) a b = ap Ok (kind_tells j k (sym a ∙ b))
kind_settled byte (Ok j) (Err y) a b = absurd (b j a)
kind_settled byte (Err x) (Ok k) a b = absurd (a k b)
kind_settled byte (Err x) (Err y) a b = refl

pub refused_settled : (code place : ℕ) {r q : Answer} → r ≡ refused_as code place → q ≡ refused_as code place → r ≡ q
refused_settled code place = settled

pub of_refusal_settled : (why : Refusal) (place : ℕ) {r q : Answer} → r ≡ refused_as (number why) place → q ≡ refused_as (number why) place → r ≡ q
of_refusal_settled why place = settled

pub of_fault_settled : (x : Fault) {r q : Answer} → r ≡ refused_for x → q ≡ refused_for x → r ≡ q
of_fault_settled x = settled

-- a step applied in place to a sound state
module _ (m : Machine) (bytes : m.Entry → List ℕ) (s : m.State) (x : m.Step) (l : List ℕ) (at : ℕ) where
  pub applies_settled : (r q : Result ℕ Refusal) {s' t' : m.State} {l' k' : List ℕ} → InPlace m bytes s x l at r s' l' → InPlace m bytes s x l at q t' k'
      → (r ≡ q) × (s' ≡ t') × (l' ≡ k')
  applies_settled (Ok w) (Ok v) a b = let d = laid_settled a.log b.log in (ap Ok d.0, settled a.state b.state, d.1)
  applies_settled (Ok w) (Err y) a b = absurd (number_nonzero y (b.own ∙ a.passes))
  applies_settled (Err y) (Ok w) a b = absurd (number_nonzero y (a.own ∙ b.passes))
  applies_settled (Err y) (Err z) a b = (ap Err (number_tells y z (settled a.own b.own)), settled a.state b.state, settled a.log b.log)
