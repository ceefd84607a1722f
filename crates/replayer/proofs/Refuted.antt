-- No replayer that meets demands 1 and 2 refuses or accepts everything, answers a constant, moves nothing, runs ahead, or invents an index or a log. Assumes
-- nothing.
use mathlib.Core.Path.{◌≡◌, refl, sym, ap, ◌∙◌}
use mathlib.Core.Bool.{Bool, true}
use mathlib.Core.List.{List, [], ◌∷◌}
use mathlib.Core.Logic.{inr}
use Prim.Native.Nat.{ℕ, ◌+◌, ◌*◌, ◌-◌, ◌≤◌, ◌<◌}
use borrow.Author.Tests.{lt-ltb, le-leb, ltb-true, ltb-false}
use native.Mathlib.Omega.{arith}
use lib.Dec.{ltb}
use lib.ListN.{length, get_or, replicate, length-replicate, get_or-eq_default}
use Rattle.rows.specs.Bytes.{Bytes, bytes_at}
use Rattle.rows.specs.Walk.{every}
use Rattle.rows.proofs.Bytes.{bytes_cons}
use Rattle.rows.proofs.Rows.{get_d_replicate}
use Rattle.rows.proofs.Walks.{every_at}
use Rattle.rows.proofs.Cases as cases
use Rattle.machine.specs.Codes as codes
use Rattle.machine.specs.Rest.{Rested}
use Rattle.machine.specs.Replay.{replay}
use Rattle.schedule.specs.Limits as limit
use Rattle.schedule.specs.Front.{opened_of}
use Rattle.schedule.specs.Reading.{measured_at, places_from}
use Rattle.schedule.specs.Schedule.{of_flat, good, decode}
use Rattle.schedule.specs.Given.{WrongLength, WellFormed}
use Rattle.schedule.specs.Language.{step_at}
use Rattle.schedule.specs.Widths.{widths, widths_of}
use Rattle.schedule.specs.declared.front.Fault.TheVariants.{Length}
use Rattle.schedule.specs.declared.steps.FlatStep.{FlatStep}
use Rattle.schedule.specs.declared.steps.FlatStep.TheVariants.{ClientSend, ClientRecv, CombinerRecv, CombinerGoToResponding, CombinerSend}
use Rattle.schedule.proofs.Given.{faults_given}
use Rattle.replayer.specs.Replay.{replay_of, input_of}
use Rattle.replayer.specs.Cases.{p03, p05}
use Rattle.replayer.specs.Imposters.{sent, no_steps, on, NoImposter}
use Rattle.replayer.specs.Demands.{Replayer, Meets}
use Rattle.replayer.proofs.Settles.{settles}
use Rattle.replayer.proofs.Demands.{demand1}

abbrev at : List ℕ → Rested
at f = replay_of f (replicate (5 * limit.entry) 0) (replicate limit.image 0)

-- P3's steps
abbrev p3_steps : List FlatStep
p3_steps = ClientSend 0 7 42 ∷ CombinerRecv ∷ CombinerGoToResponding ∷ CombinerSend 7 99 ∷ ClientRecv 0 ∷ []

-- ---------- what the definition says of a few files, by computing it

record Seen : Type 0 where
  p3_read : decode p03.file ≡ good (of_flat 1 p3_steps)
  p3_code : (at p03.file).code ≡ 0
  p3_place : (at p03.file).place ≡ 5
  p3_logged : (at p03.file).logged ≡ 10
  p3_log : (at p03.file).log ≡ 9 ∷ 0 ∷ 0 ∷ 0 ∷ 0 ∷ 7 ∷ 0 ∷ 0 ∷ 0 ∷ 99 ∷ replicate (5 * limit.entry - 10) 0
  -- the first byte of an image: whether client 0 waits
  p3_first : get_or (at p03.file).image 0 0 ≡ 0
  sent_first : get_or (at sent).image 0 0 ≡ 1
  none_first : get_or (at no_steps).image 0 0 ≡ 0
  p5_code : (at p05.file).code ≡ 14
  p5_place : (at p05.file).place ≡ 1
  p5_image : (at p05.file).image ≡ (at sent).image

seen : Seen
unfolding replay_of decode opened_of places_from measured_at widths widths_of step_at bytes_at replay
seen =
    record {
      p3_read = refl;
      p3_code = refl;
      p3_place = refl;
      p3_logged = refl;
      p3_log = refl;
      p3_first = refl;
      sent_first = refl;
      none_first = refl;
      p5_code = refl;
      p5_place = refl;
      p5_image = refl;
    }

-- ---------- which are all bytes

abbrev is_byte : ℕ → ℕ → Bool
is_byte i b = ltb b 256

are_bytes : (f : List ℕ) → every is_byte 0 f ≡ true → Bytes f
are_bytes f e i = cases.on (ltb i (length f))
    (λ t. ltb-true (get_or f i 0) 256 (every_at is_byte 0 f e i (ltb-true i (length f) t)))
    (λ t. rw (get_or-eq_default f 0 (ltb-false i (length f) t)) (omega arith))

p3_bytes : Bytes p03.file
p3_bytes = are_bytes p03.file refl

p5_bytes : Bytes p05.file
p5_bytes = are_bytes p05.file refl

sent_bytes : Bytes sent
sent_bytes = are_bytes sent refl

none_bytes : Bytes no_steps
none_bytes = are_bytes no_steps refl

module _ (r : Replayer) (h : Meets r) where
  same : (f : List ℕ) → Bytes f → on r f ≡ at f
  same f b = settles r h f (replicate (5 * limit.entry) 0) (replicate limit.image 0) b

  code : (f : List ℕ) → Bytes f → (on r f).code ≡ (at f).code
  code f b = ap (λ (a : Rested). a.code) (same f b)

  place : (f : List ℕ) → Bytes f → (on r f).place ≡ (at f).place
  place f b = ap (λ (a : Rested). a.place) (same f b)

  image : (f : List ℕ) → Bytes f → (on r f).image ≡ (at f).image
  image f b = ap (λ (a : Rested). a.image) (same f b)

  -- its images' first bytes
  first : (f : List ℕ) → Bytes f → get_or (on r f).image 0 0 ≡ get_or (at f).image 0 0
  first f b = ap (λ (l : List ℕ). get_or l 0 0) (image f b)

  -- P3 has five steps, and no fault
  p3_formed : WellFormed p03.file (length p3_steps)
  p3_formed = (faults_given p03.file).good_formed (of_flat 1 p3_steps) seen.p3_read

  pub no_imposter : NoImposter r
  no_imposter =
      record {
        refuses_everything = λ n. n p03.file (replicate (5 * limit.entry) 0) (replicate limit.image 0) (code p03.file p3_bytes ∙ seen.p3_code);
        accepts_everything = λ n. omega (arith, n p05.file (replicate (5 * limit.entry) 0) (replicate limit.image 0), code p05.file p5_bytes, seen.p5_code);
        constant = λ c n.
            omega (arith, n p03.file (replicate (5 * limit.entry) 0) (replicate limit.image 0), n p05.file (replicate (5 * limit.entry) 0) (replicate limit.image 0), code p03.file p3_bytes, code p05.file p5_bytes, seen.p3_code, seen.p5_code);
        moves_nothing = λ e. omega (arith, ap (λ (l : List ℕ). get_or l 0 0) e, first sent sent_bytes, first no_steps none_bytes, seen.sent_first, seen.none_first);
        all_at_step_one = λ e. omega (arith, ap (λ (l : List ℕ). get_or l 0 0) e, first sent sent_bytes, first p03.file p3_bytes, seen.sent_first, seen.p3_first);
        refused_step_moves_nothing = image p05.file p5_bytes ∙ seen.p5_image ∙ sym (image sent sent_bytes);
        index_is_the_steps = ap (λ (a : Rested). a.place) (same p05.file p5_bytes) ∙ seen.p5_place;
        empty_log = λ n. omega (arith, n p03.file (replicate (5 * limit.entry) 0) (replicate limit.image 0), ap (λ (a : Rested). a.logged) (same p03.file p3_bytes), seen.p3_logged);
        reads_nothing = λ n.
            omega (arith, n p03.file (replicate (5 * limit.entry) 0) (replicate limit.image 0) (length p3_steps) p3_formed, place p03.file p3_bytes, seen.p3_place);
        log_is_the_answer = ap (λ (a : Rested). a.log) (same p03.file p3_bytes) ∙ seen.p3_log;
      }

-- ---------- an input over the largest file: `replay_input` answers 3 before all other tests, and so does not meet demand 1 there

zeros_bytes : (n : ℕ) → Bytes (replicate n 0)
zeros_bytes n i = rw (get_d_replicate {A = ℕ} n i 0) (omega arith)

module _ (t : List ℕ) (long : limit.body < length t) (bytes : Bytes t) where
  abbrev untold : List ℕ
  untold = 1 ∷ 0 ∷ 0 ∷ t

  untold_bytes : Bytes untold
  untold_bytes = bytes_cons 1 (0 ∷ 0 ∷ t) (omega arith) (bytes_cons 0 (0 ∷ t) (omega arith) (bytes_cons 0 t (omega arith) bytes))

  input_says : (input_of untold [] []).code ≡ codes.body
  input_says = let h : limit.body + 3 < length untold = omega arith in rw (lt-ltb (limit.body + 3) (length untold) h)

  file_says : WrongLength untold
  unfolding bytes_at
  file_says = let h : 3 ≤ length untold = omega arith in inr (rw (le-leb 3 (length untold) h) (λ e. omega arith))

  replay_says : (replay_of untold [] []).code ≡ codes.wrong_length
  replay_says = ap (λ (a : Rested). a.code) ((demand1 untold [] [] untold_bytes).fault Length file_says)

  over_long : Meets input_of → ⊥
  over_long m = omega (arith, input_says, replay_says, ap (λ (a : Rested). a.code) (settles input_of m untold [] [] untold_bytes))

pub input_apart : Meets input_of → ⊥
input_apart = over_long (replicate (limit.body + 1) 0) (rw length-replicate (omega arith)) (zeros_bytes (limit.body + 1))
