-- Replayers that would please without telling the truth. None meets demands 1 and 2: proofs/Refuted.antt. Assumes nothing.
use Rattle.std.specs.Prelude.{◌≡◌, List, ◌∷◌, [], ℕ, ◌*◌, ◌-◌, replicate}
use Rattle.machine.specs.Rest.{Rested}
use Rattle.schedule.specs.Limits as limit
use Rattle.schedule.specs.Given.{WellFormed}
use Rattle.replayer.specs.Demands.{Replayer}
use Rattle.replayer.specs.Cases.{p03, p05}

-- the first step of P3 alone: client 0 sends
abbrev pub sent : List ℕ
sent = 1 ∷ 0 ∷ 13 ∷ 1 ∷ 1 ∷ 10 ∷ 1 ∷ 0 ∷ 0 ∷ 0 ∷ 0 ∷ 7 ∷ 0 ∷ 0 ∷ 0 ∷ 42 ∷ []

-- and a file with no steps
abbrev pub no_steps : List ℕ
no_steps = 1 ∷ 0 ∷ 2 ∷ 1 ∷ 1 ∷ []

-- with buffers that are large enough
abbrev pub on : Replayer → List ℕ → Rested
on r f = r f (replicate (5 * limit.entry) 0) (replicate limit.image 0)

pub record NoImposter (r : Replayer) : Type 0 where
  -- it refuses everything; it accepts everything; its code is a constant
  pub refuses_everything : ((f log image : List ℕ) → (r f log image).code ≡ 0 → ⊥) → ⊥
  pub accepts_everything : ((f log image : List ℕ) → (r f log image).code ≡ 0) → ⊥
  pub constant : (c : ℕ) → ((f log image : List ℕ) → (r f log image).code ≡ c) → ⊥
  -- it moves nothing: a file of one accepted step leaves the image of a file of none
  pub moves_nothing : ((on r sent).image ≡ (on r no_steps).image) → ⊥
  -- it applies all at step one, and idles afterwards: P3's first step leaves what all of P3 leaves. And a refused P5 leaves what its first step does
  pub all_at_step_one : ((on r sent).image ≡ (on r p03.file).image) → ⊥
  pub refused_step_moves_nothing : (on r p05.file).image ≡ (on r sent).image
  -- it invents an index: P5 is refused at its step 1
  pub index_is_the_steps : (on r p05.file).place ≡ 1
  -- its log is empty, or made up: P3 logs its one answer, and nothing else
  pub empty_log : ((f log image : List ℕ) → (r f log image).logged ≡ 0) → ⊥
  pub log_is_the_answer : (on r p03.file).log ≡ 9 ∷ 0 ∷ 0 ∷ 0 ∷ 0 ∷ 7 ∷ 0 ∷ 0 ∷ 0 ∷ 99 ∷ replicate (5 * limit.entry - 10) 0
  -- it finds an empty schedule in every file that has no fault
  pub reads_nothing : ((f log image : List ℕ) (n : ℕ) → WellFormed f n → (r f log image).place ≡ 0) → ⊥
