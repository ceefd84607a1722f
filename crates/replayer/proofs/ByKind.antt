-- Every sound file is of one kind, and is answered as its kind runs it. Assumes nothing.
use mathlib.Core.Path.{◌≡◌, refl, ◌∙◌}
use mathlib.Core.List.{List}
use Prim.Native.Nat.{ℕ}
use Rattle.rows.specs.Bytes.{Bytes}
use Rattle.machine.specs.Rest.{untouched}
use Rattle.schedule.specs.Running.{run_steps}
use Rattle.schedule.specs.Front.{fault_code, fault_place}
use Rattle.schedule.specs.Given.{HasFault}
use Rattle.schedule.specs.Schedule.{of_flat, of_lock, of_counting, of_flag, Decoded, faulty, good, decode, params_in}
use Rattle.schedule.specs.declared.front.Fault.{Fault}
use Rattle.schedule.specs.declared.steps.Params.{Params}
use Rattle.schedule.specs.declared.steps.Params.TheVariants.{Flat, Lock, Counting, Flag}
use Rattle.schedule.proofs.Given.{faults_given}
use Rattle.schedule.proofs.Canonical.{file_read, read_file}
use Rattle.replayer.specs.Replay.{replayed, answered, replay_of}
use Rattle.replayer.specs.Kinds.{kind_of, Steps}
use Rattle.replayer.specs.Demands.{Says}
use Rattle.replayer.proofs.Behind.{decoded_within}

-- the cases of what is decoded: a fault, or steps of some kind
by_decoded : (P : Decoded → Type 0) → ((x : Fault) → P (faulty x)) → ((p : Params) (xs : Steps p) → P (good ((kind_of p).schedule xs))) → (d : Decoded) → P d
by_decoded P h g (faulty x) = h x
by_decoded P h g (good (of_flat n xs)) = g (Flat n) xs
by_decoded P h g (good (of_lock w t xs)) = g (Lock w t) xs
by_decoded P h g (good (of_counting xs)) = g Counting xs
by_decoded P h g (good (of_flag n v xs)) = g (Flag n v) xs

run_as : (p : Params) (xs : Steps p) (log image : List ℕ) → replayed ((kind_of p).schedule xs) log image ≡ run_steps (kind_of p).runner (kind_of p).fresh xs log image
run_as (Flat n) xs log image = refl
run_as (Lock w t) xs log image = refl
run_as Counting xs log image = refl
run_as (Flag n v) xs log image = refl

params_as : (p : Params) (xs : Steps p) → params_in ((kind_of p).schedule xs) ≡ p
params_as (Flat n) xs = refl
params_as (Lock w t) xs = refl
params_as Counting xs = refl
params_as (Flag n v) xs = refl

-- the file is read as these steps, of the kind with these parameters
abbrev pub Decodes : List ℕ → (p : Params) → Steps p → Type 0
Decodes f p xs = decode f ≡ good ((kind_of p).schedule xs)

pub within : (f : List ℕ) (p : Params) (xs : Steps p) → Decodes f p xs → (kind_of p).Within
within f p xs e = rw (params_as p xs) at (decoded_within f ((kind_of p).schedule xs) e)

-- bytes have a fault, or are the file of steps of some kind
pub by_file : {P : Type 0} (f : List ℕ) → Bytes f → ((x : Fault) → HasFault f x → P) → ((p : Params) (xs : Steps p) → Says f p xs → P) → P
by_file {P} f bytes h g =
    by_decoded (λ d. decode f ≡ d → P) (λ x e. h x ((faults_given f).faulty_has x e)) (λ p xs e. g p xs (read_file f bytes ((kind_of p).schedule xs) e)) (decode f) refl

module _ (f log image : List ℕ) where
  decoded : (d : Decoded) → decode f ≡ d → replay_of f log image ≡ answered d log image
  unfolding replay_of
  decoded d e = rw e

  pub refused : (x : Fault) → HasFault f x → replay_of f log image ≡ untouched (fault_code x) (fault_place x) log image
  refused x h = decoded (faulty x) ((faults_given f).has_faulty x h)

  module _ (p : Params) (xs : Steps p) (e : Says f p xs) where
    pub decodes : Decodes f p xs
    decodes = file_read f ((kind_of p).schedule xs) e

    pub ran : replay_of f log image ≡ run_steps (kind_of p).runner (kind_of p).fresh xs log image
    ran = decoded (good ((kind_of p).schedule xs)) decodes ∙ run_as p xs log image
