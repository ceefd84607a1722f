-- The promise of `rest` settles its answer: two answers that meet it are equal, and so are the bytes that they leave. Assumes nothing.
use mathlib.Core.Path.{◌≡◌}
use mathlib.Core.Bool.{Bool}
use mathlib.Core.List.{List}
use Prim.Native.Nat.{ℕ}
use Rattle.schedule.specs.Answers.{Leaves}
use Rattle.schedule.specs.declared.answer.Answer.{Answer}
use Rattle.schedule.proofs.Settled.{leaves_settled}
use Rattle.flag_run.specs.Run.{rest_of_file}

pub rest_settled : (f : List ℕ) (from threads : ℕ) (value : Bool) (log image : List ℕ) {r q : Answer} {k m i j : List ℕ}
    → Leaves (rest_of_file f from threads value log image) r k i → Leaves (rest_of_file f from threads value log image) q m j → (r ≡ q) × (k ≡ m) × (i ≡ j)
rest_settled f from threads value log image = leaves_settled (rest_of_file f from threads value log image)
