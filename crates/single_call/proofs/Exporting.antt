-- What the exported function leaves, from what the single step answered. Assumes nothing.
use mathlib.Core.Path.{◌≡◌, refl, ap, ◌∙◌}
use mathlib.Core.List.{List}
use Prim.Native.Nat.{ℕ, ◌≤◌, ◌<◌}
use native.Mathlib.Omega.{arith}
use borrow.Author.Tests.{lt-ltb, le-ltb}
use lib.ListN.{length}
use Rattle.rows.specs.Bytes.{big}
use Rattle.rows.specs.Stores.{Laid}
use Rattle.rows.proofs.Stores.{puts_over, laid_whole}
use Rattle.machine.specs.Codes as code
use Rattle.std.specs.Prelude.{Result, Ok, Err, MatchResult, IsOkAnd}
use Rattle.std.specs.Result.{result_unwrap_or}
use Rattle.machine.specs.Refusals.{verdict_code}
use Rattle.machine.specs.Single.{bytes_logged}
use Rattle.machine.specs.declared.refusal.Refusal.{Refusal}
use Rattle.single_call.specs.Call.{asked_by, Called, called, StepLeaves, stepped_by, exported, ExportLeaves}

-- what an answer tells in numbers, as a caller takes it apart
unwrapped : (r : Result ℕ Refusal) → result_unwrap_or r 0 ≡ bytes_logged r
unwrapped (Ok n) = refl
unwrapped (Err why) = refl

verdict_kept : {B : Type 0} (P : ℕ → B → Type 0) (r : Result ℕ Refusal) (q : Result B Refusal) → MatchResult r (λ n. IsOkAnd q (P n)) (λ why. q ≡ Err why)
    → verdict_code q ≡ verdict_code r
verdict_kept P (Ok n) (Ok b) h = refl
verdict_kept P (Ok n) (Err why) h = absurd h
verdict_kept P (Err why) q h = rw h

module _ (kind : ℕ) (raw step log figures : List ℕ) where
  pub no_room : length figures < 4 → (r : ℕ) → r ≡ code.room → ExportLeaves (exported kind raw step log figures) r raw log figures
  unfolding exported
  no_room h r e = rw (lt-ltb (length figures) 4 h) (record { code = e; state = refl; log = refl; figures = refl })

  module _ (r : Result ℕ Refusal) (raw' log' : List ℕ) (d : StepLeaves (stepped_by kind raw (asked_by step) log) log (called r) raw' log') where
    pub exports : 4 ≤ length figures → {B : Type 0} (P : ℕ → B → Type 0) (q : Result B Refusal) → MatchResult r (λ n. IsOkAnd q (P n)) (λ why. q ≡ Err why)
        → (c : ℕ) → c ≡ verdict_code q → (n k : ℕ) (figures' : List ℕ) → n ≡ result_unwrap_or r 0 → Laid figures 0 (big 4 n) k figures'
        → ExportLeaves (exported kind raw step log figures) c raw' log' figures'
    unfolding exported
    exports h P q v c e n k figures' u w =
        let told = d.answer in
        let logged = u ∙ unwrapped r in
        let laid = (laid_whole figures 0 (big 4 n) k figures' (omega arith) w).1 in
        rw (le-ltb (length figures) 4 h)
        (record {
          code = e ∙ verdict_kept P r q v ∙ ap (λ (x : Called). x.code) told;
          state = d.state;
          log = d.entry;
          figures = laid ∙ puts_over figures (big 4 n) (omega arith) ∙ rw (logged ∙ ap (λ (x : Called). x.logged) told);
        })
