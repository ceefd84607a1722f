-- Each public function's promise settles its answer: two answers that meet it are equal. Assumes nothing.
use mathlib.Core.Path.{◌≡◌}
use mathlib.Core.List.{List}
use Prim.Native.Nat.{ℕ}
use lib.ListN.{take}
use Rattle.rows.specs.Stores.{Laid}
use Rattle.rows.proofs.Settled.{settled, laid_settled}
use Rattle.schedule.specs.declared.answer.Answer.{Answer}
use Rattle.lines.specs.Decimal.{decimal}
use Rattle.lines.specs.Hex.{shown}
use Rattle.lines.specs.Lines.{Written}

pub decimal_settled : (n : ℕ) {l : List ℕ} {at r q : ℕ} {l' m : List ℕ} → Laid l at (decimal n) r l' → Laid l at (decimal n) q m → (r ≡ q) × (l' ≡ m)
decimal_settled n = laid_settled

pub shown_settled : (n : ℕ) (bytes : List ℕ) {l : List ℕ} {at r q : ℕ} {l' m : List ℕ} → Laid l at (shown (take n bytes)) r l' → Laid l at (shown (take n bytes)) q m
    → (r ≡ q) × (l' ≡ m)
shown_settled n bytes = laid_settled

pub lines_settled : (l : List ℕ) (a : Answer) (log image : List ℕ) {r q : ℕ} {l' m : List ℕ} → Written l a log image r l' → Written l a log image q m → (r ≡ q) × (l' ≡ m)
lines_settled l a log image x y = (settled x.count y.count, settled x.bytes y.bytes)
