-- The three lines, laid down piece by piece: they never take more than the room asked for. Assumes nothing.
use mathlib.Core.Path.{◌≡◌, sym, ap, ◌∙◌}
use mathlib.Core.List.{List, ◌++◌}
use Prim.Native.Nat.{ℕ, suc, ◌+◌, ◌-◌, ◌*◌, ◌^◌, ◌≤◌, ◌<◌}
use native.Mathlib.Nat.{zero-add}
use native.Mathlib.Omega.{arith}
use borrow.Author.Tests.{lt-ltb, le-ltb}
use lib.ListN.{length, take, length-append, length-take, length-drop}
use lib.Seq.{length-take-le}
use Rattle.rows.specs.Stores.{Laid}
use Rattle.rows.proofs.Stores.{laid_whole, laid_length, laid_then, puts_over}
use Rattle.schedule.specs.Limits as limit
use Rattle.schedule.specs.declared.answer.Answer.{Answer}
use Rattle.lines.specs.Decimal.{digit_count, decimal}
use Rattle.lines.specs.Hex.{shown}
use Rattle.lines.specs.Lines.{verdict_word, at_word, log_word, state_word, line_end, verdict_line, row_line, longest_verdict, lines_of, longest_log, most, lines_in, Written}
use Rattle.lines.proofs.DigitCounts.{count_few}
use Rattle.lines.proofs.Spelling.{length_digits}
use Rattle.lines.proofs.Shows.{shown_long}
use Rattle.lines.proofs.Ahead.{ahead_begins, ahead_more, ahead_ends}

-- ---------- the first line

decimal_few : (k n : ℕ) → n < 10 ^ suc k → length (decimal n) ≤ suc k
decimal_few k n h = rw (length_digits (digit_count n) n) (count_few k n h)

module _ (code place : ℕ) (byte : code < 256) (word : place < 2 ^ 64) where
  pub verdict_few : length (verdict_line code place) ≤ longest_verdict
  verdict_few =
      let c = decimal_few 2 code (omega arith) in
      let p = decimal_few 19 place (omega arith) in
      simp length-append (omega arith)

  -- its four pieces
  pub verdict_laid : (out : List ℕ) → longest_verdict ≤ length out → (n : ℕ) → n ≡ code → (r₁ r₂ r₃ r₄ : ℕ) (l₁ l₂ l₃ l₄ : List ℕ)
      → Laid out 0 verdict_word r₁ l₁ → Laid l₁ r₁ (decimal n) r₂ l₂
      → Laid l₂ r₂ at_word r₃ l₃ → Laid l₃ r₃ (decimal place) r₄ l₄ → Laid out 0 (verdict_line code place) r₄ l₄
  verdict_laid out h n e r₁ r₂ r₃ r₄ l₁ l₂ l₃ l₄ k₁ k₂ k₃ k₄ =
      let all = verdict_line code place in
      let g = ahead_begins out 0 all (omega (arith, verdict_few)) in
      let g₁ = ahead_more out 0 all out 0 verdict_word r₁ l₁ (decimal code ++ (at_word ++ decimal place)) g k₁ in
      let g₂ = ahead_more out 0 all l₁ r₁ (decimal code) r₂ l₂ (at_word ++ decimal place) g₁ (rw e at k₂) in
      let g₃ = ahead_more out 0 all l₂ r₂ at_word r₃ l₃ (decimal place) g₂ k₃ in
      ahead_ends out 0 all l₃ r₃ (decimal place) r₄ l₄ g₃ k₄

-- ---------- a row's line

module _ (name bytes : List ℕ) where
  line_few : length (name ++ shown bytes) ≤ length name + (2 * length bytes + 1)
  line_few = omega (arith, length-append name (shown bytes), shown_long bytes)

  pub row_laid : (out : List ℕ) (at : ℕ) → at + length name + 2 * length bytes + 1 ≤ length out → (r : ℕ) (l : List ℕ) (q : ℕ) (m : List ℕ) → Laid out at name r l
      → Laid l r (shown bytes) q m → Laid out at (name ++ shown bytes) q m
  row_laid out at h r l q m d e = laid_then out at name (shown bytes) r l q m (omega (arith, line_few)) d e

row_few : (name : List ℕ) (n : ℕ) (bytes : List ℕ) → length (row_line name n bytes) ≤ length name + (2 * length bytes + 1)
row_few name n bytes = omega (arith, length-take n bytes, line_few name (take n bytes))

module _ (out : List ℕ) (a : Answer) (log image : List ℕ) where
  -- ---------- nothing is written

  pub room_short : length out < most → Written out a log image 0 out
  unfolding lines_in
  room_short h = let e = lt-ltb (length out) most h in record { count = rw e; bytes = rw e }

  pub log_long : most ≤ length out → longest_log < length log → Written out a log image 0 out
  unfolding lines_in
  log_long h p = let e = le-ltb (length out) most h in let f = lt-ltb longest_log (length log) p in record { count = rw (e, f); bytes = rw (e, f) }

  module _ (h : most ≤ length out) (p : length log ≤ longest_log) where
    pub image_long : limit.image < length image → Written out a log image 0 out
    unfolding lines_in
    image_long q =
        let e = le-ltb (length out) most h in
        let f = le-ltb longest_log (length log) p in
        let g = lt-ltb limit.image (length image) q in
        record { count = rw (e, f, g); bytes = rw (e, f, g) }

    -- ---------- all is written

    module _ (q : length image ≤ limit.image) (few : length (verdict_line a.code a.place) ≤ longest_verdict) where
      lines_in_lem : lines_in (length out) a log image ≡ lines_of a log image
      unfolding lines_in
      lines_in_lem = rw (le-ltb (length out) most h, le-ltb longest_log (length log) p, le-ltb limit.image (length image) q)

      lines_room : length (lines_of a log image) ≤ length out
      lines_room =
          let second = row_few log_word a.logged log in
          let third = row_few state_word a.imaged image in
          let rest = row_line state_word a.imaged image ++ line_end in
          omega (
            arith,
            length-append (verdict_line a.code a.place) (row_line log_word a.logged log ++ rest),
            length-append (row_line log_word a.logged log) rest,
            length-append (row_line state_word a.imaged image) line_end,
          )

      -- each line has its place behind the one before
      module _ (r₁ : ℕ) (l₁ : List ℕ) (k₁ : Laid out 0 (verdict_line a.code a.place) r₁ l₁) (logged : List ℕ) (e : logged ≡ take a.logged log) where
        verdict_end : (r₁ ≤ longest_verdict) × (length l₁ ≡ length out)
        verdict_end =
            let w = laid_whole out 0 (verdict_line a.code a.place) r₁ l₁ (omega arith) k₁ in
            (omega arith, laid_length out 0 (verdict_line a.code a.place) r₁ l₁ k₁)

        logged_few : length logged ≤ length log
        logged_few = rw e (omega (arith, length-take a.logged log))

        pub log_room_lem : r₁ + length log_word + 2 * length logged + 1 ≤ length l₁
        log_room_lem = omega (arith, verdict_end, logged_few)

        module _ (r₂ : ℕ) (l₂ : List ℕ) (k₂ : Laid l₁ r₁ (log_word ++ shown logged) r₂ l₂) (imaged : List ℕ) (f : imaged ≡ take a.imaged image) where
          imaged_few : length imaged ≤ length image
          imaged_few = rw f (omega (arith, length-take a.imaged image))

          pub state_room : r₂ + length state_word + 2 * length imaged + 1 ≤ length l₂
          state_room =
              let row = line_few log_word logged in
              let v = verdict_end in
              let w = laid_whole l₁ r₁ (log_word ++ shown logged) r₂ l₂ (omega (arith, logged_few)) k₂ in
              omega (arith, laid_length l₁ r₁ (log_word ++ shown logged) r₂ l₂ k₂, logged_few, imaged_few)

          module _ (r₃ : ℕ) (l₃ : List ℕ) (k₃ : Laid l₂ r₂ (state_word ++ shown imaged) r₃ l₃) (r₄ : ℕ) (l₄ : List ℕ) (k₄ : Laid l₃ r₃ line_end r₄ l₄) where
            lines_laid : Laid out 0 (lines_of a log image) r₄ l₄
            lines_laid =
                let all = lines_of a log image in
                let log-line = row_line log_word a.logged log in
                let state-line = row_line state_word a.imaged image in
                let g = ahead_begins out 0 all (omega (arith, lines_room)) in
                let g₁ = ahead_more out 0 all out 0 (verdict_line a.code a.place) r₁ l₁ (log-line ++ (state-line ++ line_end)) g k₁ in
                let g₂ = ahead_more out 0 all l₁ r₁ log-line r₂ l₂ (state-line ++ line_end) g₁ (rw e at k₂) in
                let g₃ = ahead_more out 0 all l₂ r₂ state-line r₃ l₃ line_end g₂ (rw f at k₃) in
                ahead_ends out 0 all l₃ r₃ line_end r₄ l₄ g₃ k₄

            pub lines_written : Written out a log image r₄ l₄
            lines_written =
                let all = lines_of a log image in
                let w = laid_whole out 0 all r₄ l₄ (omega (arith, lines_room)) lines_laid in
                record { count = rw lines_in_lem (w.0 ∙ zero-add (length all)); bytes = rw lines_in_lem (w.1 ∙ puts_over out all lines_room) }

-- ---------- what a caller may take of the buffer: it is as long as before, so the lines lie in it

module _ (out : List ℕ) (a : Answer) (log image : List ℕ) (r : ℕ) (out' : List ℕ) (d : Written out a log image r out') (e : length out' ≡ length out) where
  pub written_fits : r ≤ length out'
  written_fits =
      let ls = lines_in (length out) a log image in
      let long : length out' ≡ length ls + (length out - length ls) = ap length d.bytes ∙ simp (length-append, length-drop) in
      omega (arith, d.count, long, e)

  pub written_taken : r ≡ length (take r out')
  written_taken = sym (length-take-le r out' written_fits)
