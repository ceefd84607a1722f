-- `input::read_full` meets its contract: what a read puts behind the front makes the front longer by what the reader gave. Assumes nothing.
use Rattle.std.proofs.Common.{◌≡◌, ℕ, ◌+◌, ◌-◌, ◌≤◌, List, ◌++◌, rules, length, take, sym, ap, ◌∙◌, subst, length-take-le}
use Rattle.std.proofs.Math.Seq.{take-append-add}
use Rattle.std.proofs.lemmas.List.{take-append-le}
use Rattle.std.specs.Io.KnownBytes.{Consumes}
use Rattle.std.proofs.KnownBytes.{Consumes-trans}
use borrow.Rule.Slice.PartMut.{put_mid, post_of}
use Rattle.input.proofs.read_full.Goals as goal

front_grown : (a k n : ℕ) (xs ys : List ℕ) → a ≤ length xs → n ≤ length ys → take (a + n) (put_mid a k xs ys) ≡ take a xs ++ take n ys
front_grown a k n xs ys within fits =
    let behind = post_of a k xs in
    ap (λ m. take (m + n) (take a xs ++ (ys ++ behind))) (sym (length-take-le a xs within))
    ∙ take-append-add (take a xs) (ys ++ behind) n
    ∙ ap (λ l. take a xs ++ l) (take-append-le n ys behind fits)

pub loop-done-preserved : goal.loop-done-preserved
loop-done-preserved g c =
    let l = c.loop-done in
    let room = length l.buffer - l.done in
    let grown = front_grown l.done room c.in_ok-n.n l.buffer c.read.new.buf l.invariant.1 c.in_ok-n.ensures.bound.0 in
    (search rules, search rules, subst (Consumes _ _) (sym grown) (Consumes-trans _ _ _ _ _ l.invariant.2 c.in_ok-n.ensures.bytes.0))
