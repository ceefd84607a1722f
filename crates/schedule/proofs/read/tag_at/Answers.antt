-- The tag is the byte behind the length byte, and behind the file's end stands no tag. Assumes nothing.
use mathlib.Core.Path.{refl}
use Rattle.schedule.specs.Language.{spelled}
use Rattle.schedule.proofs.PastEnd.{too_short, past_end, by_tag}
use Rattle.schedule.proofs.read.tag_at.Goals as goal

pub returns-then-file-lt2 : goal.returns-then-file-lt2
returns-then-file-lt2 c = λ kind. too_short (spelled kind) c.args.file.now c.args.at _ refl c.if-file-lt2.true

pub returns-then-file-at : goal.returns-then-file-at
returns-then-file-at c = λ kind. past_end (spelled kind) c.args.file.now c.args.at _ refl c.if-file-at.true

pub returns : goal.returns
returns c = λ kind. by_tag (spelled kind) c.args.file.now c.args.at _ c.if-file-lt2.false c.if-file-at.false _ refl refl
