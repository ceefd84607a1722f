-- What the tag and the bytes behind it spell is the step that stands there. Assumes nothing.
use mathlib.Core.Path.{◌∙◌}
use Rattle.schedule.proofs.PastEnd.{spells}
use Rattle.schedule.proofs.stepped.Stepped.read.Goals as goal

pub returns : goal.returns
returns g c =
    let l = g.Self.Stepped.runner.language in
    c.tagged.ensures ∙ spells l c.tag_at-tag.result.1.now c.args.file.now c.tag_at-tag.result.0 c.args.at (c.tag_at-tag.ensures l.kind)
