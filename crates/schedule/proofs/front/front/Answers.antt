-- `schedule::front::front` meets its contract: length, version, body and kind are tested in the definition's order. Assumes nothing.
use Rattle.schedule.proofs.Opening.{too_short, wrong_length_lem, wrong_version, too_long, opens}
use Rattle.schedule.proofs.front.front.Goals as goal

pub returns-then-file-lt-LEAST : goal.returns-then-file-lt-LEAST
returns-then-file-lt-LEAST c = search too_short

pub returns-then-from-body : goal.returns-then-from-body
returns-then-from-body c = search wrong_length_lem

pub returns-then-file-ne-VERSION : goal.returns-then-file-ne-VERSION
returns-then-file-ne-VERSION c = search wrong_version

pub returns-then-body-gt-BODY : goal.returns-then-body-gt-BODY
returns-then-body-gt-BODY c = search too_long

pub returns : goal.returns
returns c = search opens
