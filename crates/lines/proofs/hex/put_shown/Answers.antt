-- `lines::hex::put_shown` meets its contract: the first bytes are shown. Assumes nothing.
use Rattle.lines.proofs.hex.put_shown.Goals as goal

pub returns : goal.returns
returns c = rw c.front.ensures at c.put_bytes.ensures
