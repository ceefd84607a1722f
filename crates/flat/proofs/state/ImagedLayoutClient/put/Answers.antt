-- A client lies in the image all or not at all: flag and id, the request behind them, and the response behind that. Assumes nothing.
use Rattle.rows.proofs.Stores.{too_short, too_far}
use Rattle.flat.proofs.Writes.{client_laid}
use Rattle.flat.proofs.state.ImagedLayoutClient.put.Goals as goal

pub returns-then-out-lt-CLIENT : goal.returns-then-out-lt-CLIENT
returns-then-out-lt-CLIENT c = search too_short

pub returns-then-out-at : goal.returns-then-out-at
returns-then-out-at c = search too_far

pub returns : goal.returns
returns c = search client_laid
