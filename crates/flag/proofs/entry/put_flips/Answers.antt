-- `flag::entry::put_flips` meets its contract: where no flip was carried out nothing is laid down. Assumes nothing.
use Rattle.flag.proofs.Writes.{flips_nobody}
use Rattle.flag.proofs.entry.put_flips.Goals as goal

pub returns-in-Nobody : goal.returns-in-Nobody
returns-in-Nobody c = search flips_nobody
