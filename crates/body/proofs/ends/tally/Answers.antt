-- `body::ends::tally` meets its contract.
-- Assumes nothing.
use Rattle.body.specs.Ends.{tally}
use Rattle.body.proofs.ends.tally.Goals as goal

pub returns : goal.returns
unfolding tally
returns c = rw (c.window_of.ensures, c.from.ensures, c.from-2.ensures, c.per_scan.ensures)
