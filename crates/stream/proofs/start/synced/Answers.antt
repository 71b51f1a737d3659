-- `stream::start::synced` meets its contract.
-- Assumes nothing.
use Rattle.stream.specs.Starts.{synced}
use Rattle.std.proofs.Common.{rules}
use Rattle.stream.proofs.start.synced.Goals as goal

pub returns : goal.returns
unfolding synced
returns c = search rules
