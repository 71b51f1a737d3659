-- `trace_stream::byte::Going::moved` meets its contract.
-- Assumes nothing.
use Rattle.trace.specs.Step.{moved_by, moved}
use Rattle.basis.proofs.Rules.{tests}
use Rattle.trace_stream.proofs.byte.Going.moved.Goals as goal

pub returns : goal.returns
unfolding moved moved_by
returns c = search (tests, c.shift.ensures)
