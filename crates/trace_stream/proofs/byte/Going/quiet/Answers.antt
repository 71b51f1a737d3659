-- `trace_stream::byte::Going::quiet` meets its contract.
-- Assumes nothing.
use Rattle.scan.specs.Step as Scan
use Rattle.trace.specs.Step.{still, quiet}
use Rattle.trace_stream.proofs.byte.Going.quiet.Goals as goal

pub returns : goal.returns
unfolding quiet still Scan.still
returns c = rw (c.still.ensures, c.moved.ensures)
