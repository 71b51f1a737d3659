-- `trace_stream::byte::halt` meets its contract.
-- Assumes nothing.
use Rattle.scan.specs.Step as Scan
use Rattle.trace.specs.Step.{still, halt}
use Rattle.trace_stream.proofs.byte.halt.Goals as goal

pub returns : goal.returns
unfolding halt still Scan.still
returns c = rw (c.still.ensures, c.halted.ensures)
