-- `trace_body::report` meets its contract.
-- Assumes nothing.
use Rattle.trace_body.specs.Calls.{report}
use Rattle.trace_body.proofs.closing.report.Goals as goal

pub returns : goal.returns
unfolding report
returns c = rw c.from.ensures
