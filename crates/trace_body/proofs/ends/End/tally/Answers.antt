-- `trace_body::ends::End::tally` meets its contract.
-- Assumes nothing.
use Rattle.trace_body.specs.Ends.{tally}
use Rattle.basis.specs.Choice.{pick}
use native.Mathlib.Omega.{arith}
use Rattle.trace_body.proofs.ends.End.tally.Goals as goal

pub one_end-requires : goal.one_end-requires
one_end-requires c = (omega arith, λ e. omega (arith, c.scans-scans.ensures.1 e))

pub returns-then-counted : goal.returns-then-counted
unfolding tally pick
returns-then-counted c = rw (← c.scans-scans.ensures.0, ← c.subscans_at.ensures.0, ← c.counted.ensures, c.if-counted.true) c.one_end.ensures

pub returns-else-counted : goal.returns-else-counted
unfolding tally pick
returns-else-counted c = rw (← c.scans-scans.ensures.0, ← c.subscans_at.ensures.0, ← c.counted.ensures, c.if-counted.false) c.halted.ensures
