-- `trace_stream::byte::writes` meets its contract.
-- Assumes nothing.
use Rattle.turns.specs.Turns.{writes}
use Rattle.trace_stream.proofs.byte.writes.Goals as goal

pub returns-in-Some : goal.returns-in-Some
unfolding writes
returns-in-Some c = rw (← c.packed.ensures, c.in-Some.is, c.from.ensures)

pub returns-in-None : goal.returns-in-None
unfolding writes
returns-in-None c = rw (← c.packed.ensures, c.in-None.is)
