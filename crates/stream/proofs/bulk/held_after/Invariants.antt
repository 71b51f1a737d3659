-- `stream::bulk::held_after` meets its contract.
-- Assumes nothing.
use Rattle.std.proofs.Common.{◌≡◌}
use Rattle.stream.specs.Bulk.{held_at}
use Rattle.stream.proofs.bulk.held_after.Given as goal

abbrev pub invariant-loop-b : goal.invariant-loop-b
invariant-loop-b l = l.h ≡ held_at l.fn.bytes l.fn.held l.b-index
