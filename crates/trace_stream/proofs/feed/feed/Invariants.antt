-- `trace_stream::feed` meets its contract.
-- Assumes nothing.
use Rattle.trace_stream.proofs.Going.{Going}
use Rattle.trace_stream.proofs.feed.feed.Given as goal

abbrev pub invariant-loop-x : goal.invariant-loop-x
invariant-loop-x l = Going l.b l.bytes l.initial.out l.initial.t l.out l.t l.n l.x-index
