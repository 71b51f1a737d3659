-- `stream::reading::Reading::feed` meets its contract.
-- Assumes nothing.
use Rattle.std.proofs.Common.{◌-◌, length}
use Rattle.stream.proofs.Going.{Going}
use Rattle.stream.proofs.reading.Reading.feed.Given as goal

abbrev pub invariant-loop-i : goal.invariant-loop-i
invariant-loop-i l = Going l.bytes l.initial.out l.initial.t l.out l.t l.n l.i

abbrev pub decreases-loop-i : goal.decreases-loop-i
decreases-loop-i l = length l.bytes - l.i
