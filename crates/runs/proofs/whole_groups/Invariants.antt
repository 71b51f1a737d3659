-- `runs::whole_groups` meets its contract: its loops keep that the words of the first g groups are written, and j of the next.
-- Assumes nothing.
use Prim.Native.Nat.{◌+◌, ◌*◌}
use lib.ListN.{length}
use Rattle.runs.specs.Words.{grouped_in, grouped_value}
use Rattle.runs.proofs.Done.{Done}
use Rattle.runs.proofs.whole_groups.Given as goal

abbrev pub invariant-loop-g : goal.invariant-loop-g
invariant-loop-g l = Done (grouped_value 0x0015 l.bytes) (grouped_in (length l.bytes)) l.n l.fn.out l.out l.off (4 * l.g)

abbrev pub invariant-loop-j : goal.invariant-loop-j
invariant-loop-j l = Done (grouped_value 0x0015 l.bytes) (grouped_in (length l.bytes)) l.n l.fn.out l.out l.off (4 * l.g + l.j)
