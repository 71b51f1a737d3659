-- `runs::groups15` meets its contract: its loop keeps that the first k words are written.
-- Assumes nothing.
use lib.ListN.{length}
use Rattle.runs.specs.Words.{grouped_in, grouped_value}
use Rattle.runs.proofs.Done.{Done}
use Rattle.runs.proofs.groups15.Given as goal

abbrev pub invariant-loop-k : goal.invariant-loop-k
invariant-loop-k l = Done (grouped_value 0x0015 l.bytes) (grouped_in (length l.bytes)) l.n l.initial.out l.out l.off l.k
