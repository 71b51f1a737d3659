-- `runs::rest15` meets its contract: its loop keeps that the first k words are written.
-- Assumes nothing.
use lib.ListN.{length}
use Rattle.runs.specs.Words.{words_in, rest_value}
use Rattle.runs.proofs.Done.{Done}
use Rattle.runs.proofs.rest15.Given as goal

abbrev pub invariant-loop-k : goal.invariant-loop-k
invariant-loop-k l = Done (rest_value 0x0015 l.exponents l.j l.bytes) (words_in 2 (length l.bytes)) l.n l.initial.out l.out l.off l.k
