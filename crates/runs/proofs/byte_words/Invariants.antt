-- `runs::byte_words` meets its contract: its loop keeps that the first k words are written.
-- Assumes nothing.
use lib.ListN.{length}
use Rattle.runs.specs.Words.{tabled_at}
use Rattle.runs.specs.Runs.{offs}
use Rattle.runs.proofs.Done.{Done}
use Rattle.runs.proofs.byte_words.Given as goal

abbrev pub invariant-loop-k : goal.invariant-loop-k
invariant-loop-k l = Done (tabled_at l.table l.code l.bytes) (length l.bytes) l.n l.initial.out l.out (offs (tabled_at l.table l.code l.bytes) l.k) l.k
