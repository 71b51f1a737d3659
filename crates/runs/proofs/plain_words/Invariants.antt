-- `runs::plain_words` meets its contract: its loop keeps that the first k words are written.
-- Assumes nothing.
use Rattle.std.proofs.Common.{length}
use Rattle.runs.specs.Words.{words_in, plain_value}
use Rattle.runs.proofs.Done.{Done}
use Rattle.runs.proofs.plain_words.Given as goal

abbrev pub invariant-loop-k : goal.invariant-loop-k
invariant-loop-k g l = Done (plain_value g.P.Plain.CODE g.row.N l.bytes) (words_in g.row.N (length l.bytes)) l.n l.initial.out l.out l.off l.k
