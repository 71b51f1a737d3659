-- `stream::byte::word_bytes` meets its contract.
-- Assumes nothing.
use Rattle.std.proofs.Common.{eq-eqb, ne_eqb}
use Rattle.basis.specs.Choice.{pick}
use Rattle.stream.specs.Spots.{word_bytes}
use Rattle.stream.proofs.byte.word_bytes.Goals as goal

pub returns-then-w-eq10 : goal.returns-then-w-eq10
unfolding word_bytes pick
returns-then-w-eq10 c = rw (eq-eqb c.args.w 10 c.if-w-eq10.true)

pub returns-else-w-eq10 : goal.returns-else-w-eq10
unfolding word_bytes pick
returns-else-w-eq10 c = rw (ne_eqb c.args.w 10 c.if-w-eq10.false)
