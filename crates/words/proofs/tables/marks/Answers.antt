-- `words::tables::marks` meets its contract.
-- Assumes nothing.
use Rattle.basis.specs.Choice.{pick}
use Rattle.basis.proofs.Rules.{tests}
use Rattle.words.specs.Tables.{ones_of}
use Rattle.words.proofs.tables.marks.Goals as goal

pub returns-then-code-eq34 : goal.returns-then-code-eq34
unfolding ones_of pick
returns-then-code-eq34 c = search (tests, c.if-code-eq34.true)

pub returns-else-code-eq34 : goal.returns-else-code-eq34
unfolding ones_of pick
returns-else-code-eq34 c = search (tests, c.if-code-eq34.false)
