-- `runs::put` meets its contract.
-- Assumes nothing.
use Rattle.std.proofs.Common.{arith}
use Rattle.std.proofs.lemmas.Grind.{common_steps}
use Rattle.basis.specs.Choice.{pick}
use Rattle.words.specs.Words.{off_one}
use Rattle.runs.proofs.put.Goals as goal

pub returns-clause-value : goal.returns-clause-value
unfolding off_one pick
returns-clause-value c = grind (arith, common_steps, c.from.ensures)
