-- `runs::group_exponent` meets its contract.
-- Assumes nothing.
use Rattle.basis.specs.Fields.{field}
use Rattle.runs.specs.Words.{exponent_of, group_exponent}
use Rattle.runs.proofs.group_exponent.Goals as goal

pub returns : goal.returns
unfolding group_exponent exponent_of field
returns c = rw (c.from.ensures, c.big2.ensures)
