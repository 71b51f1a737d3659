-- `runs::big2` meets its contract.
-- Assumes nothing.
use mathlib.Core.Path.{sym, ◌∙◌}
use native.Mathlib.Omega.{arith}
use Rattle.runs.proofs.Bytes.{written_two}
use Rattle.runs.proofs.big2.Goals as goal

pub returns : goal.returns
returns c = c.from_be_bytes.ensures ∙ omega arith ∙ sym (written_two _ _)
