-- `runs::four_at` meets its contract.
-- Assumes nothing.
use mathlib.Core.Path.{sym, ◌∙◌}
use native.Mathlib.Omega.{arith}
use Rattle.runs.proofs.Bytes.{written_four, four_there, four_cut}
use Rattle.runs.proofs.four_at.Goals.{then-bytes-lt4-via-then-bytes-lt4, then-bytes-lt4-via-else-bytes-lt4+then-bytes-i}
use Rattle.runs.proofs.four_at.Goals as goal

pub returns-then-bytes-lt4 : goal.returns-then-bytes-lt4
returns-then-bytes-lt4 c = sym (four_cut c.args.bytes.now c.args.i (elim c.then-bytes-lt4.branch [
  | then-bytes-lt4-via-then-bytes-lt4 w ↦ omega (arith, w.if-bytes-lt4.true)
  | then-bytes-lt4-via-else-bytes-lt4+then-bytes-i w ↦ omega (arith, w.if-bytes-i.true)
]))

pub returns : goal.returns
returns c = c.from_be_bytes.ensures ∙ omega arith ∙ sym (four_there c.args.bytes.now c.args.i (omega arith) ∙ written_four _ _)
