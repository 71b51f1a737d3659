-- `trace_body::block_end` meets its contract.
-- Assumes nothing.
use mathlib.Core.Path.{sym, ◌∙◌}
use Rattle.trace.proofs.Admits.{by_admitted}
use Rattle.trace_body.specs.Calls.{block_end}
use Rattle.trace_body.proofs.block_end.Goals as goal

pub returns-in-Err : goal.returns-in-Err
unfolding block_end
returns-in-Err c = rw (by_admitted c.args.block.now c.args.s _ (sym c.admit.ensures ∙ c.in-Err.is)) c.unchanged.ensures

pub returns-in-Ok : goal.returns-in-Ok
unfolding block_end
returns-in-Ok c = rw (by_admitted c.args.block.now c.args.s _ (sym c.admit.ensures ∙ c.in-Ok.is)) c.end_gave.ensures
