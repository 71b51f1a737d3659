-- `trace_body::fresh` meets its contract.
-- Assumes nothing.
use borrow.Author.Rules.{rules}
use Rattle.trace_body.specs.Open.{fresh}
use Rattle.trace_body.proofs.fresh.Goals as goal

pub returns : goal.returns
unfolding fresh
returns c = search rules
