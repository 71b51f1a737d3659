-- `trace_body::close` meets its contract.
-- Assumes nothing.
use borrow.Author.Rules.{rules}
use mathlib.Core.Path.{sym, ◌∙◌}
use Rattle.trace.proofs.Admits.{admitted_is}
use Rattle.trace_body.proofs.Choices.{close_admitted}
use Rattle.trace_body.specs.Calls.{close}
use Rattle.trace_body.proofs.close.Goals as goal

pub returns-in_err-admit : goal.returns-in_err-admit
unfolding close
returns-in_err-admit c = rw (close_admitted c.args.block.now c.args.s _ (sym c.admit.ensures ∙ c.in_err-admit.was)) (search rules)

pub finish-requires : goal.finish-requires
finish-requires c = (admitted_is c.args.block.now c.args.s _ (sym c.admit.ensures ∙ c.in_ok-admit.was)).header

pub returns : goal.returns
unfolding close
returns c = rw (close_admitted c.args.block.now c.args.s _ (sym c.admit.ensures ∙ c.in_ok-admit.was)) c.finish.ensures
