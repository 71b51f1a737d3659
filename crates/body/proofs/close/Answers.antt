-- `body::close` meets its contract.
-- Assumes nothing.
use mathlib.Core.Path.{sym, ◌∙◌}
use Rattle.basis.specs.Choice.{pick}
use Rattle.basis.proofs.Rules.{tests}
use Rattle.scan.proofs.Shapes.{fit_of}
use Rattle.body.specs.Ends.{close}
use Rattle.body.proofs.close.Goals as goal

pub finish-requires : goal.finish-requires
finish-requires c = fit_of c.args.s (sym c.fit.ensures ∙ c.if-fit.true)

pub returns-then-fit : goal.returns-then-fit
unfolding close pick
returns-then-fit c = search (tests, sym c.fit.ensures ∙ c.if-fit.true, c.finish.ensures)

pub returns-else-fit : goal.returns-else-fit
unfolding close pick
returns-else-fit c = search (tests, sym c.fit.ensures ∙ c.if-fit.false)
