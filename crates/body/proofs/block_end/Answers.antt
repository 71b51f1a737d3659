-- `body::block_end` meets its contract.
-- Assumes nothing.
use Rattle.stream.specs.Calls.{unchanged}
use Rattle.scan.proofs.Shapes.{fit_of}
use mathlib.Core.Path.{sym, ◌∙◌}
use Rattle.body.specs.Ends.{block_end}
use Rattle.basis.specs.Choice.{pick}
use Rattle.basis.proofs.Rules.{tests}
use Rattle.body.proofs.block_end.Goals as goal

pub end-requires : goal.end-requires
end-requires c = fit_of c.args.s (sym c.fit.ensures ∙ c.if-fit.true)

pub returns-then-fit : goal.returns-then-fit
unfolding block_end unchanged pick
returns-then-fit c = search (tests, sym c.fit.ensures ∙ c.if-fit.true, c.end.ensures)

pub returns-else-fit : goal.returns-else-fit
unfolding block_end unchanged pick
returns-else-fit c = search (tests, sym c.fit.ensures ∙ c.if-fit.false)
