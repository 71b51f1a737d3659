-- `body::ends::finish` meets its contract.
-- Assumes nothing.
use mathlib.Core.Path.{sym, ◌∙◌}
use Rattle.basis.specs.Choice.{pick}
use Rattle.basis.proofs.Rules.{tests}
use Rattle.scan.proofs.Shapes.{shape_parts}
use Rattle.body.specs.Ends.{finish}
use Rattle.body.proofs.ends.finish.Goals as goal

pub returns-then-s-ne0 : goal.returns-then-s-ne0
unfolding finish pick
returns-then-s-ne0 c = search (tests, c.if-s-ne0.true, c.stop_refusal.ensures)

pub returns-then-s-ne0-2 : goal.returns-then-s-ne0-2
unfolding finish pick
returns-then-s-ne0-2 c = search (tests, c.if-s-ne0-2.true, c.if-s-ne0.false)

pub returns-then-not-shut : goal.returns-then-not-shut
unfolding finish pick
returns-then-not-shut c = search (tests, sym c.shut.ensures ∙ c.if-not-shut.true, c.if-s-ne0-2.false, c.if-s-ne0.false)

pub returns-then-s : goal.returns-then-s
unfolding finish pick
returns-then-s c = search (tests, c.if-s.true, sym c.shut.ensures ∙ c.if-not-shut.false, c.if-s-ne0-2.false, c.if-s-ne0.false)

pub tally-requires : goal.tally-requires
tally-requires c = (c.requires.scan, (shape_parts c.args.s.shape c.requires.shape).group)

pub returns : goal.returns
unfolding finish pick
returns c = search (tests, c.if-s.false, sym c.shut.ensures ∙ c.if-not-shut.false, c.if-s-ne0-2.false, c.if-s-ne0.false, c.tally.ensures)
