-- `body::open` meets its contract.
-- Assumes nothing.
use mathlib.Core.Path.{sym, ◌∙◌}
use borrow.Author.Tests.{le-leb, lt-leb}
use Rattle.basis.specs.Choice.{pick}
use Rattle.body.specs.Open.{opened}
use Rattle.body.proofs.Opens.{exponent_low}
use Rattle.body.proofs.open.Goals as goal

pub shape_of-requires-in-Ok : goal.shape_of-requires-in-Ok
shape_of-requires-in-Ok c = exponent_low _ _ (sym c.read_header.ensures ∙ c.in-Ok.is)

pub returns-in-Ok : goal.returns-in-Ok
unfolding opened pick
returns-in-Ok c = rw (sym c.read_header.ensures ∙ c.in-Ok.is, lt-leb 0x8000 _ c.if-h-lt32768.true, c.fresh.ensures, c.shape_of.ensures)

pub returns-in-Ok-2 : goal.returns-in-Ok-2
unfolding opened pick
returns-in-Ok-2 c = rw (sym c.read_header.ensures ∙ c.in-Ok.is, le-leb 0x8000 _ c.if-h-lt32768.false, c.unfit.ensures)

pub returns-in-Err : goal.returns-in-Err
unfolding opened
returns-in-Err c = rw (sym c.read_header.ensures ∙ c.in-Err.is, c.unfit-in-Err.ensures)
