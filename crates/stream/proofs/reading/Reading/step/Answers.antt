-- `stream::reading::Reading::step` meets its contract.
-- Assumes nothing.
use Rattle.scan.specs.Step.{step}
use Rattle.basis.specs.Choice.{pick}
use Rattle.basis.proofs.Rules.{tests}
use Rattle.stream.proofs.Readers.{fit_width, width_some}
use Rattle.std.proofs.Common.{rules}
use Rattle.stream.proofs.reading.Reading.step.Goals as goal

pub returns-then-s-ne0 : goal.returns-then-s-ne0
unfolding step pick
returns-then-s-ne0 c = search (tests, c.still.ensures)

pub returns-then-s : goal.returns-then-s
unfolding step pick
returns-then-s c = search (tests, c.halt.ensures)

pub returns-in-0 : goal.returns-in-0
unfolding step pick
returns-in-0 c = search (tests, c.start.ensures)

pub returns-in-1-to-2 : goal.returns-in-1-to-2
unfolding step pick
returns-in-1-to-2 c = search (tests, c.sync.ensures)

pub returns-in-3 : goal.returns-in-3
unfolding step pick
returns-in-3 c = search (tests, c.phase.ensures)

pub returns-in-4-to-6 : goal.returns-in-4-to-6
unfolding step pick
returns-in-4-to-6 c = search (tests, c.quiet.ensures)

pub returns-in-7 : goal.returns-in-7
unfolding step pick
returns-in-7 c = search (tests, c.time.ensures)

pub word-requires : goal.word-requires
word-requires c = search (rules, width_some, fit_width)

pub returns-in_default : goal.returns-in_default
unfolding step pick
returns-in_default c = search (tests, c.word.ensures)
