-- `trace_stream::byte::Heading::sound` meets its contract.
-- Assumes nothing.
use Rattle.basis.specs.Choice.{pick, ◌or◌}
use Rattle.basis.proofs.Rules.{tests}
use Rattle.trace.specs.Step.{soundb, namedb, otherb, freeb}
use Rattle.trace_stream.proofs.byte.Heading.sound.Goals as goal
use Rattle.trace_stream.proofs.byte.Heading.sound.Goals.{in_default-via-then-n-lt13, in_default-via-else-n-lt13+else-n-lt16}

pub returns-in-0-to-2 : goal.returns-in-0-to-2
unfolding soundb namedb pick
returns-in-0-to-2 c = search (tests, c.byte_at.ensures)

pub returns-in-3-to-6 : goal.returns-in-3-to-6
unfolding soundb namedb pick
returns-in-3-to-6 c = search (tests, c.writes.ensures, c.digits.ensures)

pub returns-in-7-to-9 : goal.returns-in-7-to-9
unfolding soundb otherb freeb pick ◌or◌
returns-in-7-to-9 c = search tests

pub returns-in-7-to-9-2 : goal.returns-in-7-to-9-2
unfolding soundb otherb freeb pick ◌or◌
returns-in-7-to-9-2 c = search tests

pub returns-in-11 : goal.returns-in-11
unfolding soundb otherb pick
returns-in-11 c = rw (c.in-11.is, c.skewed.ensures)

pub returns-in_default : goal.returns-in_default
unfolding soundb otherb freeb pick ◌or◌
returns-in_default c =
    elim c.in_default.branch [
      | in_default-via-then-n-lt13 w ↦ search tests
      | in_default-via-else-n-lt13+else-n-lt16 w ↦ search tests
    ]
