-- `stream::feed::fit_portion` meets its contract.
-- Assumes nothing.
use Rattle.runs.specs.Runs.{over}
use Rattle.stream.specs.Calls.{fit_portion, fit_wrote, unchanged}
use Rattle.stream.proofs.Cuts.{room_short, room_enough}
use Rattle.basis.specs.Choice.{pick}
use Rattle.basis.proofs.Rules.{tests}
use Rattle.stream.proofs.feed.fit_portion.Goals as goal

pub returns-then-s-ne0 : goal.returns-then-s-ne0
unfolding fit_portion fit_wrote unchanged over pick
returns-then-s-ne0 c = search (tests, c.if-s-ne0.true, c.answered.ensures)

pub returns-then-out-bytes : goal.returns-then-out-bytes
unfolding fit_portion fit_wrote unchanged over pick
returns-then-out-bytes c = search (tests, room_short _ _ c.if-out-bytes.true, c.if-s-ne0.false)

pub returns : goal.returns
unfolding fit_portion fit_wrote unchanged over pick
returns c = search (tests, room_enough _ _ c.if-out-bytes.false, c.if-s-ne0.false, c.feed.ensures)
