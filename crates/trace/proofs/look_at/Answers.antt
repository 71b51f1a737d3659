-- `trace::look_at` meets its contract.
-- Assumes nothing.
use Rattle.trace.specs.Step.{look_by}
use Rattle.trace.proofs.look_at.Goals as goal

pub returns : goal.returns
unfolding look_by
returns c = (rw (c.group.ensures, c.word_at.ensures, c.turn_at.ensures.0), c.turn_at.ensures.1)
