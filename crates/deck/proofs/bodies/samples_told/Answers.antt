-- `deck::bodies::samples_told` meets its contract.
-- Assumes nothing.
use Rattle.deck.proofs.bodies.samples_told.Goals as goal

pub returns-in-Stopped : goal.returns-in-Stopped
returns-in-Stopped c = rw c.in-Stopped.is
