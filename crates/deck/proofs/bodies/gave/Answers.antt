-- `deck::bodies::gave` meets its contract.
-- Assumes nothing.
use Rattle.deck.proofs.bodies.gave.Goals as goal

pub returns : goal.returns
returns c = cc
