-- `deck::bodies::segd_block_end` meets its contract.
-- Assumes nothing.
use Rattle.deck.proofs.bodies.segd_block_end.Goals as goal

pub returns : goal.returns
returns c = rw (← c.block_end.ensures) c.gave.ensures
