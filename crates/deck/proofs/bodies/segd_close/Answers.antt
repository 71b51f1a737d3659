-- `deck::bodies::segd_close` meets its contract.
-- Assumes nothing.
use Rattle.deck.proofs.bodies.segd_close.Goals as goal

pub returns : goal.returns
returns c = rw (← c.close.ensures) c.closing.ensures
