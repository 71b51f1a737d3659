-- `deck::places::segd_constants` meets its contract.
-- Assumes nothing.
use Rattle.deck.proofs.places.segd_constants.Goals as goal

pub returns : goal.returns
returns c = rw (← c.header_fault.ensures) c.part.ensures
