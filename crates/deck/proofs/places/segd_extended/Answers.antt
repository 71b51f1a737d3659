-- `deck::places::segd_extended` meets its contract.
-- Assumes nothing.
use Rattle.deck.proofs.places.segd_extended.Goals as goal

pub returns : goal.returns
returns c = rw (← c.header_fault-fault.ensures, ← c.extended_place.ensures.0, ← c.pair_at.ensures.0, ← c.from.ensures) c.part.ensures
