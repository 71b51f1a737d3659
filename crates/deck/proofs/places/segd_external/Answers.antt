-- `deck::places::segd_external` meets its contract.
-- Assumes nothing.
use Rattle.parts.specs.Parts.{external_place}
use Rattle.deck.proofs.places.segd_external.Goals as goal

pub returns : goal.returns
unfolding external_place
returns c = rw (← c.header_fault-fault.ensures, ← c.extended_place.ensures.0, ← c.pair_at.ensures.0, ← c.pair_at-2.ensures.0, ← c.from.ensures, ← c.from-2.ensures) c.part.ensures
