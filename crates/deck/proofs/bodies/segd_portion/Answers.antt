-- `deck::bodies::segd_portion` meets its contract.
-- Assumes nothing.
use Rattle.deck.proofs.bodies.segd_portion.Goals as goal

pub returns : goal.returns
returns c = (record { value = rw (← c.portion.ensures.value) c.gave.ensures; out_after = c.portion.ensures.out_after })
