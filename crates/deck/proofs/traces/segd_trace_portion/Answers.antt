-- `deck::traces::segd_trace_portion` meets its contract.
-- Assumes nothing.
use Rattle.deck.proofs.traces.segd_trace_portion.Goals as goal

pub returns : goal.returns
returns c = (record { value = rw (← c.portion.ensures.value) c.trace_gave.ensures; out_after = c.portion.ensures.out_after })
