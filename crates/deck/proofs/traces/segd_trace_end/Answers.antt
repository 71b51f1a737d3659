-- `deck::traces::segd_trace_end` meets its contract.
-- Assumes nothing.
use Rattle.deck.proofs.traces.segd_trace_end.Goals as goal

pub returns : goal.returns
returns c = rw (← c.block_end.ensures) c.trace_gave.ensures
