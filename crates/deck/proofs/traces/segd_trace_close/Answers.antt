-- `deck::traces::segd_trace_close` meets its contract.
-- Assumes nothing.
use Rattle.deck.proofs.traces.segd_trace_close.Goals as goal

pub returns : goal.returns
returns c = rw (← c.close.ensures) c.closing.ensures
