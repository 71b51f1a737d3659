-- `deck::traces::trace_gave` meets its contract.
-- Assumes nothing.
use Rattle.deck.proofs.traces.trace_gave.Goals as goal

pub returns : goal.returns
returns c = cc
