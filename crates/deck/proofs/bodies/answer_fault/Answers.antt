-- `deck::bodies::answer_fault` meets its contract.
-- Assumes nothing.
use Rattle.deck.proofs.bodies.answer_fault.Goals as goal

pub returns-in-Stopped : goal.returns-in-Stopped
returns-in-Stopped c = rw c.in-Stopped.is

pub returns-in-Refused : goal.returns-in-Refused
returns-in-Refused c = rw c.in-Refused.is
