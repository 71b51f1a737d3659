-- `skew::skew_at` meets its contract.
-- Assumes nothing.
use borrow.Author.Rules.{rules}
use Rattle.skew.specs.Skews.{skew_answer}
use Rattle.skew.proofs.skew_at.Goals as goal

pub returns-in_err-skew_byte_fault : goal.returns-in_err-skew_byte_fault
unfolding skew_answer
returns-in_err-skew_byte_fault c = rw (← c.skew_byte_fault.ensures, c.in_err-skew_byte_fault.was) (search rules)

pub returns : goal.returns
unfolding skew_answer
returns c = rw (← c.skew_byte_fault.ensures, c.in_ok-skew_byte_fault.was, ← c.skew_byte.ensures)
