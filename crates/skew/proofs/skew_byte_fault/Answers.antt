-- `skew::skew_byte_fault` meets its contract.
-- Assumes nothing.
use borrow.Author.Rules.{rules}
use Rattle.skew.specs.Skews.{skew_byte_fault}
use Rattle.skew.proofs.skew_byte_fault.Goals as goal

pub returns-in_err-place_fault : goal.returns-in_err-place_fault
unfolding skew_byte_fault
returns-in_err-place_fault c = rw (← c.place_fault.ensures, c.in_err-place_fault.was) (search rules)

pub returns : goal.returns
unfolding skew_byte_fault
returns c = rw (← c.place_fault.ensures, c.in_ok-place_fault.was) c.sheet_fault.ensures
