-- `skew::time_fault` meets its contract.
-- Assumes nothing.
use borrow.Author.Rules.{rules}
use borrow.Author.Tests.{le-ltb, lt-ltb}
use Rattle.basis.specs.Choice.{pick}
use Rattle.skew.specs.Times.{time_fault}
use Rattle.skew.proofs.time_fault.Goals as goal

pub returns-in_err-place_fault : goal.returns-in_err-place_fault
unfolding time_fault
returns-in_err-place_fault c = rw (← c.place_fault.ensures, c.in_err-place_fault.was) (search rules)

pub returns-then-word-ge16777216 : goal.returns-then-word-ge16777216
unfolding time_fault pick
returns-then-word-ge16777216 c = rw (← c.place_fault.ensures, c.in_ok-place_fault.was, le-ltb _ _ c.if-word-ge16777216.true)

pub returns : goal.returns
unfolding time_fault pick
returns c = rw (← c.place_fault.ensures, c.in_ok-place_fault.was, lt-ltb _ _ c.if-word-ge16777216.false) c.sheet_fault.ensures
