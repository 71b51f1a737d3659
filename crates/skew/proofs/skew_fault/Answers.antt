-- `skew::skew_fault` meets its contract.
-- Assumes nothing.
use borrow.Author.Rules.{rules}
use Rattle.basis.specs.Choice.{pick}
use Rattle.skew.specs.Skews.{skew_fault}
use Rattle.skew.proofs.skew_fault.Goals as goal

pub returns-in_err-header_fault : goal.returns-in_err-header_fault
unfolding skew_fault
returns-in_err-header_fault c = rw (← c.header_fault.ensures, c.in_err-header_fault.was) (search rules)

pub returns-then-not-is_scan_type : goal.returns-then-not-is_scan_type
unfolding skew_fault pick
returns-then-not-is_scan_type c = rw (← c.header_fault.ensures, c.in_ok-header_fault.was, ← c.is_scan_type.ensures, c.if-not-is_scan_type.true)

pub returns : goal.returns
unfolding skew_fault pick
returns c = rw (← c.header_fault.ensures, c.in_ok-header_fault.was, ← c.is_scan_type.ensures, c.if-not-is_scan_type.false) c.sheet_fault.ensures
