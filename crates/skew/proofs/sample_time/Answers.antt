-- `skew::sample_time` meets its contract.
-- Assumes nothing.
use borrow.Author.Rules.{rules}
use mathlib.Core.Path.{sym, ◌∙◌}
use Rattle.skew.specs.Times.{time_answer}
use Rattle.skew.proofs.Fits.{time_clear}
use Rattle.skew.proofs.sample_time.Goals as goal

pub skew_byte-skew-requires : goal.skew_byte-skew-requires
skew_byte-skew-requires c = (time_clear _ _ _ _ _ (sym c.time_fault.ensures ∙ c.in_ok-time_fault.was)).0

pub time_by-requires : goal.time_by-requires
time_by-requires c = (time_clear _ _ _ _ _ (sym c.time_fault.ensures ∙ c.in_ok-time_fault.was)).1

pub returns-in_err-time_fault : goal.returns-in_err-time_fault
unfolding time_answer
returns-in_err-time_fault c = rw (← c.time_fault.ensures, c.in_err-time_fault.was) (search rules)

pub returns : goal.returns
unfolding time_answer
returns c = rw (← c.time_fault.ensures, c.in_ok-time_fault.was, ← c.skew_byte-skew.ensures, ← c.byte_at.ensures, ← c.time_by.ensures)
