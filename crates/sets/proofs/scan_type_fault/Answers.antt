-- `sets::scan_type_fault` meets its contract.
-- Assumes nothing.
use Rattle.std.proofs.Common.{sym, ◌∙◌, rules}
use Rattle.refusals.proofs.Orders.{first_found}
use Rattle.sets.specs.Descriptors.{scan_type_fault}
use Rattle.sets.proofs.scan_type_fault.Goals as goal

pub returns-in_err-set_fault : goal.returns-in_err-set_fault
unfolding scan_type_fault
returns-in_err-set_fault c = rw (← c.pair_at-channel_sets.ensures.0, first_found _ _ _ _ c.loop-s.invariant c.loop-s-test.true (sym c.set_fault.ensures ∙ c.in_err-set_fault.was)) (search rules)
