-- `sets::descriptors_fault` meets its contract.
-- Assumes nothing.
use Rattle.std.proofs.Common.{sym, ◌∙◌, rules}
use Rattle.refusals.proofs.Orders.{first_found}
use Rattle.sets.specs.Descriptors.{descriptors_fault}
use Rattle.sets.proofs.descriptors_fault.Goals as goal

pub returns-in_err-scan_type_fault : goal.returns-in_err-scan_type_fault
unfolding descriptors_fault
returns-in_err-scan_type_fault c = rw (← c.pair_at-scan_types.ensures.0, first_found _ _ _ _ c.loop-t.invariant c.loop-t-test.true (sym c.scan_type_fault.ensures ∙ c.in_err-scan_type_fault.was)) (search rules)
