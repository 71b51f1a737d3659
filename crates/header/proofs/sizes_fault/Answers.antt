-- `header::sizes_fault` meets its contract.
-- Assumes nothing.
use Rattle.std.proofs.Common.{sym}
use Rattle.basis.specs.Choice.{pick}
use Rattle.refusals.proofs.Orders.{first_found}
use Rattle.header.specs.Faults.{size_fault, sizes_fault}
use Rattle.header.proofs.sizes_fault.Goals as goal

pub returns-then-not-size_holds : goal.returns-then-not-size_holds
unfolding sizes_fault size_fault pick
returns-then-not-size_holds c = rw (← c.pair_at-scan_types.ensures.0) (sym (first_found _ _ _ _ c.loop-t.invariant c.loop-t-test.true (rw (← c.size_holds.ensures, c.if-not-size_holds.true))))
