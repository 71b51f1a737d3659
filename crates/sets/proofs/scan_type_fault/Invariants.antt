-- `sets::scan_type_fault` meets its contract.
-- Assumes nothing.
use Rattle.std.specs.Prelude.{◌≡◌, Ok}
use Rattle.refusals.specs.Order.{first_upto}
use Rattle.sets.specs.Descriptors.{set_fault}
use Rattle.sets.proofs.scan_type_fault.Given as goal

abbrev pub invariant-loop-s : goal.invariant-loop-s
invariant-loop-s l = first_upto (set_fault l.b l.t) l.s ≡ Ok tt
