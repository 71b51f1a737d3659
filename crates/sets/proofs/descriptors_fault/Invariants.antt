-- `sets::descriptors_fault` meets its contract.
-- Assumes nothing.
use Rattle.std.specs.Prelude.{◌≡◌, Ok}
use Rattle.refusals.specs.Order.{first_upto}
use Rattle.sets.specs.Descriptors.{scan_type_fault}
use Rattle.sets.proofs.descriptors_fault.Given as goal

abbrev pub invariant-loop-t : goal.invariant-loop-t
invariant-loop-t l = first_upto (scan_type_fault l.b) l.t ≡ Ok tt
