-- `header::sizes_fault` meets its contract.
-- Assumes nothing.
use Rattle.std.specs.Prelude.{◌≡◌, Ok}
use Rattle.refusals.specs.Order.{first_upto}
use Rattle.header.specs.Faults.{size_fault}
use Rattle.header.proofs.sizes_fault.Given as goal

abbrev pub invariant-loop-t : goal.invariant-loop-t
invariant-loop-t l = first_upto (size_fault l.b) l.t ≡ Ok tt
