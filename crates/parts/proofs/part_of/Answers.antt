-- `parts::part_of` meets its contract.
-- Assumes nothing.
use native.Mathlib.Nat.{add-sub_cancel_left, zero-add}
use Rattle.parts.specs.Slices.{part}
use Rattle.parts.proofs.part_of.Goals as goal

pub returns-in-Ok : goal.returns-in-Ok
unfolding part
returns-in-Ok c = rw (← c.in-Ok.ensures, add-sub_cancel_left)

pub returns-in-Err : goal.returns-in-Err
unfolding part
returns-in-Err c = rw (← c.header_fault.ensures, c.in-Err.is, zero-add)
