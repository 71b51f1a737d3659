-- `turns::trace_count` meets its contract.
-- Assumes nothing.
use Prim.Native.Nat.{◌≤◌, ◌*◌}
use mathlib.Core.Path.{◌≡◌}
use Rattle.basis.specs.Upto.{sum_upto}
use Rattle.turns.specs.Turns.{traces_of}
use Rattle.turns.proofs.trace_count.Given as goal

abbrev pub invariant-loop-t : goal.invariant-loop-t
invariant-loop-t l = (l.sum ≡ sum_upto (traces_of l.b) l.t) × (l.sum ≤ 16777216 * l.t)
