-- `turns::traces_of` meets its contract.
-- Assumes nothing.
use Prim.Native.Nat.{◌≤◌, ◌*◌}
use mathlib.Core.Path.{◌≡◌}
use Rattle.basis.specs.Upto.{sum_upto}
use Rattle.sets.specs.Samples.{channels_of}
use Rattle.turns.proofs.traces_of.Given as goal

abbrev pub invariant-loop-s : goal.invariant-loop-s
invariant-loop-s l = (l.sum ≡ sum_upto (channels_of l.b l.t) l.s) × (l.sum ≤ 65535 * l.s)
