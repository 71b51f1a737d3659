-- `sets::samples_before` meets its contract.
-- Assumes nothing.
use Rattle.std.specs.Prelude.{◌≡◌, ◌≤◌, ◌*◌}
use Rattle.sets.specs.Samples.{samples_before}
use Rattle.sets.proofs.samples_before.Given as goal

abbrev pub invariant-loop-s : goal.invariant-loop-s
invariant-loop-s l = (l.sum ≡ samples_before l.b l.t l.s) × (l.sum ≤ 4294967295 * l.s)
