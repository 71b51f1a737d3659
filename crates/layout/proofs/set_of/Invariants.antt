-- `layout::set_of` meets its contract. The loop keeps the end of the last set, and how many sets were passed.
-- Assumes nothing.
use Prim.Native.Nat.{◌≤◌, ◌*◌}
use mathlib.Core.Path.{◌≡◌}
use Rattle.basis.specs.Upto.{sum_upto}
use Rattle.sets.specs.Samples.{set_samples}
use Rattle.layout.specs.Indexes.{set_at}
use Rattle.layout.proofs.set_of.Given as goal

abbrev pub invariant-loop-s : goal.invariant-loop-s
invariant-loop-s l = (l.end ≡ sum_upto (set_samples l.b l.t) l.s) × (l.passed ≡ set_at (set_samples l.b l.t) l.k l.s) × (l.end ≤ l.s * 4294967296)
