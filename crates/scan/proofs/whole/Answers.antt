-- `scan::whole` meets its contract.
-- Assumes nothing.
use Prim.Native.Nat.{◌<◌}
use Rattle.scan.specs.Fit.{wholeb}
use Rattle.basis.specs.Choice.{◌and◌}
use Rattle.basis.proofs.Rules.{tests}
use native.Mathlib.Omega.{arith}
use Rattle.scan.proofs.whole.Goals as goal

pub returns-then-w-ne0 : goal.returns-then-w-ne0
unfolding wholeb ◌and◌
returns-then-w-ne0 c = let g : 0 < c.args.w = omega (arith, c.if-w-ne0.true) in search (tests, g)

pub returns-else-w-ne0 : goal.returns-else-w-ne0
unfolding wholeb ◌and◌
returns-else-w-ne0 c = search (tests, c.if-w-ne0.false)
