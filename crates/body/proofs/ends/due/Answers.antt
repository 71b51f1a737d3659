-- `body::ends::due` meets its contract.
-- Assumes nothing.
use Rattle.body.specs.Ends.{due}
use Rattle.basis.specs.Choice.{pick, ◌and◌}
use Rattle.basis.proofs.Rules.{tests}
use Prim.Native.Nat.{◌+◌, ◌/◌}
use native.Mathlib.Omega.{arith}
use borrow.Author.Tests.{ne_eqb}
use Rattle.body.proofs.ends.due.Goals as goal

pub returns-then-part-ne0 : goal.returns-then-part-ne0
unfolding due pick ◌and◌
returns-then-part-ne0 c = search (tests, c.if-part-ne0.true)

pub returns-then-block-eq0 : goal.returns-then-block-eq0
unfolding due pick ◌and◌
returns-then-block-eq0 c = search (tests, c.if-block-eq0.true, c.if-part-ne0.false)

pub returns-then-full-ends : goal.returns-then-full-ends
unfolding due pick ◌and◌
returns-then-full-ends c = let a = c.args in let n = ne_eqb (a.scans / a.block) (a.ends + 1) (λ e. omega arith) in search (tests, n, c.if-block-eq0.false, c.if-part-ne0.false)

pub returns : goal.returns
unfolding due pick ◌and◌
returns c = search (tests, c.if-block-eq0.false, c.if-part-ne0.false)
