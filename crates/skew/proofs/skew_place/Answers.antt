-- `skew::skew_place` meets its contract.
-- Assumes nothing.
use Prim.Native.Nat.{◌^◌}
use native.Mathlib.Omega.{arith}
use borrow.Author.Tests.{eq-eqb, ne_eqb}
use Rattle.basis.specs.Choice.{pick}
use Rattle.basis.proofs.Numbers.{product_lt}
use Rattle.sets.specs.Descriptors.{descriptor_place}
use Rattle.skew.specs.Skews.{source, skew_place}
use Rattle.skew.proofs.skew_place.Goals as goal

pub returns-then-pair_at-eq0 : goal.returns-then-pair_at-eq0
unfolding skew_place source pick
returns-then-pair_at-eq0 c = (rw (← c.pair_at.ensures.0, eq-eqb _ _ c.if-pair_at-eq0.true, ← c.samples.ensures.0, c.from.ensures), omega (arith, product_lt {a = c.from.result} {b = c.samples.result} {m = 2 ^ 8} {n = 2 ^ 40} (omega arith) c.samples.ensures.1))

pub returns-else-pair_at-eq0 : goal.returns-else-pair_at-eq0
unfolding skew_place source pick descriptor_place
returns-else-pair_at-eq0 c = (rw (← c.pair_at.ensures.0, ne_eqb _ _ c.if-pair_at-eq0.false, c.fields_before.ensures.0, c.from-else-pair_at-eq0.ensures, c.pair_at-else-pair_at-eq0.ensures.0, c.pair_at.ensures.0), omega (arith, c.fields_before.ensures.1, c.pair_at-else-pair_at-eq0.ensures.1))
