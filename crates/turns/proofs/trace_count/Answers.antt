-- `turns::trace_count` meets its contract.
-- Assumes nothing.
use mathlib.Core.Path.{◌≡◌, refl}
use native.Mathlib.Omega.{arith}
use Rattle.basis.specs.Upto.{upto}
use Rattle.basis.proofs.Uptos.{upto_more}
use Rattle.turns.specs.Turns.{trace_count}
use Rattle.turns.proofs.trace_count.Goals as goal

pub loop-t-init : goal.loop-t-init
unfolding upto
loop-t-init c = (refl, omega arith)

pub loop-t-preserved : goal.loop-t-preserved
loop-t-preserved c = (rw (upto_more, ← c.loop-t.invariant.0, ← c.traces_of-sum.ensures.0), omega arith)

pub returns : goal.returns
unfolding trace_count
returns c = let e : c.pair_at-t-end.result ≡ c.loop-t.t = omega arith in rw (← c.pair_at-t-end.ensures.0, e) c.loop-t.invariant.0
