-- `turns::traces_of` meets its contract.
-- Assumes nothing.
use mathlib.Core.Path.{◌≡◌, refl}
use native.Mathlib.Omega.{arith}
use Rattle.basis.specs.Upto.{upto}
use Rattle.basis.proofs.Uptos.{upto_more}
use Rattle.turns.specs.Turns.{traces_of}
use Rattle.turns.proofs.traces_of.Goals as goal

pub loop-s-init : goal.loop-s-init
unfolding upto
loop-s-init c = (refl, omega arith)

pub loop-s-preserved : goal.loop-s-preserved
loop-s-preserved c = (rw (upto_more, ← c.loop-s.invariant.0, ← c.channels.ensures, ← c.from-sum.ensures), omega arith)

pub returns : goal.returns
unfolding traces_of
returns c = let e : c.pair_at-s-end.result ≡ c.loop-s.s = omega arith in (rw (← c.pair_at-s-end.ensures.0, e) c.loop-s.invariant.0, omega arith)
