-- `turns::holding` meets its contract.
-- Assumes nothing.
use mathlib.Core.Path.{◌≡◌, refl}
use native.Mathlib.Omega.{arith}
use Rattle.basis.specs.Upto.{upto}
use Rattle.basis.proofs.Uptos.{upto_more}
use Rattle.turns.proofs.Holders.{found, passed_all}
use Rattle.turns.proofs.holding.Goals as goal

pub loop-number-init : goal.loop-number-init
unfolding upto
loop-number-init g c = (λ f a. refl, omega arith)

pub returns-then-k-first-clause-found : goal.returns-then-k-first-clause-found
returns-then-k-first-clause-found g c f a =
    found f c.args.k c.args.n c.loop-number.number c.loop-number.first c.sizes-size.result (c.loop-number.invariant.0 f a)
    (a _ _ (omega arith) c.sizes-size.ensures) (omega arith) (omega arith) (omega arith)

pub loop-number-preserved : goal.loop-number-preserved
loop-number-preserved g c =
    (λ f a. rw (upto_more, ← c.loop-number.invariant.0 f a, ← a _ _ (omega arith) c.sizes-size.ensures), omega arith)

pub returns-clause-found : goal.returns-clause-found
returns-clause-found g c f a =
    let e : c.loop-number.number ≡ c.args.n = omega arith in passed_all f c.args.k c.args.n c.loop-number.first (rw (← e) (c.loop-number.invariant.0 f a)) (omega arith)
