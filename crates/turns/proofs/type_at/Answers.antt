-- `turns::type_at` meets its contract.
-- Assumes nothing.
use native.Mathlib.Omega.{arith}
use borrow.Author.Rules.{rules}
use Rattle.turns.specs.Turns.{traces_of, type_at}
use Rattle.turns.proofs.type_at.Goals as goal

pub returns : goal.returns
unfolding type_at
returns c =
    let b = c.holding.ensures.bounds in
    (rw (← c.pair_at.ensures.0) (c.holding.ensures.found (traces_of c.args.b.now) (λ s x h p. search rules)), b.0, omega (arith, b.1, c.pair_at.ensures.1))
