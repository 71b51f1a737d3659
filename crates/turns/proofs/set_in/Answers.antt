-- `turns::set_in` meets its contract.
-- Assumes nothing.
use native.Mathlib.Omega.{arith}
use borrow.Author.Rules.{rules}
use Rattle.sets.specs.Samples.{channels_of}
use Rattle.turns.specs.Turns.{set_in}
use Rattle.turns.proofs.set_in.Goals as goal

pub returns : goal.returns
unfolding set_in
returns c =
    let b = c.holding.ensures.bounds in
    (rw (← c.pair_at.ensures.0) (c.holding.ensures.found (channels_of c.args.b.now c.args.t) (λ s x h p. search rules)), b.0, omega (arith, b.1, c.pair_at.ensures.1))
