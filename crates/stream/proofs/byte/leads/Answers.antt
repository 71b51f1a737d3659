-- `stream::byte::leads` meets its contract.
-- Assumes nothing.
use Rattle.std.proofs.Common.{eq-eqb, ne_eqb}
use Rattle.basis.specs.Choice.{pick}
use Rattle.stream.specs.Spots.{leads}
use Rattle.stream.proofs.byte.leads.Goals as goal

pub returns-then-w-ne10 : goal.returns-then-w-ne10
unfolding leads pick
returns-then-w-ne10 c = rw (ne_eqb c.args.w 10 c.if-w-ne10.true)

pub returns : goal.returns
unfolding leads pick
returns c = rw (eq-eqb c.args.w 10 c.if-w-ne10.false)
