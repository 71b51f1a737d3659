-- `stream::bulk::last_exponents` meets its contract.
-- Assumes nothing.
use Rattle.std.proofs.Common.{◌-◌, ◌*◌, ◌/◌, length, arith, eq-eqb, ne_eqb}
use Rattle.basis.specs.Choice.{pick}
use Rattle.stream.specs.Bulk.{last_exponents}
use Rattle.stream.proofs.Held.{two_shifts}
use Rattle.stream.proofs.bulk.last_exponents.Goals as goal

pub returns-then-w-ne10 : goal.returns-then-w-ne10
unfolding last_exponents pick
returns-then-w-ne10 c = rw (ne_eqb c.args.w 10 c.if-w-ne10.true)

pub returns-then-g-ne0 : goal.returns-then-g-ne0
unfolding last_exponents pick
returns-then-g-ne0 c = rw (eq-eqb c.args.w 10 c.if-w-ne10.false, ne_eqb c.args.g 0 c.if-g-ne0.true)

pub returns : goal.returns
unfolding last_exponents pick
returns c =
    let z = c in
    rw (eq-eqb z.args.w 10 c.if-w-ne10.false, eq-eqb z.args.g 0 c.if-g-ne0.false, c.shift.ensures, c.shift-a.ensures)
    (two_shifts z.args.bytes.now (λ i. omega (arith, c.type_inv.bytes i)) ((length z.args.bytes.now - 1) / 10 * 10))
