-- `stream::bulk::held_after` meets its contract.
-- Assumes nothing.
use Rattle.std.proofs.Common.{sym, ◌∙◌, arith}
use Rattle.stream.proofs.Held.{held_four}
use Rattle.stream.proofs.bulk.held_after.Goals as goal

pub returns-then-bytes-ge4 : goal.returns-then-bytes-ge4
returns-then-bytes-ge4 c =
    let z = c in
    c.four_at.ensures ∙ sym (held_four z.args.bytes.now z.args.held (λ i. omega (arith, c.type_inv.bytes i)) c.if-bytes-ge4.true)
