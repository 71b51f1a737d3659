-- `stream::bulk::by_groups` meets its contract.
-- Assumes nothing.
use Rattle.std.proofs.Common.{ne_eqb}
use Rattle.basis.specs.Choice.{pick}
use Rattle.stream.specs.Bulk.{value_in, words_of}
use Rattle.stream.proofs.bulk.by_groups.Goals as goal

pub returns-then-g-eq0 : goal.returns-then-g-eq0
unfolding value_in words_of pick
returns-then-g-eq0 c =
    let e = c.if-g-eq0.true in
    (record { value = rw e c.groups15.ensures.value; out_after = rw e c.groups15.ensures.out_after })

pub returns : goal.returns
unfolding value_in words_of pick
returns c =
    let e = ne_eqb c.args.g 0 c.if-g-eq0.false in
    (record { value = rw e c.rest15.ensures.value; out_after = rw e c.rest15.ensures.out_after })
