-- `trace_body::finish` meets its contract.
-- Assumes nothing.
use borrow.Author.Tests.{eq-eqb, ne_eqb, lt-ltb, le-ltb}
use Rattle.basis.specs.Choice.{pick}
use Rattle.trace_body.specs.Calls.{finish}
use Rattle.trace.proofs.Facts.{group_some}
use Rattle.trace_body.proofs.closing.finish.Goals as goal

pub returns-then-s-ne0 : goal.returns-then-s-ne0
unfolding finish pick
returns-then-s-ne0 c = rw (c.stop_of.ensures, ne_eqb _ _ c.if-s-ne0.true)

pub part-requires : goal.part-requires
part-requires c = rw (c.group-w.ensures, c.word_at.ensures) (group_some c.args.b.now c.requires)

pub returns-then-part : goal.returns-then-part
unfolding finish pick
returns-then-part c = rw (eq-eqb _ _ c.if-s-ne0.false, ← c.word_at.ensures, ← c.group-w.ensures, ← c.part.ensures, c.if-part.true)

pub returns-then-s-ne0-2 : goal.returns-then-s-ne0-2
unfolding finish pick
returns-then-s-ne0-2 c = rw (eq-eqb _ _ c.if-s-ne0.false, ← c.word_at.ensures, ← c.group-w.ensures, ← c.part.ensures, c.if-part.false, ne_eqb _ _ c.if-s-ne0-2.true)

pub returns-then-types-from : goal.returns-then-types-from
unfolding finish pick
returns-then-types-from c = rw (eq-eqb _ _ c.if-s-ne0.false, ← c.word_at.ensures, ← c.group-w.ensures, ← c.part.ensures, c.if-part.false, eq-eqb _ _ c.if-s-ne0-2.false, ← c.types_seen-types.ensures, ← c.pair_at.ensures.0, ← c.from.ensures, lt-ltb _ _ c.if-types-from.true)

pub returns : goal.returns
unfolding finish pick
returns c = rw (eq-eqb _ _ c.if-s-ne0.false, ← c.word_at.ensures, ← c.group-w.ensures, ← c.part.ensures, c.if-part.false, eq-eqb _ _ c.if-s-ne0-2.false, ← c.types_seen-types.ensures, ← c.pair_at.ensures.0, ← c.from.ensures, le-ltb _ _ c.if-types-from.false, c.report.ensures)
