-- `words::with_sign` meets its contract.
-- Assumes nothing.
use mathlib.Core.Path.{◌∙◌}
use lib.Dec.{lit<}
use mir.Syntax.{w32}
use mir.Facts.{to_z_pos}
use borrow.Author.Tests.{eq-eqb, ne_eqb}
use Rattle.basis.specs.Choice.{pick}
use Rattle.basis.proofs.Numbers.{minus_fits, minus_is, zero_minus}
use Rattle.words.proofs.with_sign.Goals as goal

pub overflow_sub-result : goal.overflow_sub-result
overflow_sub-result c = minus_fits w32 0 _ (lit< tt) c.requires.1

pub returns-then-s-eq0 : goal.returns-then-s-eq0
unfolding pick
returns-then-s-eq0 c = rw (eq-eqb _ 0 c.if-s-eq0.true) (to_z_pos w32 c.requires.0)

pub returns-else-s-eq0 : goal.returns-else-s-eq0
unfolding pick
returns-else-s-eq0 c = rw (ne_eqb _ 0 c.if-s-eq0.false) (minus_is w32 0 _ (lit< tt) c.requires.1 ∙ zero_minus c.args.kept)
