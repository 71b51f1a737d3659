-- `words::power` meets its contract.
-- Assumes nothing.
use mathlib.Core.Path.{◌∙◌}
use Rattle.basis.proofs.Numbers.{difference_is}
use Rattle.words.specs.Words.{power_of}
use borrow.Author.Rules.{rules}
use Rattle.words.proofs.power.Goals as goal

pub returns : goal.returns
unfolding power_of
returns c = search rules ∙ c.difference.ensures ∙ difference_is c.requires.0 c.requires.1
