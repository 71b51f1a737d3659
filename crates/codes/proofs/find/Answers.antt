-- `codes::find` meets its contract.
-- Assumes nothing.
use mathlib.Core.Path.{◌∙◌}
use lib.Dec.{eqb}
use Rattle.std.proofs.Common.{rules, tests}
use Rattle.std.proofs.lemmas.Iterator.{YieldsList-from_slice}
use Rattle.std.proofs.lemmas.Iterator.Search.{find_from_yields_List}
use Rattle.codes.specs.declared.Row.{Row}
use Rattle.codes.specs.Codes.{row_of, find_in, table}
use Rattle.codes.proofs.find.Goals as goal

pub returns : goal.returns
unfolding row_of find_in table
returns c =
    c.copied.ensures
    ∙ find_from_yields_List (λ (r : Row). eqb r.code c.args.code) _ _ _ c.find.ensures.ran (YieldsList-from_slice table cc) (λ x b q k. search (rules, tests))
