-- `listing::Line::decimal` meets its contract: the kit's digits are the fewest.
-- Assumes nothing.
use Rattle.std.proofs.Common.{◌∙◌, arith}
use Rattle.listing.proofs.Decimal.{decimal_is}
use Rattle.listing.proofs.Line.decimal.Goals as goal

pub returns-clause-text : goal.returns-clause-text
returns-clause-text c =
    let k = c.decimal-k in
    rw (k.ensures.digits ∙ decimal_is c.args.n k.result (omega arith) k.ensures.len) at c.text.ensures
