-- `codes::bits` meets its contract.
-- Assumes nothing.
use Rattle.std.proofs.Common.{◌≡◌, rules}
use Rattle.codes.specs.Codes.{row_of, of_row, bits_of}
use Rattle.codes.proofs.Rows.{bits_few}
use Rattle.codes.proofs.bits.Goals as goal

pub returns : goal.returns
unfolding bits_of
returns c =
    let e : c.map_or.result ≡ of_row (λ r. r.width) (row_of c.args.code) = search rules in
    (e, rw e (bits_few c.args.code))
