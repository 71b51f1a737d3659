-- `stream::byte::nibble` meets its contract.
-- Assumes nothing.
use Rattle.basis.specs.Fields.{field}
use Rattle.std.proofs.Common.{◌≡◌, ◌-◌, ◌*◌, arith}
use Rattle.scan.specs.Step.{nibble}
use Rattle.stream.proofs.byte.nibble.Goals as goal

pub returns : goal.returns
unfolding nibble field
returns c = let m : 18 - 2 * c.min.result ≡ 18 - 2 * c.args.g = omega (arith, c.min.ensures) in rw m
