-- `words::bits` meets its contract.
-- Assumes nothing.
use Prim.Native.Nat.{◌/◌, ◌^◌}
use lib.Bits.{and_mask}
use Rattle.basis.specs.Fields.{field}
use Rattle.words.proofs.bits.Goals as goal

pub returns : goal.returns
unfolding field
returns c = rw c.ones.ensures (and_mask (c.args.word / 2 ^ c.args.at) c.args.size)
