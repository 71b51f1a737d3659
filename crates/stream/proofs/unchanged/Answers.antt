-- `stream::unchanged` meets its contract.
-- Assumes nothing.
use Rattle.std.proofs.Common.{refl}
use Rattle.stream.specs.Calls.{unchanged}
use Rattle.stream.proofs.unchanged.Goals as goal

pub returns : goal.returns
unfolding unchanged
returns g c = refl
