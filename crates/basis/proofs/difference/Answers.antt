-- `basis::difference` meets its contract.
-- Assumes nothing.
use Prim.Native.Nat.{◌%◌, ◌^◌}
use native.Mathlib.Nat.{mod-lt}
use lib.Pow.{pow_pos}
use mir.Syntax.{w32}
use Rattle.basis.proofs.Numbers.{minus_fits, minus_is}
use Rattle.basis.proofs.difference.Goals as goal

pub overflow_sub-result : goal.overflow_sub-result
overflow_sub-result c = minus_fits w32 (c.args.a % 2 ^ 31) (c.args.b % 2 ^ 31) (mod-lt c.args.a (pow_pos 31)) (mod-lt c.args.b (pow_pos 31))

pub returns : goal.returns
returns c = minus_is w32 (c.args.a % 2 ^ 31) (c.args.b % 2 ^ 31) (mod-lt c.args.a (pow_pos 31)) (mod-lt c.args.b (pow_pos 31))
