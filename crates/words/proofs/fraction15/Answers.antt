-- `words::fraction15` meets its contract.
-- Assumes nothing.
use Prim.Native.Nat.{◌+◌, ◌-◌, ◌/◌, ◌%◌, ◌≤◌}
use mathlib.Core.Path.{◌≡◌, ◌∙◌, ap}
use native.Mathlib.Omega.{arith}
use lib.Dec.{lit<}
use lib.IntN.{pos, negsuc, ◌-ℤ◌}
use mir.Syntax.{w32}
use mir.Val.{to_z, of_z}
use borrow.Author.Tests.{eq-eqb, ne_eqb}
use Rattle.basis.specs.Choice.{pick}
use Rattle.basis.proofs.Numbers.{difference_is, minus_fits, minus_is, zero_minus}
use Rattle.words.specs.Words.{signed_fraction}
use Rattle.words.proofs.Signs.{from_half, complement}
use borrow.Author.Rules.{rules}
use Rattle.words.proofs.fraction15.Goals as goal
use Rattle.words.proofs.fraction15.Lts as lts
use Rattle.words.proofs.fraction15.Tie as tie
use Rattle.words.proofs.fraction15.Reads as reads

-- S and Q as two's complement
two : (c : lts.After-difference tie.the-claims reads.Pre reads.Post) → to_z w32 (of_z w32 c.difference-v.result) ≡ pos ((c.args.t + 16384) % 32768) -ℤ pos 16384
two c = search rules ∙ c.difference-v.ensures ∙ difference_is {a = (c.args.t + 16384) % 32768} {b = 16384} (omega arith) (omega arith)

-- and, where S is set, complemented
magnitude : (c : lts.After-difference tie.the-claims reads.Pre reads.Post) → 16384 ≤ c.args.t → negsuc 0 -ℤ to_z w32 (of_z w32 c.difference-v.result) ≡ pos (16383 - c.args.t % 16384)
magnitude c above =
    let t = c.args.t in
    rw (two c) (complement ((t + 16384) % 32768) 16384 (omega arith) ∙ ap pos (omega arith))

pub overflow_sub-result : goal.overflow_sub-result
overflow_sub-result c = rw (magnitude c.before (omega arith)) (record { sfits = omega arith })

pub overflow_sub-result-else-t-lt-HALF : goal.overflow_sub-result-else-t-lt-HALF
overflow_sub-result-else-t-lt-HALF c = rw (magnitude c.before (omega arith)) (minus_fits w32 0 (16383 - c.args.t % 16384) (lit< tt) (omega arith))

pub returns-then-t-lt-HALF : goal.returns-then-t-lt-HALF
unfolding signed_fraction pick
returns-then-t-lt-HALF c =
    let t = c.args.t in
    rw (eq-eqb (t / 16384) 0 (omega arith)) (two c.before ∙ from_half ((t + 16384) % 32768) 16384 (omega arith) ∙ ap pos (omega arith))

pub returns-else-t-lt-HALF : goal.returns-else-t-lt-HALF
unfolding signed_fraction pick
returns-else-t-lt-HALF c =
    let t = c.args.t in
    rw (ne_eqb (t / 16384) 0 (λ z. omega arith), magnitude c.before (omega arith)) (minus_is w32 0 (16383 - t % 16384) (lit< tt) (omega arith) ∙ zero_minus (16383 - t % 16384))
