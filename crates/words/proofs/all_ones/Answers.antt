-- `words::all_ones` meets its contract.
-- Assumes nothing.
use Prim.Native.Nat.{ℕ, ◌-◌, ◌<◌, ◌≤◌, ◌^◌}
use native.Mathlib.Omega.{arith}
use lib.Pow.{pow_mono, le_ones}
use Rattle.words.specs.Words.{all_ones}
use Rattle.words.proofs.Joins.{all_greatest}
use Rattle.words.proofs.all_ones.Goals as goal

room : (n : ℕ) → n < 31 → 2 ^ n ≤ 2 ^ 30
room n h = pow_mono {i = n} {j = 30} (omega arith)

pub returns : goal.returns
unfolding all_ones
returns c =
    let a = c.args in
    let f = c.requires in
    rw (c.ones.ensures, c.ones-2.ensures) (
    all_greatest a.s a.e a.q 1 (2 ^ a.b - 1) (2 ^ a.n - 1) (omega arith) (le_ones a.b f.3) (le_ones a.n f.4)
    )
