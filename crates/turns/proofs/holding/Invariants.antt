-- `turns::holding` meets its contract: the loop keeps the first trace of the one that it looks at.
-- Assumes nothing.
use Prim.Native.Nat.{ℕ, ◌≤◌}
use mathlib.Core.Path.{◌≡◌}
use Rattle.basis.specs.Upto.{sum_upto}
use Rattle.turns.specs.Turns.{Answers}
use Rattle.turns.proofs.holding.Given as goal

abbrev pub invariant-loop-number : goal.invariant-loop-number
invariant-loop-number g l = ((f : ℕ → ℕ) → Answers (goal.F-post g l.fn.sizes) f → l.first ≡ sum_upto f l.number) × (l.first ≤ l.k)
