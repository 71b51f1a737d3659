-- `words::signed_fraction` meets its contract.
-- Assumes nothing.
use Prim.Native.Nat.{ℕ, ◌<◌, ◌^◌}
use mathlib.Core.Path.{◌∙◌}
use Rattle.std.proofs.Common.{inl, inr}
use native.Mathlib.Omega.{arith}
use Rattle.basis.proofs.Numbers.{below_pow}
use Rattle.words.specs.Words.{signed_fraction}
use borrow.Author.Rules.{rules}
use Rattle.words.proofs.signed_fraction.Goals as goal

-- Q has at most 30 bits
low : {n q : ℕ} → n < 31 → q < 2 ^ n → q < 2 ^ 31
low {n} h l = below_pow n 31 l (omega arith)

pub with_sign-requires : goal.with_sign-requires
with_sign-requires c =
    let f = c.requires in
    (low f.0 f.1, rw c.ones.ensures (low f.0 (omega arith)))

pub with_sign-requires-in-SignMagnitude : goal.with_sign-requires-in-SignMagnitude
with_sign-requires-in-SignMagnitude c = let f = c.requires in (low f.0 f.1, low f.0 f.1)

pub returns-in-OnesComplement : goal.returns-in-OnesComplement
unfolding signed_fraction
returns-in-OnesComplement c = rw c.in-OnesComplement.is (search rules ∙ c.with_sign.ensures ∙ rw c.ones.ensures)

pub returns-in-SignMagnitude : goal.returns-in-SignMagnitude
unfolding signed_fraction
returns-in-SignMagnitude c = elim c.in-SignMagnitude.is [
  | inl e ↦ rw e (search rules ∙ c.with_sign-in-SignMagnitude.ensures)
  | inr e ↦ rw e (search rules ∙ c.with_sign-in-SignMagnitude.ensures)
]
