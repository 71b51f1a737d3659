-- A length's four bytes are digits to the base 256.
-- Assumes nothing.
use Rattle.std.proofs.Common.{ℕ, ◌+◌, ◌*◌, ◌≡◌, [], ◌∷◌, arith}
use Rattle.basis.specs.Digits.{written}
use Rattle.framing.specs.Image.{length_of}

pub length_is : (a b c d : ℕ) → a * 16777216 + b * 65536 + c * 256 + d ≡ length_of (a ∷ b ∷ c ∷ d ∷ [])
unfolding length_of written
length_is a b c d = omega arith
