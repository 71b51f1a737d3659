-- Where a byte stands in its word: groups of w bytes from place 8 of a scan on; a group of ten bytes is two of exponents and then four words.
-- Cited by private functions alone. Assumes nothing.
use Rattle.std.specs.Prelude.{ℕ, ◌-◌, ◌%◌, Bool, false, not, ◌&&◌, ◌==◌}
use Rattle.basis.specs.Choice.{pick}
use Rattle.scan.specs.Step.{nibble}

-- a word ends at place q
unfoldable pub word_ends : ℕ → ℕ → Bool
word_ends w q = pick (w == 10) (not ((q - 8) % 10 % 2 == 0) && not ((q - 8) % 10 == 1)) ((q - 7) % w == 0)

-- a group's exponents end there
unfoldable pub leads : ℕ → ℕ → Bool
leads w q = pick (w == 10) ((q - 8) % 10 == 1) false

-- the exponent apart from the word that ends there
unfoldable pub exponent : ℕ → ℕ → ℕ → ℕ
exponent w q e = pick (w == 10) (nibble e ((q - 8) % 10)) 0

-- the bytes of a word, as word_bytes_of of codes has them, by the bytes of its group
unfoldable pub word_bytes : ℕ → ℕ
word_bytes w = pick (w == 10) 2 w
