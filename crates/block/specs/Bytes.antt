-- The bytes of a header block, or of a part of it, and what their halves write. "Byte 1" is the first; past the end stands 0.
-- Assumes nothing.
use Rattle.std.specs.Prelude.{ℕ, ◌+◌, ◌-◌, ◌*◌, ◌/◌, ◌%◌, Bool, ◌&&◌, List, leb, get_or, None, Option, Some}
use Rattle.basis.specs.Choice.{pick}
use Rattle.basis.specs.Upto.{all_upto}
use Rattle.basis.specs.Digits.{written}

-- a byte is a digit pair: "each half 0 to 9"
unfoldable pub is_pair : ℕ → Bool
is_pair x = leb (x / 16) 9 && leb (x % 16) 9

-- "upper half times ten plus lower half"
unfoldable pub pair_of : ℕ → ℕ
pair_of x = x / 16 * 10 + x % 16

-- what asking for a digit pair answers
unfoldable pub packed_of : ℕ → Option ℕ
packed_of x = pick (is_pair x) (Some (pair_of x)) None

-- byte n, and its halves
unfoldable pub byte : List ℕ → ℕ → ℕ
byte b n = get_or b (n - 1) 0

unfoldable pub upper : List ℕ → ℕ → ℕ
upper b n = byte b n / 16

unfoldable pub lower : List ℕ → ℕ → ℕ
lower b n = byte b n % 16

-- the digit pair in byte n
unfoldable pub pair : List ℕ → ℕ → ℕ
pair b n = pair_of (byte b n)

-- the decimal number that the digit pairs of bytes n to m write
unfoldable pub decimal : List ℕ → ℕ → ℕ → ℕ
decimal b n m = written 100 (pair b) n (m + 1 - n)

-- the number of three digits that begins in the lower half of byte n
unfoldable pub three_digits : List ℕ → ℕ → ℕ
three_digits b n = lower b n * 100 + pair b (n + 1)

-- the binary number in bytes n to m
unfoldable pub binary : List ℕ → ℕ → ℕ → ℕ
binary b n m = written 256 (byte b) n (m + 1 - n)

-- byte i from byte n on is a digit pair
abbrev pub pair_from : List ℕ → ℕ → ℕ → Bool
pair_from b n i = is_pair (byte b (n + i))

-- each of the bytes n to m is a digit pair
unfoldable pub pairs : List ℕ → ℕ → ℕ → Bool
pairs b n m = all_upto (pair_from b n) (m + 1 - n)
