-- Word k, from 0, of whole words or groups that stand one after another in some bytes, and how many there are; four bytes by themselves.
-- Assumes nothing.
use Rattle.std.specs.Prelude.{ℕ, ◌+◌, ◌-◌, ◌*◌, ◌/◌, ◌%◌, List, leb, length}
use Rattle.basis.specs.Choice.{pick}
use Rattle.basis.specs.Digits.{written, byte_in}
use Rattle.basis.specs.Fields.{field}
use Rattle.words.specs.declared.Value.{Value}
use Rattle.words.specs.Words.{value_of}
use Rattle.words.specs.Tables.{byte_code, tabled}

-- the four bytes from i on, as one number; 0 where they are not all there
unfoldable pub four_at : List ℕ → ℕ → ℕ
four_at bs i = pick (leb (i + 4) (length bs)) (written 256 (byte_in bs) i 4) 0

-- the words of w bytes that so many bytes hold
unfoldable pub words_in : ℕ → ℕ → ℕ
words_in w bytes = bytes / w

-- a word of w bytes, of a code whose words stand alone
unfoldable pub plain_value : ℕ → ℕ → List ℕ → ℕ → Value
plain_value code w bs k = value_of code 0 (written 256 (byte_in bs) (w * k) w)

-- a word of one byte, of 0022 or else of 0042
unfoldable pub byte_value : ℕ → List ℕ → ℕ → Value
byte_value code bs k = value_of (byte_code code) 0 (byte_in bs k)

-- the same as a table says it
unfoldable pub tabled_at : List ℕ → ℕ → List ℕ → ℕ → Value
tabled_at table code bs k = tabled table code (byte_in bs k)

-- groups of 0015, of ten bytes: "four c of 4 bits, then four of S Q14 0"; of a group's exponents e the one that word k takes
unfoldable pub exponent_of : ℕ → ℕ → ℕ
exponent_of e k = field e (12 - 4 * (k % 4)) 4

-- the exponent of word k of groups
unfoldable pub group_exponent : List ℕ → ℕ → ℕ
group_exponent bs k = exponent_of (written 256 (byte_in bs) (10 * (k / 4)) 2) k

-- its sixteen bits
unfoldable pub group_word : List ℕ → ℕ → ℕ
group_word bs k = written 256 (byte_in bs) (10 * (k / 4) + 2 + 2 * (k % 4)) 2

-- its value
unfoldable pub grouped_value : ℕ → List ℕ → ℕ → Value
grouped_value code bs k = value_of code (group_exponent bs k) (group_word bs k)

-- the words that so many bytes of groups hold: four of each, and of the last group those that are there
unfoldable pub grouped_in : ℕ → ℕ
grouped_in bytes = bytes / 10 * 4 + (bytes % 10 - 2) / 2

-- word k of what is left of a group from its word j on, by the group's exponents e
unfoldable pub rest_value : ℕ → ℕ → ℕ → List ℕ → ℕ → Value
rest_value code e j bs k = value_of code (exponent_of e (j + k)) (written 256 (byte_in bs) (2 * k) 2)
