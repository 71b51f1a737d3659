-- "One-byte words are read from two tables of 256 entries": what the tables are, and what a table says of a byte.
-- ones_of and off_byte are cited by private functions alone: public contracts cite the mark of `value_of`, and proofs/OffBytes.antt shows that they are the same. Assumes nothing.
use Rattle.std.specs.Prelude.{ℕ, ◌+◌, ◌-◌, ◌*◌, ◌/◌, ◌%◌, ◌≡◌, Bool, List, [], ◌∷◌, eqb, ltb, ℤ, pos, negsuc, get_or}
use Rattle.std.specs.Int.Bits.{bit_and}
use Rattle.basis.specs.Choice.{pick}
use Rattle.basis.specs.Upto.{list_upto}
use Rattle.words.specs.declared.Value.{Value}
use Rattle.words.specs.Words.{value_of}

-- a code whose words have one byte
pub data OneByte (code : ℕ) : Type 0 where
  is22 : code ≡ 0x0022 → OneByte code
  is42 : code ≡ 0x0042 → OneByte code

-- the code whose marks are used: 0022's, and for every other code 0042's
unfoldable pub byte_code : ℕ → ℕ
byte_code code = pick (eqb code 0x0022) 0x0022 0x0042

-- a number as 32 bits in two's complement
abbrev pub half_of : ℤ → ℕ
half_of (pos n) = n
half_of (negsuc n) = 0xFFFFFFFF - n

-- the number that 32 bits are in two's complement
unfoldable pub signed_of : ℕ → ℤ
signed_of n = pick (ltb n 0x80000000) (pos n) (negsuc (0xFFFFFFFF - n))

-- entry b of a code's table: X of word b is its high half, and M its low half
unfoldable pub entry_of : ℕ → ℕ → ℕ
entry_of code b = half_of (value_of code 0 b).x * 0x100000000 + half_of (value_of code 0 b).m

-- the table of a code whose words have one byte
unfoldable pub table_of : ℕ → List ℕ
table_of code = list_upto (λ (b : ℕ). entry_of code b ∷ []) 256

-- what a table says of byte b: M and X by its entry, and the mark of the byte's word
unfoldable pub tabled : List ℕ → ℕ → ℕ → Value
tabled table code b =
    record { m = signed_of (get_or table b 0 % 0x100000000); x = signed_of (get_or table b 0 / 0x100000000); off = (value_of (byte_code code) 0 b).off }

-- the bits that are all set in an off-rule word of one byte: sign and Q in 0022 ("one's complement negative zero"), all in 0042 ("all ones")
unfoldable pub ones_of : ℕ → ℕ
ones_of code = pick (eqb code 0x0022) 0x8F 0xFF

-- whether a word of one byte is off rule
unfoldable pub off_byte : ℕ → ℕ → Bool
off_byte code b = eqb (bit_and b (ones_of code)) (ones_of code)
