-- The mark of a byte is its word's: all 256 bytes of both codes, computed.
-- Assumes nothing.
use Prim.Native.Nat.{ℕ, ◌<◌}
use mathlib.Core.Path.{◌≡◌, refl}
use mathlib.Core.Bool.{Bool, true, false}
use lib.Bits.{bit_and}
use lib.Dec.{eqb}
use Rattle.basis.specs.Choice.{pick}
use Rattle.basis.specs.Fields.{field}
use Rattle.codes.specs.Codes.{table, find_in, row_of}
use Rattle.words.specs.Words.{last_bit, negative_zero, all_ones, off_rule, sample_in, word_in, word_of, value_of}
use Rattle.words.specs.Tables.{byte_code, ones_of, off_byte}
use Rattle.words.proofs.Entries.{same}

of_code : (t : Bool) (b : ℕ) → b < 256 → eqb (bit_and b (pick t 0x8F 0xFF)) (pick t 0x8F 0xFF) ≡ (value_of (pick t 0x0022 0x0042) 0 b).off
unfolding row_of find_in table pick field last_bit negative_zero all_ones off_rule sample_in word_in word_of value_of ones_of off_byte
of_code true b h = same (off_byte 0x0022) (λ (k : ℕ). (value_of 0x0022 0 k).off) 256 refl b h
of_code false b h = same (off_byte 0x0042) (λ (k : ℕ). (value_of 0x0042 0 k).off) 256 refl b h

pub mark : (code b : ℕ) → b < 256 → off_byte code b ≡ (value_of (byte_code code) 0 b).off
unfolding byte_code ones_of off_byte
mark code b h = of_code (eqb code 0x0022) b h
