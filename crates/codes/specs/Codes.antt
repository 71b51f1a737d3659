-- "The twelve format codes stand in one table": its rows, the row of a code, and how many bytes its samples take on tape.
-- Assumes nothing.
use Rattle.std.specs.Prelude.{ℕ, ◌+◌, ◌-◌, ◌/◌, ◌%◌, ◌≤◌, Bool, List, [], ◌∷◌, eqb, leb, Option}
use Rattle.std.specs.List.{find}
use Rattle.std.specs.Option.{option_map_or}
use Rattle.basis.specs.Choice.{pick}
use Rattle.codes.specs.declared.Kind.{Kind}
use Rattle.codes.specs.declared.Kind.TheVariants.{OnesComplement, SignMagnitude, Justified}
use Rattle.codes.specs.declared.Row.{Row}

-- the columns: code, bits on tape, those of an exponent apart, fraction bits, log2 of the base, exponent bits, bias, kind
abbrev pub row : ℕ → ℕ → ℕ → ℕ → ℕ → ℕ → ℕ → Kind → Row
row code width apart n base b bias kind =
    record { code = code; width = width; apart = apart; fraction = n; base = base; exponent = b; bias = bias; kind = kind }

-- "0015, 0022, 0024, 0042, 0044, 0048 and the same with a leading 8"; the paper gives 8015 one fraction bit more, its last
unfoldable pub table : List Row
table =
    row 0x0015 20 4 14 1 4 0 OnesComplement ∷
    row 0x0022 8 0 4 2 3 0 OnesComplement ∷
    row 0x0024 16 0 12 2 3 0 OnesComplement ∷
    row 0x0042 8 0 5 4 2 0 SignMagnitude ∷
    row 0x0044 16 0 13 4 2 0 SignMagnitude ∷
    row 0x0048 32 0 23 4 7 64 Justified ∷
    row 0x8015 20 4 15 1 4 0 OnesComplement ∷
    row 0x8022 8 0 4 2 3 0 OnesComplement ∷
    row 0x8024 16 0 12 2 3 0 OnesComplement ∷
    row 0x8042 8 0 5 4 2 0 SignMagnitude ∷
    row 0x8044 16 0 13 4 2 0 SignMagnitude ∷
    row 0x8048 32 0 23 4 7 64 Justified ∷
    []

-- the first row with the code
unfoldable pub find_in : List Row → ℕ → Option Row
find_in rs code = find (λ (r : Row). eqb r.code code) rs

-- the row of a code, where it is "among the twelve"
unfoldable pub row_of : ℕ → Option Row
row_of code = find_in table code

-- "one of the six codes 80xx", of a code that is among the twelve
abbrev pub demultiplexed : ℕ → Bool
demultiplexed code = leb 0x8000 code

-- a code without its leading 8
abbrev pub stem_of : ℕ → ℕ
stem_of code = code % 0x8000

-- what every row of the table keeps to: the bits of its parts fit its width, and its numbers are small
pub record SoundRow (r : Row) : Type 0 where
  pub whole : 1 + r.exponent + r.fraction ≤ r.width
  pub narrow : r.width ≤ 32
  pub inside : r.apart ≤ r.exponent
  pub short : r.apart ≤ 4
  pub some : 4 ≤ r.fraction
  pub few : r.fraction ≤ 23
  pub small : r.exponent ≤ 7
  pub hex : r.base ≤ 4
  pub half : r.bias ≤ 64

-- bytes of a group of samples on tape: one word; or, where exponents stand apart, "four c of 4 bits, then four" words: four samples
unfoldable pub group_in : Row → ℕ
group_in r = pick (eqb r.apart 0) (r.width / 8) (r.width / 2)

-- samples of a group
unfoldable pub per_in : Row → ℕ
per_in r = pick (eqb r.apart 0) 1 4

-- bytes of exponents at a group's front
unfoldable pub lead_in : Row → ℕ
lead_in r = r.apart / 2

-- bytes of a word in a group
unfoldable pub word_bytes_in : Row → ℕ
word_bytes_in r = (r.width - r.apart) / 8

-- a number of the row that was found; 0 where the code is not among the twelve
abbrev pub of_row : (Row → ℕ) → Option Row → ℕ
of_row f row = option_map_or f row 0

-- the bytes of a group, of a code
unfoldable pub group_of : ℕ → ℕ
group_of code = of_row group_in (row_of code)

-- the samples of a group, of a code
unfoldable pub per_of : ℕ → ℕ
per_of code = of_row per_in (row_of code)

-- the bytes of exponents at a group's front, of a code
unfoldable pub lead_of : ℕ → ℕ
lead_of code = of_row lead_in (row_of code)

-- the bytes of a word in a group, of a code
unfoldable pub word_bytes_of : ℕ → ℕ
word_bytes_of code = of_row word_bytes_in (row_of code)

-- bits of a sample on tape, its part of the exponents among them
unfoldable pub bits_of : ℕ → ℕ
bits_of code = of_row (λ (r : Row). r.width) (row_of code)
