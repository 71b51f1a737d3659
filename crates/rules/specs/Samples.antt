-- The samples of a body, each at its place. Sample n of the body is sample n % S/S of scan n / S/S.
-- Assumes nothing.
use Rattle.std.specs.Prelude.{ℕ, ◌+◌, ◌-◌, ◌*◌, ◌/◌, ◌%◌, List, [], ◌∷◌, leb, ℤ}
use Rattle.basis.specs.Choice.{pick}
use Rattle.basis.specs.Digits.{written}
use Rattle.basis.specs.Fields.{field}
use Rattle.basis.specs.Upto.{sum_upto}
use Rattle.codes.specs.Codes.{per_of, lead_of, word_bytes_of}
use Rattle.words.specs.declared.Value.{Value}
use Rattle.words.specs.Words.{value_of, off_one}
use Rattle.layout.specs.Places.{group_place_of, word_place_of}
use Rattle.rules.specs.Scans.{Shape}

-- ---- of any body: sample k of samples in groups, whose group begins at place g and whose word at place w
-- the exponents of its group, and its word
abbrev pub lead_from : ℕ → (ℕ → ℕ) → ℕ → ℕ
lead_from code byte g = written 256 byte g (lead_of code)

abbrev pub word_from : ℕ → (ℕ → ℕ) → ℕ → ℕ
word_from code byte w = written 256 byte w (word_bytes_of code)

-- "four c of 4 bits", the first highest: of such exponents its own c; 0 where none stand apart
abbrev pub exponent_from : ℕ → ℕ → ℕ → ℕ
exponent_from code lead k = field lead (4 * (per_of code - 1 - k % per_of code)) 4

-- "each sample is (M, X)", with its off-rule mark
abbrev pub value_from : ℕ → (ℕ → ℕ) → ℕ → ℕ → ℕ → Value
value_from code byte g w k = value_of code (exponent_from code (lead_from code byte g) k) (word_from code byte w)

-- "M then X"
abbrev pub m_then_x : Value → List ℤ
m_then_x v = v.m ∷ v.x ∷ []

-- ---- of a body of scans
module _ (sh : Shape) (byte : ℕ → ℕ) where
  -- the place in its scan of the group of sample k, and of its word
  abbrev pub group_begins : ℕ → ℕ
  group_begins = group_place_of sh.code

  abbrev pub word_begins : ℕ → ℕ
  word_begins = word_place_of sh.code

  -- 1 where the last byte of sample k is among the first r of its scan
  abbrev pub done_in : ℕ → ℕ → ℕ
  done_in r k = pick (leb (word_begins k + word_bytes_of sh.code) r) 1 0

  -- samples completed before place p: of the scans before, and of the scan that p is in
  unfoldable pub done_before : ℕ → ℕ
  done_before p = p / sh.scan * sh.samples + sum_upto (done_in (p % sh.scan)) sh.samples

  -- the places in the body of the group of sample n, and of its word
  abbrev pub group_start : ℕ → ℕ
  group_start n = n / sh.samples * sh.scan + group_begins (n % sh.samples)

  abbrev pub word_start : ℕ → ℕ
  word_start n = n / sh.samples * sh.scan + word_begins (n % sh.samples)

  -- the exponents and the word there
  abbrev pub lead_at : ℕ → ℕ
  lead_at n = lead_from sh.code byte (group_start n)

  abbrev pub word_at : ℕ → ℕ
  word_at n = word_from sh.code byte (word_start n)

  -- the sample that they make
  unfoldable pub value_at : ℕ → Value
  value_at n = value_from sh.code byte (group_start n) (word_start n) (n % sh.samples)

  -- "M then X"
  unfoldable pub numbers_at : ℕ → List ℤ
  numbers_at n = m_then_x (value_at n)

  -- 1 where it is off rule
  unfoldable pub off_at : ℕ → ℕ
  off_at n = off_one (value_at n)
