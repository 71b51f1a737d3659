-- The samples of a trace, "samples of one channel" after its 20 header bytes; 8015 "groups four samples of the channel". Samples count from 0, and so do places: a place is how many bytes come before it.
-- Assumes nothing.
use Rattle.std.specs.Prelude.{ℕ, ◌+◌, ◌-◌, ◌*◌, ◌/◌, ◌%◌, List, ℤ}
use Rattle.codes.specs.Codes.{group_of, per_of, lead_of, word_bytes_of}
use Rattle.words.specs.declared.Value.{Value}
use Rattle.words.specs.Words.{off_one}
use Rattle.layout.specs.Places.{groups_before, words_before}
use Rattle.rules.specs.Samples.{value_from, m_then_x}

module _ (code : ℕ) where
  -- samples completed in the first n bytes of a trace: those of its whole groups, and of the group begun the words after the exponents
  unfoldable pub samples_in : ℕ → ℕ
  samples_in n = (n - 20) / group_of code * per_of code + ((n - 20) % group_of code - lead_of code) / word_bytes_of code

  -- "bytes left over" of n bytes of a trace: those of the group begun
  abbrev pub left_in : ℕ → ℕ
  left_in n = (n - 20) % group_of code

  -- the place in its trace of the group of sample k, and of its word
  abbrev pub group_begins : ℕ → ℕ
  group_begins k = 20 + groups_before (per_of code) (lead_of code) (word_bytes_of code) k

  abbrev pub word_begins : ℕ → ℕ
  word_begins k = group_begins k + words_before (per_of code) (lead_of code) (word_bytes_of code) k

  -- of the trace that begins at place s of the body
  module _ (byte : ℕ → ℕ) (s : ℕ) where
    -- sample k, (M, X) with its off-rule mark, by the row of the code: "Code 8015 uses 15 fraction bits (X = c - 15) .. and has no unused last bit"
    unfoldable pub value_at : ℕ → Value
    value_at k = value_from code byte (s + group_begins k) (s + word_begins k) k

    -- "M then X"
    unfoldable pub numbers_at : ℕ → List ℤ
    numbers_at k = m_then_x (value_at k)

    -- 1 where it is off rule
    unfoldable pub off_at : ℕ → ℕ
    off_at k = off_one (value_at k)
