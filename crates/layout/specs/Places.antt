-- Where sample k of a scan stands, over three numbers of its format: `per` samples in a group, `lead` bytes of exponents before a group's words,
-- `bytes` of a word. Samples count from 0, and so do places in the scan: a place is how many bytes of the scan come before it.
-- Assumes nothing.
use Rattle.std.specs.Prelude.{ℕ, ◌+◌, ◌*◌, ◌/◌, ◌%◌}
use Rattle.codes.specs.Codes.{per_of, lead_of, word_bytes_of}

-- "four c of 4 bits, then four of S Q14 0": a group's exponents, then its words
abbrev pub group_bytes : ℕ → ℕ → ℕ → ℕ
group_bytes per lead bytes = lead + per * bytes

-- the bytes of the groups before sample k's, and in its own group those of the exponents and the words before its own
abbrev pub groups_before : ℕ → ℕ → ℕ → ℕ → ℕ
groups_before per lead bytes k = k / per * group_bytes per lead bytes

abbrev pub words_before : ℕ → ℕ → ℕ → ℕ → ℕ
words_before per lead bytes k = lead + k % per * bytes

-- the place of sample k's group: after the scan's first 8 bytes and the groups before it
abbrev pub group_place : ℕ → ℕ → ℕ → ℕ → ℕ
group_place per lead bytes k = 8 + groups_before per lead bytes k

-- the place of sample k's word: in its group, after the exponents and the words before it
abbrev pub word_place : ℕ → ℕ → ℕ → ℕ → ℕ
word_place per lead bytes k = group_place per lead bytes k + words_before per lead bytes k

-- both by the row of a code
abbrev pub group_place_of : ℕ → ℕ → ℕ
group_place_of code = group_place (per_of code) (lead_of code) (word_bytes_of code)

abbrev pub word_place_of : ℕ → ℕ → ℕ
word_place_of code = word_place (per_of code) (lead_of code) (word_bytes_of code)
