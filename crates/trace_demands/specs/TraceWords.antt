-- Where the samples of a trace stand: "then samples of one channel", from byte 21 of the trace on. Places count from 0: a place is how many bytes of the trace come before it.
-- Assumes nothing.
use Rattle.std.specs.Prelude.{ℕ, ◌+◌, ◌*◌, ◌-◌, ◌≤◌, ◌<◌, ◌≡◌}
use Rattle.codes.specs.Codes.{group_of, per_of, lead_of, word_bytes_of}
use Rattle.trace_rules.specs.Samples.{samples_in, left_in, group_begins, word_begins}

-- by the row of a code: so many samples in a group, so many bytes of exponents before them, so many bytes of a word
pub record TraceWords (code : ℕ) : Type 0 where
  -- the first group begins after the trace header, and each next where the one before it ends: its exponents, then its words
  pub first : group_begins code 0 ≡ 20
  pub group : (g : ℕ) → group_begins code ((g + 1) * per_of code) ≡ group_begins code (g * per_of code) + group_of code
  pub whole : group_of code ≡ lead_of code + per_of code * word_bytes_of code
  pub word : (g j : ℕ) → j < per_of code → word_begins code (g * per_of code + j) ≡ group_begins code (g * per_of code) + lead_of code + j * word_bytes_of code
  -- each sample has its own bytes, one after another
  pub apart : (j k : ℕ) → j < k → word_begins code j + word_bytes_of code ≤ word_begins code k
  -- "A sample is given when its own last byte arrives": n bytes of a trace complete sample k exactly where its word ends among them
  pub done : (n k : ℕ) → k < samples_in code n → word_begins code k + word_bytes_of code ≤ n
  pub due : (n k : ℕ) → word_begins code k + word_bytes_of code ≤ n → k < samples_in code n
  -- where no bytes are left over, the last word ends with the trace
  pub fill : (n : ℕ) → 0 < samples_in code n → left_in code n ≡ 0 → word_begins code (samples_in code n - 1) + word_bytes_of code ≡ n
