-- "a 20-byte trace header as in the paper", field by field. x 1 to x 20 are its bytes, counted from 1 as the page counts them; u is the trace's turn, which counts from 0.
-- Assumes nothing.
use Rattle.std.specs.Prelude.{ℕ, ◌+◌, ◌-◌, ◌/◌, ◌%◌, ◌≤◌, ◌<◌, ◌≡◌, false, List, [], Ok, Some}
use Rattle.basis.specs.Digits.{byte_in}
use Rattle.block.specs.Bytes.{byte, packed_of}
use Rattle.general.specs.General.{skew_fields}
use Rattle.layout.specs.Indexes.{index_of}
use Rattle.skew.specs.Skews.{skew_byte}
use Rattle.turns.specs.declared.Turn.{Turn}
use Rattle.turns.specs.Turns.{turn_at}
use Rattle.rules.specs.Tape.{Body, ends, block_of}
use Rattle.trace_rules.specs.Headers.{header_wrong}
use Rattle.trace_rules.specs.Outcome.{stop_of}

pub record TraceHeader (b : List ℕ) (u : Turn) (x : ℕ → ℕ) : Type 0 where
  -- "Trace header digits must agree with the file number",
  pub file : (n : ℕ) → 1 ≤ n → n ≤ 2 → x n ≡ byte b n
  -- "and the trace's turn": scan type, set and channel, which the page counts from 1
  pub scan_type : packed_of (x 3) ≡ Some (u.scan_type + 1)
  pub set : packed_of (x 4) ≡ Some (u.set + 1)
  pub hundreds : packed_of (x 5) ≡ Some ((u.channel + 1) / 100)
  pub channel : packed_of (x 6) ≡ Some ((u.channel + 1) % 100)
  -- "byte 11 must be the channel's first skew byte where SK is not 0": that of its sample in subscan 0
  pub skew : (skew_fields b ≡ 0 → ⊥) → x 11 ≡ skew_byte b [] u.scan_type (index_of b (u.scan_type + 1) (u.set + 1) (u.channel + 1) 0)
  -- "bytes 10, 12 and 16-20 are zero"
  pub ten : x 10 ≡ 0
  pub twelve : x 12 ≡ 0
  pub last : (n : ℕ) → 16 ≤ n → n ≤ 20 → x n ≡ 0

-- no byte of the header is wrong
abbrev Sound : List ℕ → ℕ → (ℕ → ℕ) → Type 0
Sound b i x = (n : ℕ) → 1 ≤ n → n ≤ 20 → header_wrong b i n (x n) ≡ false

pub record Headed : Type 0 where
  -- a trace header has no wrong byte exactly where it is the request's, and so "timing and window bytes are free"
  pub sound : (b : List ℕ) (i : ℕ) (x : ℕ → ℕ) → Sound b i x → TraceHeader b (turn_at b i) x
  pub all : (b : List ℕ) (i : ℕ) (x : ℕ → ℕ) → TraceHeader b (turn_at b i) x → Sound b i x
  -- so it is in every trace of a body that does not stop: byte n of trace k is byte n of block k
  pub read : (b : List ℕ) (d : Body) → stop_of b d ≡ Ok tt → (k : ℕ) → k < ends d → TraceHeader b (turn_at b k) (λ n. byte_in (block_of d k) (n - 1))
