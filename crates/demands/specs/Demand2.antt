-- The second demand: fields, places, samples and times are the paper's, as the description reads it. What each is stands in the specs
-- of general, sets, words, layout, parts and skew; here stand that accepted headers and words of a code are given it, and not vacuously.
-- Assumes nothing.
use Rattle.std.specs.Prelude.{ℕ, ◌+◌, ◌*◌, ◌-◌, ◌^◌, ◌≤◌, ◌<◌, ◌≡◌, ◌⊎◌, true, List, T, ℤ, pos, ◌+ℤ◌, length, get_or, Ok, Some}
use Rattle.std.specs.Int.Signed.{lt_z}
use Rattle.basis.specs.Fields.{joined}
use Rattle.values.specs.Values.{Scaled, scaled, times, Same, Less, less_test, same_test}
use Rattle.codes.specs.declared.Row.{Row}
use Rattle.codes.specs.Codes.{row_of, word_bytes_of}
use Rattle.words.specs.Words.{spare_of, sign_in, exponent_in, fraction_in, last_in, sample_in, word_of}
use Rattle.sets.specs.declared.ChannelSet.{ChannelSet}
use Rattle.sets.specs.ChannelSets.{channel_set_of}
use Rattle.sets.specs.Descriptors.{descriptor_place}
use Rattle.sets.specs.Samples.{subscans_of, samples_of}
use Rattle.general.specs.General.{code_of, bytes_per_scan, interval_of, scan_types, channel_sets, skew_fields, extended_fields, external_fields}
use Rattle.header.specs.declared.Header.{Header}
use Rattle.header.specs.Faults.{header_fault}
use Rattle.header.specs.Answers.{header_of, header_answer, is_set, descriptor_answer}
use Rattle.layout.specs.Indexes.{has_sample}
use Rattle.layout.specs.Inverse.{Inverse}
use Rattle.layout.specs.Places.{word_place_of}
use Rattle.parts.specs.Slices.{slice}
use Rattle.parts.specs.Parts.{extended_place, external_place}
use Rattle.skew.specs.Skews.{skew_byte, sheet_holds, skew_fault, skew_part, skew_answer}
use Rattle.skew.specs.Times.{time_by, time_answer}
use Rattle.trace_demands.specs.TraceDemand2.{TraceDemand2}
use Rattle.demands.specs.Figures.{All, figures}

-- a word joined of S, c, Q and the bits not used, as a row has them; and that a word has them
abbrev of_fields : Row → ℕ → ℕ → ℕ → ℕ → ℕ
of_fields r s e q last = joined (r.exponent - r.apart) r.fraction (spare_of r) s e q last

abbrev Has : Row → ℕ → ℕ → ℕ → ℕ → ℕ → Type 0
Has r word s e q last = (sign_in r word ≡ s) × (exponent_in r 0 word ≡ e) × (fraction_in r word ≡ q) × (last_in r word ≡ last)

-- "B = 8 + S/S x bytes per sample": in a multiplexed code the word of sample k lies at its own bytes of the scan, one after another and to
-- the scan's end; in a demultiplexed one "Bytes per scan must be recorded as zero"; and what is read of a scan type in the header block lies in the block
pub record OwnBytes (b : List ℕ) : Type 0 where
  pub apart : (j k : ℕ) → j < k → word_place_of (code_of b) j + word_bytes_of (code_of b) ≤ word_place_of (code_of b) k
  pub inside : code_of b < 0x8000 → (t : ℕ) → t < scan_types b → (k : ℕ) → k < samples_of b t → word_place_of (code_of b) k + word_bytes_of (code_of b) ≤ bytes_per_scan b
  pub fill : code_of b < 0x8000 → (t : ℕ) → t < scan_types b → 0 < samples_of b t → word_place_of (code_of b) (samples_of b t - 1) + word_bytes_of (code_of b) ≡ bytes_per_scan b
  pub none : 0x8000 ≤ code_of b → bytes_per_scan b ≡ 0
  pub descriptors : (t s : ℕ) → t < scan_types b → s < channel_sets b → descriptor_place b t s + 32 ≤ length b
  -- its subscans are 2^(S/C), and S/C is at most 9
  pub subscans : (t s : ℕ) → t < scan_types b → s < channel_sets b → subscans_of b t s ≤ 512
  -- its skew bytes, where skew is recorded: S/S of them, after its CS descriptors
  pub skews : (t : ℕ) → t < scan_types b → (skew_fields b ≡ 0 → ⊥) → descriptor_place b t (channel_sets b) + samples_of b t ≤ length b
  -- E2 gives each scan type the first one's S/S, and so does "every scan type has the same S/S"
  pub alike : (t : ℕ) → t < scan_types b → samples_of b t ≡ samples_of b 0
  -- "then extended, then external header", which ends the block
  pub extended : extended_place b + 32 * extended_fields b ≡ external_place b
  pub external : external_place b + 32 * external_fields b ≡ length b

-- "Values are compared in whole numbers": equality is one, the order is one, a shift keeps the value, and the tests tell them exactly
pub record Compared : Type 0 where
  pub refl : (a : Scaled) → Same a a
  pub sym : {a b : Scaled} → Same a b → Same b a
  pub trans : {a b c : Scaled} → Same a b → Same b c → Same a c
  pub shift : (m x : ℤ) (d : ℕ) → Same (scaled (times m d) x) (scaled m (x +ℤ pos d))
  pub same_tested : {a b : Scaled} → Same a b → T (same_test a b)
  pub same_told : {a b : Scaled} → T (same_test a b) → Same a b
  pub less_tested : {a b : Scaled} → Less a b → less_test a b ≡ true
  pub less_told : {a b : Scaled} → less_test a b ≡ true → Less a b
  pub irrefl : {a b : Scaled} → Same a b → Less a b → ⊥
  pub less_trans : {a b c : Scaled} → Less a b → Less b c → Less a c
  pub same_less : {a b c : Scaled} → Same a b → Less b c → Less a c
  pub total : (a b : Scaled) → Less a b ⊎ (Same a b ⊎ Less b a)
  pub level : (m n x : ℤ) → less_test (scaled m x) (scaled n x) ≡ lt_z m n

-- "S ccc Q4" and its like: a row's word is its S, c, Q and the bits not used, and nothing else; and whatever these are, they make a word
-- that has them
pub record Cut (r : Row) : Type 0 where
  pub cut : (word : ℕ) → word < 2 ^ (r.width - r.apart) →
      of_fields r (sign_in r word) (exponent_in r 0 word) (fraction_in r word) (last_in r word) ≡ word
  pub joined : (s e q last : ℕ) → s < 2 → e < 2 ^ (r.exponent - r.apart) → q < 2 ^ r.fraction → last < 2 ^ spare_of r →
      Has r (of_fields r s e q last) s e q last

-- "handed out as the very part of the caller's block, without padding for skew (S/S bytes)": the skew of scan type t, counting from 1,
-- has a byte for each sample of a scan, and byte k of it is sample k's
pub record SkewBytes (b sheet : List ℕ) (p q : ℕ × ℕ) (t : ℕ) : Type 0 where
  pub many : length (skew_part (slice p b) (slice q sheet) t).bytes ≡ samples_of b (t - 1)
  pub each : (k : ℕ) → k < samples_of b (t - 1) → get_or (skew_part (slice p b) (slice q sheet) t).bytes k 0 ≡ skew_byte b sheet (t - 1) k

-- "Questions: header, 11, 12", of a sample: its header is accepted, scan type t has a sample k, and a sheet that is used has its length
pub record Askable (b sheet : List ℕ) (t k : ℕ) : Type 0 where
  pub accepted : header_fault b ≡ Ok tt
  pub there : has_sample b t k ≡ true
  pub sheeted : sheet_holds b sheet ≡ true

pub record Demand2 : Type 0 where
  -- a header is accepted exactly where it breaks no rule, and then has the page's fields
  pub accepts : (b : List ℕ) → header_fault b ≡ Ok tt → header_answer b ≡ Ok (header_of b)
  pub fields : (b : List ℕ) (h : Header) → header_answer b ≡ Ok h → (header_fault b ≡ Ok tt) × (h ≡ header_of b)
  -- a channel set is described exactly where its header is accepted and it is there, and then has the page's fields
  pub described : (b : List ℕ) (t s : ℕ) → header_fault b ≡ Ok tt → is_set b t s ≡ true →
      descriptor_answer b t s ≡ Ok (channel_set_of b (t - 1) (s - 1))
  pub sets : (b : List ℕ) (t s : ℕ) (d : ChannelSet) → descriptor_answer b t s ≡ Ok d →
      (header_fault b ≡ Ok tt) × (is_set b t s ≡ true) × (d ≡ channel_set_of b (t - 1) (s - 1))
  -- index and place are each the other's inverse on every block, and reach every k below S/S once
  pub places : (b : List ℕ) → Inverse b
  -- every word of a code, no wider than the code's, is the sample that its row's columns give
  pub samples : (code c word : ℕ) (r : Row) → row_of code ≡ Some r → c < 2 ^ r.apart → word < 2 ^ (r.width - r.apart) →
      word_of code c word ≡ Ok (sample_in r c word)
  pub cut : (code : ℕ) (r : Row) → row_of code ≡ Some r → Cut r
  -- each at its own place in the scan
  pub own : (b : List ℕ) → header_fault b ≡ Ok tt → OwnBytes b
  pub values : Compared
  -- where a scan type's skew is not refused, the part that is handed out has its bytes
  pub skews : (b sheet : List ℕ) (p q : ℕ × ℕ) (t : ℕ) → skew_fault b sheet t ≡ Ok tt → SkewBytes b sheet p q t
  -- one sample's skew byte is given exactly where it can be asked for,
  pub skewed : (b sheet : List ℕ) (t k : ℕ) → Askable b sheet t k → skew_answer b sheet t k ≡ Ok (skew_byte b sheet (t - 1) k)
  pub skew_bytes : (b sheet : List ℕ) (t k SS : ℕ) → skew_answer b sheet t k ≡ Ok SS →
      Askable b sheet t k × (SS ≡ skew_byte b sheet (t - 1) k)
  -- and a time exactly where moreover T is below 2^24: it is 16 T + SS x I
  pub timed : (b sheet : List ℕ) (t k T : ℕ) → Askable b sheet t k → T < 2 ^ 24 →
      time_answer b sheet t k T ≡ Ok (time_by T (skew_byte b sheet (t - 1) k) (interval_of b))
  pub sample_times : (b sheet : List ℕ) (t k T time : ℕ) → time_answer b sheet t k T ≡ Ok time →
      Askable b sheet t k × (T < 2 ^ 24) × (time ≡ time_by T (skew_byte b sheet (t - 1) k) (interval_of b))
  -- the starred figures: among them a header that is accepted, and samples that have their places
  pub starred : All figures
  -- the same of a body of traces
  pub traces : TraceDemand2
