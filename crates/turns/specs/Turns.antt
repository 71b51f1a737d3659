-- Whose turn a trace of a demultiplexed record is: "in order of scan type, set, channel". Traces, scan types, sets and channels count from 0.
-- Assumes nothing.
use Rattle.std.specs.Prelude.{ℕ, ◌+◌, ◌-◌, ◌<◌, ◌≡◌, Bool, false, List, [], eqb, None, Option, Some}
use Rattle.basis.specs.Upto.{sum_upto}
use Rattle.block.specs.Bytes.{packed_of}
use Rattle.general.specs.General.{scan_types, channel_sets}
use Rattle.sets.specs.Samples.{channels_of, subscans_of}
use Rattle.layout.specs.Indexes.{set_at, index_of}
use Rattle.skew.specs.Skews.{skew_byte}
use Rattle.turns.specs.declared.Turn.{Turn}
use Rattle.turns.specs.declared.Holder.{Holder}

-- the traces of scan type t: one for each channel of its sets; a dummy set has no channel, and so no trace
unfoldable pub traces_of : List ℕ → ℕ → ℕ
traces_of b t = sum_upto (channels_of b t) (channel_sets b)

-- the traces of the record; "S/S 0 has no trace"
unfoldable pub trace_count : List ℕ → ℕ
trace_count b = sum_upto (traces_of b) (scan_types b)

-- of n scan types or sets that have f 0, f 1, .. traces the one that trace k is in, as many as lie wholly before it, and its first trace
unfoldable pub holder_of : (ℕ → ℕ) → ℕ → ℕ → Holder
holder_of f k n = record { number = set_at f k n; first = sum_upto f (set_at f k n) }

-- calls that answer f 0, f 1, .. for the numbers of a byte
abbrev pub Answers : (ℕ → ℕ → Type 0) → (ℕ → ℕ) → Type 0
Answers call f = (s x : ℕ) → s < 256 → call s x → x ≡ f s

-- the scan type of trace i of the record; past the last trace ST/R
unfoldable pub type_at : List ℕ → ℕ → Holder
type_at b i = holder_of (traces_of b) i (scan_types b)

-- the set of trace k of scan type t
unfoldable pub set_in : List ℕ → ℕ → ℕ → Holder
set_in b t k = holder_of (channels_of b t) k (channel_sets b)

-- the turn of trace k of scan type t: in its set the channels in order
unfoldable pub turn_in : List ℕ → ℕ → ℕ → Turn
turn_in b t k = record { scan_type = t; set = (set_in b t k).number; channel = k - (set_in b t k).first; first = eqb k 0 }

-- the turn of trace i of the record
unfoldable pub turn_at : List ℕ → ℕ → Turn
turn_at b i = turn_in b (type_at b i).number (i - (type_at b i).first)

-- the samples of the turn's channel in a scan, 2^(S/C)
unfoldable pub subscans_at : List ℕ → Turn → ℕ
subscans_at b u = subscans_of b u.scan_type u.set

-- "the channel's first skew byte": that of its sample in subscan 0; where SK is not 0 no sheet is looked at
unfoldable pub skew_at : List ℕ → Turn → ℕ
skew_at b u = skew_byte b [] u.scan_type (index_of b (u.scan_type + 1) (u.set + 1) (u.channel + 1) 0)

-- ---- the digits of a trace header
-- a pair of digits is the number n
abbrev pub pair_is : Option ℕ → ℕ → Bool
pair_is (Some d) n = eqb d n
pair_is None n = false

-- byte x is the digit pair that writes n
unfoldable pub writes : ℕ → ℕ → Bool
writes x n = pair_is (packed_of x) n
