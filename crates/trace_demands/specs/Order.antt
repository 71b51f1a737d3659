-- "Each trace is one block .. in order of scan type, set, channel": which scan type, set and channel trace i is, and which trace those are. All count from 0.
-- Assumes nothing.
use Rattle.std.specs.Prelude.{ℕ, ◌+◌, ◌<◌, ◌≡◌, List, eqb}
use Rattle.basis.specs.Upto.{sum_upto}
use Rattle.general.specs.General.{scan_types, channel_sets}
use Rattle.sets.specs.Samples.{channels_of}
use Rattle.turns.specs.declared.Turn.{Turn}
use Rattle.turns.specs.Turns.{traces_of, trace_count, turn_at}

-- there is such a scan type, set and channel
pub record HasChannel (b : List ℕ) (t s c : ℕ) : Type 0 where
  pub scan_type : t < scan_types b
  pub set : s < channel_sets b
  pub channel : c < channels_of b t s

-- the trace of channel c of set s of scan type t: after those of the scan types before, of the sets before and of the channels before
abbrev pub trace_of : List ℕ → ℕ → ℕ → ℕ → ℕ
trace_of b t s c = sum_upto (traces_of b) t + (sum_upto (channels_of b t) s + c)

-- a turn is this channel's
pub record Is (u : Turn) (t s c : ℕ) : Type 0 where
  pub scan_type : u.scan_type ≡ t
  pub set : u.set ≡ s
  pub channel : u.channel ≡ c

-- "in order of scan type, set, channel"
pub data Earlier (u v : Turn) : Type 0 where
  by_type : u.scan_type < v.scan_type → Earlier u v
  by_set : u.scan_type ≡ v.scan_type → u.set < v.set → Earlier u v
  by_channel : u.scan_type ≡ v.scan_type → u.set ≡ v.set → u.channel < v.channel → Earlier u v

-- the traces of a record are its channels, each once, in order
pub record InTurn (b : List ℕ) : Type 0 where
  pub there : (i : ℕ) → i < trace_count b → HasChannel b (turn_at b i).scan_type (turn_at b i).set (turn_at b i).channel
  pub back : (i : ℕ) → i < trace_count b → trace_of b (turn_at b i).scan_type (turn_at b i).set (turn_at b i).channel ≡ i
  pub inside : (t s c : ℕ) → HasChannel b t s c → trace_of b t s c < trace_count b
  pub forth : (t s c : ℕ) → HasChannel b t s c → Is (turn_at b (trace_of b t s c)) t s c
  pub order : (i j : ℕ) → i < j → j < trace_count b → Earlier (turn_at b i) (turn_at b j)
  -- and the first of each scan type, by which its scans are set, is known as such
  pub first : (i : ℕ) → i < trace_count b → (turn_at b i).first ≡ eqb i (sum_upto (traces_of b) (turn_at b i).scan_type)
