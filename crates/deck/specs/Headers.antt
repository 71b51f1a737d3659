-- The header's answers laid flat.
-- Assumes nothing.
use Rattle.std.specs.Prelude.{pos, Option, Result, ℕ, is_some, unwrap_or}
use Rattle.std.specs.Result.{result_unwrap_or}
use Rattle.sets.specs.declared.ChannelSet.{ChannelSet}
use Rattle.header.specs.declared.Header.{Header}
use Rattle.deck.specs.declared.headers.SegdPair.{SegdPair}
use Rattle.deck.specs.declared.headers.SegdHeader.{SegdHeader}
use Rattle.deck.specs.declared.headers.SegdChannelSet.{SegdChannelSet}
use Rattle.deck.specs.Flat.{flag, flat_fault}
use Rattle.refusals.specs.declared.Refusal.{Refusal}

-- a pair, or found 0
abbrev pub flat_pair : Option ℕ → SegdPair
flat_pair p = record { found = flag (is_some p); value = unwrap_or p 0 }

-- a header with every field 0
abbrev pub no_header : Header
no_header = record {
  file = 0;
  code = 0;
  year = 0;
  day = 0;
  hour = 0;
  minute = 0;
  second = 0;
  manufacturer = 0;
  serial = 0;
  bytes_per_scan = 0;
  interval = 0;
  polarity = 0;
  block_exponent = 0;
  block_scans = 0;
  record_type = 0;
  record_length = 0;
  scan_types = 0;
  channel_sets = 0;
  skew_fields = 0;
  extended_fields = 0;
  external_fields = 0;
  samples_per_scan = 0;
}

-- the fields, or the refusal with all fields 0
abbrev pub flat_header : Result Header Refusal → SegdHeader
flat_header a = record { refusal = flat_fault a; header = result_unwrap_or a no_header }

-- a channel set with every field 0
abbrev pub no_set : ChannelSet
no_set = record {
  start = 0;
  end = 0;
  descale = pos 0;
  channels = 0;
  channel_type = 0;
  subscan_exponent = 0;
  gain = 0;
  alias_frequency = 0;
  alias_slope = 0;
  low_cut = 0;
  low_cut_slope = 0;
  first_notch = 0;
  second_notch = 0;
  third_notch = 0;
}

-- the same of a channel set
abbrev pub flat_set : Result ChannelSet Refusal → SegdChannelSet
flat_set a = record { refusal = flat_fault a; set = result_unwrap_or a no_set }
