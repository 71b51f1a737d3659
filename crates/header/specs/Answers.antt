-- What reading a header block answers, and what asking for a channel set's descriptor does.
-- Assumes nothing.
use Rattle.std.specs.Prelude.{ℕ, ◌-◌, Bool, not, ◌&&◌, List, Err, Ok, Result, ⊤}
use Rattle.refusals.specs.declared.Refusal.TheVariants.{Index}
use Rattle.refusals.specs.Order.{when, or_else}
use Rattle.general.specs.General.{file_of, code_of, year_of, day_of, hour_of, minute_of, second_of, manufacturer_of, serial_of, bytes_per_scan, interval_of, polarity_of, block_exponent, block_scans, record_type, record_length, scan_types, channel_sets, skew_fields, extended_fields, external_fields, within}
use Rattle.sets.specs.declared.ChannelSet.{ChannelSet}
use Rattle.sets.specs.Samples.{samples_of}
use Rattle.sets.specs.ChannelSets.{channel_set_of}
use Rattle.header.specs.declared.Header.{Header}
use Rattle.header.specs.Faults.{header_fault}
use Rattle.refusals.specs.declared.Refusal.{Refusal}

-- the fields of the general header, and S/S, which every scan type of an accepted header has
unfoldable pub header_of : List ℕ → Header
header_of b = record {
  file = file_of b;
  code = code_of b;
  year = year_of b;
  day = day_of b;
  hour = hour_of b;
  minute = minute_of b;
  second = second_of b;
  manufacturer = manufacturer_of b;
  serial = serial_of b;
  bytes_per_scan = bytes_per_scan b;
  interval = interval_of b;
  polarity = polarity_of b;
  block_exponent = block_exponent b;
  block_scans = block_scans b;
  record_type = record_type b;
  record_length = record_length b;
  scan_types = scan_types b;
  channel_sets = channel_sets b;
  skew_fields = skew_fields b;
  extended_fields = extended_fields b;
  external_fields = external_fields b;
  samples_per_scan = samples_of b 0;
}

-- accepted where no rule is broken
abbrev pub answer_after : Result ⊤ Refusal → Header → Result Header Refusal
answer_after (Ok tt) h = Ok h
answer_after (Err r) h = Err r

-- the header accepted, or its first refusal
unfoldable pub header_answer : List ℕ → Result Header Refusal
header_answer b = answer_after (header_fault b) (header_of b)

-- scan type t and set s, counting from 1, are there
unfoldable pub is_set : List ℕ → ℕ → ℕ → Bool
is_set b t s = within 1 t (scan_types b) && within 1 s (channel_sets b)

-- described where nothing is refused
abbrev pub described_after : Result ⊤ Refusal → ChannelSet → Result ChannelSet Refusal
described_after (Ok tt) d = Ok d
described_after (Err r) d = Err r

-- "Questions: header, 11"
unfoldable pub descriptor_answer : List ℕ → ℕ → ℕ → Result ChannelSet Refusal
descriptor_answer b t s =
    described_after (or_else (header_fault b) (when (not (is_set b t s)) Index)) (channel_set_of b (t - 1) (s - 1))
