-- Every field of a channel set descriptor, by its bytes on the page. Scan type t and set s count from 0.
-- Assumes nothing.
use Rattle.std.specs.Prelude.{ℕ, List, eqb, ℤ, pos, neg_ℤ}
use Rattle.basis.specs.Choice.{pick}
use Rattle.basis.specs.Fields.{field}
use Rattle.block.specs.Bytes.{byte, upper, lower, decimal, binary}
use Rattle.sets.specs.declared.ChannelSet.{ChannelSet}
use Rattle.sets.specs.Descriptors.{descriptor_at, channels_in}

-- "MP is sign and magnitude in quarters": the sign in bit 0, which is the most significant
unfoldable pub quarters : ℕ → ℤ
quarters x = pick (eqb (field x 7 1) 0) (pos (field x 0 7)) (neg_ℤ (pos (field x 0 7)))

-- the fields in the order of their bytes; the exponents are MP and S/C
unfoldable pub channel_set_in : List ℕ → ChannelSet
channel_set_in d = record {
  start = binary d 3 4;
  end = binary d 5 6;
  descale = quarters (byte d 8);
  channels = channels_in d;
  channel_type = upper d 11;
  subscan_exponent = upper d 12;
  gain = lower d 12;
  alias_frequency = decimal d 13 14;
  alias_slope = decimal d 15 16;
  low_cut = decimal d 17 18;
  low_cut_slope = decimal d 19 20;
  first_notch = decimal d 21 22;
  second_notch = decimal d 23 24;
  third_notch = decimal d 25 26;
}

-- of set s of scan type t, both counting from 0
abbrev pub channel_set_of : List ℕ → ℕ → ℕ → ChannelSet
channel_set_of b t s = channel_set_in (descriptor_at b t s)
