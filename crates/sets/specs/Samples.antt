-- How many samples a scan has. Scan type t and set s count from 0.
-- Assumes nothing.
use Rattle.std.specs.Prelude.{ℕ, ◌*◌, ◌^◌, List}
use Rattle.basis.specs.Upto.{sum_upto}
use Rattle.block.specs.Bytes.{upper}
use Rattle.general.specs.General.{channel_sets}
use Rattle.sets.specs.Descriptors.{descriptor_at, channels_in}

-- a set's channels, and its subscans 2^(S/C)
abbrev pub channels_of : List ℕ → ℕ → ℕ → ℕ
channels_of b t s = channels_in (descriptor_at b t s)

abbrev pub subscans_of : List ℕ → ℕ → ℕ → ℕ
subscans_of b t s = 2 ^ upper (descriptor_at b t s) 12

-- "channels x 2^(S/C)"
unfoldable pub set_samples : List ℕ → ℕ → ℕ → ℕ
set_samples b t s = channels_of b t s * subscans_of b t s

-- samples of the first n sets
abbrev pub samples_before : List ℕ → ℕ → ℕ → ℕ
samples_before b t n = sum_upto (set_samples b t) n

-- E1: "S/S = sum over channel sets"
unfoldable pub samples_of : List ℕ → ℕ → ℕ
samples_of b t = samples_before b t (channel_sets b)
