-- Which sample of a scan is which: its number k, and its set, channel and subscan.
-- Scan type t, set s and channel c count from 1 (where a line says so, from 0), subscan u and sample k from 0.
-- Assumes nothing.
use Rattle.std.specs.Prelude.{ℕ, ◌+◌, ◌*◌, ◌-◌, ◌/◌, ◌%◌, Bool, not, ◌&&◌, List, leb, ltb, Err, Ok, Result, ⊤}
use Rattle.basis.specs.Choice.{pick, ◌and◌}
use Rattle.basis.specs.Upto.{sum_upto}
use Rattle.refusals.specs.declared.Refusal.TheVariants as refusals
use Rattle.refusals.specs.Order.{when, or_else}
use Rattle.general.specs.General.{scan_types, channel_sets, within}
use Rattle.sets.specs.Samples.{channels_of, subscans_of, set_samples, samples_before, samples_of}
use Rattle.header.specs.Faults.{header_fault}
use Rattle.header.specs.Answers.{is_set}
use Rattle.layout.specs.declared.Place.{Place}
use Rattle.refusals.specs.declared.Refusal.{Refusal}

-- there is such a scan type, set, channel and subscan
unfoldable pub has_place : List ℕ → ℕ → ℕ → ℕ → ℕ → Bool
has_place b t s c u =
    is_set b t s and (within 1 c (channels_of b (t - 1) (s - 1)) && ltb u (subscans_of b (t - 1) (s - 1)))

-- "sets in order; in a set, subscans from 0; in a subscan, channels from 1"
unfoldable pub index_of : List ℕ → ℕ → ℕ → ℕ → ℕ → ℕ
index_of b t s c u = samples_before b (t - 1) (s - 1) + (u * channels_of b (t - 1) (s - 1) + (c - 1))

-- "Questions: header, 11"
unfoldable pub index_fault : List ℕ → ℕ → ℕ → ℕ → ℕ → Result ⊤ Refusal
index_fault b t s c u = or_else (header_fault b) (when (not (has_place b t s c u)) refusals.Index)

-- the index, or why there is none
abbrev pub index_after : Result ⊤ Refusal → ℕ → Result ℕ Refusal
index_after (Ok tt) k = Ok k
index_after (Err r) k = Err r

-- which k a set's channel and subscan is
unfoldable pub index_answer : List ℕ → ℕ → ℕ → ℕ → ℕ → Result ℕ Refusal
index_answer b t s c u = index_after (index_fault b t s c u) (index_of b t s c u)

-- 1 where every sample of set s, counting from 0, comes before sample k, of sets that have f 0, f 1, .. samples
unfoldable pub passed : (ℕ → ℕ) → ℕ → ℕ → ℕ
passed f k s = pick (leb (sum_upto f (s + 1)) k) 1 0

-- the set of sample k among n sets, counting from 0: as many as lie wholly before it
unfoldable pub set_at : (ℕ → ℕ) → ℕ → ℕ → ℕ
set_at f k n = sum_upto (passed f k) n

-- the set of sample k of scan type t, both counting from 0
unfoldable pub set_of : List ℕ → ℕ → ℕ → ℕ
set_of b t k = set_at (set_samples b t) k (channel_sets b)

-- there is such a scan type and sample
unfoldable pub has_sample : List ℕ → ℕ → ℕ → Bool
has_sample b t k = within 1 t (scan_types b) and ltb k (samples_of b (t - 1))

-- a place by its set, channel and subscan
abbrev pub spot : ℕ → ℕ → ℕ → Place
spot s c u = record { set = s; channel = c; subscan = u }

-- sample j of set s of scan type t, all counting from 0: its subscan is how often the set's channels were gone through before it
abbrev pub sits : List ℕ → ℕ → ℕ → ℕ → Place
sits b t s j = spot (s + 1) (j % channels_of b t s + 1) (j / channels_of b t s)

-- the place of sample k of scan type t, t counting from 0
unfoldable pub spot_of : List ℕ → ℕ → ℕ → Place
spot_of b t k = sits b t (set_of b t k) (k - samples_before b t (set_of b t k))

-- "Questions: header, 11"
unfoldable pub place_fault : List ℕ → ℕ → ℕ → Result ⊤ Refusal
place_fault b t k = or_else (header_fault b) (when (not (has_sample b t k)) refusals.Index)

-- the place, or why there is none
abbrev pub place_after : Result ⊤ Refusal → Place → Result Place Refusal
place_after (Ok tt) p = Ok p
place_after (Err r) p = Err r

-- which set, channel and subscan sample k is
unfoldable pub place_answer : List ℕ → ℕ → ℕ → Result Place Refusal
place_answer b t k = place_after (place_fault b t k) (spot_of b (t - 1) k)
