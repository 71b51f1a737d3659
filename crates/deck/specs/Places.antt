-- The answers about places, parts, skew and time laid flat.
-- Assumes nothing.
use Rattle.std.specs.Prelude.{ℕ, ◌-◌, List, eqb, Err, Ok, Result, ⊤}
use Rattle.std.specs.Result.{result_unwrap_or}
use Rattle.refusals.specs.declared.Told.{Told}
use Rattle.refusals.specs.Table.{told}
use Rattle.general.specs.General.{skew_fields}
use Rattle.sets.specs.Samples.{samples_of}
use Rattle.layout.specs.declared.Place.{Place}
use Rattle.skew.specs.Skews.{skew_place}
use Rattle.deck.specs.declared.places.SegdIndex.{SegdIndex}
use Rattle.deck.specs.declared.places.SegdPlace.{SegdPlace}
use Rattle.deck.specs.declared.places.SegdPart.{SegdPart}
use Rattle.deck.specs.declared.places.SegdSkew.{SegdSkew}
use Rattle.deck.specs.declared.places.SegdByte.{SegdByte}
use Rattle.deck.specs.declared.places.SegdTime.{SegdTime}
use Rattle.deck.specs.Flat.{unrefused, flag, flat_fault}
use Rattle.refusals.specs.declared.Refusal.{Refusal}

-- k, or the refusal and 0
abbrev pub flat_index : Result ℕ Refusal → SegdIndex
flat_index a = record { refusal = flat_fault a; k = result_unwrap_or a 0 }

-- set, channel and subscan, 0 each
abbrev pub nowhere : Place
nowhere = record { set = 0; channel = 0; subscan = 0 }

-- a place, or the refusal and nowhere
abbrev pub flat_place_by : Told → Place → SegdPlace
flat_place_by why p = record { refusal = why; set = p.set; channel = p.channel; subscan = p.subscan }

abbrev pub flat_place : Result Place Refusal → SegdPlace
flat_place a = flat_place_by (flat_fault a) (result_unwrap_or a nowhere)

-- a part by how many bytes come before it and how many it has, where there is no fault
abbrev pub flat_part : Result ⊤ Refusal → ℕ → ℕ → SegdPart
flat_part (Ok tt) offset length = record { refusal = unrefused; offset = offset; length = length }
flat_part (Err r) offset length = record { refusal = told r; offset = 0; length = 0 }

-- the skew bytes of scan type t, counting from 1, of a block: of the sheet where SK is 0
abbrev pub flat_skew : Result ⊤ Refusal → List ℕ → ℕ → SegdSkew
flat_skew (Ok tt) b t =
    record { refusal = unrefused; of_sheet = flag (eqb (skew_fields b) 0); offset = skew_place b (t - 1); length = samples_of b (t - 1) }
flat_skew (Err r) b t = record { refusal = told r; of_sheet = 0; offset = 0; length = 0 }

-- the skew byte, or the refusal and 0
abbrev pub flat_byte : Result ℕ Refusal → SegdByte
flat_byte a = record { refusal = flat_fault a; value = result_unwrap_or a 0 }

-- the time, or the refusal and 0
abbrev pub flat_time : Result ℕ Refusal → SegdTime
flat_time a = record { refusal = flat_fault a; time = result_unwrap_or a 0 }
