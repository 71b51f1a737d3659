-- Each refusal answers what the table says of it, row by row.
-- Assumes nothing.
use mathlib.Core.Path.{◌≡◌, refl, ap}
use Rattle.refusals.specs.declared.Refusal.{Refusal}
use Rattle.refusals.specs.declared.Refusal.TheVariants as refusal
use Rattle.refusals.specs.Table.{said, told}
use Rattle.demands.specs.Numbers.{numbered, in_four}

pub numbers : (r : Refusal) → said r ≡ numbered r
numbers refusal.Short = refl
numbers refusal.Format = refl
numbers refusal.Demux = refl
numbers refusal.Digit = refl
numbers refusal.Range = refl
numbers refusal.Length = refl
numbers (refusal.Descriptor a b) = refl
numbers (refusal.Four a b) = refl
numbers (refusal.Size a) = refl
numbers refusal.Skew = refl
numbers refusal.Index = refl
numbers refusal.Sheet = refl
numbers refusal.Room = refl
numbers (refusal.Long a) = refl
numbers (refusal.Block a) = refl
numbers (refusal.Sync a) = refl
numbers (refusal.Timing a) = refl
numbers (refusal.Phase a) = refl
numbers refusal.Part = refl
numbers refusal.Open = refl
numbers refusal.Missing = refl
numbers refusal.Large = refl
numbers refusal.State = refl
numbers (refusal.FourAt a b c) = refl
numbers (refusal.Trace a) = refl
numbers (refusal.Count a) = refl

pub four : (r : Refusal) → told r ≡ in_four (numbered r)
four r = ap in_four (numbers r)
