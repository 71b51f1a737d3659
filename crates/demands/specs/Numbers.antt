-- "What is turned away": the number of each refusal and the values that its row names, in the order of the description's table. The rules and
-- the contracts speak of refusals by name, and a name answers the number and the values that `said` gives it: these are the table's.
-- Assumes nothing.
use Rattle.std.specs.Prelude.{ℕ, List, [], ◌∷◌, get_or}
use Rattle.refusals.specs.declared.Refusal.{Refusal}
use Rattle.refusals.specs.declared.Refusal.TheVariants as refusal
use Rattle.refusals.specs.declared.Told.{Told}
use Rattle.refusals.specs.Table.{Said}

-- a row's number, and the values that it names
abbrev no : ℕ → List ℕ → Said
no n values = record { number = n; values = values }

-- the table, a line for each row
abbrev pub numbered : Refusal → Said
numbered refusal.Short = no 1 []
numbered refusal.Format = no 2 []
numbered refusal.Demux = no 3 []
numbered refusal.Digit = no 4 []
numbered refusal.Range = no 5 []
numbered refusal.Length = no 6 []
-- "with scan type and set by place", "with both numbers", "with the first such scan type"
numbered (refusal.Descriptor scan_type set) = no 7 (scan_type ∷ set ∷ [])
numbered (refusal.Four scan_type set) = no 8 (scan_type ∷ set ∷ [])
numbered (refusal.Size scan_type) = no 9 (scan_type ∷ [])
numbered refusal.Skew = no 10 []
numbered refusal.Index = no 11 []
numbered refusal.Sheet = no 12 []
numbered refusal.Room = no 13 []
-- "14 to 18 stop the body at a place"
numbered (refusal.Long place) = no 14 (place ∷ [])
numbered (refusal.Block place) = no 15 (place ∷ [])
numbered (refusal.Sync place) = no 16 (place ∷ [])
numbered (refusal.Timing place) = no 17 (place ∷ [])
numbered (refusal.Phase place) = no 18 (place ∷ [])
numbered refusal.Part = no 19 []
numbered refusal.Open = no 20 []
numbered refusal.Missing = no 21 []
numbered refusal.Large = no 22 []
numbered refusal.State = no 23 []
-- of a trace body: "both stop, as FOUR does", 8 with the trace's scan type and set, and then its place; "24 TRACE at the first wrong trace header byte"; "25 COUNT at a block end"
numbered (refusal.FourAt place scan_type set) = no 8 (scan_type ∷ set ∷ place ∷ [])
numbered (refusal.Trace place) = no 24 (place ∷ [])
numbered (refusal.Count place) = no 25 (place ∷ [])

-- a row as four numbers, which the calls answer: its number and the first, second and third value that it names, and 0 where it names none
abbrev pub in_four : Said → Told
in_four s = record { number = s.number; first = get_or s.values 0 0; second = get_or s.values 1 0; third = get_or s.values 2 0 }
