-- "What is turned away": the number of each refusal, and the values that its row names; and the refusal of a stop, by its number and place.
-- Assumes nothing.
use Rattle.std.specs.Prelude.{ℕ, List, [], ◌∷◌, eqb, get_or}
use Rattle.basis.specs.Choice.{pick}
use Rattle.refusals.specs.declared.Refusal.{Refusal}
use Rattle.refusals.specs.declared.Told.{Told}
use Rattle.refusals.specs.declared.Refusal.TheVariants.{Short, Format, Demux, Digit, Range, Length, Descriptor, Four, Size, Skew, Index, Sheet, Room, Long, Block, Sync, Timing, Phase, Part, Open, Missing, Large, State, FourAt, Trace, Count}

-- a row's number, and its values in the row's order
pub record Said : Type 0 where
  pub number : ℕ
  pub values : List ℕ

-- the row of a number and values
abbrev row : ℕ → List ℕ → Said
row n vs = record { number = n; values = vs }

-- each row of the table
abbrev pub said : Refusal → Said
said Short = row 1 []
said Format = row 2 []
said Demux = row 3 []
said Digit = row 4 []
said Range = row 5 []
said Length = row 6 []
said (Descriptor t s) = row 7 (t ∷ s ∷ [])
said (Four t s) = row 8 (t ∷ s ∷ [])
said (Size t) = row 9 (t ∷ [])
said Skew = row 10 []
said Index = row 11 []
said Sheet = row 12 []
said Room = row 13 []
said (Long p) = row 14 (p ∷ [])
said (Block p) = row 15 (p ∷ [])
said (Sync p) = row 16 (p ∷ [])
said (Timing p) = row 17 (p ∷ [])
said (Phase p) = row 18 (p ∷ [])
said Part = row 19 []
said Open = row 20 []
said Missing = row 21 []
said Large = row 22 []
said State = row 23 []
said (FourAt p t s) = row 8 (t ∷ s ∷ p ∷ [])
said (Trace p) = row 24 (p ∷ [])
said (Count p) = row 25 (p ∷ [])

-- the same as four numbers
abbrev pub told : Refusal → Told
told r = record { number = (said r).number; first = get_or (said r).values 0 0; second = get_or (said r).values 1 0; third = get_or (said r).values 2 0 }

-- "14 to 18 stop the body at a place", and of a trace body FOUR, 24 and 25 do: the place that a stop names, by case; 0 for what stops nothing
abbrev pub stop_place : Refusal → ℕ
stop_place (Long p) = p
stop_place (Block p) = p
stop_place (Sync p) = p
stop_place (Timing p) = p
stop_place (Phase p) = p
stop_place (FourAt p t s) = p
stop_place (Trace p) = p
stop_place (Count p) = p
stop_place Short = 0
stop_place Format = 0
stop_place Demux = 0
stop_place Digit = 0
stop_place Range = 0
stop_place Length = 0
stop_place (Descriptor t s) = 0
stop_place (Four t s) = 0
stop_place (Size t) = 0
stop_place Skew = 0
stop_place Index = 0
stop_place Sheet = 0
stop_place Room = 0
stop_place Part = 0
stop_place Open = 0
stop_place Missing = 0
stop_place Large = 0
stop_place State = 0

-- the refusal of a stop whose row names its place alone, 14 to 18, 24 and 25, by its number and place; PHASE for 18 and for any other number
unfoldable pub stop_refusal : ℕ → ℕ → Refusal
stop_refusal number place =
    pick (eqb number 14) (Long place)
    (pick (eqb number 15) (Block place)
    (pick (eqb number 16) (Sync place)
    (pick (eqb number 17) (Timing place)
    (pick (eqb number 24) (Trace place)
    (pick (eqb number 25) (Count place) (Phase place))))))
