-- "Each answers its number and the values its row names": the stops of a trace body.
-- Assumes nothing.
use Rattle.std.specs.Prelude.{ℕ, ◌+◌, List, [], ◌∷◌}
use Rattle.refusals.specs.Table.{Said}
use Rattle.turns.specs.Turns.{turn_at}

-- a row's number, and the values that it names
abbrev no : ℕ → List ℕ → Said
no n values = record { number = n; values = values }

-- What stops a trace body at place p, in trace i, which counts from 0: LONG, BLOCK, TRACE and COUNT with the place; FOUR with its row's two numbers, the trace's scan type and
-- set, which the page counts from 1, and the place.
pub data StopTold (b : List ℕ) (i p : ℕ) : Said → Type 0 where
  long : StopTold b i p (no 14 (p ∷ []))
  block : StopTold b i p (no 15 (p ∷ []))
  trace : StopTold b i p (no 24 (p ∷ []))
  count : StopTold b i p (no 25 (p ∷ []))
  four : StopTold b i p (no 8 (((turn_at b i).scan_type + 1) ∷ ((turn_at b i).set + 1) ∷ p ∷ []))
