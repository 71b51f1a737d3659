-- When a sample was taken. T is the timing word of its scan, in 1/256 ms.
-- Assumes nothing.
use Rattle.std.specs.Prelude.{ℕ, ◌+◌, ◌*◌, ◌-◌, ◌^◌, not, List, ltb, Err, Ok, Result, ⊤}
use Rattle.refusals.specs.declared.Refusal.TheVariants.{Index, Sheet}
use Rattle.refusals.specs.Order.{when, or_else}
use Rattle.general.specs.General.{interval_of}
use Rattle.layout.specs.Indexes.{place_fault}
use Rattle.skew.specs.Skews.{sheet_holds, skew_byte}
use Rattle.refusals.specs.declared.Refusal.{Refusal}

-- "Sample time in 1/4096 ms is 16 T + SS x I"
unfoldable pub time_by : ℕ → ℕ → ℕ → ℕ
time_by T SS I = 16 * T + SS * I

-- "Questions: header, 11, 12"; 11 too where "T asked with is 2^24 or more"
unfoldable pub time_fault : List ℕ → List ℕ → ℕ → ℕ → ℕ → Result ⊤ Refusal
time_fault b sheet t k T =
    or_else (place_fault b t k) (or_else (when (not (ltb T (2 ^ 24))) Index) (when (not (sheet_holds b sheet)) Sheet))

-- the time, or why there is none
abbrev pub time_after : Result ⊤ Refusal → ℕ → Result ℕ Refusal
time_after (Ok tt) x = Ok x
time_after (Err r) x = Err r

-- the time of sample k of scan type t, counting from 1, by its scan's T
unfoldable pub time_answer : List ℕ → List ℕ → ℕ → ℕ → ℕ → Result ℕ Refusal
time_answer b sheet t k T = time_after (time_fault b sheet t k T) (time_by T (skew_byte b sheet (t - 1) k) (interval_of b))
