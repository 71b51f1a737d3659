-- What makes the two questions one numbering of a scan's samples: each is the other's inverse, and every k below S/S is reached.
-- Assumes nothing.
use Rattle.std.specs.Prelude.{ℕ, ◌-◌, ◌≤◌, ◌<◌, ◌≡◌, List, Ok}
use Rattle.general.specs.General.{scan_types}
use Rattle.sets.specs.Samples.{samples_of}
use Rattle.header.specs.Faults.{header_fault}
use Rattle.layout.specs.Indexes.{spot, index_answer, place_answer}

-- the set, channel and subscan that a k stands for
pub record Reached (b : List ℕ) (t k : ℕ) : Type 0 where
  pub set : ℕ
  pub channel : ℕ
  pub subscan : ℕ
  pub index : index_answer b t set channel subscan ≡ Ok k
  pub place : place_answer b t k ≡ Ok (spot set channel subscan)

-- the two questions of a block are each the other's inverse
pub record Inverse (b : List ℕ) : Type 0 where
  pub back : (t s c u k : ℕ) → index_answer b t s c u ≡ Ok k → place_answer b t k ≡ Ok (spot s c u)
  pub forth : (t s c u k : ℕ) → place_answer b t k ≡ Ok (spot s c u) → index_answer b t s c u ≡ Ok k
  -- in an accepted header no k below S/S is left out, and none at S/S or above is reached; by `back` each is reached once
  pub reached : header_fault b ≡ Ok tt → (t k : ℕ) → 1 ≤ t → t ≤ scan_types b → k < samples_of b (t - 1) → Reached b t k
  pub below : (t s c u k : ℕ) → index_answer b t s c u ≡ Ok k → k < samples_of b (t - 1)
