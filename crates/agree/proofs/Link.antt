-- What a body of scans takes of an accepted header block: the rules' shape of the block is that of a plan.
-- Assumes nothing.
use Rattle.std.specs.Prelude.{Ok}
use Prim.Native.Nat.{ℕ, ◌*◌, ◌/◌, ◌<◌}
use mathlib.Core.Path.{◌≡◌}
use mathlib.Core.List.{List}
use native.Mathlib.Nat.{div-add-mod'}
use native.Mathlib.Omega.{arith}
use Rattle.codes.specs.Codes.{per_of, lead_of, word_bytes_of}
use Rattle.general.specs.General.{code_of, bytes_per_scan, interval_of, scan_types, scans_per_block}
use Rattle.sets.specs.Samples.{samples_of}
use Rattle.header.specs.Faults.{header_fault}
use Rattle.header.proofs.Sizes.{Grouped}
use Rattle.header.proofs.Accepted.{first_type, scan_in_groups}
use Rattle.rules.specs.Scans.{shape_of}
use Rattle.agree.proofs.Plans.{Plan, scan, shape_in}

abbrev pub plan_of : List ℕ → Plan
plan_of b = record { code = code_of b; groups = samples_of b 0 / per_of (code_of b); interval = interval_of b; types = scan_types b; block = scans_per_block b }

module _ (b : List ℕ) (clear : header_fault b ≡ Ok tt) (m : code_of b < 0x8000) where
  in_groups : Grouped (bytes_per_scan b) (samples_of b 0) (per_of (code_of b)) (lead_of (code_of b)) (word_bytes_of (code_of b))
  in_groups = scan_in_groups b clear m 0 (first_type b clear)

  pub scan_same : bytes_per_scan b ≡ scan (plan_of b)
  scan_same = in_groups.size

  pub shape_same : shape_of b ≡ shape_in (plan_of b)
  shape_same = λ i. record { code = code_of b; scan = scan_same i; samples = whole i; interval = interval_of b; types = scan_types b; block = scans_per_block b }
    where
      whole : samples_of b 0 ≡ samples_of b 0 / per_of (code_of b) * per_of (code_of b)
      whole = omega (arith, in_groups.whole, div-add-mod' (samples_of b 0) (per_of (code_of b)))
