-- What is wrong with a byte, or with a block end: 14 to 18. A byte stands at place p, a block end after p bytes, in block i, which begins at place s.
-- Assumes nothing.
use Rattle.std.specs.Prelude.{ℕ, ◌+◌, ◌*◌, ◌/◌, ◌%◌, Bool, not, eqb, ltb, leb, Result, ⊤}
use Rattle.basis.specs.Choice.{◌and◌, ◌or◌}
use Rattle.refusals.specs.declared.Refusal.TheVariants.{Long, Block, Sync, Timing, Phase}
use Rattle.refusals.specs.Order.{when, or_else}
use Rattle.rules.specs.Scans.{Shape, start_wrong, zero_wrong, phase_wrong, step_wrong}
use Rattle.refusals.specs.declared.Refusal.{Refusal}

module _ (sh : Shape) (byte : ℕ → ℕ) where
  -- where a full block ends: "every block holds exactly S/B x 2^S/BX scans"
  abbrev pub block_limit : ℕ → ℕ
  block_limit s = s + sh.block * sh.scan

  -- the body is over, and no byte may follow: "after a one-block body's end"
  abbrev pub over_at : ℕ → Bool
  over_at i = eqb sh.block 0 and ltb 0 i

  -- "after the last allowed scan of a block"
  abbrev pub full_at : ℕ → ℕ → Bool
  full_at s p = not (eqb sh.block 0) and leb (block_limit s) p

  -- "after a wrong number of scans"
  abbrev pub wrong_count : ℕ → ℕ → Bool
  wrong_count s p = not (eqb sh.block 0) and not (eqb p (block_limit s))

  -- byte n of scan j: 16, 18, 17
  abbrev pub scan_fault : ℕ → ℕ → ℕ → Result ⊤ Refusal
  scan_fault j n p =
      or_else (when (start_wrong n (byte p)) (Sync p))
      (or_else (when (eqb n 4 and phase_wrong sh byte j) (Phase p))
      (when (zero_wrong n (byte p) or (eqb n 8 and step_wrong sh byte j)) (Timing p)))

  -- "per byte 14, 15, 16, 18, 17"
  unfoldable pub byte_fault : ℕ → ℕ → ℕ → Result ⊤ Refusal
  byte_fault i s p =
      or_else (when (eqb p 4294967295) (Long p))
      (or_else (when (over_at i or full_at s p) (Block p))
      (scan_fault (p / sh.scan) (p % sh.scan + 1) p))

  -- "block end inside a scan, on an empty block or after a wrong number of scans"
  unfoldable pub end_fault : ℕ → ℕ → ℕ → Result ⊤ Refusal
  end_fault i s p = when (not (eqb (p % sh.scan) 0) or eqb p s or wrong_count s p) (Block p)
