-- "the place of each sample by scan type, channel set, channel and subscan (and the sample at each place)", of a trace: "Sample i of a trace is subscan i % 2^(S/C) of scan i / 2^(S/C)".
-- Scan type, set and channel count from 1 in an answer; traces, samples, scans and subscans from 0.
-- Assumes nothing.
use Rattle.std.specs.Prelude.{ℕ, ◌+◌, ◌*◌, ◌-◌, ◌≤◌, ◌<◌, ◌≡◌, List, Ok}
use Rattle.general.specs.General.{code_of}
use Rattle.sets.specs.Samples.{subscans_of}
use Rattle.header.specs.Faults.{header_fault}
use Rattle.turns.specs.Turns.{trace_count}
use Rattle.turns.specs.Places.{owner, placed_at}
use Rattle.trace_demands.specs.Order.{HasChannel, trace_of}

-- trace j is asked about: its header is accepted, demultiplexed, and has it
pub record Asked (b : List ℕ) (j : ℕ) : Type 0 where
  pub accepted : header_fault b ≡ Ok tt
  pub demultiplexed : 0x8000 ≤ code_of b
  pub there : j < trace_count b

-- the scan type, set, channel and subscan are there, and the trace and the sample are theirs
pub record Its (b : List ℕ) (j i t s c n u : ℕ) : Type 0 where
  pub channel : HasChannel b (t - 1) (s - 1) (c - 1)
  pub from_one : (1 ≤ t) × (1 ≤ s) × (1 ≤ c)
  pub subscan : u < subscans_of b (t - 1) (s - 1)
  pub trace : trace_of b (t - 1) (s - 1) (c - 1) ≡ j
  pub sample : n * subscans_of b (t - 1) (s - 1) + u ≡ i

-- the question and the place are each the other's inverse
pub record Placing (b : List ℕ) : Type 0 where
  pub back : (j i t s c n u : ℕ) → placed_at b j i ≡ Ok (owner t s c n u) → Asked b j × Its b j i t s c n u
  pub forth : (j i t s c n u : ℕ) → Asked b j → Its b j i t s c n u → placed_at b j i ≡ Ok (owner t s c n u)
