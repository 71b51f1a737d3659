-- The states that a caller may hand in with a header block: one definition.
-- Assumes nothing.
use Rattle.std.specs.Prelude.{ℕ, ◌+◌, ◌-◌, ◌≤◌, ◌≡◌, Bool, true, ◌&&◌, ◌||◌, List, eqb, leb}
use Rattle.basis.specs.Choice.{◌and◌, ◌or◌}
use Rattle.general.specs.General.{code_of}
use Rattle.turns.specs.Turns.{trace_count}
use Rattle.trace.specs.declared.State.{State}

-- no stop, or one of 8, 14, 15, 24, 25
unfoldable pub stopb : ℕ → Bool
stopb n = (eqb n 0 || eqb n 8) or (eqb n 14 || eqb n 15 || eqb n 24 || eqb n 25)

-- r bytes came before the present trace: no fewer than ends and scans; no sample, off-rule word or scan without a byte; four exponents of 4 bits
unfoldable pub restb : State → ℕ → Bool
restb s r =
    leb s.ends r && leb s.scans r && leb s.present s.place && leb s.samples s.place && leb s.off s.place
    && leb s.stopat s.place && leb s.exponents 65535

unfoldable pub boundsb : State → Bool
boundsb s = leb s.at s.place and restb s (s.place - s.at)

-- a state of this header block, of so many traces: of its code, which is one of 80xx, and with no more ends than traces
unfoldable pub own_by : List ℕ → State → ℕ → Bool
own_by b s traces = eqb s.code (code_of b) && leb 0x8000 s.code && leb s.ends traces

-- the states fit for a header block of so many traces
unfoldable pub fit_by : List ℕ → State → ℕ → Bool
fit_by b s traces = boundsb s && stopb s.stop && own_by b s traces

-- the states fit for a header block; STATE is for all others
unfoldable pub fitb : List ℕ → State → Bool
fitb b s = fit_by b s (trace_count b)

-- the same as facts
pub record Fit (b : List ℕ) (s : State) : Type 0 where
  pub ends : s.ends + s.at ≤ s.place
  pub scans : s.scans + s.at ≤ s.place
  pub present : s.present ≤ s.place
  pub samples : s.samples ≤ s.place
  pub off : s.off ≤ s.place
  pub stopat : s.stopat ≤ s.place
  pub exponents : s.exponents ≤ 65535
  pub stop : stopb s.stop ≡ true
  pub code : s.code ≡ code_of b
  pub demuxed : 0x8000 ≤ s.code
  pub traces : s.ends ≤ trace_count b
