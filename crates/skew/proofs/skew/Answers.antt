-- `skew::skew` meets its contract.
-- Assumes nothing.
use mathlib.Core.Path.{sym}
use native.Mathlib.Nat.{zero-add}
use native.Mathlib.Omega.{arith}
use Rattle.parts.specs.Slices.{part}
use Rattle.skew.specs.Skews.{skew_part}
use Rattle.skew.proofs.Fits.{skew_asked, asked_fits}
use Rattle.skew.proofs.skew.Goals as goal

pub overflow_sub-scan_type : goal.overflow_sub-scan_type
overflow_sub-scan_type c = omega (arith, (skew_asked _ _ _ (sym c.in-Ok.ensures)).least)

pub overflow_cast-scan_type : goal.overflow_cast-scan_type
overflow_cast-scan_type c = omega (arith, (skew_asked _ _ _ (sym c.in-Ok.ensures)).small)

pub skew_bytes-requires : goal.skew_bytes-requires
skew_bytes-requires c = asked_fits _ _ _ (skew_asked _ _ _ (sym c.in-Ok.ensures))

pub returns-in-Err : goal.returns-in-Err
unfolding skew_part part
returns-in-Err c = rw (← c.skew_fault.ensures, c.in-Err.is, zero-add)

pub returns-in-Ok : goal.returns-in-Ok
unfolding skew_part
returns-in-Ok c = rw (← c.skew_fault.ensures, c.in-Ok.is) c.skew_bytes.ensures
