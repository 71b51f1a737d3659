-- `skew::skew_byte` meets its contract.
-- Assumes nothing.
use native.Mathlib.Omega.{arith}
use Rattle.skew.specs.Skews.{skew_byte}
use Rattle.skew.proofs.Fits.{byte_asked, asked_fits, lent_bytes}
use Rattle.skew.proofs.skew_byte.Goals as goal

pub overflow_sub-scan_type : goal.overflow_sub-scan_type
overflow_sub-scan_type c = omega (arith, (byte_asked _ _ _ _ c.requires).0.least)

pub overflow_cast-scan_type : goal.overflow_cast-scan_type
overflow_cast-scan_type c = omega (arith, (byte_asked _ _ _ _ c.requires).0.small)

pub bounds-lent-i : goal.bounds-lent-i
bounds-lent-i c = let f = byte_asked _ _ _ _ c.requires in rw (lent_bytes _ _ _ _ _ _ c.lent.ensures) (omega (arith, c.skew_place.ensures.0, asked_fits _ _ _ f.0, f.1))

pub returns : goal.returns
unfolding skew_byte
returns c = rw (lent_bytes _ _ _ _ _ _ c.lent.ensures, c.skew_place.ensures.0)
