-- "Fit states are one written definition": the states that a caller may hand in.
-- Assumes nothing.
use Rattle.std.specs.Prelude.{ℕ, ◌-◌, ◌%◌, ◌≤◌, ◌≡◌, Bool, true, ◌&&◌, eqb, ltb, leb}
use Rattle.basis.specs.Choice.{◌and◌, ◌or◌}
use Rattle.codes.specs.Codes.{group_of}
use Rattle.scan.specs.declared.State.{State}
use Rattle.scan.specs.declared.Shape.{Shape}
use Rattle.scan.specs.declared.Track.{Track}

-- w is the bytes of a group of words, 0 where the code has none: there are words, and after its start a scan has a whole number of their groups
unfoldable pub wholeb : ℕ → ℕ → Bool
wholeb scan w = ltb 0 w and eqb ((scan - 8) % w) 0

-- a multiplexed code; an advance in the top three bytes, at most that of I 128; ST/R 1 to 99; S/B x 2^S/BX up to 255 x 2^15
unfoldable pub limitsb : Shape → Bool
limitsb h =
    ltb h.code 0x8000 && eqb (h.advance % 256) 0 && leb h.advance 524288 && leb 1 h.types && leb h.types 99 && leb h.block 8355840

-- bounds that every accepted header keeps to; not every shape within them is a header's
unfoldable pub shape_by : Shape → ℕ → Bool
shape_by h w = leb 8 h.scan and leb h.scan 999999 and wholeb h.scan w and limitsb h

-- the groups are those of the code
unfoldable pub shapeb : Shape → Bool
shapeb h = shape_by h (group_of h.code)

-- no stop, or one of "14 to 18 stop the body"
unfoldable pub stopb : ℕ → Bool
stopb n = eqb n 0 or (leb 14 n and leb n 18)

-- bounds of what the starts of the scans tell
unfoldable pub trackb : Track → ℕ → Bool
trackb k types = leb k.seen types && leb k.itb 1 && leb k.twi 1

-- no more block ends or off-rule words than bytes, a stop no later than they; four exponents of 4 bits
unfoldable pub countsb : State → Bool
countsb s = leb s.ends s.place && leb s.off s.place && leb s.stopat s.place && leb s.exponents 65535

-- everything that a fit state keeps to, its words in groups of w bytes
unfoldable pub fit_by : State → ℕ → Bool
fit_by s w = countsb s && trackb s.track s.shape.types && stopb s.stop && shape_by s.shape w

-- the fit states; STATE is for all others
unfoldable pub fitb : State → Bool
fitb s = fit_by s (group_of s.shape.code)

-- no second definition: the same as facts for contracts and proofs to cite; `fit_of` and `of_fit` show that it is
pub record Fit (s : State) : Type 0 where
  pub ends : s.ends ≤ s.place
  pub off : s.off ≤ s.place
  pub seen : s.track.seen ≤ s.shape.types
  pub itb : s.track.itb ≤ 1
  pub twi : s.track.twi ≤ 1
  pub exponents : s.exponents ≤ 65535
  pub stopat : s.stopat ≤ s.place
  pub stop : stopb s.stop ≡ true
  pub shape : shapeb s.shape ≡ true
  pub scan : 8 ≤ s.shape.scan
  pub types : s.shape.types ≤ 99
  pub some : 1 ≤ s.shape.types
