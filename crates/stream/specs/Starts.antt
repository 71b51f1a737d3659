-- A scan's start, whose eight bytes are taken at once: where they may be, and the state before the last of them.
-- Cited by private functions alone. Assumes nothing.
use Rattle.std.specs.Prelude.{◌≡◌, ℕ, ◌+◌, ◌-◌, ◌%◌, ◌<◌, ◌≤◌, Bool, true, false, ◌&&◌, List, length, ◌==◌, ◌≢◌}
use Rattle.basis.specs.Choice.{pick}
use Rattle.basis.specs.Digits.{written, byte_in}
use Rattle.codes.specs.Codes.{group_of}
use Rattle.scan.specs.declared.State.{State}
use Rattle.scan.specs.Fit.{Fit}
use Rattle.scan.specs.Step.{moved_by, full, typed, phased, instep}
use Rattle.stream.specs.Bulk.{Able}

-- the state before byte 8 of a scan that begins at byte i
unfoldable pub seventh : State → List ℕ → ℕ → State
seventh s bs i =
    moved_by s 7 (typed s.track (byte_in bs (i + 3))) s.exponents s.off (written 256 (byte_in bs) (i + 3) 4)

-- FF FF FF, and a byte with last bits 01
unfoldable pub synced : List ℕ → ℕ → Bool
synced bs i =
    (byte_in bs i == 255) && byte_in bs (i + 1) == 255 && byte_in bs (i + 2) == 255 && byte_in bs (i + 3) % 4 == 1

-- none of BLOCK, SYNC, PHASE and TIMING
unfoldable pub soundb : State → List ℕ → ℕ → Bool
soundb s bs i =
    pick (full s.shape s.place s.ends)
    false
    (pick (synced bs i)
    (pick (phased s.track s.shape.types (byte_in bs (i + 3))) (instep (seventh s bs i) (byte_in bs (i + 7))) false)
    false)

-- the eight bytes from i on are the start of the next scan, and stop nothing
pub record Sound (s : State) (bs : List ℕ) (i : ℕ) : Type 0 where
  pub fit : Fit s
  pub stop : s.stop ≡ 0
  pub first : s.place % s.shape.scan ≡ 0
  pub long : s.place + 8 ≤ 4294967295
  pub whole : i + 8 ≤ length bs
  pub right : soundb s bs i ≡ true

-- k bytes from i on may be taken at once: at a scan's first place its start, else whole words
pub record Takes (s : State) (w : ℕ) (bs : List ℕ) (i k : ℕ) : Type 0 where
  pub start : s.place % s.shape.scan ≡ 0 → (k ≡ 8) × Sound s bs i
  pub words : (s.place % s.shape.scan ≢ 0) → Able s w k

-- r of the bytes from i on, possibly none, may be taken at once
pub record Next (s : State) (bs : List ℕ) (i r : ℕ) : Type 0 where
  pub within : r ≤ length bs - i
  pub takes : 0 < r → Takes s (group_of s.shape.code) bs i r
