-- What one byte of a body does to the reader's state: "then per byte 14, 15, 16, 18, 17".
-- Assumes nothing.
use Rattle.std.specs.Prelude.{ℕ, ◌+◌, ◌-◌, ◌*◌, ◌/◌, ◌%◌, ◌^◌, Bool, List, [], ◌∷◌, ◌++◌, ℤ, eqb, ltb, leb, Option, None, Some}
use Rattle.basis.specs.Choice.{pick, ◌and◌, ◌or◌}
use Rattle.basis.specs.Fields.{field}
use Rattle.codes.specs.Codes.{group_of}
use Rattle.words.specs.Words.{value_of, off_one}
use Rattle.words.specs.declared.Value.{Value}
use Rattle.scan.specs.declared.Shape.{Shape}
use Rattle.scan.specs.declared.Track.{Track}
use Rattle.scan.specs.declared.State.{State}
use Rattle.scan.specs.declared.Stepped.{Stepped}

-- a state as it is, with nothing written
unfoldable pub still : {S : Type 0} → S → Stepped S
still s = record { state = s; value = None }

-- "14 to 18 stop the body at a place counted from 0"
unfoldable pub halted : State → ℕ → State
halted s number =
    record {
      shape = s.shape;
      place = s.place;
      ends = s.ends;
      off = s.off;
      track = s.track;
      held = s.held;
      exponents = s.exponents;
      stop = number;
      stopat = s.place;
    }

-- a byte that stops the body writes nothing
unfoldable pub halt : State → ℕ → Stepped State
halt s number = still (halted s number)

-- the last four bytes, after one more
unfoldable pub shift : ℕ → ℕ → ℕ
shift held b = held % 16777216 * 256 + b

-- the last w of them
unfoldable pub low : ℕ → ℕ → ℕ
low held w = held % 256 ^ w

-- a state j bytes on, with what the scan starts told by then, the exponents, the off-rule words and the last four bytes
unfoldable pub moved_by : State → ℕ → Track → ℕ → ℕ → ℕ → State
moved_by s j k e off held =
    record {
      shape = s.shape;
      place = s.place + j;
      ends = s.ends;
      off = off;
      track = k;
      held = held;
      exponents = e;
      stop = s.stop;
      stopat = s.stopat;
    }

-- one byte on
unfoldable pub moved : State → Track → ℕ → ℕ → ℕ → State
moved s k e off b = moved_by s 1 k e off (shift s.held b)

-- a byte that tells nothing by itself
unfoldable pub quiet : State → ℕ → Stepped State
quiet s b = still (moved s s.track s.exponents s.off b)

-- BLOCK: "a byte after the last allowed scan of a block, or after a one-block body's end"
unfoldable pub full : Shape → ℕ → ℕ → Bool
full h place ends = pick (eqb h.block 0) (leb 1 ends) (ltb ends (place / h.scan / h.block))

-- bytes 1 to 3 of a scan: FF FF FF
unfoldable pub sync : State → ℕ → Stepped State
sync s b = pick (eqb b 255) (quiet s b) (halt s 16)

-- byte 1: BLOCK, then SYNC
unfoldable pub start : State → ℕ → Stepped State
start s b = pick (full s.shape s.place s.ends) (halt s 15) (sync s b)

-- the scan type by byte 4, after scan type n: "DP is 0 in scan type 1 and flips with each next scan type"
unfoldable pub seen : ℕ → ℕ → ℕ
seen n b = pick (eqb n 0) 1 (pick (eqb (field b 4 1) ((n + 1) % 2)) n (n + 1))

-- byte 4 tells the scan type, and that of the first scan ITB
unfoldable pub typed : Track → ℕ → Track
typed k b =
    record { timing = k.timing; seen = seen k.seen b; itb = pick (eqb k.seen 0) (field b 5 1) k.itb; twi = k.twi; window = k.window }

-- no PHASE, which is "first DP is 1, or a flip past the last scan type"
unfoldable pub phased : Track → ℕ → ℕ → Bool
phased k types b = pick (eqb k.seen 0) (eqb (field b 4 1) 0) (leb (typed k b).seen types)

-- byte 4: "a byte with last bits 01"
unfoldable pub phase : State → ℕ → Stepped State
phase s b =
    pick (eqb (b % 4) 1)
    (pick (phased s.track s.shape.types b)
    (still (moved s (typed s.track b) s.exponents s.off b))
    (halt s 18))
    (halt s 16)

-- the scan is the first with TWI set; before its byte 8 its byte 4 is the first of the last four
unfoldable pub opens : Track → ℕ → Bool
opens k held = eqb k.twi 0 and eqb (field held 30 1) 1

-- byte 8 tells the timing word, in the top three of the last four bytes
unfoldable pub timed : Track → ℕ → ℕ → Track
timed k held b =
    record { timing = shift held b; seen = k.seen; itb = k.itb; twi = pick (opens k held) 1 k.twi; window = pick (opens k held) (shift held b) k.window }

-- no TIMING: byte 8 is zero, and T is in step: "The first T is free; each next is the last plus 16 I, starting again at 2^24"
unfoldable pub instep : State → ℕ → Bool
instep s b =
    eqb b 0 and (ltb s.place s.shape.scan or eqb (shift s.held b) ((s.track.timing + s.shape.advance) % 2 ^ 32))

-- byte 8: in step, or TIMING
unfoldable pub time : State → ℕ → Stepped State
time s b = pick (instep s b) (still (moved s (timed s.track s.held b) s.exponents s.off b)) (halt s 17)

-- the last byte of a word: its sample, counted where it is off rule
unfoldable pub sample : State → Value → ℕ → Stepped State
sample s w b = record { state = moved s s.track s.exponents (s.off + off_one w) b; value = Some w }

-- a byte of a word of w bytes, at place q of the scan
unfoldable pub plain : State → ℕ → ℕ → ℕ → Stepped State
plain s b w q =
    pick (eqb ((q - 7) % w) 0) (sample s (value_of s.shape.code 0 (low (shift s.held b) w)) b) (quiet s b)

-- of a group's four exponents, that of the word which ends at byte g of the group, counted from 0
unfoldable pub nibble : ℕ → ℕ → ℕ
nibble e g = field e (18 - 2 * g) 4

-- byte g of a group of 0015: "four c of 4 bits, then four of S Q14 0"
unfoldable pub grouped : State → ℕ → ℕ → Stepped State
grouped s b g =
    pick (eqb (g % 2) 0)
    (quiet s b)
    (pick (eqb g 1)
    (still (moved s s.track (low (shift s.held b) 2) s.off b))
    (sample s (value_of s.shape.code (nibble s.exponents g) (low (shift s.held b) 2)) b))

-- a byte of the sample words, at place q of the scan; groups of ten bytes are those of 0015
unfoldable pub word : State → ℕ → ℕ → Stepped State
word s b q =
    pick (eqb (group_of s.shape.code) 10) (grouped s b ((q - 8) % 10)) (plain s b (group_of s.shape.code) q)

-- one byte: a stopped state takes none; LONG at place 4,294,967,295; then by its place in the scan
unfoldable pub step : State → ℕ → Stepped State
step s b =
    pick (eqb s.stop 0)
    (pick (eqb s.place 4294967295)
    (halt s 14)
    (pick (eqb (s.place % s.shape.scan) 0)
    (start s b)
    (pick (ltb (s.place % s.shape.scan) 3)
    (sync s b)
    (pick (eqb (s.place % s.shape.scan) 3)
    (phase s b)
    (pick (ltb (s.place % s.shape.scan) 7)
    (quiet s b)
    (pick (eqb (s.place % s.shape.scan) 7) (time s b) (word s b (s.place % s.shape.scan))))))))
    (still s)

-- the state after some bytes
unfoldable pub after : State → List ℕ → State
after s [] = s
after s (b ∷ bs) = after (step s b).state bs

-- M then X, of a sample if there is one
abbrev pub m_then_x : Option Value → List ℤ
m_then_x None = []
m_then_x (Some v) = v.m ∷ v.x ∷ []

-- "each sample gives M then X when its last byte arrives"
unfoldable pub m_and_x : {S : Type 0} → Stepped S → List ℤ
m_and_x r = m_then_x r.value

-- what some bytes write
unfoldable pub wrote : State → List ℕ → List ℤ
wrote s [] = []
wrote s (b ∷ bs) = m_and_x (step s b) ++ wrote (step s b).state bs
