-- What one byte of a trace body does to the reader's state: "per byte 14, 15", then 24 in a trace header.
-- Assumes nothing.
use Rattle.std.specs.Prelude.{ℕ, ◌+◌, ◌-◌, ◌/◌, ◌%◌, Bool, ◌&&◌, ◌||◌, List, [], ◌∷◌, ◌++◌, ℤ, eqb, ltb, leb, None, Some}
use Rattle.basis.specs.Choice.{pick, ◌or◌}
use Rattle.codes.specs.Codes.{group_of}
use Rattle.words.specs.Words.{value_of, off_one}
use Rattle.words.specs.declared.Value.{Value}
use Rattle.block.specs.Bytes.{byte}
use Rattle.general.specs.General.{code_of, skew_fields}
use Rattle.turns.specs.declared.Turn.{Turn}
use Rattle.turns.specs.Turns.{trace_count, turn_at, skew_at, writes}
use Rattle.scan.specs.declared.Stepped.{Stepped}
use Rattle.scan.specs.Step.{shift, low, nibble, m_and_x}
use Rattle.trace.specs.declared.Look.{Look}
use Rattle.trace.specs.declared.State.{State}

-- ---- what is known of the present trace
-- what the header says of trace i, of a record that has so many traces
unfoldable pub look_by : List ℕ → ℕ → ℕ → Look
look_by b i traces = record { group = group_of (code_of b); past = leb traces i; turn = turn_at b i }

-- of the header's own number of traces
unfoldable pub look_at : List ℕ → ℕ → Look
look_at b i = look_by b i (trace_count b)

-- a state as it is, with nothing written
unfoldable pub still : State → Stepped State
still s = record { state = s; value = None }

-- the body stops here, by the refusal of this number
unfoldable pub halted : State → ℕ → State
halted s number =
    record {
      code = s.code;
      place = s.place;
      ends = s.ends;
      at = s.at;
      samples = s.samples;
      off = s.off;
      present = s.present;
      scans = s.scans;
      held = s.held;
      exponents = s.exponents;
      stop = number;
      stopat = s.place;
    }

-- a byte that stops the body writes nothing
unfoldable pub halt : State → ℕ → Stepped State
halt s number = still (halted s number)

-- a state j bytes on, with the samples and the off-rule words by then, the exponents and the last four bytes
unfoldable pub moved_by : State → ℕ → ℕ → ℕ → ℕ → ℕ → State
moved_by s j n off e held =
    record {
      code = s.code;
      place = s.place + j;
      ends = s.ends;
      at = s.at + j;
      samples = n;
      off = off;
      present = s.present;
      scans = s.scans;
      held = held;
      exponents = e;
      stop = s.stop;
      stopat = s.stopat;
    }

-- one byte on
unfoldable pub moved : State → ℕ → ℕ → ℕ → ℕ → State
moved s n off e x = moved_by s 1 n off e (shift s.held x)

-- a byte that tells nothing by itself
unfoldable pub quiet : State → ℕ → Stepped State
quiet s x = still (moved s s.samples s.off s.exponents x)

-- ---- the trace header, its bytes counted from 1
-- the digit pairs that bytes 3 to 6 must be: scan type, set, channel
unfoldable pub digits : Turn → ℕ → ℕ
digits u n =
    pick (eqb n 3) (u.scan_type + 1)
    (pick (eqb n 4) (u.set + 1)
    (pick (eqb n 5) ((u.channel + 1) / 100) ((u.channel + 1) % 100)))

-- x may stand as byte n of 1 to 6: the file number, as the header block has it, and the turn
unfoldable pub namedb : List ℕ → Turn → ℕ → ℕ → Bool
namedb b u n x = pick (leb n 2) (eqb x (byte b n)) (writes x (digits u n))

-- bytes 7-9 and 13-15 may be anything
unfoldable pub freeb : ℕ → Bool
freeb n = (leb 7 n && leb n 9) || (leb 13 n && leb n 15)

-- x may stand as byte 11
unfoldable pub skewb : List ℕ → Turn → ℕ → Bool
skewb b u x = eqb (skew_fields b) 0 or eqb x (skew_at b u)

-- x may stand as byte n of 7 to 20: the skew byte, a free one, or zero
unfoldable pub otherb : List ℕ → Turn → ℕ → ℕ → Bool
otherb b u n x = pick (eqb n 11) (skewb b u x) (freeb n or eqb x 0)

-- x may stand as byte n
unfoldable pub soundb : List ℕ → Turn → ℕ → ℕ → Bool
soundb b u n x = pick (leb n 6) (namedb b u n x) (otherb b u n x)

-- a byte of the trace header, or TRACE
unfoldable pub headed : List ℕ → Turn → State → ℕ → Stepped State
headed b u s x = pick (soundb b u (s.at + 1) x) (quiet s x) (halt s 24)

-- ---- sample words
-- the last byte of a word: its sample, counted, and counted where it is off rule
unfoldable pub sample : State → Value → ℕ → Stepped State
sample s v x = record { state = moved s (s.samples + 1) (s.off + off_one v) s.exponents x; value = Some v }

-- byte q of words of w bytes
unfoldable pub plain : State → ℕ → ℕ → ℕ → Stepped State
plain s w x q = pick (eqb ((q + 1) % w) 0) (sample s (value_of s.code 0 (low (shift s.held x) w)) x) (quiet s x)

-- byte g of a group of 8015: four c of 4 bits, then four of S Q15
unfoldable pub grouped : State → ℕ → ℕ → Stepped State
grouped s x g =
    pick (eqb (g % 2) 0)
    (quiet s x)
    (pick (eqb g 1)
    (still (moved s s.samples s.off (low (shift s.held x) 2) x))
    (sample s (value_of s.code (nibble s.exponents g) (low (shift s.held x) 2)) x))

-- a byte after the header, of words in groups of w bytes
unfoldable pub word : State → ℕ → ℕ → Stepped State
word s w x = pick (eqb w 10) (grouped s x ((s.at - 20) % 10)) (plain s w x (s.at - 20))

-- one byte: a stopped state takes none; LONG, BLOCK after the last trace, TRACE
unfoldable pub step : List ℕ → Look → State → ℕ → Stepped State
step b k s x =
    pick (eqb s.stop 0)
    (pick (eqb s.place 4294967295)
    (halt s 14)
    (pick k.past
    (halt s 15)
    (pick (ltb s.at 20) (headed b k.turn s x) (word s k.group x))))
    (still s)

-- by the header block alone
unfoldable pub step_on : List ℕ → State → ℕ → Stepped State
step_on b s x = step b (look_at b s.ends) s x

-- the state after some bytes
unfoldable pub after : List ℕ → State → List ℕ → State
after b s [] = s
after b s (x ∷ xs) = after b (step_on b s x).state xs

-- what some bytes write, each sample M then X when its last byte arrives
unfoldable pub wrote : List ℕ → State → List ℕ → List ℤ
wrote b s [] = []
wrote b s (x ∷ xs) = m_and_x (step_on b s x) ++ wrote b (step_on b s x).state xs
