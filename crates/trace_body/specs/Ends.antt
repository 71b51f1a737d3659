-- What a block end does to the reader's state: "block end 15, 8, 25".
-- Assumes nothing.
use Rattle.std.specs.Prelude.{ℕ, ◌+◌, ◌-◌, ◌*◌, ◌/◌, ◌%◌, Bool, false, List, eqb, ltb, leb}
use Rattle.basis.specs.Choice.{pick, ◌and◌}
use Rattle.turns.specs.Turns.{subscans_at}
use Rattle.trace.specs.declared.Look.{Look}
use Rattle.trace.specs.declared.State.{State}
use Rattle.trace.specs.Step.{look_at, halted}

-- the samples of n bytes of a trace, its words in groups of w bytes
unfoldable pub samples_of : ℕ → ℕ → ℕ
samples_of w n = pick (eqb w 10) ((n - 20) / 10 * 4) ((n - 20) / w)

-- FOUR: one to three samples of a group of 8015
unfoldable pub unevenb : ℕ → ℕ → Bool
unevenb w n = eqb w 10 and leb 4 ((n - 20) % 10)

-- the scans of the scan type: by its first trace, or as they were found then
unfoldable pub scans_by : List ℕ → Look → State → ℕ
scans_by b k s = pick k.turn.first (samples_of k.group s.at / subscans_at b k.turn) s.present

-- no byte is left over, and there are so many scans, at least one, of so many samples
unfoldable pub countedb : ℕ → ℕ → ℕ → ℕ → Bool
countedb w n scans per = pick (eqb ((n - 20) % w) 0) (pick (eqb scans 0) false (eqb (samples_of w n) (scans * per))) false

-- one trace more
unfoldable pub one_end : State → ℕ → Bool → State
one_end s scans first =
    record {
      code = s.code;
      place = s.place;
      ends = s.ends + 1;
      at = 0;
      samples = s.samples;
      off = s.off;
      present = scans;
      scans = pick first (s.scans + scans) s.scans;
      held = s.held;
      exponents = 0;
      stop = s.stop;
      stopat = s.stopat;
    }

-- COUNT, or the next trace
unfoldable pub tally : List ℕ → Look → State → State
tally b k s =
    pick (countedb k.group s.at (scans_by b k s) (subscans_at b k.turn)) (one_end s (scans_by b k s) k.turn.first) (halted s 25)

-- a stopped state takes none; BLOCK, FOUR, COUNT
unfoldable pub ended : List ℕ → Look → State → State
ended b k s =
    pick (eqb s.stop 0)
    (pick k.past
    (halted s 15)
    (pick (ltb s.at 20)
    (halted s 15)
    (pick (unevenb k.group s.at) (halted s 8) (tally b k s))))
    s

unfoldable pub end_on : List ℕ → State → State
end_on b s = ended b (look_at b s.ends) s
