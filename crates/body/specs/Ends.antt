-- "A block end: 23, earlier stop, 15. Closing: 23, earlier stop, 19, 20, 21": what they answer.
-- Assumes nothing.
use Rattle.std.specs.Prelude.{ℕ, ◌+◌, ◌-◌, ◌*◌, ◌/◌, ◌%◌, Bool, eqb, ltb, None, Option, Some, Ok, Err, Result}
use Rattle.basis.specs.Choice.{pick, ◌and◌, ◌or◌}
use Rattle.refusals.specs.declared.Refusal.{Refusal}
use Rattle.refusals.specs.declared.Refusal.TheVariants as R
use Rattle.refusals.specs.Table.{stop_refusal}
use Rattle.codes.specs.Codes.{group_of, per_of}
use Rattle.scan.specs.declared.Shape.{Shape}
use Rattle.scan.specs.declared.Track.{Track}
use Rattle.scan.specs.declared.State.{State}
use Rattle.scan.specs.Fit.{fitb}
use Rattle.scan.specs.Step.{halted}
use Rattle.stream.specs.declared.Gave.{Gave}
use Rattle.stream.specs.declared.Answer.TheVariants.{GoingOn, Stopped}
use Rattle.body.specs.declared.Report.{Report}
use Rattle.stream.specs.Calls.{answered, unchanged}

-- "a block end is due after each": after some scans and `part` bytes of the next; a body of one block ends once
unfoldable pub due : ℕ → ℕ → ℕ → ℕ → Bool
due block scans part ends =
    eqb part 0
    and pick (eqb block 0) (eqb ends 0 and ltb 0 scans) (eqb (scans % block) 0 and eqb (scans / block) (ends + 1))

-- one block end more
unfoldable pub one_end : State → State
one_end s =
    record {
      shape = s.shape;
      place = s.place;
      ends = s.ends + 1;
      off = s.off;
      track = s.track;
      held = s.held;
      exponents = s.exponents;
      stop = s.stop;
      stopat = s.stopat;
    }

-- of a fit state: an earlier stop, then BLOCK; "a block end stops at the number of bytes so far"
unfoldable pub ended : State → Gave State
ended s =
    pick (eqb s.stop 0)
    (pick (due s.shape.block (s.place / s.shape.scan) (s.place % s.shape.scan) s.ends)
    (record { state = one_end s; answer = GoingOn 0 })
    (record { state = halted s 15; answer = Stopped 0 (R.Block s.place) }))
    (record { state = s; answer = answered s 0 })

-- STATE comes first
unfoldable pub block_end : State → Gave State
block_end s = pick (fitb s) (ended s) (unchanged s R.State)

-- the samples of a scan's whole groups
unfoldable pub per_scan : Shape → ℕ
per_scan h = (h.scan - 8) / group_of h.code * per_of h.code

-- "T of the first scan with TWI set, or none"
unfoldable pub window_of : Track → Option ℕ
window_of k = pick (eqb k.twi 0) None (Some (k.window / 256))

-- "it reports scans, samples, off-rule words, last scan type, ITB of the first scan"
unfoldable pub tally : State → Report
tally s =
    record {
      scans = s.place / s.shape.scan;
      samples = (s.place / s.shape.scan) * per_scan s.shape;
      off = s.off;
      last_type = s.track.seen;
      itb = Some s.track.itb;
      window = window_of s.track;
    }

-- no byte stands after the last block end; "a body without bytes is 21"
unfoldable pub shut : ℕ → ℕ → ℕ → Bool
shut block scans ends = eqb scans 0 or pick (eqb block 0) (eqb ends 1) (eqb (scans % block) 0 and eqb (scans / block) ends)

-- of a fit state: an earlier stop, PART, OPEN, MISSING, or the report
unfoldable pub finish : State → Result Report Refusal
finish s =
    pick (eqb s.stop 0)
    (pick (eqb (s.place % s.shape.scan) 0)
    (pick (shut s.shape.block (s.place / s.shape.scan) s.ends)
    (pick (ltb s.track.seen s.shape.types) (Err R.Missing) (Ok (tally s)))
    (Err R.Open))
    (Err R.Part))
    (Err (stop_refusal s.stop s.stopat))

-- STATE comes first
unfoldable pub close : State → Result Report Refusal
close s = pick (fitb s) (finish s) (Err R.State)
