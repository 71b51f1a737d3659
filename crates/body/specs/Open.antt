-- "Opening on an accepted header gives a state, a refused opening an all-zero one, unfit." The state is that of a body of scans; a demultiplexed record has none.
-- Assumes nothing.
use Rattle.std.specs.Prelude.{ℕ, ◌*◌, ◌^◌, List, Err, Ok, Result}
use Rattle.basis.specs.Choice.{pick}
use Rattle.codes.specs.Codes.{demultiplexed}
use Rattle.header.specs.declared.Header.{Header}
use Rattle.header.specs.Answers.{header_answer}
use Rattle.scan.specs.declared.Shape.{Shape}
use Rattle.scan.specs.declared.State.{State}
use Rattle.body.specs.declared.Opened.{Opened}
use Rattle.body.specs.declared.Body.TheVariants.{Scans, Traces}
use Rattle.refusals.specs.declared.Refusal.{Refusal}

-- B; 16 I in the top three of four bytes; ST/R; S/B x 2^S/BX
unfoldable pub shape_of : Header → Shape
shape_of h =
    record {
      code = h.code;
      scan = h.bytes_per_scan;
      advance = 4096 * h.interval;
      types = h.scan_types;
      block = h.block_scans * 2 ^ h.block_exponent;
    }

-- the state before the first byte
unfoldable pub fresh : Shape → State
fresh h =
    record {
      shape = h;
      place = 0;
      ends = 0;
      off = 0;
      track = record { timing = 0; seen = 0; itb = 0; twi = 0; window = 0 };
      held = 0;
      exponents = 0;
      stop = 0;
      stopat = 0;
    }

-- all zero
unfoldable pub unfit : State
unfit = fresh (record { code = 0; scan = 0; advance = 0; types = 0; block = 0 })

-- by the header's answer, and by its code
abbrev pub opened_on : Result Header Refusal → Opened
opened_on (Ok h) =
    pick (demultiplexed h.code) (record { state = unfit; answer = Ok Traces }) (record { state = fresh (shape_of h); answer = Ok Scans })
opened_on (Err r) = record { state = unfit; answer = Err r }

-- opening on a block
unfoldable pub opened : List ℕ → Opened
opened b = opened_on (header_answer b)
