-- Opening a trace body: "the header block of the opening".
-- Assumes nothing.
use Rattle.std.specs.Prelude.{ℕ, List, Err, Ok, Result, ⊤}
use Rattle.basis.specs.Choice.{pick}
use Rattle.codes.specs.Codes.{demultiplexed}
use Rattle.general.specs.General.{code_of}
use Rattle.header.specs.Faults.{header_fault}
use Rattle.trace.specs.declared.State.{State}
use Rattle.refusals.specs.declared.Refusal.{Refusal}

-- the state before the first byte of a body of this code
unfoldable pub fresh : ℕ → State
fresh code =
    record {
      code = code;
      place = 0;
      ends = 0;
      at = 0;
      samples = 0;
      off = 0;
      present = 0;
      scans = 0;
      held = 0;
      exponents = 0;
      stop = 0;
      stopat = 0;
    }

-- all zero, and so unfit, where the header is refused or its code is not of 80xx
abbrev pub opened_on : Result ⊤ Refusal → ℕ → State
opened_on (Err r) code = fresh 0
opened_on (Ok tt) code = fresh (pick (demultiplexed code) code 0)

-- opening on a block
unfoldable pub opened : List ℕ → State
opened b = opened_on (header_fault b) (code_of b)
