-- What the answer of `read` means.
-- Assumes nothing.
use Rattle.std.specs.Prelude.{ℕ, zero, suc, Bool, true, false, min, Option, None, Some, Result, Ok, Err}
use Rattle.std.specs.IoError.{error_kind}
use Rattle.std.specs.declared.io.Error.{Error}
use Rattle.std.specs.declared.io.ErrorKind.{ErrorKind}
use Rattle.std.specs.declared.io.ErrorKind.TheVariants.{Interrupted}
use Rattle.std.specs.Bool.{then_some}

-- whether an error's kind is that of an interrupted call
abbrev pub interrupted : ErrorKind → Bool
interrupted Interrupted = true
interrupted _ = false

-- by what `read` answered and the buffer's length: a number of bytes is so many bytes of input, and 0 its end, which is none;
-- a call that was interrupted brought no byte and is tried again; any other that failed is the end
abbrev pub arrival_of : Result ℕ Error → ℕ → Option ℕ
arrival_of (Ok zero) room = None
arrival_of (Ok (suc n)) room = Some (min (suc n) room)
arrival_of (Err error) room = then_some (interrupted (error_kind error)) 0
