-- One step of the lister over an image, and all of a portion: its progress, the buffers of header and numbers, and the lines that it makes.
-- Assumes nothing.
use Rattle.std.specs.Prelude.{ℕ, zero, suc, ◌+◌, ◌%◌, ◌^◌, List, [], ◌++◌, length, ℤ, None, Option, Some, Result}
use Rattle.framing.specs.declared.Met.{Met}
use Rattle.framing.specs.declared.Met.TheVariants.{Framing, Part, Whole, Mark}
use Rattle.framing.specs.Next.{next_of}
use Rattle.framing.specs.Cuts.{part}
use Rattle.listing.specs.Lines.{line_of}
use Rattle.files.specs.declared.File.{File}
use Rattle.files.specs.declared.File.TheVariants.{Empty}
use Rattle.lister.specs.declared.Progress.{Progress}
use Rattle.files.specs.File.{part_of, buffer_after, numbers_after, item_end, said_of}
use Rattle.listing.specs.declared.Listed.{Listed}
use Rattle.listing.specs.declared.TurnedAway.{TurnedAway}

-- what is said after an answer of `next`: of the file at its mark, else nothing
abbrev pub said_at : File → Met → Option (Result Listed TurnedAway)
said_at f Framing = None
said_at f Part = None
said_at f Whole = None
said_at f Mark = said_of f

-- the number of the file after `count` files, which is kept in 64 bits
abbrev pub next_number : ℕ → ℕ
next_number count = (count + 1) % 2 ^ 64

-- how many files have a line then,
abbrev pub count_by : Option (Result Listed TurnedAway) → ℕ → ℕ
count_by None count = count
count_by (Some o) count = next_number count

-- and the new line
abbrev pub text_by : Option (Result Listed TurnedAway) → ℕ → List ℕ
text_by None count = []
text_by (Some o) count = line_of (next_number count) o

-- an answer of `next` that passed some bytes: the file after it,
abbrev pub heard_file : File → Met → List ℕ → List ℕ → List ℤ → File
heard_file f Framing bytes header numbers = f
heard_file f Part bytes header numbers = part_of f bytes header numbers
heard_file f Whole bytes header numbers = item_end (part_of f bytes header numbers) (buffer_after f bytes header)
heard_file f Mark bytes header numbers = Empty

-- the header's buffer,
abbrev pub heard_header : File → Met → List ℕ → List ℕ → List ℕ
heard_header f Framing bytes header = header
heard_header f Part bytes header = buffer_after f bytes header
heard_header f Whole bytes header = buffer_after f bytes header
heard_header f Mark bytes header = header

-- the numbers' buffer,
abbrev pub heard_numbers : File → Met → List ℕ → List ℕ → List ℤ → List ℤ
heard_numbers f Framing bytes header numbers = numbers
heard_numbers f Part bytes header numbers = numbers_after f bytes header numbers
heard_numbers f Whole bytes header numbers = numbers_after f bytes header numbers
heard_numbers f Mark bytes header numbers = numbers

-- and the progress
abbrev pub heard_progress : Progress → Met → List ℕ → List ℕ → List ℤ → Progress
heard_progress t met bytes header numbers =
    record { frame = t.frame; file = heard_file t.file met bytes header numbers; count = count_by (said_at t.file met) t.count }

-- one step from a place of a portion, past whose end nothing moves: the progress after it,
abbrev pub turn_progress : Progress → List ℕ → ℕ → List ℕ → List ℤ → Progress
turn_progress t bytes at header numbers = record {
  frame = (next_of t.frame bytes at).frame;
  file = heard_file t.file (next_of t.frame bytes at).met (part at (next_of t.frame bytes at).to bytes) header numbers;
  count = count_by (said_at t.file (next_of t.frame bytes at).met) t.count;
}

-- the new line,
abbrev pub turn_text : Progress → List ℕ → ℕ → List ℕ
turn_text t bytes at = text_by (said_at t.file (next_of t.frame bytes at).met) t.count

-- the header's buffer,
abbrev pub turn_header : Progress → List ℕ → ℕ → List ℕ → List ℕ
turn_header t bytes at header =
    heard_header t.file (next_of t.frame bytes at).met (part at (next_of t.frame bytes at).to bytes) header

-- and the numbers' buffer
abbrev pub turn_numbers : Progress → List ℕ → ℕ → List ℕ → List ℤ → List ℤ
turn_numbers t bytes at header numbers =
    heard_numbers t.file (next_of t.frame bytes at).met (part at (next_of t.frame bytes at).to bytes) header numbers

-- the lister with the two buffers that it goes on with, and the lines that it has made
pub record Lister : Type 0 where
  pub progress : Progress
  pub header : List ℕ
  pub numbers : List ℤ
  pub out : List ℕ

-- one step
abbrev pub turned : Lister → List ℕ → ℕ → Lister
turned s bytes at = record {
  progress = turn_progress s.progress bytes at s.header s.numbers;
  header = turn_header s.progress bytes at s.header;
  numbers = turn_numbers s.progress bytes at s.header s.numbers;
  out = s.out ++ turn_text s.progress bytes at;
}

-- some steps over one portion
abbrev pub turns : ℕ → Lister → List ℕ → ℕ → Lister
turns zero s bytes at = s
turns (suc k) s bytes at = turns k (turned s bytes at) bytes (next_of s.progress.frame bytes at).to

-- all of a portion, from its first byte
unfoldable pub walked : Progress → List ℕ → List ℕ → List ℤ → Lister
walked t bytes header numbers = turns (length bytes) (record { progress = t; header = header; numbers = numbers; out = [] }) bytes 0
