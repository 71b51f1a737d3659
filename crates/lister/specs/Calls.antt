-- The calls of the lister: its start, a portion of an image, the end of the image; and what a read's answer means.
-- Assumes nothing.
use Rattle.std.specs.Prelude.{ℕ, ◌/◌, Bool, ◌&&◌, List, [], length, ℤ, ◌==◌, nat_le, nat_lt}
use Rattle.basis.specs.Choice.{pick}
use Rattle.framing.specs.declared.Frame.TheVariants.{Start}
use Rattle.framing.specs.Next.{ending_of}
use Rattle.listing.specs.Lines.{last_of}
use Rattle.listing.specs.Lent.{line_room}
use Rattle.files.specs.declared.File.TheVariants.{Empty}
use Rattle.lister.specs.declared.Progress.{Progress}
use Rattle.lister.specs.declared.Made.{Made}
use Rattle.lister.specs.Listing.{header_room}
use Rattle.lister.specs.Turn.{Lister, walked}

-- before the first byte of an image
abbrev pub begun : Progress
begun = record { frame = Start; file = Empty; count = 0 }

-- a file that has a line takes so many bytes of image at least: a length, a byte, and the mark's length
abbrev pub least_file : ℕ
least_file = 9

-- whether the buffers that are lent hold what a portion of n bytes needs: "header item above 65,536 bytes" is LARGE; "A portion needs twice
-- its length in output numbers"; and a line for each file that it may hold, and for one that began before it
abbrev pub roomy : ℕ → List ℕ → List ℤ → List ℕ → Bool
roomy n header numbers lines =
    (length header == header_room && nat_le n (length numbers / 2)) && nat_lt (n / least_file) (length lines / line_room)

-- a call with a portion: all of it where there is room, else nothing moves
unfoldable pub called : Progress → List ℕ → List ℕ → List ℤ → List ℕ → Lister
called t bytes header numbers lines =
    pick (roomy (length bytes) header numbers lines) (walked t bytes header numbers)
    (record { progress = t; header = header; numbers = numbers; out = [] })

-- its answer
abbrev pub made_by : Lister → Made
made_by s = record { progress = s.progress; length = length s.out }

-- the last line, where the image ends here
abbrev pub last_by : Progress → List ℕ
last_by t = last_of (ending_of t.frame)
