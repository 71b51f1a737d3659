-- One file of a reel, as its items come.
-- Assumes nothing.
use Rattle.std.specs.Prelude.{ℕ, ◌+◌, List, leb, ltb, ℤ, length, take, Err, None, Ok, Option, Result, Some}
use Rattle.basis.specs.Choice.{pick}
use Rattle.refusals.specs.declared.Refusal.TheVariants as R
use Rattle.codes.specs.Codes.{demultiplexed}
use Rattle.header.specs.Answers.{header_answer}
use Rattle.scan.specs.declared.State.{State}
use Rattle.runs.specs.Runs.{over}
use Rattle.body.specs.Open.{opened}
use Rattle.stream.specs.Calls.{portion, portion_wrote}
use Rattle.body.specs.Ends.{block_end, close}
use Rattle.body.specs.declared.Report.{Report}
use Rattle.listing.specs.declared.Listed.{Listed}
use Rattle.listing.specs.declared.TurnedAway.{TurnedAway}
use Rattle.listing.specs.Lines.{listed, turned_away}
use Rattle.listing.specs.Lent.{stored_in}
use Rattle.trace.specs.declared.State.{State as TraceState}
use Rattle.trace_stream.specs.Calls as P
use Rattle.trace_body.specs.Open as T
use Rattle.trace_body.specs.Calls as E
use Rattle.files.specs.declared.File.{File}
use Rattle.files.specs.declared.File.TheVariants.{Empty, Heading, Large, Refused, Blocks, Traces}
use Rattle.header.specs.declared.Header.{Header}
use Rattle.refusals.specs.declared.Refusal.{Refusal}

-- a multiplexed record after its header item, of a file number, a format code and a reader's state
abbrev pub of_scans : ℕ → ℕ → State → File
of_scans file format s = Blocks (record { file = file; format = format; state = s })

-- a demultiplexed one, with its header block's length and what would be said of it
abbrev pub of_traces : ℕ → ℕ → ℕ → TraceState → Result Listed TurnedAway → File
of_traces file format got s said = Traces (record { file = file; format = format; got = got; state = s; said = said })

-- more bytes of a header item of which `got` have come
abbrev pub gathered : ℕ → List ℕ → List ℕ → File
gathered got bytes header = pick (leb (got + length bytes) (length header)) (Heading (got + length bytes)) Large

-- some bytes of an item: the file,
abbrev pub part_of : File → List ℕ → List ℕ → List ℤ → File
part_of Empty bytes header numbers = gathered 0 bytes header
part_of (Heading got) bytes header numbers = gathered got bytes header
part_of Large bytes header numbers = Large
part_of (Refused r) bytes header numbers = Refused r
part_of (Blocks b) bytes header numbers = of_scans b.file b.format (portion b.state bytes (length numbers)).state
part_of (Traces t) bytes header numbers =
    of_traces t.file t.format t.got (P.portion (take t.got header) t.state bytes (length numbers)).state t.said

-- the header's buffer,
abbrev pub buffer_after : File → List ℕ → List ℕ → List ℕ
buffer_after Empty bytes header = stored_in header 0 bytes
buffer_after (Heading got) bytes header = stored_in header got bytes
buffer_after Large bytes header = header
buffer_after (Refused r) bytes header = header
buffer_after (Blocks b) bytes header = header
buffer_after (Traces t) bytes header = header

-- and the numbers'
abbrev pub numbers_after : File → List ℕ → List ℕ → List ℤ → List ℤ
numbers_after Empty bytes header numbers = numbers
numbers_after (Heading got) bytes header numbers = numbers
numbers_after Large bytes header numbers = numbers
numbers_after (Refused r) bytes header numbers = numbers
numbers_after (Blocks b) bytes header numbers = over (portion_wrote b.state bytes (length numbers)) numbers
numbers_after (Traces t) bytes header numbers = over (P.portion_wrote (take t.got header) t.state bytes (length numbers)) numbers

-- what is listed by a closing answer
abbrev pub told_by : ℕ → ℕ → ℕ → Result Report Refusal → Result Listed TurnedAway
told_by file format place (Ok r) = listed file format r.scans r.samples r.off
told_by file format place (Err r) = turned_away r place

-- what is listed of a body of scans that is asked to close, and of one of traces under the header block b
abbrev pub closed_of : ℕ → ℕ → State → Result Listed TurnedAway
closed_of file format s = told_by file format s.place (close s)

abbrev pub traces_closed : ℕ → ℕ → List ℕ → TraceState → Result Listed TurnedAway
traces_closed file format b s = told_by file format s.place (E.close b s)

-- a file of traces at the end of an item: the calls of its body lend its header block again, which is the first `got` bytes of the header's buffer
abbrev pub traces_at : ℕ → ℕ → ℕ → List ℕ → TraceState → File
traces_at file format got b s = of_traces file format got s (traces_closed file format b s)

-- after the header item
abbrev pub headed_by : Result Header Refusal → List ℕ → File
headed_by (Err r) header = Refused r
headed_by (Ok h) header =
    pick (demultiplexed h.code) (traces_at h.file h.code (length header) header (T.opened header)) (of_scans h.file h.code (opened header).state)

-- the file after its header block
abbrev pub headed : List ℕ → File
headed header = headed_by (header_answer header) header

-- the end of an item
abbrev pub item_end : File → List ℕ → File
item_end Empty header = Empty
item_end (Heading got) header = pick (ltb (length header) got) Large (headed (take got header))
item_end Large header = Large
item_end (Refused r) header = Refused r
item_end (Blocks b) header = of_scans b.file b.format (block_end b.state).state
item_end (Traces t) header = traces_at t.file t.format t.got (take t.got header) (E.block_end (take t.got header) t.state).state

-- what is said at the mark
abbrev pub said_of : File → Option (Result Listed TurnedAway)
said_of Empty = None
said_of (Heading got) = None
said_of Large = Some (turned_away R.Large 0)
said_of (Refused r) = Some (turned_away r 0)
said_of (Blocks b) = Some (closed_of b.file b.format b.state)
said_of (Traces t) = Some t.said
