-- Each call that is open to a deck, a reader or the lister answers the definition that the demands speak of. A contract that leaves one
-- answer may yet leave a wrong one: this says which.
-- Assumes nothing.
use Rattle.std.specs.Prelude.{ℕ, ◌+◌, ◌*◌, ◌≡◌, List, leb, ℤ, length}
use Rattle.std.proofs.lemmas.List.Edits.{sets}
use Rattle.std.specs.Borrow.{Bor}
use Rattle.block.specs.Bytes.{packed_of}
use Rattle.codes.specs.Codes.{row_of}
use Rattle.words.specs.Words.{word_of}
use Rattle.general.specs.General.{extended_fields, external_fields}
use Rattle.header.specs.Faults.{header_fault}
use Rattle.header.specs.Answers.{header_answer, descriptor_answer}
use Rattle.layout.specs.Indexes.{index_answer, place_answer}
use Rattle.parts.specs.Slices.{Slice, slice}
use Rattle.parts.specs.Parts.{constants_place, constants_length, extended_place, external_place, constants_part, extended_part, external_part}
use Rattle.skew.specs.Skews.{skew_fault, skew_part, skew_answer}
use Rattle.skew.specs.Times.{time_answer}
use Rattle.body.specs.Open.{opened}
use Rattle.scan.specs.Step.{shift, low, nibble}
use Rattle.stream.specs.Calls.{portion}
use Rattle.body.specs.Ends.{block_end, close}
use Rattle.runs.specs.Runs.{over}
use Rattle.turns.specs.Places.{placed_at}
use Rattle.trace.specs.declared.State as trace
use Rattle.trace_stream.specs.Calls as traces
use Rattle.trace_body.specs.Calls as trace-ends
use Rattle.trace_body.specs.Open as trace-opening
use Rattle.framing.specs.Next.{ending_of, next_of}
use Rattle.listing.specs.Lines.{line_of, last_of}
use Rattle.listing.specs.Lent.{line_in, line_end, stored_in}
use Rattle.lister.specs.Calls.{begun, called, made_by, last_by}
use Rattle.deck.specs.Flat.{flat_format, flat_word}
use Rattle.deck.specs.Headers.{flat_pair, flat_header, flat_set}
use Rattle.deck.specs.Places.{flat_index, flat_place, flat_part, flat_skew, flat_byte, flat_time}
use Rattle.deck.specs.Bodies.{flat_opened, flat_gave, flat_closing}
use Rattle.deck.specs.Traces.{flat_trace_gave, flat_trace_place}
use Rattle.block.proofs.packed.Reads as block-packed
use Rattle.words.proofs.read_word.Reads as words-read-word
use Rattle.header.proofs.read_header.Reads as header-read-header
use Rattle.header.proofs.header_fault.Reads as header-header-fault
use Rattle.header.proofs.descriptor.Reads as header-descriptor
use Rattle.layout.proofs.sample_index.Reads as layout-sample-index
use Rattle.layout.proofs.sample_place.Reads as layout-sample-place
use Rattle.parts.proofs.constants.Reads as parts-constants
use Rattle.parts.proofs.extended.Reads as parts-extended
use Rattle.parts.proofs.external.Reads as parts-external
use Rattle.skew.proofs.skew_fault.Reads as skew-skew-fault
use Rattle.skew.proofs.skew.Reads as skew-skew
use Rattle.skew.proofs.skew_at.Reads as skew-skew-at
use Rattle.skew.proofs.sample_time.Reads as skew-sample-time
use Rattle.view.proofs.place_in.Reads as view-place-in
use Rattle.body.proofs.open.Reads as body_Open
use Rattle.stream.proofs.byte.shift.Reads as stream-shift
use Rattle.stream.proofs.byte.low.Reads as stream-low
use Rattle.stream.proofs.byte.nibble.Reads as stream-nibble
use Rattle.stream.proofs.portion.Reads as stream-portion
use Rattle.body.proofs.block_end.Reads as body-block-end
use Rattle.body.proofs.close.Reads as body_close
use Rattle.turns.proofs.place.Reads as turns-place
use Rattle.trace_stream.proofs.portion.Reads as trace-stream-portion
use Rattle.trace_body.proofs.open.Reads as trace-body-open
use Rattle.trace_body.proofs.block_end.Reads as trace-body-block-end
use Rattle.trace_body.proofs.close.Reads as trace-body-close
use Rattle.framing.proofs.next.Reads as framing_next
use Rattle.framing.proofs.close.Reads as framing_close
use Rattle.listing.proofs.record_line.Reads as listing-record-line
use Rattle.listing.proofs.last_line.Reads as listing-last-line
use Rattle.listing.proofs.store.Reads as listing-store
use Rattle.lister.proofs.start.Reads as lister-start
use Rattle.lister.proofs.portion.Reads as lister-portion
use Rattle.lister.proofs.finish.Reads as lister-finish
use Rattle.deck.proofs.headers.segd_packed.Reads as deck-segd-packed
use Rattle.deck.proofs.segd_format.Reads as deck-segd-format
use Rattle.deck.proofs.segd_read_word.Reads as deck-segd-read-word
use Rattle.deck.proofs.headers.segd_read_header.Reads as deck-segd-read-header
use Rattle.deck.proofs.headers.segd_descriptor.Reads as deck-segd-descriptor
use Rattle.deck.proofs.places.segd_sample_index.Reads as deck-segd-sample-index
use Rattle.deck.proofs.places.segd_sample_place.Reads as deck-segd-sample-place
use Rattle.deck.proofs.places.segd_constants.Reads as deck-segd-constants
use Rattle.deck.proofs.places.segd_extended.Reads as deck-segd-extended
use Rattle.deck.proofs.places.segd_external.Reads as deck-segd-external
use Rattle.deck.proofs.places.segd_skew.Reads as deck-segd-skew
use Rattle.deck.proofs.places.segd_skew_at.Reads as deck-segd-skew-at
use Rattle.deck.proofs.places.segd_sample_time.Reads as deck-segd-sample-time
use Rattle.deck.proofs.bodies.segd_open.Reads as deck-segd-open
use Rattle.deck.proofs.bodies.segd_portion.Reads as deck-segd-portion
use Rattle.deck.proofs.bodies.segd_block_end.Reads as deck-segd-block-end
use Rattle.deck.proofs.bodies.segd_close.Reads as deck-segd-close
use Rattle.deck.proofs.traces.segd_trace_portion.Reads as deck-segd-trace-portion
use Rattle.deck.proofs.traces.segd_trace_end.Reads as deck-segd-trace-end
use Rattle.deck.proofs.traces.segd_trace_close.Reads as deck-segd-trace-close
use Rattle.deck.proofs.traces.segd_trace_place.Reads as deck-segd-trace-place
use Rattle.demands.specs.One.{Contract}
use Rattle.demands.specs.Demand3.{output_of}

-- every answer that meets the contract is the one that a definition gives of the arguments,
abbrev pub Is : {K : Type 0} {Args Answer End : K → Type 0} → Contract Args Answer End → ((κ : K) → Args κ → Answer κ) → Type 0
Is {K} {Args} {Answer} {End} post f = (κ : K) (a : Args κ) (z : Answer κ) (e : End κ) → post κ a z e → z ≡ f κ a

-- every part that is handed out the very part,
abbrev pub lent : Bor (List ℕ) → Slice
lent r = slice r.ref_ptr r.now

abbrev pub IsPart : {K : Type 0} {Args End : K → Type 0} → Contract Args (λ κ. Bor (List ℕ)) End → ((κ : K) → Args κ → Slice) → Type 0
IsPart {K} {Args} {End} post f = (κ : K) (a : Args κ) (z : Bor (List ℕ)) (e : End κ) → post κ a z e → lent z ≡ f κ a

-- and what is lent to be written holds at the end what a definition gives
abbrev pub Leaves : {K : Type 0} {Args Answer End : K → Type 0} {Content : Type 0}
    → Contract Args Answer End → ((κ : K) → End κ → Content) → ((κ : K) → Args κ → Content) → Type 0
Leaves {K} {Args} {Answer} {End} post content f = (κ : K) (a : Args κ) (z : Answer κ) (e : End κ) → post κ a z e → content κ e ≡ f κ a

-- the arguments of a call in turn, which stand in pairs of pairs
abbrev pub first : {A B : Type 0} → A × B → A
first a = a.0

abbrev pub second : {A B C : Type 0} → A × (B × C) → B
second a = a.1.0

abbrev pub third : {A B C D : Type 0} → A × (B × (C × D)) → C
third a = a.1.1.0

abbrev pub fourth : {A B C D E : Type 0} → A × (B × (C × (D × E))) → D
fourth a = a.1.1.1.0

abbrev pub fifth : {A B C D E F : Type 0} → A × (B × (C × (D × (E × F)))) → E
fifth a = a.1.1.1.1.0

-- what a portion of a trace body leaves in the caller's output: what it wrote, over its front
abbrev pub trace_output : List ℕ → trace.State → List ℕ → List ℤ → List ℤ
trace_output b s bs out = over (traces.portion_wrote b s bs (length out)) out

pub record Bound : Type 0 where
  -- the questions about pairs, words and header blocks
  pub packed : Is block-packed.Post (λ κ a. packed_of (first a))
  pub read_word : Is words-read-word.Post (λ κ a. word_of (first a) (second a) (third a))
  pub read_header : Is header-read-header.Post (λ κ a. header_answer (first a).now)
  pub descriptor : Is header-descriptor.Post (λ κ a. descriptor_answer (first a).now (second a) (third a))
  -- what refuses a header block, and with it each question for a part of it
  pub header_faults : Is header-header-fault.Post (λ κ a. header_fault (first a).now)
  -- where samples stand
  pub sample_index : Is layout-sample-index.Post (λ κ a. index_answer (first a).now (second a) (third a) (fourth a) (fifth a))
  pub sample_place : Is layout-sample-place.Post (λ κ a. place_answer (first a).now (second a) (third a))
  pub place_in : Is view-place-in.Post (λ κ a. place_answer (first a).now (second a) (third a))
  -- the parts, skew and what refuses it, and time
  pub constants : IsPart parts-constants.Post (λ κ a. constants_part (lent (first a)))
  pub extended : IsPart parts-extended.Post (λ κ a. extended_part (lent (first a)))
  pub external : IsPart parts-external.Post (λ κ a. external_part (lent (first a)))
  pub skew_faults : Is skew-skew-fault.Post (λ κ a. skew_fault (first a).now (second a).now (third a))
  pub skew : IsPart skew-skew.Post (λ κ a. skew_part (lent (first a)) (lent (second a)) (third a))
  pub skew_at : Is skew-skew-at.Post (λ κ a. skew_answer (first a).now (second a).now (third a) (fourth a))
  pub sample_time : Is skew-sample-time.Post (λ κ a. time_answer (first a).now (second a).now (third a) (fourth a) (fifth a))
  -- the last four bytes of a body, a word of them, and an exponent
  pub shift : Is stream-shift.Post (λ κ a. shift (first a) (second a))
  pub low : Is stream-low.Post (λ κ a. low (first a) (second a))
  pub nibble : Is stream-nibble.Post (λ κ a. nibble (first a) (second a))
  -- the body: a portion answers, and leaves in the output what it wrote over its front
  pub opens : Is body_Open.Post (λ κ a. opened (first a).now)
  pub portions : Is stream-portion.Post (λ κ a. portion (first a) (second a).now (length (third a).now))
  pub output : Leaves stream-portion.Post (λ κ e. (third e).now) (λ κ a. output_of (first a) (second a).now (third a).now)
  pub block_ends : Is body-block-end.Post (λ κ a. block_end (first a))
  pub closes : Is body_close.Post (λ κ a. close (first a))
  -- a body of traces, with the header block lent again; and whose a sample of a trace is
  pub trace_opens : Is trace-body-open.Post (λ κ a. trace-opening.opened (first a).now)
  pub trace_portions : Is trace-stream-portion.Post (λ κ a. traces.portion (first a).now (second a) (third a).now (length (fourth a).now))
  pub trace_outputs : Leaves trace-stream-portion.Post (λ κ e. (fourth e).now) (λ κ a. trace_output (first a).now (second a) (third a).now (fourth a).now)
  pub trace_block_ends : Is trace-body-block-end.Post (λ κ a. trace-ends.block_end (first a).now (second a))
  pub trace_closes : Is trace-body-close.Post (λ κ a. trace-ends.close (first a).now (second a))
  pub trace_places : Is turns-place.Post (λ κ a. placed_at (first a).now (second a) (third a))
  -- the same for a deck, laid flat
  pub segd_format : Is deck-segd-format.Post (λ κ a. flat_format (row_of (first a)))
  pub segd_packed : Is deck-segd-packed.Post (λ κ a. flat_pair (packed_of (first a)))
  pub segd_read_word : Is deck-segd-read-word.Post (λ κ a. flat_word (word_of (first a) (second a) (third a)))
  pub segd_read_header : Is deck-segd-read-header.Post (λ κ a. flat_header (header_answer (first a).now))
  pub segd_descriptor : Is deck-segd-descriptor.Post (λ κ a. flat_set (descriptor_answer (first a).now (second a) (third a)))
  pub segd_sample_index : Is deck-segd-sample-index.Post (λ κ a. flat_index (index_answer (first a).now (second a) (third a) (fourth a) (fifth a)))
  pub segd_sample_place : Is deck-segd-sample-place.Post (λ κ a. flat_place (place_answer (first a).now (second a) (third a)))
  pub segd_constants : Is deck-segd-constants.Post (λ κ a. flat_part (header_fault (first a).now) constants_place constants_length)
  pub segd_extended : Is deck-segd-extended.Post
      (λ κ a. flat_part (header_fault (first a).now) (extended_place (first a).now) (32 * extended_fields (first a).now))
  pub segd_external : Is deck-segd-external.Post
      (λ κ a. flat_part (header_fault (first a).now) (external_place (first a).now) (32 * external_fields (first a).now))
  pub segd_skew : Is deck-segd-skew.Post (λ κ a. flat_skew (skew_fault (first a).now (second a).now (third a)) (first a).now (third a))
  pub segd_skew_at : Is deck-segd-skew-at.Post (λ κ a. flat_byte (skew_answer (first a).now (second a).now (third a) (fourth a)))
  pub segd_sample_time : Is deck-segd-sample-time.Post (λ κ a. flat_time (time_answer (first a).now (second a).now (third a) (fourth a) (fifth a)))
  pub segd_open : Is deck-segd-open.Post (λ κ a. flat_opened (opened (first a).now) (trace-opening.opened (first a).now))
  pub segd_portion : Is deck-segd-portion.Post (λ κ a. flat_gave (portion (first a) (second a).now (length (third a).now)))
  pub segd_output : Leaves deck-segd-portion.Post (λ κ e. (third e).now) (λ κ a. output_of (first a) (second a).now (third a).now)
  pub segd_block_end : Is deck-segd-block-end.Post (λ κ a. flat_gave (block_end (first a)))
  pub segd_close : Is deck-segd-close.Post (λ κ a. flat_closing (close (first a)))
  pub segd_trace_portion : Is deck-segd-trace-portion.Post
      (λ κ a. flat_trace_gave (traces.portion (first a).now (second a) (third a).now (length (fourth a).now)))
  pub segd_trace_output : Leaves deck-segd-trace-portion.Post (λ κ e. (fourth e).now)
      (λ κ a. trace_output (first a).now (second a) (third a).now (fourth a).now)
  pub segd_trace_end : Is deck-segd-trace-end.Post (λ κ a. flat_trace_gave (trace-ends.block_end (first a).now (second a)))
  pub segd_trace_close : Is deck-segd-trace-close.Post (λ κ a. flat_closing (trace-ends.close (first a).now (second a)))
  pub segd_trace_place : Is deck-segd-trace-place.Post (λ κ a. flat_trace_place (placed_at (first a).now (second a) (third a)))
  -- the image: a step over it, and its ending
  pub next : Is framing_next.Post (λ κ a. next_of (first a) (second a).now (third a))
  pub ending : Is framing_close.Post (λ κ a. ending_of (first a))
  -- a line, the last line, and bytes that are kept: where each ends, and the buffer that it leaves
  pub record_line : Is listing-record-line.Post (λ κ a. line_end (first a).now (second a) (line_of (third a) (fourth a)))
  pub record_line_in : Leaves listing-record-line.Post (λ κ e. (first e).now) (λ κ a. line_in (first a).now (second a) (line_of (third a) (fourth a)))
  pub last_line : Is listing-last-line.Post (λ κ a. line_end (first a).now 0 (last_of (second a)))
  pub last_line_in : Leaves listing-last-line.Post (λ κ e. (first e).now) (λ κ a. line_in (first a).now 0 (last_of (second a)))
  pub stores : Is listing-store.Post (λ κ a. leb (second a + length (third a).now) (length (first a).now))
  pub stored : Leaves listing-store.Post (λ κ e. (first e).now) (λ κ a. stored_in (first a).now (second a) (third a).now)
  -- the lister: its start, a portion with the three buffers that it leaves, the end of the image with the last line
  pub starts : Is lister-start.Post (λ κ a. begun)
  pub lists : Is lister-portion.Post (λ κ a. made_by (called (first a) (second a).now (third a).now (fourth a).now (fifth a).now))
  pub lists_header : Leaves lister-portion.Post (λ κ e. (third e).now) (λ κ a. (called (first a) (second a).now (third a).now (fourth a).now (fifth a).now).header)
  pub lists_numbers : Leaves lister-portion.Post (λ κ e. (fourth e).now) (λ κ a. (called (first a) (second a).now (third a).now (fourth a).now (fifth a).now).numbers)
  pub lists_lines : Leaves lister-portion.Post (λ κ e. (fifth e).now)
      (λ κ a. sets (fifth a).now 0 (called (first a) (second a).now (third a).now (fourth a).now (fifth a).now).out)
  pub finishes : Is lister-finish.Post (λ κ a. line_end (second a).now 0 (last_by (first a)))
  pub finishes_lines : Leaves lister-finish.Post (λ κ e. (second e).now) (λ κ a. line_in (second a).now 0 (last_by (first a)))
