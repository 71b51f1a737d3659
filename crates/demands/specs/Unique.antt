-- For every function that is open to callers, save those over a view (Held.antt) and `lister::list` (docs/CONTRACTS.md says why): its contract, as the source has it, leaves one answer, one content of what is lent
-- to be written, and where it hands a part out the very part: its place in memory and its bytes.
-- Assumes nothing.
use Rattle.basis.proofs.difference.Reads as basis-difference
use Rattle.basis.proofs.magnitude.Reads as basis-magnitude
use Rattle.refusals.proofs.tell.Reads as refusals-tell
use Rattle.refusals.proofs.ToldFromRefusal.from.Reads as refusals-from
use Rattle.refusals.proofs.stop_refusal.Reads as refusals-stop-refusal
use Rattle.codes.proofs.find.Reads as codes-find
use Rattle.codes.proofs.group.Reads as codes-group
use Rattle.codes.proofs.bits.Reads as codes-bits
use Rattle.words.proofs.read_word.Reads as words-read-word
use Rattle.words.proofs.read.Reads as words-read
use Rattle.words.proofs.value15.Reads as words-value15
use Rattle.words.proofs.Code24Plain2.value.Reads as words-value24
use Rattle.words.proofs.Code44Plain2.value.Reads as words-value44
use Rattle.words.proofs.Code48Plain4.value.Reads as words-value48
use Rattle.words.proofs.tables.lent.Reads as words-lent
use Rattle.words.proofs.tables.off.Reads as words-off
use Rattle.words.proofs.tables.value.Reads as words-value
use Rattle.block.proofs.packed.Reads as block-packed
use Rattle.block.proofs.byte_at.Reads as block-byte-at
use Rattle.block.proofs.upper_at.Reads as block-upper-at
use Rattle.block.proofs.lower_at.Reads as block-lower-at
use Rattle.block.proofs.pair_at.Reads as block-pair-at
use Rattle.block.proofs.two_pairs.Reads as block-two-pairs
use Rattle.block.proofs.three_pairs.Reads as block-three-pairs
use Rattle.block.proofs.three_digits.Reads as block-three-digits
use Rattle.block.proofs.word_at.Reads as block-word-at
use Rattle.block.proofs.all_pairs.Reads as block-all-pairs
use Rattle.general.proofs.fields_before.Reads as general-fields-before
use Rattle.general.proofs.general_fault.Reads as general-general-fault
use Rattle.sets.proofs.descriptors_fault.Reads as sets-descriptors-fault
use Rattle.sets.proofs.channels.Reads as sets-channels
use Rattle.sets.proofs.subscans.Reads as sets-subscans
use Rattle.sets.proofs.samples_before.Reads as sets-samples-before
use Rattle.sets.proofs.samples.Reads as sets-samples
use Rattle.sets.proofs.channel_set.Reads as sets-channel-set
use Rattle.header.proofs.header_fault.Reads as header-header-fault
use Rattle.header.proofs.AcceptedBlock.of.Reads as header-of
use Rattle.header.proofs.is_set.Reads as header-is-set
use Rattle.header.proofs.read_header.Reads as header-read-header
use Rattle.header.proofs.descriptor.Reads as header-descriptor
use Rattle.layout.proofs.is_scan_type.Reads as layout-is-scan-type
use Rattle.layout.proofs.sample_index.Reads as layout-sample-index
use Rattle.layout.proofs.place_fault.Reads as layout-place-fault
use Rattle.layout.proofs.sample_place.Reads as layout-sample-place
use Rattle.parts.proofs.constants.Reads as parts-constants
use Rattle.parts.proofs.extended_place.Reads as parts-extended-place
use Rattle.parts.proofs.extended.Reads as parts-extended
use Rattle.parts.proofs.external.Reads as parts-external
use Rattle.skew.proofs.skew_fault.Reads as skew-skew-fault
use Rattle.skew.proofs.skew_place.Reads as skew-skew-place
use Rattle.skew.proofs.skew.Reads as skew-skew
use Rattle.skew.proofs.skew_at.Reads as skew-skew-at
use Rattle.skew.proofs.sample_time.Reads as skew-sample-time
use Rattle.scan.proofs.fit.Reads as scan-fit
use Rattle.scan.proofs.fit_by.Reads as scan-fit-by
use Rattle.runs.proofs.four_at.Reads as runs-four-at
use Rattle.runs.proofs.byte_words.Reads as runs-byte-words
use Rattle.runs.proofs.groups15.Reads as runs-groups15
use Rattle.runs.proofs.rest15.Reads as runs-rest15
use Rattle.body.proofs.open.Reads as body_open
use Rattle.stream.proofs.byte.shift.Reads as stream-shift
use Rattle.stream.proofs.byte.low.Reads as stream-low
use Rattle.stream.proofs.byte.nibble.Reads as stream-nibble
use Rattle.stream.proofs.portion.Reads as stream-portion
use Rattle.body.proofs.block_end.Reads as body-block-end
use Rattle.body.proofs.close.Reads as body_close
use Rattle.turns.proofs.trace_count.Reads as turns-trace-count
use Rattle.turns.proofs.turn_at.Reads as turns-turn-at
use Rattle.turns.proofs.subscans_at.Reads as turns-subscans-at
use Rattle.turns.proofs.skew_at.Reads as turns-skew-at
use Rattle.turns.proofs.place.Reads as turns-place
use Rattle.trace.proofs.fits.Reads as trace_fits
use Rattle.trace.proofs.look_at.Reads as trace-look-at
use Rattle.trace.proofs.halted.Reads as trace-halted
use Rattle.trace.proofs.stop_of.Reads as trace-stop-of
use Rattle.trace.proofs.answered.Reads as trace-answered
use Rattle.trace.proofs.admit.Reads as trace-admit
use Rattle.trace_stream.proofs.portion.Reads as trace-stream-portion
use Rattle.trace_body.proofs.open.Reads as trace-body-open
use Rattle.trace_body.proofs.block_end.Reads as trace-body-block-end
use Rattle.trace_body.proofs.close.Reads as trace-body-close
use Rattle.view.proofs.place_in.Reads as view-place-in
use Rattle.framing.proofs.close.Reads as framing_close
use Rattle.framing.proofs.next.Reads as framing_next
use Rattle.listing.proofs.record_line.Reads as listing-record-line
use Rattle.listing.proofs.last_line.Reads as listing-last-line
use Rattle.listing.proofs.store.Reads as listing-store
use Rattle.files.proofs.part.Reads as files-part
use Rattle.files.proofs.item_end.Reads as files-item-end
use Rattle.files.proofs.outcome.Reads as files-outcome
use Rattle.lister.proofs.start.Reads as lister-start
use Rattle.lister.proofs.portion.Reads as lister-portion
use Rattle.lister.proofs.finish.Reads as lister-finish
use Rattle.deck.proofs.bodies.segd_open.Reads as deck-segd-open
use Rattle.deck.proofs.bodies.segd_portion.Reads as deck-segd-portion
use Rattle.deck.proofs.bodies.segd_block_end.Reads as deck-segd-block-end
use Rattle.deck.proofs.bodies.segd_close.Reads as deck-segd-close
use Rattle.deck.proofs.traces.segd_trace_portion.Reads as deck-segd-trace-portion
use Rattle.deck.proofs.traces.segd_trace_end.Reads as deck-segd-trace-end
use Rattle.deck.proofs.traces.segd_trace_close.Reads as deck-segd-trace-close
use Rattle.deck.proofs.traces.segd_trace_place.Reads as deck-segd-trace-place
use Rattle.deck.proofs.headers.segd_packed.Reads as deck-segd-packed
use Rattle.deck.proofs.headers.segd_read_header.Reads as deck-segd-read-header
use Rattle.deck.proofs.headers.segd_descriptor.Reads as deck-segd-descriptor
use Rattle.deck.proofs.segd_format.Reads as deck-segd-format
use Rattle.deck.proofs.segd_read_word.Reads as deck-segd-read-word
use Rattle.deck.proofs.places.segd_sample_index.Reads as deck-segd-sample-index
use Rattle.deck.proofs.places.segd_sample_place.Reads as deck-segd-sample-place
use Rattle.deck.proofs.places.segd_constants.Reads as deck-segd-constants
use Rattle.deck.proofs.places.segd_extended.Reads as deck-segd-extended
use Rattle.deck.proofs.places.segd_external.Reads as deck-segd-external
use Rattle.deck.proofs.places.segd_skew.Reads as deck-segd-skew
use Rattle.deck.proofs.places.segd_skew_at.Reads as deck-segd-skew-at
use Rattle.deck.proofs.places.segd_sample_time.Reads as deck-segd-sample-time
use Rattle.demands.specs.One.{OneAnswer, OneContent, OnePart, OneLent}

pub record Unique : Type 0 where
  pub difference : OneAnswer basis-difference.Post
  pub magnitude : OneAnswer basis-magnitude.Post
  pub tell : OneAnswer refusals-tell.Post
  pub told_from : OneAnswer refusals-from.Post
  pub stop_refusal : OneAnswer refusals-stop-refusal.Post
  pub find : OneAnswer codes-find.Post
  pub group : OneAnswer codes-group.Post
  pub bits : OneAnswer codes-bits.Post
  pub read_word : OneAnswer words-read-word.Post
  pub read : OneAnswer words-read.Post
  pub value15 : OneAnswer words-value15.Post
  pub value24 : OneAnswer words-value24.Post
  pub value44 : OneAnswer words-value44.Post
  pub value48 : OneAnswer words-value48.Post
  pub lent : OneLent words-lent.Post
  pub off : OneAnswer words-off.Post
  pub value : OneAnswer words-value.Post
  pub packed : OneAnswer block-packed.Post
  pub byte_at : OneAnswer block-byte-at.Post
  pub upper_at : OneAnswer block-upper-at.Post
  pub lower_at : OneAnswer block-lower-at.Post
  pub pair_at : OneAnswer block-pair-at.Post
  pub two_pairs : OneAnswer block-two-pairs.Post
  pub three_pairs : OneAnswer block-three-pairs.Post
  pub three_digits : OneAnswer block-three-digits.Post
  pub word_at : OneAnswer block-word-at.Post
  pub all_pairs : OneAnswer block-all-pairs.Post
  pub fields_before : OneAnswer general-fields-before.Post
  pub general_fault : OneAnswer general-general-fault.Post
  pub descriptors_fault : OneAnswer sets-descriptors-fault.Post
  pub channels : OneAnswer sets-channels.Post
  pub subscans : OneAnswer sets-subscans.Post
  pub samples_before : OneAnswer sets-samples-before.Post
  pub samples : OneAnswer sets-samples.Post
  pub channel_set : OneAnswer sets-channel-set.Post
  pub header_faults : OneAnswer header-header-fault.Post
  pub accepted_block : OneAnswer header-of.Post
  pub is_set : OneAnswer header-is-set.Post
  pub read_header : OneAnswer header-read-header.Post
  pub descriptor : OneAnswer header-descriptor.Post
  pub is_scan_type : OneAnswer layout-is-scan-type.Post
  pub sample_index : OneAnswer layout-sample-index.Post
  pub place_fault : OneAnswer layout-place-fault.Post
  pub sample_place : OneAnswer layout-sample-place.Post
  pub constants : OnePart parts-constants.Post
  pub extended_place : OneAnswer parts-extended-place.Post
  pub extended : OnePart parts-extended.Post
  pub external : OnePart parts-external.Post
  pub skew_faults : OneAnswer skew-skew-fault.Post
  pub skew_place : OneAnswer skew-skew-place.Post
  pub skew : OnePart skew-skew.Post
  pub skew_at : OneAnswer skew-skew-at.Post
  pub sample_time : OneAnswer skew-sample-time.Post
  pub fit : OneAnswer scan-fit.Post
  pub fit_by : OneAnswer scan-fit-by.Post
  pub four_at : OneAnswer runs-four-at.Post
  pub byte_words : OneAnswer runs-byte-words.Post
  pub byte_words_content : OneContent runs-byte-words.Post (λ κ e. e.1.1.1.0.now)
  pub groups15 : OneAnswer runs-groups15.Post
  pub groups15_content : OneContent runs-groups15.Post (λ κ e. e.1.0.now)
  pub rest15 : OneAnswer runs-rest15.Post
  pub rest15_content : OneContent runs-rest15.Post (λ κ e. e.1.1.1.0.now)
  pub body_open : OneAnswer body_open.Post
  pub shift : OneAnswer stream-shift.Post
  pub low : OneAnswer stream-low.Post
  pub nibble : OneAnswer stream-nibble.Post
  pub portion : OneAnswer stream-portion.Post
  pub portion_content : OneContent stream-portion.Post (λ κ e. e.1.1.0.now)
  pub block_end : OneAnswer body-block-end.Post
  pub body_close : OneAnswer body_close.Post
  pub trace_count : OneAnswer turns-trace-count.Post
  pub turn_at : OneAnswer turns-turn-at.Post
  pub subscans_at : OneAnswer turns-subscans-at.Post
  pub trace_skew_at : OneAnswer turns-skew-at.Post
  pub trace_place : OneAnswer turns-place.Post
  pub trace_fits : OneAnswer trace_fits.Post
  pub look_at : OneAnswer trace-look-at.Post
  pub halted : OneAnswer trace-halted.Post
  pub stop_of : OneAnswer trace-stop-of.Post
  pub answered : OneAnswer trace-answered.Post
  pub admit : OneAnswer trace-admit.Post
  pub trace_portion : OneAnswer trace-stream-portion.Post
  pub trace_portion_content : OneContent trace-stream-portion.Post (λ κ e. e.1.1.1.0.now)
  pub trace_open : OneAnswer trace-body-open.Post
  pub trace_end : OneAnswer trace-body-block-end.Post
  pub trace_close : OneAnswer trace-body-close.Post
  pub place_in : OneAnswer view-place-in.Post
  pub framing_close : OneAnswer framing_close.Post
  pub framing_next : OneAnswer framing_next.Post
  pub record_line : OneAnswer listing-record-line.Post
  pub record_line_content : OneContent listing-record-line.Post (λ κ e. e.0.now)
  pub last_line : OneAnswer listing-last-line.Post
  pub last_line_content : OneContent listing-last-line.Post (λ κ e. e.0.now)
  pub store : OneAnswer listing-store.Post
  pub store_content : OneContent listing-store.Post (λ κ e. e.0.now)
  pub part : OneAnswer files-part.Post
  pub part_header : OneContent files-part.Post (λ κ e. e.1.1.0.now)
  pub part_numbers : OneContent files-part.Post (λ κ e. e.1.1.1.0.now)
  pub item_end : OneAnswer files-item-end.Post
  pub outcome : OneAnswer files-outcome.Post
  pub starts : OneAnswer lister-start.Post
  pub lists : OneAnswer lister-portion.Post
  pub lists_header : OneContent lister-portion.Post (λ κ e. e.1.1.0.now)
  pub lists_numbers : OneContent lister-portion.Post (λ κ e. e.1.1.1.0.now)
  pub lists_lines : OneContent lister-portion.Post (λ κ e. e.1.1.1.1.0.now)
  pub finishes : OneAnswer lister-finish.Post
  pub finishes_lines : OneContent lister-finish.Post (λ κ e. e.1.0.now)
  pub segd_open : OneAnswer deck-segd-open.Post
  pub segd_portion : OneAnswer deck-segd-portion.Post
  pub segd_portion_content : OneContent deck-segd-portion.Post (λ κ e. e.1.1.0.now)
  pub segd_block_end : OneAnswer deck-segd-block-end.Post
  pub segd_close : OneAnswer deck-segd-close.Post
  pub segd_trace_portion : OneAnswer deck-segd-trace-portion.Post
  pub segd_trace_portion_content : OneContent deck-segd-trace-portion.Post (λ κ e. e.1.1.1.0.now)
  pub segd_trace_end : OneAnswer deck-segd-trace-end.Post
  pub segd_trace_close : OneAnswer deck-segd-trace-close.Post
  pub segd_trace_place : OneAnswer deck-segd-trace-place.Post
  pub segd_packed : OneAnswer deck-segd-packed.Post
  pub segd_read_header : OneAnswer deck-segd-read-header.Post
  pub segd_descriptor : OneAnswer deck-segd-descriptor.Post
  pub segd_format : OneAnswer deck-segd-format.Post
  pub segd_read_word : OneAnswer deck-segd-read-word.Post
  pub segd_sample_index : OneAnswer deck-segd-sample-index.Post
  pub segd_sample_place : OneAnswer deck-segd-sample-place.Post
  pub segd_constants : OneAnswer deck-segd-constants.Post
  pub segd_extended : OneAnswer deck-segd-extended.Post
  pub segd_external : OneAnswer deck-segd-external.Post
  pub segd_skew : OneAnswer deck-segd-skew.Post
  pub segd_skew_at : OneAnswer deck-segd-skew-at.Post
  pub segd_sample_time : OneAnswer deck-segd-sample-time.Post
