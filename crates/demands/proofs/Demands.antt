-- The three demands hold, and the lister's.
-- Assumes nothing.
use Rattle.std.specs.Prelude.{Err, Ok, Result, ⊤}
use Prim.Native.Nat.{ℕ, ◌+◌, ◌-◌, ◌*◌, ◌/◌, ◌%◌, ◌^◌, ◌<◌}
use mathlib.Core.Path.{◌≡◌, refl, subst}
use mathlib.Core.Bool.{true, not}
use mathlib.Core.List.{List}
use native.Mathlib.Nat.{zero-add}
use native.Mathlib.Omega.{arith}
use lib.Dec.{ltb}
use borrow.Author.Tests.{lt-ltb, ltb-true}
use Rattle.basis.specs.Choice.{pick}
use Rattle.basis.proofs.FieldLaws.{last_back, fraction_back, exponent_back, sign_back, rejoined}
use Rattle.values.proofs.Laws.{same_refl, same_sym, same_trans, same_shift, same_tested, same_told, less_tested, less_told, less_irrefl, less_trans, same_less, less_level, total}
use Rattle.codes.specs.declared.Row.{Row}
use Rattle.codes.specs.Codes.{SoundRow}
use Rattle.codes.proofs.Rows.{fit}
use Rattle.refusals.specs.declared.Refusal.TheVariants.{Index, Sheet}
use Rattle.refusals.specs.Order.{when, or_else}
use Rattle.refusals.proofs.Clears.{both_clear}
use Rattle.general.specs.General.{interval_of}
use Rattle.sets.specs.declared.ChannelSet.{ChannelSet}
use Rattle.sets.specs.ChannelSets.{channel_set_of}
use Rattle.header.specs.declared.Header.{Header}
use Rattle.header.specs.Faults.{header_fault}
use Rattle.header.specs.Answers.{header_of, header_answer, answer_after, is_set, descriptor_answer, described_after}
use Rattle.layout.specs.Indexes.{has_sample, place_fault}
use Rattle.layout.proofs.Facts.{kept as was}
use Rattle.layout.proofs.Inverses.{inverse}
use Rattle.layout.proofs.SetLaws.{channel_is, subscan_is}
use Rattle.words.specs.Words.{spare_of}
use Rattle.words.proofs.Parts.{taken}
use Rattle.header.proofs.Accepted.{descriptor_inside, subscans_small, skew_inside, same_samples, no_scan_bytes}
use Rattle.layout.proofs.WordLaws.{words_apart, word_inside, words_fill}
use Rattle.body.proofs.Opens.{open_unfit}
use Rattle.stream.proofs.Stops.{stop_said}
use Rattle.skew.specs.Skews.{sheet_holds, skew_byte, skew_byte_fault, skew_after, skew_answer}
use Rattle.skew.specs.Times.{time_by, time_fault, time_answer, time_after}
use Rattle.rules.specs.Tape.{Body, byte_at}
use Rattle.rules.specs.Scans.{Shape}
use Rattle.rules.specs.Samples.{numbers_at}
use Rattle.rules.specs.Outcome.{done_of}
use Rattle.rules.proofs.Laws.{stop_first}
use Rattle.agree.proofs.Agreement.{agreement, turned_away, no_scans}
use Rattle.framing.proofs.Framed.{framed}
use Rattle.lister.proofs.Listed.{listed}
use Rattle.trace_demands.proofs.Scans.{stopping, portions}
use Rattle.trace_demands.proofs.Samples.{pairs_length, pair_at}
use Rattle.trace_demands.proofs.TraceDemands.{trace_demand1, trace_demand2, trace_demand3}
use Rattle.demands.specs.Demand1.{Demand1}
use Rattle.demands.specs.Demand2.{OwnBytes, Compared, Cut, Askable, Demand2}
use Rattle.demands.specs.Demand3.{InOrder, Demand3}
use Rattle.demands.specs.Reel.{Reel}
use Rattle.demands.proofs.Numbers.{numbers, four}
use Rattle.demands.proofs.Uniques.{unique}
use Rattle.demands.proofs.Helds.{unique_held}
use Rattle.demands.proofs.Bounds.{bound}
use Rattle.demands.proofs.BoundHelds.{bound_held}
use Rattle.demands.proofs.Eachs.{unique_of_each, bound_of_each}
use Rattle.demands.proofs.Owed.{owed}
use Rattle.demands.proofs.Handed.{external_next, external_last, skew_bytes_lem}
use Rattle.demands.proofs.Figures.{all_figures}
use Rattle.refusals.specs.declared.Refusal.{Refusal}

-- ---- 1
pub demand1 : Demand1
demand1 = record {
  one = unique;
  held = unique_held;
  each = unique_of_each;
  bound = bound;
  bound_held = bound_held;
  bound_each = bound_of_each;
  numbers = numbers;
  four = four;
  stopping = stopping;
  unopened = turned_away;
  unscanned = no_scans;
  shut = open_unfit;
  told = stop_said;
  traces = trace_demand1;
}

-- ---- 2
-- an answer that is given was given where there is no fault
header_given : (f : Result ⊤ Refusal) (a h : Header) → answer_after f a ≡ Ok h → (f ≡ Ok tt) × (h ≡ a)
header_given (Ok tt) a h e = (refl, cc)
header_given (Err r) a h e = let z : ◌≡◌ {A = ℕ} 0 1 = cc in absurd (omega arith)

set_given : (f : Result ⊤ Refusal) (a d : ChannelSet) → described_after f a ≡ Ok d → (f ≡ Ok tt) × (d ≡ a)
set_given (Ok tt) a d e = (refl, cc)
set_given (Err r) a d e = let z : ◌≡◌ {A = ℕ} 0 1 = cc in absurd (omega arith)

skew_given : (f : Result ⊤ Refusal) (a x : ℕ) → skew_after f a ≡ Ok x → (f ≡ Ok tt) × (x ≡ a)
skew_given (Ok tt) a x e = (refl, cc)
skew_given (Err r) a x e = let z : ◌≡◌ {A = ℕ} 0 1 = cc in absurd (omega arith)

time_given : (f : Result ⊤ Refusal) (a x : ℕ) → time_after f a ≡ Ok x → (f ≡ Ok tt) × (x ≡ a)
time_given (Ok tt) a x e = (refl, cc)
time_given (Err r) a x e = let z : ◌≡◌ {A = ℕ} 0 1 = cc in absurd (omega arith)

-- what a question that is not refused was asked of
set_asked : (b : List ℕ) (t s : ℕ) (d : ChannelSet) → descriptor_answer b t s ≡ Ok d → (header_fault b ≡ Ok tt) × (is_set b t s ≡ true) × (d ≡ channel_set_of b (t - 1) (s - 1))
unfolding descriptor_answer
set_asked b t s d e =
    let g = set_given (or_else (header_fault b) (when (not (is_set b t s)) Index)) (channel_set_of b (t - 1) (s - 1)) d e in
    let p = both_clear (header_fault b) (when (not (is_set b t s)) Index) g.0 in
    (p.0, was (is_set b t s) Index p.1, g.1)

askable : (b sheet : List ℕ) (t k : ℕ) → place_fault b t k ≡ Ok tt → when (not (sheet_holds b sheet)) Sheet ≡ Ok tt → Askable b sheet t k
unfolding place_fault
askable b sheet t k e h =
    let p = both_clear (header_fault b) (when (not (has_sample b t k)) Index) e in
    record { accepted = p.0; there = was (has_sample b t k) Index p.1; sheeted = was (sheet_holds b sheet) Sheet h }

skew_asked : (b sheet : List ℕ) (t k SS : ℕ) → skew_answer b sheet t k ≡ Ok SS → Askable b sheet t k × (SS ≡ skew_byte b sheet (t - 1) k)
unfolding skew_answer skew_byte_fault
skew_asked b sheet t k SS e =
    let g = skew_given (or_else (place_fault b t k) (when (not (sheet_holds b sheet)) Sheet)) (skew_byte b sheet (t - 1) k) SS e in
    let p = both_clear (place_fault b t k) (when (not (sheet_holds b sheet)) Sheet) g.0 in
    (askable b sheet t k p.0 p.1, g.1)

time_asked : (b sheet : List ℕ) (t k T time : ℕ) → time_answer b sheet t k T ≡ Ok time
    → Askable b sheet t k × (T < 2 ^ 24) × (time ≡ time_by T (skew_byte b sheet (t - 1) k) (interval_of b))
unfolding time_answer time_fault
time_asked b sheet t k T time e =
    let late : (Result ⊤ Refusal) = when (not (ltb T (2 ^ 24))) Index in
    let other : (Result ⊤ Refusal) = when (not (sheet_holds b sheet)) Sheet in
    let g = time_given (or_else (place_fault b t k) (or_else late other)) (time_by T (skew_byte b sheet (t - 1) k) (interval_of b)) time e in
    let p = both_clear (place_fault b t k) (or_else late other) g.0 in
    let q = both_clear late other p.1 in
    (askable b sheet t k p.0 q.1, ltb-true T (2 ^ 24) (was (ltb T (2 ^ 24)) Index q.0), g.1)

-- a row's own widths add up to its word's
widths : (r : Row) → SoundRow r → r.width - r.apart ≡ 1 + (spare_of r + r.fraction + (r.exponent - r.apart))
widths r f = omega (arith, f.whole, f.inside)

place_of_sign : (r : Row) → SoundRow r → r.width - r.apart - 1 ≡ spare_of r + r.fraction + (r.exponent - r.apart)
place_of_sign r f = omega (arith, f.whole, f.inside)

cut_in : (r : Row) → SoundRow r → Cut r
cut_in r f =
    record {
      cut = λ word h. rw (place_of_sign r f, zero-add) (rejoined (r.exponent - r.apart) r.fraction (spare_of r) word (subst (λ (n : ℕ). word < 2 ^ n) (widths r f) h));
      joined = λ s e q last hs he hq hl. (
        rw (place_of_sign r f) (sign_back _ _ _ s e q last hs he hq hl),
        rw zero-add (exponent_back _ _ _ s e q last hs he hq hl),
        fraction_back _ _ _ s e q last hs he hq hl,
        last_back _ _ _ s e q last hs he hq hl,
      );
    }

own_bytes : (b : List ℕ) → header_fault b ≡ Ok tt → OwnBytes b
own_bytes b e =
    record {
      apart = words_apart b e;
      inside = word_inside b e;
      fill = words_fill b e;
      none = no_scan_bytes b e;
      descriptors = descriptor_inside b e;
      subscans = subscans_small b e;
      skews = skew_inside b e;
      alike = same_samples b e;
      extended = external_next b;
      external = external_last b e;
    }

compared : Compared
compared = record {
  refl = same_refl;
  sym = same_sym;
  trans = same_trans;
  shift = same_shift;
  same_tested = same_tested;
  same_told = same_told;
  less_tested = less_tested;
  less_told = less_told;
  irrefl = less_irrefl;
  less_trans = less_trans;
  same_less = same_less;
  total = total;
  level = less_level;
}

pub demand2 : Demand2
unfolding header_answer descriptor_answer place_fault skew_byte_fault skew_answer time_fault time_answer pick
demand2 = record {
  accepts = λ b e. rw e;
  fields = λ b h e. header_given (header_fault b) (header_of b) h e;
  described = λ b t s e i. rw (e, i);
  sets = set_asked;
  places = inverse;
  samples = λ code c word r e hc hw. taken code r e c word hc hw;
  cut = λ code r e. cut_in r (fit code r e);
  own = own_bytes;
  values = compared;
  skews = skew_bytes_lem;
  skewed = λ b sheet t k a. rw (a.accepted, a.there, a.sheeted);
  skew_bytes = skew_asked;
  timed = λ b sheet t k T a l. rw (a.accepted, a.there, lt-ltb T (2 ^ 24) l, a.sheeted);
  sample_times = time_asked;
  starred = all_figures;
  traces = trace_demand2;
}

-- ---- 3
-- sample j x S/S + k is sample k of scan j
scan_is : (sh : Shape) (j k : ℕ) → k < sh.samples → (j * sh.samples + k) / sh.samples ≡ j
scan_is sh j k h = subscan_is sh.samples (j + 1) j k h (omega arith)

index_is : (sh : Shape) (j k : ℕ) → k < sh.samples → (j * sh.samples + k) % sh.samples ≡ k
index_is sh j k h = channel_is sh.samples (j + 1) j k h (omega arith)

in_order : (sh : Shape) (d : Body) → InOrder sh d
unfolding numbers_at
in_order sh d = record {
  count = pairs_length (numbers_at sh (byte_at d)) (λ k. refl) (done_of sh d);
  sample = λ n h. pair_at (numbers_at sh (byte_at d)) (λ k. refl) n (done_of sh d) h;
  word = λ j k h. rw (scan_is sh j k h, index_is sh j k h);
  lead = λ j k h. rw (scan_is sh j k h, index_is sh j k h);
}

pub demand3 : Demand3
demand3 = record {
  agrees = agreement;
  portions = portions;
  owed = owed;
  order = in_order;
  first = stop_first;
  traces = trace_demand3;
}

-- ---- the lister
pub reel : Reel
reel = record { framed = framed; listed = listed }
