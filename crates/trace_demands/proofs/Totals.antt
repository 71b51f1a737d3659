-- A report's samples are its scans x S/S: every trace has its scan type's scans, and 2^(S/C) samples in each.
-- Assumes nothing.
use Rattle.std.specs.Prelude.{Ok, Result, ⊤}
use Prim.Native.Nat.{ℕ, zero, suc, ◌+◌, ◌-◌, ◌*◌, ◌≤◌, ◌<◌}
use mathlib.Core.Path.{◌≡◌, refl, sym, ap, subst, ◌∙◌}
use mathlib.Core.Bool.{Bool, true, false, not}
use mathlib.Core.List.{List}
use mathlib.Core.Logic.{⊎_elim}
use native.Mathlib.Nat.{eq-zero-or-pos, mul-zero, mul_comm, mul_assoc}
use native.Mathlib.Omega.{arith}
use lib.Dec.{eqb, ltb}
use lib.ListN.{length}
use borrow.Author.Tests.{eqb-true, eqb-false, ltb-false, leb-false}
use Rattle.basis.specs.Choice.{pick, ◌or◌}
use Rattle.basis.specs.Upto.{upto, sum_upto}
use Rattle.basis.proofs.Uptos.{sum_grows}
use Rattle.refusals.specs.declared.Refusal.TheVariants.{Part, Open, Missing, Block, FourAt, Count}
use Rattle.refusals.specs.Order.{when, or_else}
use Rattle.refusals.proofs.Clears.{both_clear, when_clear}
use Rattle.general.specs.General.{code_of, scan_types, channel_sets}
use Rattle.sets.specs.Samples.{channels_of, subscans_of, set_samples, samples_of}
use Rattle.header.specs.Faults.{header_fault}
use Rattle.header.proofs.Accepted.{sizes, same_samples, types_few}
use Rattle.layout.proofs.Facts.{kept}
use Rattle.layout.proofs.SetLaws.{set_at_lem, set_of_sample}
use Rattle.turns.specs.Turns.{traces_of, trace_count, holder_of, type_at, turn_at, subscans_at}
use Rattle.rules.specs.Tape.{Body, ends, length_of, start_of, size}
use Rattle.rules.specs.First.{Stops, nowhere}
use Rattle.rules.specs.Outcome.{Report, report}
use Rattle.rules.proofs.Tapes.{last_block, size_last}
use Rattle.trace_rules.specs.Samples.{samples_in, left_in}
use Rattle.trace_rules.specs.Faults.{byte_fault, end_fault, after_last, header_cut, four_wrong, count_wrong, per_scan, scans_of, type_scans}
use Rattle.trace_rules.specs.Outcome.{bytes_in, done_in, done_before, new_scans, scans_read, types_seen, part_left, stop_of, closing}
use Rattle.trace_rules.proofs.Laws.{stop_first}
use Rattle.trace_agree.proofs.Counts.{none_yet}
use Rattle.trace_agree.proofs.Places.{Side, lower, even, upper, side}
use Rattle.trace_agree.proofs.Sums.{upto_below}
use Rattle.trace_demands.specs.TraceDemand3.{first_of, Whole}
use Rattle.trace_demands.proofs.Headers.{or_false, not_not}
use Rattle.trace_demands.proofs.Orders.{type, set, turn_is}
use Rattle.trace_demands.proofs.Samples.{reported}
use Rattle.trace_demands.proofs.Sums.{regroup, sum_same, sum_times, sum_none, first_alone}
use Rattle.refusals.specs.declared.Refusal.{Refusal}

module _ (b : List ℕ) (d : Body) where
  -- ---- a trace that has ended without a fault
  pub record Ended (k : ℕ) : Type 0 where
    pub below : k < trace_count b
    pub left : left_in (code_of b) (length_of d k) ≡ 0
    pub some : 0 < type_scans b d k
    pub samples : samples_in (code_of b) (length_of d k) ≡ type_scans b d k * per_scan b d k

  ended_by : (k s p : ℕ) → p - s ≡ length_of d k → end_fault b d k s p ≡ Ok tt → Ended k
  unfolding end_fault
  ended_by k s p q e =
      let f = both_clear (when (after_last b d k or header_cut b d (p - s)) (Block p)) _ e in
      let g = both_clear (when (four_wrong b d (p - s)) (FourAt p ((turn_at b k).scan_type + 1) ((turn_at b k).set + 1))) _ f.1 in
      let a = or_false (after_last b d k) (header_cut b d (p - s)) (when_clear _ (Block p) f.0) in
      let c = or_false (not (eqb (left_in (code_of b) (p - s)) 0)) _ (when_clear (count_wrong b d k (p - s)) (Count p) g.1) in
      let m = or_false (eqb (type_scans b d k) 0) _ c.1 in
      let n : samples_in (code_of b) (p - s) ≡ type_scans b d k * per_scan b d k = eqb-true _ _ (not_not (eqb (samples_in (code_of b) (p - s)) (type_scans b d k * per_scan b d k)) m.1) in
      record {
        below = leb-false (trace_count b) k a.0;
        left = ap (left_in (code_of b)) (sym q) ∙ eqb-true _ _ (not_not (eqb (left_in (code_of b) (p - s)) 0) c.0);
        some = ⊎_elim (λ (z : type_scans b d k ≡ 0). absurd (eqb-false (type_scans b d k) 0 m.0 z)) (λ l. l) (eq-zero-or-pos (type_scans b d k));
        samples = ap (samples_in (code_of b)) (sym q) ∙ n;
      }

  ended : stop_of b d ≡ Ok tt → (k : ℕ) → k < ends d → Ended k
  unfolding upto
  ended e k l = go (subst (Stops (byte_fault b d) (end_fault b d) d) e (stop_first b d))
    where
      go : Stops (byte_fault b d) (end_fault b d) d (Ok tt) → Ended k
      go (nowhere blocks bytes) = ended_by k (start_of d k) (start_of d k + length_of d k) (omega arith) (blocks k l).1

  -- ---- the scans of scan type t, those of its first trace; and what a trace has
  abbrev scans_in : ℕ → ℕ
  scans_in t = scans_of b d (sum_upto (traces_of b) t)

  abbrev has : ℕ → ℕ
  has k = type_scans b d k * per_scan b d k

  type_of : (t j : ℕ) → t < scan_types b → j < traces_of b t → type b (sum_upto (traces_of b) t + j) ≡ t
  type_of t j l h = set_of_sample (traces_of b) (scan_types b) t j l h

  rest_of : (t j : ℕ) → sum_upto (traces_of b) t + j - sum_upto (traces_of b) t ≡ j
  rest_of t j = omega arith

  type_first : (k : ℕ) → (type_at b k).first ≡ sum_upto (traces_of b) (type b k)
  unfolding type_at holder_of
  type_first k = refl

  has_at : (t j : ℕ) → t < scan_types b → j < traces_of b t → has (sum_upto (traces_of b) t + j) ≡ scans_in t * subscans_of b t (set b t j)
  unfolding subscans_at
  has_at t j l h = rw (type_first (sum_upto (traces_of b) t + j), turn_is b (sum_upto (traces_of b) t + j), type_of t j l h, rest_of t j)

  first_at : (t j : ℕ) → t < scan_types b → j < traces_of b t → (turn_at b (sum_upto (traces_of b) t + j)).first ≡ eqb j 0
  first_at t j l h = rw (turn_is b (sum_upto (traces_of b) t + j), type_of t j l h, rest_of t j)

  new_at : (t j : ℕ) → t < scan_types b → j < traces_of b t → new_scans b d (sum_upto (traces_of b) t + j) ≡ pick (eqb j 0) (scans_in t) 0
  unfolding pick
  new_at t j l h = ap (λ (x : Bool). pick x (scans_of b d (sum_upto (traces_of b) t + j)) 0) (first_at t j l h) ∙ go (eqb j 0) refl
    where
      go : (x : Bool) → eqb j 0 ≡ x → pick x (scans_of b d (sum_upto (traces_of b) t + j)) 0 ≡ pick x (scans_in t) 0
      go true e = let z : sum_upto (traces_of b) t + j ≡ sum_upto (traces_of b) t = omega (arith, eqb-true j 0 e) in rw z
      go false e = refl

  -- ---- of a scan type: its sets' channels, each with its subscans
  set_gives : (t s : ℕ) → sum_upto (λ (c : ℕ). scans_in t * subscans_of b t s) (channels_of b t s) ≡ set_samples b t s * scans_in t
  unfolding set_samples
  set_gives t s =
      sum_same (scans_in t * subscans_of b t s) (channels_of b t s) ∙ ap (λ (x : ℕ). channels_of b t s * x) (mul_comm (scans_in t) (subscans_of b t s))
      ∙ sym (mul_assoc (channels_of b t s) (subscans_of b t s) (scans_in t))

  type_gives : (t : ℕ) → sum_upto (λ (j : ℕ). scans_in t * subscans_of b t (set b t j)) (traces_of b t) ≡ samples_of b t * scans_in t
  unfolding traces_of samples_of
  type_gives t =
      regroup (channels_of b t) (λ (j : ℕ). scans_in t * subscans_of b t (set b t j)) (λ (s c : ℕ). scans_in t * subscans_of b t s) (channel_sets b)
      (λ s c l h. ap (λ (x : ℕ). scans_in t * subscans_of b t x) (set_of_sample (channels_of b t) (channel_sets b) s c l h))
      ∙ upto_below ◌+◌ 0 (λ (s : ℕ). sum_upto (λ (c : ℕ). scans_in t * subscans_of b t s) (channels_of b t s)) (λ (s : ℕ). set_samples b t s * scans_in t) (channel_sets b) (λ s l. set_gives t s)
      ∙ sum_times (set_samples b t) (scans_in t) (channel_sets b)

  -- ---- of all
  module _ (clear : header_fault b ≡ Ok tt) where
    all_give : sum_upto has (trace_count b) ≡ sum_upto scans_in (scan_types b) * samples_of b 0
    unfolding trace_count
    all_give =
        regroup (traces_of b) has (λ (t j : ℕ). scans_in t * subscans_of b t (set b t j)) (scan_types b) has_at
        ∙ upto_below ◌+◌ 0 (λ (t : ℕ). sum_upto (λ (j : ℕ). scans_in t * subscans_of b t (set b t j)) (traces_of b t)) (λ (t : ℕ). scans_in t * samples_of b 0) (scan_types b)
        (λ t l. type_gives t ∙ mul_comm (samples_of b t) (scans_in t) ∙ ap (λ (x : ℕ). scans_in t * x) (same_samples b clear t l))
        ∙ sum_times scans_in (samples_of b 0) (scan_types b)

    -- a scan type without traces has no samples
    some_traces : 0 < samples_of b 0 → (t : ℕ) → t < scan_types b → 0 < traces_of b t
    unfolding traces_of samples_of set_samples
    some_traces p t l =
        ⊎_elim (λ (e : traces_of b t ≡ 0). absurd (omega (arith, p, same_samples b clear t l, sum_none (channels_of b t) (subscans_of b t) (channel_sets b) e))) (λ q. q) (eq-zero-or-pos (traces_of b t))

    all_new : 0 < samples_of b 0 → sum_upto (new_scans b d) (trace_count b) ≡ sum_upto scans_in (scan_types b)
    unfolding trace_count
    all_new p =
        regroup (traces_of b) (new_scans b d) (λ (t j : ℕ). pick (eqb j 0) (scans_in t) 0) (scan_types b) new_at
        ∙ upto_below ◌+◌ 0 (λ (t : ℕ). sum_upto (λ (j : ℕ). pick (eqb j 0) (scans_in t) 0) (traces_of b t)) scans_in (scan_types b) (λ t l. first_alone (scans_in t) (traces_of b t) (some_traces p t l))

    all_scans : sum_upto has (trace_count b) ≡ scans_read b d (trace_count b) * samples_of b 0
    all_scans =
        all_give
        ∙ ⊎_elim (λ (e : samples_of b 0 ≡ 0). rw (e, mul-zero (sum_upto scans_in (scan_types b)), mul-zero (scans_read b d (trace_count b))))
        (λ (p : 0 < samples_of b 0). ap (λ (x : ℕ). x * samples_of b 0) (sym (all_new p))) (eq-zero-or-pos (samples_of b 0))

  -- ---- of a body that is closed with a report: every trace has ended, and none is begun
  tail_none : length d.tail ≡ 0 → length_of d (ends d) ≡ 0
  tail_none e = ap length (last_block d) ∙ e

  seen_is : (n : ℕ) → 0 < n → types_seen b d n ≡ type b n
  unfolding type_at holder_of
  seen_is zero l = absurd (omega arith)
  seen_is (suc n) l = refl

  module _ (clear : header_fault b ≡ Ok tt) (going : stop_of b d ≡ Ok tt) (none : length d.tail ≡ 0) (seen : scan_types b ≤ types_seen b d (ends d)) where
    some : 0 < ends d
    some = go (ends d) refl
      where
        go : (n : ℕ) → ends d ≡ n → 0 < ends d
        go zero e = let q : types_seen b d (ends d) ≡ 0 = ap (types_seen b d) e in absurd (omega (arith, q, seen, (types_few b clear).0))
        go (suc n) e = omega (arith, e)

    types : type b (ends d) ≡ scan_types b
    types = omega (arith, seen, seen_is (ends d) some, (set_at_lem (traces_of b) (ends d) (scan_types b)).inside)

    enough : trace_count b ≤ ends d
    unfolding trace_count
    enough = omega (arith, ap (sum_upto (traces_of b)) types, (set_at_lem (traces_of b) (ends d) (scan_types b)).begins)

    last : ends d - 1 < trace_count b
    last = (ended going (ends d - 1) (omega (arith, some))).below

    all : ends d ≡ trace_count b
    all = omega (arith, enough, last, some)

    -- the samples of each
    start_next : (k : ℕ) → start_of d (suc k) ≡ start_of d k + length_of d k
    unfolding upto
    start_next k = refl

    bytes_all : (k : ℕ) → k < ends d → bytes_in d (size d) k ≡ length_of d k
    bytes_all k l = omega (arith, start_next k, sum_grows (length_of d) (suc k) (ends d) l, size_last d)

    done_at : (k : ℕ) → k < ends d → done_in b d (size d) k ≡ has k
    done_at k l = ap (samples_in (code_of b)) (bytes_all k l) ∙ (ended going k l).samples

    done_last : done_in b d (size d) (ends d) ≡ 0
    done_last = none_yet (code_of b) (sizes b clear) (bytes_in d (size d) (ends d)) (omega (arith, tail_none none))

    total : done_before b d (size d) ≡ scans_read b d (ends d) * samples_of b 0
    unfolding upto
    total =
        let a : sum_upto (done_in b d (size d)) (ends d) ≡ sum_upto has (ends d) = upto_below ◌+◌ 0 (done_in b d (size d)) has (ends d) done_at in
        let c : sum_upto has (ends d) ≡ scans_read b d (ends d) * samples_of b 0 = rw all (all_scans clear) in
        omega (arith, a, c, done_last)

  type_now : (k : ℕ) → (type_at b k).first ≡ first_of b (turn_at b k).scan_type
  type_now k = rw (type_first k, turn_is b k)

  -- of so many ends
  seen_low : (n t : ℕ) → t ≤ type b n → first_of b t ≤ n
  seen_low n t l = omega (arith, sum_grows (traces_of b) t (type b n) l, (set_at_lem (traces_of b) n (scan_types b)).begins)

  seen_high : (n t : ℕ) → t ≤ scan_types b → first_of b t ≤ n → t ≤ type b n
  seen_high n t l h = go (side (type b n) t)
    where
      go : Side (type b n) t → t ≤ type b n
      go (lower u) = absurd (omega (arith, h, (set_at_lem (traces_of b) n (scan_types b)).ends (omega arith), sum_grows (traces_of b) (type b n + 1) t (omega arith)))
      go (even e) = omega (arith, e)
      go (upper u) = omega (arith, u)

  pub seen_so : (n t : ℕ) → t ≤ types_seen b d n → first_of b t ≤ n
  unfolding upto
  seen_so zero t l = let e : t ≡ 0 = omega arith in rw e (omega arith)
  seen_so (suc n) t l = seen_low (suc n) t (rw (seen_is (suc n) (omega arith)) at l)

  pub ended_so : (n t : ℕ) → 0 < n → t ≤ scan_types b → first_of b t ≤ n → t ≤ types_seen b d n
  ended_so n t z l h = rw (seen_is n z) (seen_high n t l h)

pub whole : (b : List ℕ) (d : Body) (t : Report) → header_fault b ≡ Ok tt → closing b d ≡ report t → Whole b d t
unfolding subscans_at
whole b d t clear e =
    let part : (Result ⊤ Refusal) = when (part_left b d (length d.tail)) Part in
    let later : (Result ⊤ Refusal) = when (not (eqb (length d.tail) 0)) Open in
    let missing : (Result ⊤ Refusal) = when (ltb (types_seen b d (ends d)) (scan_types b)) Missing in
    let g = reported b d t e in
    let p = both_clear (stop_of b d) (or_else part (or_else later missing)) g.0 in
    let q = both_clear part (or_else later missing) p.1 in
    let r = both_clear later missing q.1 in
    let none : length d.tail ≡ 0 = eqb-true _ _ (kept (eqb (length d.tail) 0) Open r.0) in
    let seen : scan_types b ≤ types_seen b d (ends d) = ltb-false _ _ (when_clear (ltb (types_seen b d (ends d)) (scan_types b)) Missing r.1) in
    let n : ends d ≡ trace_count b = all b d clear p.0 none seen in
    let f : (k : ℕ) → k < trace_count b → Ended b d k = λ k l. ended b d p.0 k (omega (arith, n, l)) in
    record {
      all = n;
      no_more = none;
      scans = λ k l. rw (← type_now b d k) (f k l).some;
      each = λ k l. rw (← type_now b d k) (f k l).samples;
      left = λ k l. (f k l).left;
      samples = rw g.1 (total b d clear p.0 none seen);
      last_type = rw g.1 (seen_is b d (ends d) (some b d clear p.0 none seen) ∙ types b d clear p.0 none seen);
      itb = rw g.1;
      window = rw g.1;
    }
