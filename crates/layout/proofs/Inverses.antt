-- The two questions are inverse on every block, and reach every sample of a scan.
-- Assumes nothing.
use Rattle.std.specs.Prelude.{Err, Ok, Result, ⊤}
use Prim.Native.Nat.{ℕ, ◌+◌, ◌*◌, ◌-◌, ◌/◌, ◌%◌, ◌^◌, ◌≤◌, ◌<◌}
use mathlib.Core.Path.{◌≡◌, refl, ap}
use mathlib.Core.Bool.{true}
use mathlib.Core.List.{List}
use native.Mathlib.Nat.{mul_comm, mod-lt, div-lt_iff_lt-mul, div-add-mod'}
use native.Mathlib.Omega.{arith}
use borrow.Author.Tests.{le-leb, ltb-true, lt-ltb}
use Rattle.basis.specs.Choice.{pick, ◌and◌}
use Rattle.basis.specs.Upto.{sum_upto}
use Rattle.basis.proofs.Choices.{and_true, both_true}
use Rattle.refusals.specs.declared.Refusal.TheVariants as refusals
use Rattle.refusals.specs.Order.{when}
use Rattle.refusals.proofs.Clears.{both_clear}
use Rattle.general.specs.General.{scan_types, channel_sets, within}
use Rattle.sets.specs.Samples.{channels_of, subscans_of, set_samples, samples_before, samples_of}
use Rattle.header.specs.Faults.{header_fault}
use Rattle.header.specs.Answers.{is_set}
use Rattle.general.proofs.Kept.{within_is}
use Rattle.header.proofs.Accepted.{types_few, sets_few, samples_small}
use Rattle.layout.specs.declared.Place.{Place}
use Rattle.layout.specs.Indexes.{has_place, index_of, index_fault, index_after, index_answer, set_at, set_of, has_sample, spot, spot_of, place_fault, place_after, place_answer}
use Rattle.layout.specs.Inverse.{Reached, Inverse}
use Rattle.layout.proofs.Facts.{kept}
use Rattle.layout.proofs.SetLaws.{set_at_lem, set_of_sample, in_total, set_below, rest_below, in_set, channel_is, subscan_is, factor_pos}
use Rattle.refusals.specs.declared.Refusal.{Refusal}

pub is_within : (least x greatest : ℕ) → least ≤ x → x ≤ greatest → within least x greatest ≡ true
unfolding within
is_within least x greatest p q = rw (le-leb _ _ p, le-leb _ _ q)

-- the tests of the first question, as facts
pub record Asked (b : List ℕ) (t s c u : ℕ) : Type 0 where
  pub scan : (1 ≤ t) × (t ≤ scan_types b)
  pub set : (1 ≤ s) × (s ≤ channel_sets b)
  pub channel : (1 ≤ c) × (c ≤ channels_of b (t - 1) (s - 1))
  pub subscan : u < subscans_of b (t - 1) (s - 1)

pub asked : (b : List ℕ) (t s c u : ℕ) → has_place b t s c u ≡ true → Asked b t s c u
unfolding has_place is_set
asked b t s c u e =
    let w = both_true (is_set b t s) _ e in
    let v = and_true _ _ w.0 in
    let x = and_true (within 1 c (channels_of b (t - 1) (s - 1))) _ w.1 in
    record { scan = within_is _ _ _ v.0; set = within_is _ _ _ v.1; channel = within_is _ _ _ x.0; subscan = ltb-true _ _ x.1 }

is_asked : (b : List ℕ) (t s c u : ℕ) → Asked b t s c u → has_place b t s c u ≡ true
unfolding has_place is_set ◌and◌
is_asked b t s c u a =
    rw (
      is_within 1 t (scan_types b) a.scan.0 a.scan.1,
      is_within 1 s (channel_sets b) a.set.0 a.set.1,
      is_within 1 c (channels_of b (t - 1) (s - 1)) a.channel.0 a.channel.1,
      lt-ltb u (subscans_of b (t - 1) (s - 1)) a.subscan,
    )

-- those of the second
pub place_asked : (b : List ℕ) (t k : ℕ) → has_sample b t k ≡ true → (1 ≤ t) × (t ≤ scan_types b) × (k < samples_of b (t - 1))
unfolding has_sample
place_asked b t k e =
    let w = both_true (within 1 t (scan_types b)) _ e in
    let v = within_is 1 t (scan_types b) w.0 in
    (v.0, v.1, ltb-true _ _ w.1)

has_sample_asked : (b : List ℕ) (t k : ℕ) → 1 ≤ t → t ≤ scan_types b → k < samples_of b (t - 1) → has_sample b t k ≡ true
unfolding has_sample ◌and◌
has_sample_asked b t k p q h = rw (is_within 1 t (scan_types b) p q, lt-ltb k (samples_of b (t - 1)) h)

-- a sample's number is below S/S
pub index_below : (b : List ℕ) (t s c u : ℕ) → Asked b t s c u → index_of b t s c u < samples_of b (t - 1)
unfolding index_of samples_of set_samples
index_below b t s c u a =
    in_total (set_samples b (t - 1)) (channel_sets b) (s - 1) _ (omega (arith, a.set.0, a.set.1))
    (in_set (channels_of b (t - 1) (s - 1)) _ u (c - 1) (omega (arith, a.channel.0, a.channel.1)) a.subscan)

-- the numbers of a sample that an accepted header has are small
pub record Small (b : List ℕ) (t s c u : ℕ) : Type 0 where
  pub scan : (1 ≤ t) × (t ≤ 99)
  pub set : (1 ≤ s) × (s ≤ 99)
  pub channel : 1 ≤ c
  pub total : samples_before b (t - 1) (s - 1) + (u * channels_of b (t - 1) (s - 1) + (c - 1)) < 2 ^ 29

pub sample_small : (b : List ℕ) (t s c u : ℕ) → header_fault b ≡ Ok tt → has_place b t s c u ≡ true → Small b t s c u
unfolding index_of
sample_small b t s c u e p =
    let a = asked b t s c u p in
    let w : t - 1 < scan_types b = omega (arith, a.scan.0, a.scan.1) in
    record {
      scan = (a.scan.0, omega (arith, a.scan.1, (types_few b e).1));
      set = (a.set.0, omega (arith, a.set.1, (sets_few b e).1));
      channel = a.channel.0;
      total = omega (arith, index_below b t s c u a, samples_small b e (t - 1) w);
    }

-- as the code works its number out
pub total_small : (b : List ℕ) (t s c u : ℕ) {m n : ℕ} → header_fault b ≡ Ok tt → has_place b t s c u ≡ true
    → m ≡ samples_before b (t - 1) (s - 1) → n ≡ channels_of b (t - 1) (s - 1) → m + (u * n + (c - 1)) < 2 ^ 29
total_small b t s c u e p q h = rw (q, h) (sample_small b t s c u e p).total

spot_of_index : (b : List ℕ) (t s c u : ℕ) → Asked b t s c u → spot_of b (t - 1) (index_of b t s c u) ≡ spot s c u
unfolding spot_of index_of set_of set_samples
spot_of_index b t s c u a =
    let f = set_samples b (t - 1) in
    let m = s - 1 in
    let n = channels_of b (t - 1) m in
    let hm : m < channel_sets b = omega (arith, a.set.0, a.set.1) in
    let hx : c - 1 < n = omega (arith, a.channel.0, a.channel.1) in
    let j = u * n + (c - 1) in
    let eset : set_at f (sum_upto f m + j) (channel_sets b) ≡ m = set_of_sample f (channel_sets b) m j hm (in_set n _ u (c - 1) hx a.subscan) in
    let er : sum_upto f m + j - sum_upto f m ≡ j = omega arith in
    let es : s - 1 + 1 ≡ s = omega (arith, a.set.0) in
    let ec : c - 1 + 1 ≡ c = omega (arith, a.channel.0) in
    rw (eset, er, channel_is n _ u (c - 1) hx a.subscan, subscan_is n _ u (c - 1) hx a.subscan, es, ec)

-- what is known of the set m and the rest of sample k
pub record SpotFacts (b : List ℕ) (t k m : ℕ) : Type 0 where
  pub set : m < channel_sets b
  pub begins : samples_before b t m ≤ k
  pub channels : 0 < channels_of b t m
  pub subscan : (k - samples_before b t m) / channels_of b t m < subscans_of b t m

pub spot_facts : (b : List ℕ) (t k : ℕ) → k < samples_of b t → SpotFacts b t k (set_of b t k)
unfolding samples_of set_samples set_of
spot_facts b t k h =
    let f = set_samples b t in
    let m = set_of b t k in
    let n = channels_of b t m in
    let lj : k - sum_upto f m < n * subscans_of b t m = rest_below f (channel_sets b) k h in
    let pos : 0 < n = factor_pos n (subscans_of b t m) _ lj in
    record {
      set = set_below f (channel_sets b) k h;
      begins = (set_at_lem f k (channel_sets b)).begins;
      channels = pos;
      subscan = (div-lt_iff_lt-mul {k = n} {x = k - sum_upto f m} {y = subscans_of b t m} pos).1 (rw mul_comm at lj);
    }

-- as the code has them
pub spot_begins : (b : List ℕ) (t k : ℕ) {m n : ℕ} → k < samples_of b t → m ≡ set_of b t k → n ≡ samples_before b t m → n ≤ k
spot_begins b t k h q e = rw (e, q) (spot_facts b t k h).begins

pub spot_some : (b : List ℕ) (t k : ℕ) {m n : ℕ} → k < samples_of b t → m ≡ set_of b t k → n ≡ channels_of b t m → 0 < n
spot_some b t k h q e = rw (e, q) (spot_facts b t k h).channels

same_spot : {a x y s c u : ℕ} → spot a x y ≡ spot s c u → (a ≡ s) × (x ≡ c) × (y ≡ u)
same_spot e = (ap (λ (p : Place). p.set) e, ap (λ (p : Place). p.channel) e, ap (λ (p : Place). p.subscan) e)

index_of_spot : (b : List ℕ) (t k s c u : ℕ) → 1 ≤ t → t ≤ scan_types b → k < samples_of b (t - 1) → spot_of b (t - 1) k ≡ spot s c u
    → Asked b t s c u × (index_of b t s c u ≡ k)
unfolding spot_of index_of
index_of_spot b t k s c u p q h e =
    let t₀ = t - 1 in
    let m = set_of b t₀ k in
    let w = spot_facts b t₀ k h in
    let n = channels_of b t₀ m in
    let j = k - samples_before b t₀ m in
    let d = same_spot e in
    let e1 : s - 1 ≡ m = omega (arith, d.0) in
    let e2 : c - 1 ≡ j % n = omega (arith, d.1) in (
      record {
        scan = (p, q);
        set = (omega (arith, d.0), omega (arith, d.0, w.set));
        channel = rw e1 ((omega (arith, d.1), omega (arith, d.1, mod-lt j w.channels)));
        subscan = rw (e1, ← d.2) w.subscan;
      },
      rw (e1, e2, ← d.2, div-add-mod' j n) (omega (arith, w.begins)),
    )

-- a question that is not turned away
pub index_clear : (b : List ℕ) (t s c u : ℕ) → index_fault b t s c u ≡ Ok tt → (header_fault b ≡ Ok tt) × (has_place b t s c u ≡ true)
unfolding index_fault
index_clear b t s c u e =
    let v = both_clear (header_fault b) (when _ refusals.Index) e in
    (v.0, kept (has_place b t s c u) refusals.Index v.1)

pub place_clear : (b : List ℕ) (t k : ℕ) → place_fault b t k ≡ Ok tt → (header_fault b ≡ Ok tt) × (has_sample b t k ≡ true)
unfolding place_fault
place_clear b t k e =
    let v = both_clear (header_fault b) (when _ refusals.Index) e in
    (v.0, kept (has_sample b t k) refusals.Index v.1)

pub place_small : (b : List ℕ) (t k : ℕ) → place_fault b t k ≡ Ok tt → (1 ≤ t) × (t ≤ 99) × (k < samples_of b (t - 1))
place_small b t k e =
    let v = place_clear b t k e in
    let w = place_asked b t k v.1 in
    (w.0, omega (arith, w.1, (types_few b v.0).1), w.2)

-- what an answer of the first question says
index_told : {k : ℕ} (f : Result ⊤ Refusal) (x : ℕ) → index_after f x ≡ Ok k → (f ≡ Ok tt) × (x ≡ k)
index_told (Ok tt) x e = (refl, cc)
index_told (Err r) x e = let z : ◌≡◌ {A = ℕ} 0 1 = cc in absurd (omega arith)

index_answered : (b : List ℕ) (t s c u k : ℕ) → index_answer b t s c u ≡ Ok k → (header_fault b ≡ Ok tt) × Asked b t s c u × (index_of b t s c u ≡ k)
unfolding index_answer
index_answered b t s c u k e =
    let w = index_told _ (index_of b t s c u) e in
    let v = index_clear b t s c u w.0 in
    (v.0, asked b t s c u v.1, w.1)

index_answers : (b : List ℕ) (t s c u k : ℕ) → header_fault b ≡ Ok tt → Asked b t s c u → index_of b t s c u ≡ k → index_answer b t s c u ≡ Ok k
unfolding index_answer index_fault pick
index_answers b t s c u k e a q = rw (e, is_asked b t s c u a, q)

-- and one of the second
place_told : {s c u : ℕ} (f : Result ⊤ Refusal) (p : Place) → place_after f p ≡ Ok (spot s c u) → (f ≡ Ok tt) × (p ≡ spot s c u)
place_told (Ok tt) p e = (refl, cc)
place_told (Err r) p e = let z : ◌≡◌ {A = ℕ} 0 1 = cc in absurd (omega arith)

place_answered : (b : List ℕ) (t k s c u : ℕ) → place_answer b t k ≡ Ok (spot s c u)
    → (header_fault b ≡ Ok tt) × ((1 ≤ t) × (t ≤ scan_types b) × (k < samples_of b (t - 1))) × (spot_of b (t - 1) k ≡ spot s c u)
unfolding place_answer
place_answered b t k s c u e =
    let w = place_told _ (spot_of b (t - 1) k) e in
    let v = place_clear b t k w.0 in
    (v.0, place_asked b t k v.1, w.1)

place_answers : (b : List ℕ) (t k s c u : ℕ) → header_fault b ≡ Ok tt → 1 ≤ t → t ≤ scan_types b → k < samples_of b (t - 1) → spot_of b (t - 1) k ≡ spot s c u
    → place_answer b t k ≡ Ok (spot s c u)
unfolding place_answer place_fault pick
place_answers b t k s c u e p q h w = rw (e, has_sample_asked b t k p q h, w)

pub back : (b : List ℕ) (t s c u k : ℕ) → index_answer b t s c u ≡ Ok k → place_answer b t k ≡ Ok (spot s c u)
back b t s c u k e =
    let w = index_answered b t s c u k e in
    let a = w.1 in
    place_answers b t k s c u w.0 a.scan.0 a.scan.1 (rw (← w.2) (index_below b t s c u a)) (rw (← w.2) (spot_of_index b t s c u a))

pub forth : (b : List ℕ) (t s c u k : ℕ) → place_answer b t k ≡ Ok (spot s c u) → index_answer b t s c u ≡ Ok k
forth b t s c u k e =
    let w = place_answered b t k s c u e in
    let q = index_of_spot b t k s c u w.1.0 w.1.1 w.1.2 w.2 in
    index_answers b t s c u k w.0 q.0 q.1

below : (b : List ℕ) (t s c u k : ℕ) → index_answer b t s c u ≡ Ok k → k < samples_of b (t - 1)
below b t s c u k e = let w = index_answered b t s c u k e in rw (← w.2) (index_below b t s c u w.1)

reached : (b : List ℕ) → header_fault b ≡ Ok tt → (t k : ℕ) → 1 ≤ t → t ≤ scan_types b → k < samples_of b (t - 1) → Reached b t k
unfolding spot_of
reached b e t k p q h =
    let m = set_of b (t - 1) k in
    let n = channels_of b (t - 1) m in
    let j = k - samples_before b (t - 1) m in
    let w = place_answers b t k (m + 1) (j % n + 1) (j / n) e p q h refl in
    record { set = m + 1; channel = j % n + 1; subscan = j / n; index = forth b t _ _ _ k w; place = w }

pub inverse : (b : List ℕ) → Inverse b
inverse b = record { back = back b; forth = forth b; reached = reached b; below = below b }
