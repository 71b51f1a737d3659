-- The scan type or set of a trace, as a loop finds it; and where a turn's first skew byte stands.
-- Assumes nothing.
use Prim.Native.Nat.{ℕ, ◌+◌, ◌*◌, ◌-◌, ◌≤◌, ◌<◌}
use mathlib.Core.Path.{◌≡◌, ap, ◌∙◌}
use mathlib.Core.Bool.{true, false}
use mathlib.Core.List.{List}
use mathlib.Core.Logic.{⊎_elim}
use native.Mathlib.Nat.{eq-or-lt_of_le, zero-mul, zero-add}
use lib.Dec.{eqb}
use Rattle.basis.specs.Choice.{pick}
use Rattle.basis.specs.Digits.{byte_in}
use native.Mathlib.Omega.{arith}
use Rattle.basis.specs.Upto.{sum_upto}
use Rattle.basis.proofs.Uptos.{sum_grows}
use Rattle.layout.specs.Indexes.{set_at, index_of}
use Rattle.layout.proofs.SetLaws.{set_at_lem, set_of_sample}
use Rattle.general.specs.General.{channel_sets, skew_fields, fields_before}
use Rattle.sets.specs.Descriptors.{descriptor_place}
use Rattle.sets.specs.Samples.{samples_before}
use Rattle.skew.specs.Skews.{source, skew_place, skew_byte}
use Rattle.turns.specs.declared.Turn.{Turn}
use Rattle.turns.specs.Turns.{holder_of, skew_at}

-- the one that begins at k or before and ends after it
pub set_is : (f : ℕ → ℕ) (k n m : ℕ) → m < n → sum_upto f m ≤ k → k - sum_upto f m < f m → set_at f k n ≡ m
set_is f k n m h p q =
    let e : k ≡ sum_upto f m + (k - sum_upto f m) = omega arith in
    ap (λ (x : ℕ). set_at f x n) e ∙ set_of_sample f n m (k - sum_upto f m) h q

-- past the last
pub set_last : (f : ℕ → ℕ) (k n : ℕ) → sum_upto f n ≤ k → set_at f k n ≡ n
set_last f k n h =
    let a = set_at_lem f k n in
    ⊎_elim (λ (e : set_at f k n ≡ n). e) (λ (l : set_at f k n < n). absurd (omega (arith, a.ends l, sum_grows f (set_at f k n + 1) n (omega arith))))
    (eq-or-lt_of_le a.inside)

-- as a loop over n of them, at the one m that begins at g, finds it, or ends without
pub found : (f : ℕ → ℕ) (k n m g x : ℕ) → g ≡ sum_upto f m → x ≡ f m → m < n → g ≤ k → k - g < x → record { number = m; first = g } ≡ holder_of f k n
unfolding holder_of
found f k n m g x e y h p z =
    let q : set_at f k n ≡ m = set_is f k n m h (omega arith) (omega (arith, ap (λ (v : ℕ). k - v) e)) in
    rw (q, e)

pub passed_all : (f : ℕ → ℕ) (k n g : ℕ) → g ≡ sum_upto f n → g ≤ k → record { number = n; first = g } ≡ holder_of f k n
unfolding holder_of
passed_all f k n g e p =
    let q : set_at f k n ≡ n = set_last f k n (omega arith) in
    rw (q, e)

-- ---- the first skew byte of a turn's channel
less_one : (x : ℕ) → x + 1 - 1 ≡ x
less_one x = omega arith

-- where SK is not 0: after the descriptors of its scan type, the samples of the sets before its own, and the channels before its own
pub recorded : (b : List ℕ) (u : Turn) → eqb (skew_fields b) 0 ≡ false
    → skew_at b u ≡ byte_in b (descriptor_place b u.scan_type (channel_sets b) + (samples_before b u.scan_type u.set + u.channel))
unfolding skew_at skew_byte source skew_place index_of pick
recorded b u e = rw (e, less_one u.scan_type, less_one u.set, less_one u.channel, zero-mul, zero-add)

-- where SK is 0 there is none
pub unrecorded : (b : List ℕ) (u : Turn) → eqb (skew_fields b) 0 ≡ true → ◌≡◌ {A = ℕ} 0 (skew_at b u)
unfolding skew_at skew_byte source pick
unrecorded b u e = rw e

-- its place, as the code works it out
pub placed : (b : List ℕ) (u : Turn) {f p n : ℕ} → f ≡ fields_before b u.scan_type → p ≡ channel_sets b → n ≡ samples_before b u.scan_type u.set
    → 32 * (1 + (f + p)) + (n + u.channel) ≡ descriptor_place b u.scan_type (channel_sets b) + (samples_before b u.scan_type u.set + u.channel)
unfolding descriptor_place
placed b u e q h = rw (e, q, h) (omega arith)
