-- The words of a trace: each has its own bytes, and a sample is completed with the last of them.
-- Assumes nothing.
use Prim.Native.Nat.{ℕ, zero, suc, ◌+◌, ◌*◌, ◌-◌, ◌/◌, ◌%◌, ◌≤◌, ◌<◌}
use mathlib.Core.Path.{◌≡◌, refl, sym, ap, ◌∙◌}
use native.Mathlib.Nat.{zero-div, zero-mul, add-zero, div-add-mod', mod-lt, mul-le-mul_right, suc-mul, div-lt_iff_lt-mul, le-div_iff_mul-le}
use native.Mathlib.Omega.{arith}
use lib.Arith.{digits_div, digits_mod}
use Rattle.codes.specs.Codes.{group_of, per_of, lead_of, word_bytes_of}
use Rattle.layout.specs.Places.{group_bytes}
use Rattle.rules.proofs.Counts.{large}
use Rattle.trace_rules.specs.Samples.{samples_in, left_in, group_begins, word_begins}
use Rattle.trace_agree.proofs.Counts.{Sizes}
use Rattle.trace_agree.proofs.Places.{Side, lower, even, upper, side}
use Rattle.trace_demands.specs.TraceWords.{TraceWords}

module _ (code : ℕ) (z : Sizes code) where
  abbrev per : ℕ
  per = per_of code

  abbrev lead : ℕ
  lead = lead_of code

  abbrev width : ℕ
  width = word_bytes_of code

  abbrev size : ℕ
  size = group_bytes per lead width

  whole : group_of code ≡ size
  whole = omega (arith, z.sum)

  -- sample k is word k % per of group k / per
  place : (k : ℕ) → word_begins code k ≡ 20 + k / per * size + (lead + k % per * width)
  place k = refl

  number : (k : ℕ) → k / per * per + k % per ≡ k
  number k = div-add-mod' k per

  turn_below : (k : ℕ) → k % per < per
  turn_below k = mod-lt k z.some

  -- word j of group g
  split_div : (g j : ℕ) → j < per → (g * per + j) / per ≡ g
  split_div g j h = digits_div g h

  split_mod : (g j : ℕ) → j < per → (g * per + j) % per ≡ j
  split_mod g j h = digits_mod g h

  word_of : (g j : ℕ) → j < per → word_begins code (g * per + j) ≡ 20 + g * size + (lead + j * width)
  word_of g j h = rw (split_div g j h, split_mod g j h)

  group_of_lem : (g : ℕ) → group_begins code (g * per) ≡ 20 + g * size
  group_of_lem g = let e : (g * per + 0) / per ≡ g = split_div g 0 z.some in let f : g * per + 0 ≡ g * per = add-zero (g * per) in rw (rw f at e)

  -- ---- n bytes of a trace: so many whole groups, and so many words of the next
  module _ (n : ℕ) where
    abbrev groups : ℕ
    groups = (n - 20) / group_of code

    abbrev over : ℕ
    over = (n - 20) % group_of code

    abbrev words : ℕ
    words = (over - lead) / width

    count : samples_in code n ≡ groups * per + words
    unfolding samples_in
    count = refl

    wide : 0 < group_of code
    wide = omega (arith, z.sum, large per lead width z.wide z.some)

    bytes : groups * size + over ≡ n - 20
    bytes = let e : groups * group_of code ≡ groups * size = ap (λ (x : ℕ). groups * x) whole in omega (arith, e, div-add-mod' (n - 20) (group_of code))

    over_below : over < size
    over_below = omega (arith, mod-lt (n - 20) wide, whole)

    words_below : words < per
    words_below = (div-lt_iff_lt-mul z.wide).1 (omega (arith, over_below, mul-le-mul_right width z.some))

    -- word j of the next group ends among the bytes over exactly where it is one of those
    word_in : (j : ℕ) → j < words → lead + j * width + width ≤ over
    word_in j h =
        let e : suc j * width ≤ over - lead = (le-div_iff_mul-le z.wide).0 h in
        omega (arith, e, suc-mul j width, z.wide)

    in_word : (j : ℕ) → lead + j * width + width ≤ over → j < words
    in_word j h = (le-div_iff_mul-le z.wide).1 (omega (arith, h, suc-mul j width))

    -- word j of group g
    group_done : (g j : ℕ) → j < per → g < groups → 20 + g * size + (lead + j * width) + width ≤ n
    group_done g j h l =
        omega (arith, bytes, mul-le-mul_right size l, suc-mul g size, mul-le-mul_right width h, suc-mul j width, over_below)

    done_by : (g j : ℕ) → j < per → g * per + j < groups * per + words → 20 + g * size + (lead + j * width) + width ≤ n
    done_by g j h l = go (side g groups)
      where
        go : Side g groups → 20 + g * size + (lead + j * width) + width ≤ n
        go (lower u) = group_done g j h u
        go (even e) =
            let a : g * per ≡ groups * per = ap (λ (x : ℕ). x * per) e in
            let c : g * size ≡ groups * size = ap (λ (x : ℕ). x * size) e in
            let w = word_in j (omega (arith, l, a)) in
            omega (arith, w, bytes, c, z.wide)
        go (upper u) = absurd (omega (arith, l, mul-le-mul_right per u, suc-mul groups per, words_below))

    due_by : (g j : ℕ) → j < per → 20 + g * size + (lead + j * width) + width ≤ n → g * per + j < groups * per + words
    due_by g j h l = go (side g groups)
      where
        go : Side g groups → g * per + j < groups * per + words
        go (lower u) = omega (arith, mul-le-mul_right per u, suc-mul g per)
        go (even e) =
            let a : g * per ≡ groups * per = ap (λ (x : ℕ). x * per) e in
            let c : g * size ≡ groups * size = ap (λ (x : ℕ). x * size) e in
            omega (arith, a, in_word j (omega (arith, l, bytes, c)))
        go (upper u) = absurd (omega (arith, l, bytes, over_below, mul-le-mul_right size u, suc-mul groups size, z.wide))

    pub done : (k : ℕ) → k < samples_in code n → word_begins code k + width ≤ n
    done k l = done_by (k / per) (k % per) (turn_below k) (omega (arith, number k, count, l))

    pub due : (k : ℕ) → word_begins code k + width ≤ n → k < samples_in code n
    due k l = let e = due_by (k / per) (k % per) (turn_below k) l in omega (arith, number k, count, e)

  apart : (j k : ℕ) → j < k → word_begins code j + width ≤ word_begins code k
  apart j k l = go (side (j / per) (k / per))
    where
      go : Side (j / per) (k / per) → word_begins code j + width ≤ word_begins code k
      go (lower u) = omega (arith, mul-le-mul_right size u, suc-mul (j / per) size, mul-le-mul_right width (turn_below j), suc-mul (j % per) width)
      go (even e) =
          let a : j / per * per ≡ k / per * per = ap (λ (x : ℕ). x * per) e in
          let c : j / per * size ≡ k / per * size = ap (λ (x : ℕ). x * size) e in
          let r : j % per < k % per = omega (arith, a, number j, number k, l) in
          omega (arith, c, mul-le-mul_right width r, suc-mul (j % per) width)
      go (upper u) = absurd (omega (arith, l, number j, number k, mul-le-mul_right per u, suc-mul (k / per) per, turn_below k))

  -- ---- the last word of whole groups
  last_of : (g : ℕ) → word_begins code (suc g * per - 1) + width ≡ 20 + suc g * size
  last_of g =
      let e : suc g * per - 1 ≡ g * per + (per - 1) = omega (arith, suc-mul g per, z.some) in
      let p : suc (per - 1) ≡ per = omega (arith, z.some) in
      let m : per * width ≡ (per - 1) * width + width = ap (λ (x : ℕ). x * width) (sym p) ∙ suc-mul (per - 1) width in
      rw (e, word_of g (per - 1) (omega (arith, z.some))) (omega (arith, m, suc-mul g size))

  fill_by : (n g : ℕ) → groups n ≡ g → 0 < samples_in code n → left_in code n ≡ 0 → word_begins code (samples_in code n - 1) + width ≡ n
  fill_by n g q l e = go g (q)
    where
      none : words n ≡ 0
      none = let f : over n - lead ≡ 0 = omega (arith, e) in ap (λ (x : ℕ). x / width) f ∙ zero-div width

      go : (g : ℕ) → groups n ≡ g → word_begins code (samples_in code n - 1) + width ≡ n
      go zero q =
          let a : groups n * per ≡ 0 = ap (λ (x : ℕ). x * per) q ∙ zero-mul per in
          absurd (omega (arith, l, count n, none, a))
      go (suc g) q =
          let a : groups n * per ≡ suc g * per = ap (λ (x : ℕ). x * per) q in
          let c : groups n * size ≡ suc g * size = ap (λ (x : ℕ). x * size) q in
          let s : samples_in code n ≡ suc g * per = omega (arith, count n, none, a) in
          let w : 0 < suc g * size = omega (arith, suc-mul g size, large per lead width z.wide z.some) in
          rw s (last_of g ∙ omega (arith, bytes n, e, c, w))

  pub trace_words : TraceWords code
  trace_words =
      record {
        first = rw (zero-div per, zero-mul size);
        group = λ g. let e : g + 1 ≡ suc g = omega arith in rw (group_of_lem (g + 1), group_of_lem g, e, whole) (omega (arith, suc-mul g size));
        whole = z.sum;
        word = λ g j h. rw (word_of g j h, group_of_lem g) (omega arith);
        apart = apart;
        done = done;
        due = due;
        fill = λ n l e. fill_by n (groups n) refl l e;
      }
