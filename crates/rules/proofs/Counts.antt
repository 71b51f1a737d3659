-- How many samples the first bytes of a scan, or of groups one after another, complete, in closed form: those of the whole groups, and of the present group's words.
-- Assumes nothing.
use Prim.Native.Nat.{ℕ, zero, suc, ◌+◌, ◌-◌, ◌*◌, ◌/◌, ◌%◌, ◌≤◌, ◌<◌, min}
use mathlib.Core.Path.{◌≡◌, refl, sym, ap, ◌∙◌}
use mathlib.Core.Bool.{Bool, true, false}
use mathlib.Core.Logic.{◌⊎◌, inl, inr}
use native.Mathlib.Nat.{div-add-mod', mod-lt, eq-or-lt_of_le, le-div_iff_mul-le, div-lt_iff_lt-mul, mul-le-mul_right, mul-div_cancel, zero-div, zero-sub}
use native.Mathlib.Omega.{arith}
use lib.Dec.{leb, ltb}
use borrow.Author.Tests.{leb-true, leb-false, ltb-true, ltb-false}
use Rattle.basis.specs.Choice.{pick}
use Rattle.basis.specs.Upto.{upto, sum_upto}
use Rattle.basis.proofs.Digits.{Next, along, wrap, next}
use Rattle.layout.specs.Places.{group_bytes, word_place}

-- where the numbers that pass a test are those below c, they are counted by c
pub counted : (end : ℕ → ℕ) (r c : ℕ) → ((k : ℕ) → end k ≤ r → k < c) → ((k : ℕ) → k < c → end k ≤ r) → (n : ℕ) → sum_upto (λ (k : ℕ). pick (leb (end k) r) 1 0) n ≡ min n c
unfolding upto pick
counted end r c f g zero = let m : 0 ≡ min 0 c = omega arith in m
counted end r c f g (suc n) = go (leb (end n) r) refl (counted end r c f g n)
  where
    go : (t : Bool) → leb (end n) r ≡ t → sum_upto (λ (k : ℕ). pick (leb (end k) r) 1 0) n ≡ min n c
        → sum_upto (λ (k : ℕ). pick (leb (end k) r) 1 0) n + pick (leb (end n) r) 1 0 ≡ min (suc n) c
    go true e i = rw (e, i) (omega (arith, f n (leb-true (end n) r e)))
    go false e i = rw (e, i) (omega (arith, out))
      where
        out : c ≤ n
        out = by (ltb n c) refl
          where
            by : (t : Bool) → ltb n c ≡ t → c ≤ n
            by true u = absurd (let a = g n (ltb-true n c u) in let b = leb-false (end n) r e in omega arith)
            by false u = ltb-false n c u

-- the samples whose words end in the first q bytes of groups one after another
abbrev pub words_in : ℕ → ℕ → ℕ → ℕ → ℕ
words_in per lead width q = q / group_bytes per lead width * per + (q % group_bytes per lead width - lead) / width

-- in the first r bytes of a scan
abbrev pub ended : ℕ → ℕ → ℕ → ℕ → ℕ
ended per lead width r = words_in per lead width (r - 8)

module _ (per lead width : ℕ) (pos : 0 < width) (some : 0 < per) where
  pub large : 0 < group_bytes per lead width
  large = omega (arith, mul-le-mul_right width some)

  -- ---- one byte more, after q bytes of groups
  abbrev pub in_group : ℕ → ℕ
  in_group q = q % group_bytes per lead width

  -- it completes no sample, or is the last byte of a word
  pub data Grown (q : ℕ) : Type 0 where
    same : (in_group q < lead) ⊎ (suc ((in_group q - lead) % width) < width) → words_in per lead width (suc q) ≡ words_in per lead width q → Grown q
    more : lead ≤ in_group q → suc ((in_group q - lead) % width) ≡ width → words_in per lead width (suc q) ≡ suc (words_in per lead width q) → Grown q

  pub grown : (q : ℕ) → Grown q
  grown q = by (ltb (in_group q) lead) refl
    where
      count : Next (group_bytes per lead width) q → words_in per lead width (suc q) ≡ q / group_bytes per lead width * per + (suc (in_group q) - lead) / width
      count (along d m u) = rw (d, m)
      count (wrap d m u) =
          let f : suc (in_group q) - lead ≡ per * width = omega (arith, u) in
          rw (d, m, f, zero-sub lead, zero-div width, mul-div_cancel per pos) (omega arith)

      counts : words_in per lead width (suc q) ≡ q / group_bytes per lead width * per + (suc (in_group q) - lead) / width
      counts = count (next (group_bytes per lead width) q large)

      by : (t : Bool) → ltb (in_group q) lead ≡ t → Grown q
      by true e =
          let u : in_group q < lead = ltb-true (in_group q) lead e in
          let m : suc (in_group q) - lead ≡ in_group q - lead = omega arith in
          same (inl u) (rw (counts, m))
      by false e = go (next width (in_group q - lead) pos)
        where
          u : lead ≤ in_group q
          u = ltb-false (in_group q) lead e

          m : suc (in_group q) - lead ≡ suc (in_group q - lead)
          m = omega (arith, u)

          go : Next width (in_group q - lead) → Grown q
          go (along d f x) = same (inr x) (rw (counts, m, d))
          go (wrap d f x) = more u x (rw (counts, m, d) (omega arith))

  -- ---- in a scan
  abbrev word_end : ℕ → ℕ
  word_end k = word_place per lead width k + width

  module _ (k r : ℕ) where
    abbrev a : ℕ
    a = k / per

    abbrev c : ℕ
    c = k % per

    abbrev g : ℕ
    g = (r - 8) / group_bytes per lead width

    abbrev h : ℕ
    h = (r - 8) % group_bytes per lead width

    low : c < per
    low = mod-lt k some

    here : k ≡ a * per + c
    here = sym (div-add-mod' k per)

    there : r - 8 ≡ g * group_bytes per lead width + h
    there = sym (div-add-mod' (r - 8) (group_bytes per lead width))

    short : h < group_bytes per lead width
    short = mod-lt (r - 8) large

    words : (h - lead) / width ≤ per
    words = let l : (h - lead) / width < per + 1 = (div-lt_iff_lt-mul pos).1 (omega (arith, short)) in omega arith

    -- the words before it and itself are no more than the group's
    inside : suc c * width ≤ per * width
    inside = mul-le-mul_right width low

    data Side : Type 0 where
      before : suc a * per ≤ g * per → suc a * group_bytes per lead width ≤ g * group_bytes per lead width → Side
      level : a ≡ g → Side
      after : suc g * per ≤ a * per → suc g * group_bytes per lead width ≤ a * group_bytes per lead width → Side

    side : Side
    side = go (ltb a g) (ltb g a) refl refl
      where
        go : (t u : Bool) → ltb a g ≡ t → ltb g a ≡ u → Side
        go true u e f = before (mul-le-mul_right per (ltb-true a g e)) (mul-le-mul_right (group_bytes per lead width) (ltb-true a g e))
        go false true e f = after (mul-le-mul_right per (ltb-true g a f)) (mul-le-mul_right (group_bytes per lead width) (ltb-true g a f))
        go false false e f = level (omega (arith, ltb-false a g e, ltb-false g a f))

    ends_in : word_end k ≤ r → k < ended per lead width r
    ends_in e = go side
      where
        go : Side → k < ended per lead width r
        go (before x y) = omega (arith, x, here, low)
        go (after x y) = absurd (omega (arith, y, there, short, e, pos))
        go (level q) =
            let m : suc c * width ≤ h - lead = omega (arith, e, there, ap (λ (x : ℕ). x * group_bytes per lead width) q, pos) in
            let n : suc c ≤ (h - lead) / width = (le-div_iff_mul-le pos).1 m in
            omega (arith, n, here, ap (λ (x : ℕ). x * per) q)

    in_ends : k < ended per lead width r → word_end k ≤ r
    in_ends e = go side
      where
        go : Side → word_end k ≤ r
        go (before x y) = omega (arith, y, there, inside, pos)
        go (after x y) = absurd (omega (arith, x, here, words, e))
        go (level q) =
            let n : suc c ≤ (h - lead) / width = omega (arith, e, here, ap (λ (x : ℕ). x * per) q) in
            let m : suc c * width ≤ h - lead = (le-div_iff_mul-le pos).0 n in
            omega (arith, m, there, ap (λ (x : ℕ). x * group_bytes per lead width) q, pos)

  -- no more than the scan's groups have
  ended_few : (groups r : ℕ) → r ≤ 8 + groups * group_bytes per lead width → ended per lead width r ≤ groups * per
  ended_few groups r l = go (eq-or-lt_of_le few)
    where
      few : (r - 8) / group_bytes per lead width ≤ groups
      few = let u : (r - 8) / group_bytes per lead width < suc groups = (div-lt_iff_lt-mul large).1 (omega (arith, l, large)) in omega arith

      go : ((r - 8) / group_bytes per lead width ≡ groups) ⊎ ((r - 8) / group_bytes per lead width < groups) → ended per lead width r ≤ groups * per
      go (inl e) =
          let z : (r - 8) % group_bytes per lead width ≡ 0 = omega (arith, l, there 0 r, ap (λ (x : ℕ). x * group_bytes per lead width) e) in
          rw (e, z, zero-sub lead, zero-div width) (omega arith)
      go (inr u) = omega (arith, mul-le-mul_right per u, words 0 r)

  -- in the first r bytes of a scan of so many groups
  pub ended_is : (groups r : ℕ) → r ≤ 8 + groups * group_bytes per lead width
      → sum_upto (λ (k : ℕ). pick (leb (word_place per lead width k + width) r) 1 0) (groups * per) ≡ ended per lead width r
  ended_is groups r l = counted word_end r (ended per lead width r) (λ k. ends_in k r) (λ k. in_ends k r) (groups * per) ∙ least (ended_few groups r l)
    where
      least : ended per lead width r ≤ groups * per → min (groups * per) (ended per lead width r) ≡ ended per lead width r
      least u = omega arith
