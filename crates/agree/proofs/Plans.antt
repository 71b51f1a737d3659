-- A body's plan: a shape whose scans are whole groups of the code's row. How the samples completed grow with each byte, and which value each has.
-- Assumes nothing.
use Prim.Native.Nat.{ℕ, suc, ◌+◌, ◌-◌, ◌*◌, ◌/◌, ◌%◌, ◌≤◌, ◌<◌}
use mathlib.Core.Path.{◌≡◌, ap, ◌∙◌}
use mathlib.Core.Logic.{◌⊎◌}
use native.Mathlib.Nat.{mod-lt, div-lt_iff_lt-mul, zero-div, zero-mod, zero-sub, mul-div_cancel, mul-mod_left, mul-le-mul_right}
use native.Mathlib.Omega.{arith}
use lib.Arith.{digits_div, digits_mod, digits_lt}
use Rattle.basis.specs.Digits.{written}
use Rattle.basis.specs.Fields.{field}
use Rattle.codes.specs.Codes.{group_of, per_of, lead_of, word_bytes_of, bits_of}
use Rattle.codes.proofs.Rows.{Sized}
use Rattle.words.specs.Words.{value_of}
use Rattle.layout.specs.Places.{group_bytes}
use Rattle.rules.specs.Scans.{Shape}
use Rattle.rules.specs.Samples.{done_before, value_at}
use Rattle.rules.proofs.Counts as C
use Rattle.rules.proofs.Counts.{words_in, ended, ended_is, large}

pub record Plan : Type 0 where
  pub code : ℕ
  pub groups : ℕ
  pub interval : ℕ
  pub types : ℕ
  pub block : ℕ

abbrev pub per : Plan → ℕ
per k = per_of k.code

abbrev pub lead : Plan → ℕ
lead k = lead_of k.code

abbrev pub width : Plan → ℕ
width k = word_bytes_of k.code

abbrev pub group : Plan → ℕ
group k = group_bytes (per_of k.code) (lead_of k.code) (word_bytes_of k.code)

abbrev pub scan : Plan → ℕ
scan k = 8 + k.groups * group k

abbrev pub samples : Plan → ℕ
samples k = k.groups * per_of k.code

abbrev pub shape_in : Plan → Shape
shape_in k = record { code = k.code; scan = scan k; samples = samples k; interval = k.interval; types = k.types; block = k.block }

-- the sizes of a code that has a row
abbrev pub Sizes : Plan → Type 0
Sizes k = Sized (group_of k.code) (per k) (lead k) (width k) (bits_of k.code)

-- samples completed in r bytes of scan j
abbrev pub samples_in : Plan → ℕ → ℕ → ℕ
samples_in k j r = j * samples k + ended (per k) (lead k) (width k) r

module _ (k : Plan) (pos : 0 < width k) (some : 0 < per k) where
  pub wide : 0 < group k
  wide = large (per k) (lead k) (width k) pos some

  pub before_is : (byte : ℕ → ℕ) (p : ℕ) → done_before (shape_in k) byte p ≡ samples_in k (p / scan k) (p % scan k)
  unfolding done_before
  before_is byte p =
      ap (λ (x : ℕ). p / scan k * samples k + x)
      (ended_is (per k) (lead k) (width k) pos some k.groups (p % scan k) (let l : p % scan k < scan k = mod-lt p (omega arith) in omega arith))

  -- the end of a scan is the start of the next
  pub samples_wrap : (j : ℕ) → samples_in k j (scan k) ≡ samples_in k (suc j) 0
  samples_wrap j =
      let e : scan k - 8 ≡ k.groups * group k = omega arith in
      rw (e, mul-div_cancel k.groups wide, mul-mod_left k.groups (group k), zero-div (group k), zero-mod (group k), zero-sub (lead k), zero-div (width k)) (omega arith)

  -- nothing is completed yet
  pub none_yet : (n : ℕ) → n + ended (per k) (lead k) (width k) 0 ≡ n
  none_yet n = rw (zero-div (group k), zero-mod (group k), zero-sub (lead k), zero-div (width k)) (omega arith)

  -- ---- one byte more, at place r of scan j
  abbrev pub in_group : ℕ → ℕ
  in_group r = (r - 8) % group k

  -- it completes no sample, or is the last byte of a word
  pub data Grown (j r : ℕ) : Type 0 where
    same : (in_group r < lead k) ⊎ (suc ((in_group r - lead k) % width k) < width k) → samples_in k j (suc r) ≡ samples_in k j r → Grown j r
    more : lead k ≤ in_group r → suc ((in_group r - lead k) % width k) ≡ width k → samples_in k j (suc r) ≡ suc (samples_in k j r) → Grown j r

  pub grown : (j r : ℕ) → 8 ≤ r → Grown j r
  grown j r l = go (C.grown (per k) (lead k) (width k) pos some (r - 8))
    where
      ahead : samples_in k j (suc r) ≡ j * samples k + words_in (per k) (lead k) (width k) (suc (r - 8))
      ahead = let e : suc r - 8 ≡ suc (r - 8) = omega (arith, l) in rw e

      go : C.Grown (per k) (lead k) (width k) pos some (r - 8) → Grown j r
      go (C.same x e) = same x (ahead ∙ ap (λ (n : ℕ). j * samples k + n) e)
      go (C.more x y e) = more x y (rw (ahead, e) (omega arith))

  -- the value of the sample that is then completed: of turn c in group g
  module _ (byte : ℕ → ℕ) where
    value_same : (j g c : ℕ) → g < k.groups → c < per k
        → value_at (shape_in k) byte (j * samples k + (g * per k + c))
        ≡ value_of k.code (field (written 256 byte (j * scan k + (8 + g * group k)) (lead k)) (4 * (per k - 1 - c)) 4)
        (written 256 byte (j * scan k + (8 + g * group k + (lead k + c * width k))) (width k))
    unfolding value_at
    value_same j g c lg lc = rw (digits_div j (digits_lt lg lc), digits_mod j (digits_lt lg lc), digits_div g lc, digits_mod g lc)

    abbrev pub turn : ℕ → ℕ
    turn r = (in_group r - lead k) / width k

    abbrev pub group_start : ℕ → ℕ → ℕ
    group_start j r = j * scan k + (8 + (r - 8) / group k * group k)

    -- the place of its word
    abbrev pub word_start : ℕ → ℕ → ℕ
    word_start j r = j * scan k + (8 + (r - 8) / group k * group k + (lead k + turn r * width k))

    pub value_now : (j r : ℕ) → 8 ≤ r → r < scan k
        → value_at (shape_in k) byte (samples_in k j r)
        ≡ value_of k.code (field (written 256 byte (group_start j r) (lead k)) (4 * (per k - 1 - turn r)) 4) (written 256 byte (word_start j r) (width k))
    value_now j r l u = value_same j ((r - 8) / group k) (turn r) few now
      where
        few : (r - 8) / group k < k.groups
        few = (div-lt_iff_lt-mul wide).1 (omega (arith, l, u))

        now : turn r < per k
        now = (div-lt_iff_lt-mul pos).1 (omega (arith, mod-lt (r - 8) wide, mul-le-mul_right (width k) some))
