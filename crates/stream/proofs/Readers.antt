-- The groups of a code's words.
-- Assumes nothing.
use Rattle.std.specs.Prelude.{Some}
use Rattle.std.proofs.Common.{◌≡◌, ℕ, zero, suc, ◌<◌, ◌≤◌, refl, mul-le-mul_right, arith}
use Rattle.codes.specs.declared.Row.{Row}
use Rattle.codes.specs.Codes.{row_of, group_of, per_of, lead_of, word_bytes_of}
use Rattle.codes.proofs.Rows.{Words, alone, fours, sized, some_sized}
use Rattle.scan.specs.declared.State.{State}
use Rattle.scan.specs.Fit.{Fit}
use Rattle.scan.proofs.Shapes.{shape_parts}
use Rattle.stream.specs.Bulk.{GroupBytes}
use Rattle.stream.specs.Bulk as Bulk

-- a word that stands alone has one, two or four bytes
pub group_plain : (code : ℕ) → 0 < group_of code → (group_of code ≡ 10 → ⊥) → (0 < group_of code) × (group_of code ≤ 4) × (group_of code ≡ 3 → ⊥)
group_plain code p h = go (some_sized code p).words
  where
    go : Words (group_of code) (per_of code) (lead_of code) (word_bytes_of code) → (0 < group_of code) × (group_of code ≤ 4) × (group_of code ≡ 3 → ⊥)
    go (alone e f g i j) = (p, omega (arith, e, i), λ x. j (omega (arith, e, x)))
    go (fours e f g i) = absurd (h e)

-- the samples of a group: four of ten bytes, else one
pub per_four : (code : ℕ) → group_of code ≡ 10 → per_of code ≡ 4
per_four code h = go (some_sized code (omega (arith, h))).words
  where
    go : Words (group_of code) (per_of code) (lead_of code) (word_bytes_of code) → per_of code ≡ 4
    go (alone e f g i j) = absurd (omega (arith, h, e, i))
    go (fours e f g i) = f

pub per_one : (code : ℕ) → 0 < group_of code → (group_of code ≡ 10 → ⊥) → per_of code ≡ 1
per_one code p h = go (some_sized code p).words
  where
    go : Words (group_of code) (per_of code) (lead_of code) (word_bytes_of code) → per_of code ≡ 1
    go (alone e f g i j) = f
    go (fours e f g i) = absurd (h e)

-- a code with a row has groups of some bytes
pub row_some : (code : ℕ) (r : Row) → row_of code ≡ Some r → 0 < group_of code
row_some code r e = let s = sized code r e in omega (arith, s.sum, s.wide, mul-le-mul_right (word_bytes_of code) s.some)

-- the groups of a state that fits
pub fit_width : (s : State) (w : ℕ) → Fit s → group_of s.shape.code ≡ w → GroupBytes w
fit_width s w f e = rw (← e) (go (some_sized s.shape.code some).words)
  where
    some : 0 < group_of s.shape.code
    some = (shape_parts s.shape f.shape).group

    short : (n : ℕ) → 0 < n → n ≤ 4 → (n ≡ 3 → ⊥) → GroupBytes n
    short zero h l t = absurd (omega arith)
    short (suc zero) h l t = Bulk.one refl
    short (suc (suc zero)) h l t = Bulk.two refl
    short (suc (suc (suc zero))) h l t = absurd (t refl)
    short (suc (suc (suc (suc n)))) h l t = Bulk.four (omega arith)

    go : Words (group_of s.shape.code) (per_of s.shape.code) (lead_of s.shape.code) (word_bytes_of s.shape.code) → GroupBytes (group_of s.shape.code)
    go (alone x h g i j) = short (group_of s.shape.code) some (omega (arith, x, i)) (λ t. j (omega (arith, x, t)))
    go (fours x h g i) = Bulk.ten x

pub width_some : (w : ℕ) → GroupBytes w → 0 < w
width_some w (Bulk.one e) = omega arith
width_some w (Bulk.two e) = omega arith
width_some w (Bulk.four e) = omega arith
width_some w (Bulk.ten e) = omega arith

pub width_alone : (w : ℕ) → GroupBytes w → (w ≡ 10 → ⊥) → w ≤ 4
width_alone w (Bulk.one e) n = omega arith
width_alone w (Bulk.two e) n = omega arith
width_alone w (Bulk.four e) n = omega arith
width_alone w (Bulk.ten e) n = absurd (n e)

pub width_one : (w : ℕ) → GroupBytes w → (w ≡ 10 → ⊥) → (w ≡ 4 → ⊥) → (w ≡ 2 → ⊥) → w ≡ 1
width_one w (Bulk.one e) n10 n4 n2 = e
width_one w (Bulk.two e) n10 n4 n2 = absurd (n2 e)
width_one w (Bulk.four e) n10 n4 n2 = absurd (n4 e)
width_one w (Bulk.ten e) n10 n4 n2 = absurd (n10 e)
