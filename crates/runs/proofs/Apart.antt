-- Off-rule words of one byte, counted apart from their samples.
-- Assumes nothing.
use Rattle.std.proofs.Common.{ℕ, zero, suc, ◌≡◌, ◌+◌, ◌≤◌, ◌<◌, List, ◌++◌, length, take, refl, sym, ap, ◌∙◌, arith, add-zero, add_assoc}
use Rattle.std.proofs.lemmas.List.{get_or-take, get_or-append-add, get_or_append_left, length-take-le, length-append}
use mir.Val.{bool_byte}
use mathlib.Core.Bool.{Bool}
use Rattle.basis.specs.Digits.{byte_in}
use Rattle.basis.specs.Upto.{upto}
use Rattle.basis.proofs.Uptos.{upto_same}
use Rattle.words.specs.declared.Value.{Value}
use Rattle.words.specs.Words.{value_of, off_one}
use Rattle.words.specs.Tables.{byte_code, tabled}
use Rattle.runs.specs.Words.{byte_value, tabled_at}
use Rattle.runs.specs.Runs.{offs, marked}
use Rattle.runs.proofs.Done.{offs_more, offs_low}
use Rattle.runs.proofs.Chunks.{marked_one}

-- the same words have the same marks
offs_same : (f g : ℕ → Value) (n : ℕ) → ((k : ℕ) → k < n → off_one (f k) ≡ off_one (g k)) → offs f n ≡ offs g n
unfolding offs upto
offs_same f g zero h = refl
offs_same f g (suc n) h = rw (offs_same f g n (λ k l. h k (omega arith)), h n (omega arith))

-- a byte more
pub marked_more : (code : ℕ) (bs : List ℕ) (k : ℕ) {off t : ℕ} {b : Bool} → off ≡ offs (byte_value code bs) k → b ≡ (value_of (byte_code code) 0 (byte_in bs k)).off → t ≡ bool_byte b → off + t ≡ offs (byte_value code bs) (k + 1)
unfolding byte_value
marked_more code bs k e p q = rw (offs_more (byte_value code bs) k, e, q, marked_one (value_of (byte_code code) 0 (byte_in bs k)) p)

-- and bytes behind others
behind : (code : ℕ) (xs ys : List ℕ) (n : ℕ) → offs (byte_value code (xs ++ ys)) (length xs + n) ≡ marked code xs + offs (byte_value code ys) n
unfolding marked byte_value offs upto
behind code xs ys zero =
    rw (add-zero (length xs), add-zero (marked code xs)) (offs_same _ _ (length xs) (λ k l. ap (λ (b : ℕ). off_one (value_of (byte_code code) 0 b)) (get_or_append_left xs ys 0 k l)))
behind code xs ys (suc n) =
    let s : length xs + suc n ≡ suc (length xs + n) = omega arith in
    rw (s, get_or-append-add xs ys n 0) (ap (λ (t : ℕ). t + off_one (value_of (byte_code code) 0 (byte_in ys n))) (behind code xs ys n) ∙ add_assoc _ _ _)

marked_append : (code : ℕ) (xs ys : List ℕ) → marked code (xs ++ ys) ≡ marked code xs + marked code ys
unfolding marked
marked_append code xs ys = ap (offs (byte_value code (xs ++ ys))) (length-append xs ys) ∙ behind code xs ys (length ys)

pub marked_low : (code : ℕ) (bs : List ℕ) → marked code bs ≤ length bs
unfolding marked
marked_low code bs = offs_low (byte_value code bs) (length bs)

-- of what was left, a part is counted
pub marked_on : (code off : ℕ) (all few rest : List ℕ) {t total : ℕ} → off + marked code all ≡ total → all ≡ few ++ rest → t ≡ marked code few → off + t + marked code rest ≡ total
marked_on code off all few rest e p q =
    let s : marked code all ≡ marked code few + marked code rest = ap (marked code) p ∙ marked_append code few rest in
    omega (arith, e, s, q)

-- nothing is left
pub marked_none : (code : ℕ) (rest : List ℕ) {off total : ℕ} → off + marked code rest ≡ total → length rest ≡ 0 → off ≡ total
marked_none code rest e h = omega (arith, e, h, marked_low code rest)

-- what a table says has the marks of the code, of the first n bytes
pub marked_first : (table : List ℕ) (code : ℕ) (bs : List ℕ) (n : ℕ) → n ≤ length bs → offs (tabled_at table code bs) n ≡ marked code (take n bs)
unfolding marked off_one byte_value tabled_at tabled
marked_first table code bs n h =
    rw (length-take-le n bs h) (offs_same _ _ n (λ k l. ap (λ (b : ℕ). off_one (value_of (byte_code code) 0 b)) (sym (get_or-take n bs k 0 l))))

-- what a table says has the marks of the code, however many bytes are asked for
pub marked_each : (table : List ℕ) (code : ℕ) (bs : List ℕ) (n : ℕ) → offs (tabled_at table code bs) n ≡ offs (byte_value code bs) n
unfolding offs off_one byte_value tabled_at tabled
marked_each table code bs n = upto_same _ _ _ _ (λ k. refl) n
