-- Words of n bytes, as the library cuts them: word k is the n bytes from n * k on.
-- Assumes nothing.
use Rattle.std.proofs.Common.{ℕ, zero, suc, ◌≡◌, ◌+◌, ◌*◌, ◌<◌, List, Bool, true, false, take, drop, refl, ap, ◌∙◌, arith, slice_index_or, zero-add}
use native.Mathlib.Nat.{mul-suc}
use Rattle.std.specs.Simd.{first_chunks}
use Rattle.std.proofs.lemmas.List.{get_or-take, get_or-drop}
use lib.Seq.{drop-drop}
use mir.Val.{bool_byte}
use Rattle.basis.specs.Choice.{pick}
use Rattle.basis.specs.Digits.{written, byte_in}
use Rattle.words.specs.declared.Value.{Value}
use Rattle.runs.proofs.Bytes.{written_two}
use Rattle.words.specs.Words.{value_of, off_one}

pub chunk_at : (n m k : ℕ) (xs e : List ℕ) → k < m → slice_index_or (first_chunks n m xs) k e ≡ take n (drop (n * k) xs)
chunk_at n zero k xs e h = absurd (omega arith)
chunk_at n (suc m) zero xs e h = let z : n * 0 ≡ 0 = omega arith in rw z
chunk_at n (suc m) (suc k) xs e h =
    let s : n * suc k ≡ n + n * k = mul-suc n k ∙ omega arith in
    chunk_at n m k (drop n xs) e (omega arith) ∙ rw (s, drop-drop (n * k) n xs)

-- n digits are the same number where they are the same
digits : (d e : ℕ → ℕ) (a b n : ℕ) → ((i : ℕ) → i < n → d (a + i) ≡ e (b + i)) → written 256 d a n ≡ written 256 e b n
unfolding written
digits d e a b zero h = refl
digits d e a b (suc n) h = rw (digits d e a b n (λ i l. h i (omega arith)), h n (omega arith))

-- a word's value, when the word is the n bytes from n * k on
pub word_value : (code n k : ℕ) (xs : List ℕ) {w : List ℕ} {x : Value} → x ≡ value_of code 0 (written 256 (byte_in w) 0 n) → w ≡ take n (drop (n * k) xs) → x ≡ value_of code 0 (written 256 (byte_in xs) (n * k) n)
word_value code n k xs e i =
    rw (e, i) (ap (value_of code 0) (digits (byte_in (take n (drop (n * k) xs))) (byte_in xs) 0 (n * k) n
    (λ i l. rw (zero-add i, get_or-take n (drop (n * k) xs) i 0 l, get_or-drop (n * k) xs i 0))))

-- the first word of what is cut from another place on
pub chunk_first : (n m : ℕ) (xs e : List ℕ) → 0 < m → slice_index_or (first_chunks n m xs) 0 e ≡ take n xs
chunk_first n zero xs e h = absurd (omega arith)
chunk_first n (suc m) xs e h = refl

-- a word of two bytes, when they are those from 2 * k on
pub two_value : (code c k : ℕ) (xs : List ℕ) {w : ℕ} {x : Value} → x ≡ value_of code c w → w ≡ byte_in xs (2 * k) * 256 + byte_in xs (2 * k + 1) → x ≡ value_of code c (written 256 (byte_in xs) (2 * k) 2)
two_value code c k xs e i = rw (e, written_two (byte_in xs) (2 * k), i) refl

-- 1 for an off-rule word, as the library counts a mark
pub one_more : (w : Value) → bool_byte w.off ≡ off_one w
unfolding off_one pick
one_more w = elim w.off as (λ b. bool_byte b ≡ pick b 1 0) [ true ↦ refl | false ↦ refl ]

pub marked_one : (w : Value) {b : Bool} → b ≡ w.off → bool_byte b ≡ off_one w
marked_one w e = rw e (one_more w)
