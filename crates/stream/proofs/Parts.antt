-- Bytes that may be taken at once; and a part of a list that is written, with the list about it.
-- Assumes nothing.
use Rattle.std.proofs.Common.{◌≡◌, ℕ, ◌+◌, ◌-◌, ◌*◌, ◌%◌, ◌≤◌, List, [], ◌++◌, length, take, drop, ℤ, ap, append-nil, arith, length-drop, drop_of_length-le, length-take, length-take-le, take_all}
use native.Mathlib.Nat.{min-le_left}
use Rattle.runs.specs.Runs.{over}
use Rattle.scan.specs.declared.State.{State}
use Rattle.scan.proofs.Fold.{wrote_length}
use Rattle.stream.specs.declared.Chunk.{Chunk}
use Rattle.stream.specs.Bulk.{Spread, alone, groups, rest, Ahead, chunk}

pub none_ahead : (s : State) (left : ℕ) → Ahead s left 0
none_ahead s left = record { within = omega arith; able = λ h. absurd (omega arith) }

-- a run begins at the first place of a group, or after its exponents
pub spread_front : {w g len : ℕ} → Spread w g len → (g ≡ 0 → ⊥) → 2 ≤ g
spread_front (alone n f m) h = absurd (h f)
spread_front (groups z f m) h = absurd (h f)
spread_front (rest z two even m inside) h = two

-- and words of 0015 are of two bytes
pub spread_even : {w g len : ℕ} → Spread w g len → w ≡ 10 → len % 2 ≡ 0
spread_even (alone n f m) e = absurd (n e)
spread_even (groups z f m) e = m
spread_even (rest z two even m inside) e = m

pub part_len : (bs : List ℕ) (i k : ℕ) → i + k ≤ length bs → length (take (i + k - i) (drop i bs)) ≡ k
part_len bs i k h =
    let e : i + k - i ≡ k = omega arith in
    rw e (length-take-le k (drop i bs) (simp length-drop (omega arith)))

pub rest_all : (out : List ℤ) (n : ℕ) → take (length out - n) (drop n out) ≡ drop n out
rest_all out n = take_all (length out - n) (drop n out) (simp length-drop (omega arith))

rest_none : (out : List ℤ) (n : ℕ) → drop (length out - n) (drop n out) ≡ []
rest_none out n = drop_of_length-le (drop n out) {i = length out - n} (simp length-drop (omega arith))

pub put_part : (out last W : List ℤ) (n : ℕ) → last ≡ over W (take (length out - n) (drop n out)) → take n out ++ (last ++ drop (length out - n) (drop n out)) ≡ take n out ++ over W (drop n out)
put_part out last W n e = rw (e, rest_all out n, rest_none out n, append-nil)

pub chunk_length : (s : State) (bs : List ℕ) (i k : ℕ) (r : Chunk) → r ≡ chunk s (take k (drop i bs)) → r.count ≤ 2 * k
unfolding chunk
chunk_length s bs i k r e =
    let w = ap (λ (x : Chunk). x.count) e in
    let l : length (take k (drop i bs)) ≤ k = rw (length-take k (drop i bs)) (min-le_left k (length (drop i bs))) in
    omega (arith, w, l, wrote_length s (take k (drop i bs)))
