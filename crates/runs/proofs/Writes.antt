-- Two numbers written into a list, one after the other.
-- Assumes nothing.
use Prim.Native.Nat.{ℕ, suc, ◌+◌, ◌<◌}
use mathlib.Core.Path.{◌≡◌, sym, ap, ◌∙◌}
use mathlib.Core.List.{List, [], ◌∷◌, ◌++◌, append_assoc}
use native.Mathlib.Numerals.{add-one}
use native.Mathlib.Omega.{arith}
use lib.IntN.{ℤ}
use lib.ListN.{length, take, drop, set, length-set}
use lib.Seq.{drop-drop, take-suc-set, drop-set-lt}

pub take_two : (l : List ℤ) (n : ℕ) (m x : ℤ) → n + 1 < length l → take (n + 2) (set (set l n m) (n + 1) x) ≡ take n l ++ (m ∷ x ∷ [])
take_two l n m x h =
    let two : n + 2 ≡ suc (suc n) = omega arith in
    let a : n < length l = omega arith in
    let b : suc n < length (set l n m) = simp length-set (omega arith) in
    rw (two, add-one, take-suc-set (set l n m) (suc n) x b, take-suc-set l n m a, append_assoc)

pub drop_two : (l : List ℤ) (n : ℕ) (m x : ℤ) → drop (n + 2) (set (set l n m) (n + 1) x) ≡ drop (n + 2) l
drop_two l n m x = drop-set-lt (n + 2) (set l n m) (n + 1) x (omega arith) ∙ drop-set-lt (n + 2) l n m (omega arith)

-- lists that are the same from n on are so further on
pub further : (n k : ℕ) (a b : List ℤ) → drop n a ≡ drop n b → drop (n + k) a ≡ drop (n + k) b
further n k a b e = sym (drop-drop k n a) ∙ ap (λ (l : List ℤ). drop k l) e ∙ drop-drop k n b
