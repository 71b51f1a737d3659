-- Laws of a body's bytes: the byte at a place is that of its block.
-- Assumes nothing.
use Prim.Native.Nat.{ℕ, zero, suc, ◌+◌, ◌≤◌, ◌<◌}
use mathlib.Core.Path.{◌≡◌, sym, ap, ◌∙◌}
use mathlib.Core.Logic.{⊎_elim}
use mathlib.Core.List.{List, ◌++◌}
use native.Mathlib.Nat.{eq-or-lt_of_le}
use native.Mathlib.Omega.{arith}
use lib.ListN.{length, get_or, get_or-append, get_or-eq_default}
use lib.Seq.{get_or-append-add}
use Rattle.basis.specs.Upto.{upto, sum_upto, list_upto}
use Rattle.rules.specs.Tape.{Body, ends, block_of, length_of, start_of, size, byte_at}
use Rattle.basis.proofs.Uptos.{list_length, sum_grows}

joined_at : (f : ℕ → List ℕ) (n k m : ℕ) → k < n → m < length (f k) → get_or (list_upto f n) (sum_upto (λ (i : ℕ). length (f i)) k + m) 0 ≡ get_or (f k) m 0
unfolding upto
joined_at f zero k m h l = absurd (omega arith)
joined_at f (suc n) k m h l = ⊎_elim last (λ u. inside u (joined_at f n k m u l)) (eq-or-lt_of_le (let q : k ≤ n = omega arith in q))
  where
    last : k ≡ n → get_or (list_upto f n ++ f n) (sum_upto (λ (i : ℕ). length (f i)) k + m) 0 ≡ get_or (f k) m 0
    last e = rw (e, ← (list_length f n)) (get_or-append-add (list_upto f n) (f n) m 0)

    inside : k < n → get_or (list_upto f n) (sum_upto (λ (i : ℕ). length (f i)) k + m) 0 ≡ get_or (f k) m 0
        → get_or (list_upto f n ++ f n) (sum_upto (λ (i : ℕ). length (f i)) k + m) 0 ≡ get_or (f k) m 0
    inside u more =
        get_or-append (list_upto f n) (f n) 0 (sum_upto (λ (i : ℕ). length (f i)) k + m)
        (omega (arith, list_length f n, sum_grows (λ (i : ℕ). length (f i)) (suc k) n u))
        ∙ more

-- byte m of block i
pub byte_in_lem : (d : Body) (i m : ℕ) → i ≤ ends d → m < length_of d i → byte_at d (start_of d i + m) ≡ get_or (block_of d i) m 0
byte_in_lem d i m h l = joined_at (block_of d) (suc (ends d)) i m (omega arith) l

size_is : (d : Body) → size d ≡ start_of d (ends d) + length_of d (ends d)
unfolding upto
size_is d = list_length (block_of d) (suc (ends d))

-- what follows the last block end
pub last_block : (d : Body) → block_of d (ends d) ≡ d.tail
last_block d = get_or-eq_default d.blocks d.tail (let h : length d.blocks ≤ ends d = omega arith in h)

pub size_last : (d : Body) → start_of d (ends d) + length d.tail ≡ size d
size_last d = sym (size_is d ∙ ap (λ (b : List ℕ). start_of d (ends d) + length b) (last_block d))
