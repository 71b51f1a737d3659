-- A step of the lister from within a portion goes on, and stays within it; and a loop of steps does all of a portion.
-- Assumes nothing.
use Rattle.std.proofs.Common.{◌≡◌, ℕ, zero, suc, ◌+◌, ◌≤◌, Bool, true, false, leb, List, length, refl, ap, append-nil, arith, le-leb, leb-false, leb-true}
use Rattle.basis.specs.Choice.{pick}
use Rattle.framing.specs.Next.{next_of}
use Rattle.framing.proofs.Forward.{forward}
use Rattle.lister.specs.Turn.{Lister, turned, turns}

-- past the end nothing moves
pub still : (s : Lister) (bytes : List ℕ) (at : ℕ) → length bytes ≤ at → (turned s bytes at ≡ s) × ((next_of s.progress.frame bytes at).to ≡ at)
unfolding pick
still s bytes at h =
    rw (le-leb (length bytes) at h)
    (ap (λ (o : List ℕ). record { progress = s.progress; header = s.header; numbers = s.numbers; out = o }) (append-nil s.out), refl)

-- each step leaves fewer bytes
nearer : (s : Lister) (bytes : List ℕ) (at k : ℕ) → length bytes ≤ at + suc k → length bytes ≤ (next_of s.progress.frame bytes at).to + k
nearer s bytes at k p = go (leb (length bytes) at) refl
  where
    go : (t : Bool) → leb (length bytes) at ≡ t → length bytes ≤ (next_of s.progress.frame bytes at).to + k
    go true e = let h : length bytes ≤ at = leb-true (length bytes) at e in omega (arith, (still s bytes at h).1)
    go false e = omega (arith, (forward s.progress.frame bytes at (leb-false (length bytes) at e)).grows)

-- with turns enough, one more makes no difference
pub enough : (j k : ℕ) (s : Lister) (bytes : List ℕ) (at : ℕ) → length bytes ≤ at + j → length bytes ≤ at + k → turns j s bytes at ≡ turns k s bytes at
enough zero zero s bytes at p q = refl
enough zero (suc k) s bytes at p q =
    let e = still s bytes at (omega arith) in
    rw (e.0, e.1) (enough zero k s bytes at p (omega arith))
enough (suc j) zero s bytes at p q =
    let e = still s bytes at (omega arith) in
    rw (e.0, e.1) (enough j zero s bytes at (omega arith) q)
enough (suc j) (suc k) s bytes at p q =
    enough j k (turned s bytes at) bytes (next_of s.progress.frame bytes at).to (nearer s bytes at j p) (nearer s bytes at k q)
