-- The bytes of the body that calls spell are bytes.
-- Assumes nothing.
use Prim.Native.Nat.{ℕ, zero, suc, ◌*◌, ◌<◌}
use mathlib.Core.List.{List, [], ◌∷◌, ◌++◌}
use mathlib.Core.Bool.{Bool, true, false}
use native.Mathlib.Omega.{arith}
use lib.Dec.{ltb}
use lib.ListN.{length, get_or}
use Rattle.basis.specs.Choice.{pick}
use Rattle.basis.specs.Upto.{upto, list_upto}
use Rattle.rules.specs.Tape.{Body, ends, block_of, bytes_of, byte_at}
use Rattle.agree.specs.Cuts.{Piece, portion, before, spelled}
use Rattle.agree.specs.Calls.{Call, put, end, Bytes, BytesIn, taken, body_of}

append : (a b : List ℕ) → Bytes a → Bytes b → Bytes (a ++ b)
append [] b h k = k
append (x ∷ a) b h k = (h.0, append a b h.1 k)

pub below : (a : List ℕ) → Bytes a → (p : ℕ) → get_or a p 0 < 256
below [] h p = omega arith
below (x ∷ a) h zero = h.0
below (x ∷ a) h (suc p) = below a h.1 p

abbrev Blocks : List (List ℕ) → Type 0
Blocks [] = Unit {0}
Blocks (b ∷ bs) = Bytes b × Blocks bs

abbrev Whole : Body → Type 0
Whole d = Blocks d.blocks × Bytes d.tail

block : (bs : List (List ℕ)) (tail : List ℕ) → Blocks bs → Bytes tail → (i : ℕ) → Bytes (get_or bs i tail)
block [] tail h k i = k
block (b ∷ bs) tail h k zero = h.0
block (b ∷ bs) tail h k (suc i) = block bs tail h.1 k i

joined : (f : ℕ → List ℕ) → ((i : ℕ) → Bytes (f i)) → (n : ℕ) → Bytes (list_upto f n)
unfolding upto
joined f h zero = tt
joined f h (suc n) = append (list_upto f n) (f n) (joined f h n) (h n)

put_before : (ps : List ℕ) (bs : List (List ℕ)) (tail : List ℕ) → Bytes ps → Blocks bs → Bytes tail → Whole (before ps bs tail)
put_before ps [] tail p h k = (tt, append ps tail p k)
put_before ps (b ∷ bs) tail p h k = ((append ps b p h.0, h.1), k)

one_more : (t : Bool) (bs : List ℕ) (es : List Piece) → Bytes bs → Whole (spelled es) → Whole (spelled (pick t es (portion bs ∷ es)))
unfolding pick
one_more true bs es h w = w
one_more false bs es h w = put_before bs (spelled es).blocks (spelled es).tail h w.0 w.1

whole : (cs : List Call) → BytesIn cs → Whole (body_of cs)
whole [] h = (tt, tt)
whole (end ∷ cs) h = let w = whole cs h in ((tt, w.0), w.1)
whole (put bs room ∷ cs) h = one_more (ltb room (2 * length bs)) bs (taken cs) h.0 (whole cs h.1)

pub small : (cs : List Call) → BytesIn cs → (p : ℕ) → byte_at (body_of cs) p < 256
small cs h =
    let w = whole cs h in
    below (bytes_of (body_of cs)) (joined (block_of (body_of cs)) (block (body_of cs).blocks (body_of cs).tail w.0 w.1) (suc (ends (body_of cs))))
