-- A reader that goes byte by byte: its step, what it tells, and how it passes an item.
-- Assumes nothing.
use Prim.Native.Nat.{ℕ, zero, suc, ◌-◌, ◌≤◌}
use mathlib.Core.Path.{◌≡◌, refl, sym, ap, ◌∙◌}
use mathlib.Core.Bool.{Bool, true, false}
use mathlib.Core.List.{List, [], ◌∷◌, ◌++◌, map, append_assoc}
use native.Mathlib.Nat.{sub-zero, suc-sub-suc}
use native.Mathlib.Omega.{arith}
use lib.Dec.{eqb}
use lib.ListN.{length}
use Rattle.basis.specs.Choice.{pick}
use Rattle.framing.specs.declared.Frame.{Frame}
use Rattle.framing.specs.declared.Frame.TheVariants.{Start, Length, Second, Third, Fourth, Item, Over, Wrong}
use Rattle.framing.specs.Image.{length_of}
use Rattle.framing.specs.Cuts.{Event, byte, close, mark, Walk, after}

abbrev pub sized : ℕ → Bool → Frame
sized zero true = Over
sized zero false = Length true
sized (suc n) m = Item n

abbrev pub step : Frame → ℕ → Frame
step Start b = pick (eqb b 1) (Length false) Wrong
step (Length m) b = Second m b
step (Second m a) b = Third m a b
step (Third m a b) c = Fourth m a b c
step (Fourth m a b c) d = sized (length_of (a ∷ b ∷ c ∷ d ∷ [])) m
step (Item zero) b = Length false
step (Item (suc n)) b = Item n
step Over b = Over
step Wrong b = Wrong

abbrev pub marks : ℕ → List Event
marks zero = mark ∷ []
marks (suc n) = []

abbrev pub emit : Frame → ℕ → List Event
emit Start b = []
emit (Length m) b = []
emit (Second m a) b = []
emit (Third m a b) c = []
emit (Fourth m a b c) d = marks (length_of (a ∷ b ∷ c ∷ d ∷ []))
emit (Item zero) b = byte b ∷ close ∷ []
emit (Item (suc n)) b = byte b ∷ []
emit Over b = []
emit Wrong b = []

abbrev pub feed : Frame → List ℕ → Walk
feed f [] = record { frame = f; told = [] }
feed f (b ∷ bs) = after (emit f b) (feed (step f b) bs)

after_after : (ts us : List Event) (w : Walk) → after ts (after us w) ≡ after (ts ++ us) w
after_after ts us w = ap (λ (l : List Event). record { frame = w.frame; told = l }) (sym (append_assoc ts us w.told))

pub feed_append : (f : Frame) (xs ys : List ℕ) → feed f (xs ++ ys) ≡ after (feed f xs).told (feed (feed f xs).frame ys)
feed_append f [] ys = refl
feed_append f (b ∷ xs) ys = ap (after (emit f b)) (feed_append (step f b) xs ys) ∙ after_after (emit f b) (feed (step f b) xs).told (feed (feed (step f b) xs).frame ys)

pub feed_over : (bs : List ℕ) → feed Over bs ≡ record { frame = Over; told = [] }
feed_over [] = refl
feed_over (b ∷ bs) = feed_over bs

pub feed_wrong : (bs : List ℕ) → feed Wrong bs ≡ record { frame = Wrong; told = [] }
feed_wrong [] = refl
feed_wrong (b ∷ bs) = feed_wrong bs

-- part of an item, and a whole one
pub feed_part : (n : ℕ) (bs : List ℕ) → length bs ≤ n → feed (Item n) bs ≡ record { frame = Item (n - length bs); told = map byte bs }
feed_part n [] h = rw sub-zero
feed_part zero (b ∷ bs) h = absurd (omega arith)
feed_part (suc n) (b ∷ bs) h = rw suc-sub-suc (ap (after (byte b ∷ [])) (feed_part n bs (omega arith)))

pub feed_whole : (n : ℕ) (bs rest : List ℕ) → length bs ≡ suc n → feed (Item n) (bs ++ rest) ≡ after (map byte bs ++ (close ∷ [])) (feed (Length false) rest)
feed_whole n [] rest h = absurd (omega arith)
feed_whole zero (b ∷ []) rest h = refl
feed_whole zero (b ∷ x ∷ bs) rest h = absurd (omega arith)
feed_whole (suc n) (b ∷ bs) rest h = ap (after (byte b ∷ [])) (feed_whole n bs rest (omega arith))
