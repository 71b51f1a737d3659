-- What each loop over words keeps, and where it ends: one law, over the value of word k.
-- Assumes nothing.
use Prim.Native.Nat.{ℕ, zero, suc, min, ◌+◌, ◌-◌, ◌*◌, ◌/◌, ◌≤◌, ◌<◌}
use mathlib.Core.Path.{◌≡◌, refl, ◌∙◌}
use mathlib.Core.List.{List, [], ◌∷◌, ◌++◌}
use native.Mathlib.Nat.{min-le_left, min-le_right}
use native.Mathlib.Omega.{arith}
use lib.IntN.{ℤ}
use lib.ListN.{length, length-append, take, drop, length-drop, set, length-set, take-append-drop}
use Rattle.std.proofs.lemmas.List.{length-take-le}
use lib.Seq.{take_at, drop_at}
use Rattle.basis.specs.Upto.{upto}
use Rattle.basis.proofs.Choices.{pick_both}
use Rattle.basis.proofs.Uptos.{upto_more}
use Rattle.words.specs.declared.Value.{Value}
use Rattle.runs.specs.declared.Ran.{Ran}
use Rattle.words.specs.Words.{off_one}
use Rattle.runs.specs.Words.{words_in, plain_value}
use Rattle.runs.specs.Runs.{offs, numbers, over, samples_in, ran, filled}
use Rattle.runs.proofs.Writes.{take_two, drop_two, further}

pub one_low : (w : Value) → off_one w ≤ 1
unfolding off_one
one_low w = pick_both (λ (n : ℕ). n ≤ 1) _ (omega arith) (omega arith)

pub counted_low : (w : Value) {t : ℕ} → t ≡ off_one w → t ≤ 1
counted_low w e = rw e (one_low w)

pub offs_more : (f : ℕ → Value) (n : ℕ) → offs f (n + 1) ≡ offs f n + off_one (f n)
unfolding offs
offs_more f n = upto_more _ _ _ n

pub numbers_more : (f : ℕ → Value) (n : ℕ) → numbers f (n + 1) ≡ numbers f n ++ ((f n).m ∷ (f n).x ∷ [])
unfolding numbers
numbers_more f n = upto_more _ _ _ n

pub numbers_length : (f : ℕ → Value) (n : ℕ) → length (numbers f n) ≡ 2 * n
unfolding numbers upto
numbers_length f zero = refl
numbers_length f (suc n) = rw (length-append, numbers_length f n) (omega arith)

-- no more samples than words
pub samples_low : (words room : ℕ) → samples_in words room ≤ words
unfolding samples_in
samples_low words room = min-le_left words (room / 2)

-- at the head of a loop: of `a` words that are there, of which the room takes n, the first k are written
pub record Done (f : ℕ → Value) (a n : ℕ) (out₀ out : List ℤ) (off k : ℕ) : Type 0 where
  pub least : n ≡ min a (length out₀ / 2)
  pub there : n ≤ a
  pub room : 2 * n ≤ length out₀
  pub within : k ≤ n
  pub same : length out ≡ length out₀
  pub few : off ≤ k
  pub counts : off ≡ offs f k
  pub front : take (2 * k) out ≡ numbers f k
  pub back : drop (2 * k) out ≡ drop (2 * k) out₀

pub done_none : (f : ℕ → Value) (a n : ℕ) (out : List ℤ) → n ≡ min a (length out / 2) → Done f a n out out 0 0
unfolding offs numbers upto
done_none f a n out e =
    record {
      least = e;
      there = omega (arith, e, min-le_left a (length out / 2));
      room = omega (arith, e, min-le_right a (length out / 2));
      within = omega arith;
      same = refl;
      few = omega arith;
      counts = refl;
      front = refl;
      back = refl;
    }

pub offs_low : (f : ℕ → Value) (n : ℕ) → offs f n ≤ n
unfolding offs upto
offs_low f zero = omega arith
offs_low f (suc n) = omega (arith, offs_low f n, one_low (f n))

-- going on from the first k words, written elsewhere
pub done_from : (f : ℕ → Value) (a n k : ℕ) (out₀ : List ℤ) {out : List ℤ} {off : ℕ} → n ≡ min a (length out₀ / 2) → k ≤ n → off ≡ offs f k → out ≡ over (numbers f k) out₀ → Done f a n out₀ out off k
unfolding over
done_from f a n k out₀ e h eo ew =
    let z = done_none f a n out₀ e in
    let l = numbers_length f k in
    let w = rw l at ew in
    record {
      least = e;
      there = z.there;
      room = z.room;
      within = h;
      same = rw w (rw (length-append, l, length-drop) (omega (arith, z.room)));
      few = omega (arith, offs_low f k);
      counts = eo;
      front = rw w (take_at (numbers f k) _ _ l);
      back = rw w (drop_at (numbers f k) _ _ l);
    }

-- word j is written, and t says whether it is off rule
abbrev pub Wrote : (ℕ → Value) → ℕ → List ℤ → List ℤ → ℕ → Type 0
Wrote f j out o t = (t ≡ off_one (f j)) × (o ≡ set (set out (2 * j) (f j).m) (2 * j + 1) (f j).x)

module _ {f : ℕ → Value} {a n : ℕ} {out₀ out : List ℤ} {off k : ℕ} (d : Done f a n out₀ out off k) where
  -- one word more
  pub done_more : k < n → {x : Value} {off' : ℕ} → x ≡ f k → off' ≡ off + off_one x → Done f a n out₀ (set (set out (2 * k) x.m) (2 * k + 1) x.x) off' (k + 1)
  done_more h {x} {off'} ex eo =
      let two : 2 * (k + 1) ≡ 2 * k + 2 = omega arith in
      record {
        least = d.least;
        there = d.there;
        room = d.room;
        within = omega arith;
        same = simp length-set d.same;
        few = omega (arith, one_low x, d.few);
        counts = eo ∙ rw (offs_more f k, ← ex, d.counts);
        front = rw (two, take_two out (2 * k) x.m x.x (omega (arith, d.same, d.room)), numbers_more f k, ← ex, d.front);
        back = rw two (drop_two out (2 * k) x.m x.x ∙ further (2 * k) 2 out out₀ d.back);
      }

  -- the same, from what a call of `put` says
  pub done_wrote : k < n → {x : Value} {t : ℕ} {o : List ℤ} → x ≡ f k → t ≡ off_one x → o ≡ set (set out (2 * k) x.m) (2 * k + 1) x.x → Done f a n out₀ o (off + t) (k + 1)
  done_wrote h e p q = rw q (done_more h e (rw p))

  -- the same of a word that is named otherwise
  pub done_put : {o : List ℤ} {t j i : ℕ} → Wrote f j out o t → j ≡ k → i ≡ k + 1 → k < n → Done f a n out₀ o (off + t) i
  done_put w ej ei h = rw (ei, w.1, ej) (done_more h {x = f k} refl (rw (w.0, ej)))

  -- no matter what stood under the words that are written
  pub done_self : Done f a n out out off k
  done_self =
      record {
        least = rw d.same d.least;
        there = d.there;
        room = rw d.same d.room;
        within = d.within;
        same = refl;
        few = d.few;
        counts = d.counts;
        front = d.front;
        back = refl;
      }

  pub done_on : {out' : List ℤ} {off' k' : ℕ} → Done f a n out out' off' k' → k ≤ k' → Done f a n out₀ out' off' k'
  done_on {out'} {off'} {k'} e h =
      let two : 2 * k' ≡ 2 * k + (2 * k' - 2 * k) = omega arith in
      record {
        least = d.least;
        there = d.there;
        room = d.room;
        within = e.within;
        same = e.same ∙ d.same;
        few = e.few;
        counts = e.counts;
        front = e.front;
        back = e.back ∙ rw two (further (2 * k) (2 * k' - 2 * k) out out₀ d.back);
      }

  -- what is written, over the front of what was there
  pub done_far : (off ≡ offs f k) × (out ≡ over (numbers f k) out₀)
  unfolding over
  done_far = (d.counts, rw (numbers_length f k, ← d.front, ← d.back, take-append-drop))

  -- all of them
  pub done_all : n ≤ k → (off ≡ offs f n) × (out ≡ over (numbers f n) out₀)
  done_all h =
      let e : n ≡ k = omega (arith, d.within) in
      rw e done_far

-- a loop over the first n of some words takes n turns
pub took : {X : Type 0} {n : ℕ} (b : ℕ) (ws : List X) → n ≡ min (length ws) b → length (take n ws) ≡ n
took {n = n} b ws e = length-take-le n ws (omega (arith, e, min-le_left (length ws) b))

-- the same of a count that is known to be no more than the words
pub took_there : {X : Type 0} {n a : ℕ} (ws : List X) → length ws ≡ a → n ≤ a → length (take n ws) ≡ n
took_there {n = n} ws e h = length-take-le n ws (rw e h)

-- off-rule words counted apart: as many as there are, at each turn of the loop
pub done_zero : (f : ℕ → Value) (a n : ℕ) (out : List ℤ) → n ≡ min a (length out / 2) → Done f a n out out (offs f 0) 0
unfolding offs upto
done_zero f a n out e = done_none f a n out e

pub done_next : {f : ℕ → Value} {a n : ℕ} {out₀ out : List ℤ} {k : ℕ} → Done f a n out₀ out (offs f k) k → k < n → {x : Value} → x ≡ f k → Done f a n out₀ (set (set out (2 * k) x.m) (2 * k + 1) x.x) (offs f (k + 1)) (k + 1)
done_next {f} {k = k} d h ex = done_more d h ex (rw ex (offs_more f k))

-- the contract of a loop, from its end: the words that are there are those that the bytes hold
pub loop_ends : (words : ℕ → ℕ) (word : List ℕ → ℕ → Value) (bs : List ℕ) {n : ℕ} {out₀ out : List ℤ} {off k : ℕ} → Done (word bs) (words (length bs)) n out₀ out off k → n ≤ k
    → (◌≡◌ {A = Ran} (record { samples = n; off = off }) (ran words word bs out₀)) × (out ≡ filled words word bs out₀)
unfolding ran filled samples_in
loop_ends words word bs d h =
    let a = done_all d h in
    (rw (← d.least, a.0), rw (← d.least) a.1)

-- the same of a code that is named otherwise
pub said_ran : (n : ℕ) (bs : List ℕ) (out : List ℤ) {code named : ℕ} {r : Ran} → r ≡ ran (words_in n) (plain_value code n) bs out → code ≡ named → r ≡ ran (words_in n) (plain_value named n) bs out
said_ran n bs out e i = rw (← i) e

pub said_filled : (n : ℕ) (bs : List ℕ) (out : List ℤ) {code named : ℕ} {o : List ℤ} → o ≡ filled (words_in n) (plain_value code n) bs out → code ≡ named → o ≡ filled (words_in n) (plain_value named n) bs out
said_filled n bs out e i = rw (← i) e
