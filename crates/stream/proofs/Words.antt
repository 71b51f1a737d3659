-- Words of one scan against the step of each of their bytes.
-- Assumes nothing.
use Rattle.std.specs.Prelude.{Some}
use Rattle.std.proofs.Common.{◌≡◌, ℕ, zero, suc, ◌+◌, ◌-◌, ◌*◌, ◌/◌, ◌%◌, ◌<◌, ◌≤◌, Bool, true, false, eqb, List, length, get_or, sym, refl, ap, ◌∙◌, add-zero, add_assoc, add-suc, mod-eq_of_lt, div-add-mod', zero-add, add-one, arith, le-ltb, eq-eqb, ne_eqb, eqb-true}
use native.Mathlib.Nat.{suc-mod, mod_self, mod-add-mod}
use borrow.Author.Tests.{eqb-false}
use Rattle.basis.specs.Choice.{pick}
use Rattle.basis.specs.Digits.{written, byte_in}
use Rattle.basis.specs.Fields.{field}
use Rattle.basis.proofs.Digits.{Next, along, wrap, next}
use Rattle.codes.specs.Codes.{group_of}
use Rattle.words.specs.declared.Value.{Value}
use Rattle.words.specs.Words.{value_of, off_one}
use Rattle.runs.specs.Runs.{offs}
use Rattle.runs.specs.Words.{plain_value, grouped_in, grouped_value, group_exponent, group_word, rest_value, exponent_of}
use Rattle.runs.proofs.Done.{offs_more}
use Rattle.scan.specs.declared.Track.{Track}
use Rattle.scan.specs.declared.State.{State}
use Rattle.scan.specs.declared.Stepped.{Stepped}
use Rattle.scan.specs.Step.{step, word, plain, grouped, nibble, quiet, still, sample, moved, moved_by, shift, low}
use Rattle.stream.specs.Bulk.{Able, held_at}
use Rattle.stream.proofs.Held.{held_low}
use Rattle.stream.proofs.Turns.{Turn, quietly, giving}

-- ---- one byte among the sample words

pub moved_none : (s : State) → moved_by s 0 s.track s.exponents s.off s.held ≡ s
unfolding moved_by
moved_none s = rw (add-zero s.place)

pub moved_next : (s : State) (j : ℕ) (k k' : Track) (e off held e' off' b : ℕ) → moved (moved_by s j k e off held) k' e' off' b ≡ moved_by s (suc j) k' e' off' (shift held b)
unfolding moved_by moved
moved_next s j k k' e off held e' off' b = rw (add_assoc s.place j 1, add-one)

-- j bytes on among the words, where the scan's start has told what it tells
abbrev at : State → ℕ → ℕ → ℕ → ℕ → State
at s j off held e = moved_by s j s.track e off held

at_next : (s : State) (j off held e off' e' b : ℕ) → moved (at s j off held e) s.track e' off' b ≡ at s (suc j) off' (shift held b) e'
at_next s j off held e off' e' b = moved_next s j s.track s.track e off held e' off' b

pub mod_on : (p i m : ℕ) → p % m + i < m → (p + i) % m ≡ p % m + i
mod_on p i m h = sym (mod-add-mod p m i) ∙ mod-eq_of_lt h

step_word : (t : State) (b q : ℕ) → t.stop ≡ 0 → t.place < 4294967295 → t.place % t.shape.scan ≡ q → 8 ≤ q → step t b ≡ word t b q
unfolding step pick
step_word t b q hs hp hq h8 =
    rw (
      eq-eqb t.stop 0 hs,
      ne_eqb t.place 4294967295 (λ e. omega arith),
      hq,
      ne_eqb q 0 (λ e. omega arith),
      le-ltb q 3 (omega arith),
      ne_eqb q 3 (λ e. omega arith),
      le-ltb q 7 (omega arith),
      ne_eqb q 7 (λ e. omega arith),
    )

-- a sample completed
abbrev gave : State → Value → Stepped State
gave t x = record { state = t; value = Some x }

-- a byte of a run that may be taken at once: where it stands, and the states that follow it
module _ (s : State) (bs : List ℕ) (w : ℕ) (a : Able s w (length bs)) (i : ℕ) (h : i < length bs) where
  -- its place in its word or group
  spot : (s.place % s.shape.scan + i - 8) % w ≡ ((s.place % s.shape.scan - 8) % w + i) % w
  spot =
      let q = s.place % s.shape.scan in
      let e : q + i - 8 ≡ q - 8 + i = omega (arith, a.low) in
      rw e (sym (mod-add-mod (q - 8) w i))

  -- where the run begins at the first place of one
  spot_front : (s.place % s.shape.scan - 8) % w ≡ 0 → (s.place % s.shape.scan + i - 8) % w ≡ i % w
  spot_front f = spot ∙ rw (f, zero-add)

  run_step : (off held e : ℕ) → step (at s i off held e) (get_or bs i 0) ≡ word (at s i off held e) (get_or bs i 0) (s.place % s.shape.scan + i)
  unfolding moved_by
  run_step off held e = step_word _ _ _ a.stop (omega (arith, a.long)) (mod_on s.place i s.shape.scan (omega (arith, a.high))) (omega (arith, a.low))

  quiet_next : (off held e : ℕ) → quiet (at s i off held e) (get_or bs i 0) ≡ still (at s (suc i) off (shift held (get_or bs i 0)) e)
  unfolding quiet moved_by
  quiet_next off held e = ap still (at_next s i off held e off e (get_or bs i 0))

  sample_next : (f : ℕ → Value) (n held e : ℕ) (x : Value) → x ≡ f n → sample (at s i (s.off + offs f n) held e) x (get_or bs i 0) ≡ gave (at s (suc i) (s.off + offs f (n + 1)) (shift held (get_or bs i 0)) e) (f n)
  unfolding sample moved_by
  sample_next f n held e x ex =
      let o : s.off + offs f n + off_one (f n) ≡ s.off + offs f (n + 1) = rw (offs_more f n, add_assoc) in
      rw ex (ap (λ (t : State). gave t (f n)) (at_next s i (s.off + offs f n) held e (s.off + offs f n + off_one (f n)) e (get_or bs i 0) ∙ ap (λ (k : ℕ). at s (suc i) k (shift held (get_or bs i 0)) e) o))

-- ---- words that stand alone

word_plain : (t : State) (b w q : ℕ) → group_of t.shape.code ≡ w → (w ≡ 10 → ⊥) → word t b q ≡ plain t b w q
unfolding word pick
word_plain t b w q hw hn = rw (hw, ne_eqb w 10 hn)

turn_to : (q w g : ℕ) → 8 ≤ q → (q - 8) % w ≡ g → (q - 7) % w ≡ suc g % w
turn_to q w g h e =
    let s : q - 7 ≡ suc (q - 8) = omega arith in
    rw (s, suc-mod (q - 8) w, e)

plain_quiet : (t : State) (b w q g : ℕ) → 8 ≤ q → (q - 8) % w ≡ g → suc g < w → plain t b w q ≡ quiet t b
unfolding plain pick
plain_quiet t b w q g h e k =
    let z : (q - 7) % w ≡ suc g = turn_to q w g h e ∙ mod-eq_of_lt k in
    rw (ne_eqb ((q - 7) % w) 0 (λ y. omega arith))

plain_wrote : (t : State) (b w q g : ℕ) → 8 ≤ q → (q - 8) % w ≡ g → suc g ≡ w → plain t b w q ≡ sample t (value_of t.shape.code 0 (low (shift t.held b) w)) b
unfolding plain pick
plain_wrote t b w q g h e k =
    let z : (q - 7) % w ≡ 0 = turn_to q w g h e ∙ rw (k, mod_self w) in
    rw (eq-eqb ((q - 7) % w) 0 z)

module _ (s : State) (bs : List ℕ) (w : ℕ) (a : Able s w (length bs)) (front : (s.place % s.shape.scan - 8) % w ≡ 0) (np : w ≡ 10 → ⊥) (some : 0 < w) (few : w ≤ 4) (l : (i : ℕ) → get_or bs i 0 < 256) where
  abbrev pub plain_at : ℕ → State
  plain_at i = at s i (s.off + offs (plain_value s.shape.code w bs) (i / w)) (held_at bs s.held i) s.exponents

  abbrev pub words : ℕ → ℕ
  words i = i / w

  word_is : (i : ℕ) → suc (i % w) ≡ w → value_of s.shape.code 0 (low (held_at bs s.held (suc i)) w) ≡ plain_value s.shape.code w bs (i / w)
  unfolding plain_value
  word_is i e =
      let k : w * (i / w) + w ≡ suc i = omega (arith, e, div-add-mod' i w) in
      ap (λ (x : ℕ). value_of s.shape.code 0 x) (rw k at (held_low bs s.held l (w * (i / w)) w few))

  pub plain_turn : (i : ℕ) → i < length bs → Turn bs plain_at words (plain_value s.shape.code w bs) i
  unfolding moved_by
  plain_turn i h = go (next w i some)
    where
      go : Next w i → Turn bs plain_at words (plain_value s.shape.code w bs) i
      go (along dv md lt) =
          quietly
          (run_step s bs w a i h _ _ _ ∙ word_plain (plain_at i) (get_or bs i 0) w (s.place % s.shape.scan + i) a.group np
          ∙ plain_quiet (plain_at i) (get_or bs i 0) w (s.place % s.shape.scan + i) (i % w) (omega (arith, a.low)) (spot_front s bs w a i h front) lt
          ∙ quiet_next s bs w a i h _ _ _
          ∙ ap (λ (n : ℕ). still (at s (suc i) (s.off + offs (plain_value s.shape.code w bs) n) (held_at bs s.held (suc i)) s.exponents)) (sym dv))
          dv
      go (wrap dv md e) =
          let d : suc i / w ≡ i / w + 1 = dv ∙ sym (add-one (i / w)) in
          giving
          (run_step s bs w a i h _ _ _ ∙ word_plain (plain_at i) (get_or bs i 0) w (s.place % s.shape.scan + i) a.group np
          ∙ plain_wrote (plain_at i) (get_or bs i 0) w (s.place % s.shape.scan + i) (i % w) (omega (arith, a.low)) (spot_front s bs w a i h front) e
          ∙ sample_next s bs w a i h (plain_value s.shape.code w bs) (i / w) _ _ _ (word_is i e)
          ∙ ap (λ (n : ℕ). gave (at s (suc i) (s.off + offs (plain_value s.shape.code w bs) n) (held_at bs s.held (suc i)) s.exponents) (plain_value s.shape.code w bs (i / w))) (sym d))
          d

-- ---- groups of 0015

word_grouped : (t : State) (b q g : ℕ) → group_of t.shape.code ≡ 10 → (q - 8) % 10 ≡ g → word t b q ≡ grouped t b g
unfolding word pick
word_grouped t b q g hw e = rw (hw, e)

grouped_quiet : (t : State) (b g : ℕ) → g % 2 ≡ 0 → grouped t b g ≡ quiet t b
unfolding grouped pick
grouped_quiet t b g h = rw (eq-eqb (g % 2) 0 h)

grouped_lead : (t : State) (b g : ℕ) → g ≡ 1 → grouped t b g ≡ still (moved t t.track (low (shift t.held b) 2) t.off b)
unfolding grouped pick
grouped_lead t b g e = rw e

grouped_wrote : (t : State) (b g : ℕ) → (g % 2 ≡ 0 → ⊥) → (g ≡ 1 → ⊥) → grouped t b g ≡ sample t (value_of t.shape.code (nibble t.exponents g) (low (shift t.held b) 2)) b
unfolding grouped pick
grouped_wrote t b g h k = rw (ne_eqb (g % 2) 0 h, ne_eqb g 1 k)

-- the exponents after i bytes of groups
abbrev pub exponents_at : List ℕ → ℕ → ℕ → ℕ → ℕ
exponents_at bs h e zero = e
exponents_at bs h e (suc i) = pick (eqb (i % 10) 1) (low (held_at bs h (suc i)) 2) (exponents_at bs h e i)

module _ (bs : List ℕ) (h e : ℕ) (l : (i : ℕ) → get_or bs i 0 < 256) where
  -- from its second byte to its end a group's exponents are its own
  pub exponents_are : (j d : ℕ) → d ≤ 8 → exponents_at bs h e (10 * j + 2 + d) ≡ written 256 (byte_in bs) (10 * j) 2
  unfolding pick
  exponents_are j zero k =
      let one : (10 * j + 1) % 10 ≡ 1 = omega arith in
      let two : 10 * j + 2 + 0 ≡ suc (10 * j + 1) = omega arith in
      let n : 10 * j + 2 ≡ suc (10 * j + 1) = omega arith in
      rw (two, eq-eqb ((10 * j + 1) % 10) 1 one) (rw n at (held_low bs h l (10 * j) 2 (omega arith)))
  exponents_are j (suc d) k =
      let no : (10 * j + 2 + d) % 10 ≡ 1 → ⊥ = λ x. omega arith in
      rw (add-suc (10 * j + 2) d, ne_eqb ((10 * j + 2 + d) % 10) 1 no) (exponents_are j d (omega arith))

module _ (s : State) (bs : List ℕ) (a : Able s 10 (length bs)) (front : (s.place % s.shape.scan - 8) % 10 ≡ 0) (l : (i : ℕ) → get_or bs i 0 < 256) where
  abbrev pub grouped_at : ℕ → State
  grouped_at i = at s i (s.off + offs (grouped_value s.shape.code bs) (grouped_in i)) (held_at bs s.held i) (exponents_at bs s.held s.exponents i)

  group_is : (i : ℕ) → (i % 10 % 2 ≡ 0 → ⊥) → (i % 10 ≡ 1 → ⊥)
      → value_of s.shape.code (nibble (exponents_at bs s.held s.exponents i) (i % 10)) (low (held_at bs s.held (suc i)) 2) ≡ grouped_value s.shape.code bs (grouped_in i)
  unfolding grouped_in grouped_value group_exponent exponent_of group_word nibble
  group_is i odd big =
      let j = i / 10 in
      let four : grouped_in i / 4 ≡ i / 10 = omega arith in
      let part : grouped_in i % 4 ≡ (i % 10 - 2) / 2 = omega arith in
      let from : 10 * (i / 10) + 2 + (i % 10 - 2) ≡ i = omega arith in
      let bit : 18 - 2 * (i % 10) ≡ 12 - 4 * ((i % 10 - 2) / 2) = omega arith in
      let place : 10 * (i / 10) + 2 + 2 * ((i % 10 - 2) / 2) + 2 ≡ suc i = omega arith in
      rw (four, part, ← bit)
      (ap (λ (x : ℕ). value_of s.shape.code (field x (18 - 2 * (i % 10)) 4) (low (held_at bs s.held (suc i)) 2))
      (rw from at (exponents_are bs s.held s.exponents l (i / 10) (i % 10 - 2) (omega arith)))
      ∙ ap (λ (x : ℕ). value_of s.shape.code (field (written 256 (byte_in bs) (10 * (i / 10)) 2) (18 - 2 * (i % 10)) 4) x)
      (rw place at (held_low bs s.held l (10 * (i / 10) + 2 + 2 * ((i % 10 - 2) / 2)) 2 (omega arith))))

  quiet_words : (i : ℕ) → i % 10 % 2 ≡ 0 → grouped_in (suc i) ≡ grouped_in i
  unfolding grouped_in
  quiet_words i e = omega arith

  lead_words : (i : ℕ) → i % 10 ≡ 1 → grouped_in (suc i) ≡ grouped_in i
  unfolding grouped_in
  lead_words i e = omega arith

  wrote_words : (i : ℕ) → (i % 10 % 2 ≡ 0 → ⊥) → (i % 10 ≡ 1 → ⊥) → grouped_in (suc i) ≡ grouped_in i + 1
  unfolding grouped_in
  wrote_words i odd big = omega arith

  pub grouped_turn : (i : ℕ) → i < length bs → Turn bs grouped_at grouped_in (grouped_value s.shape.code bs) i
  unfolding moved_by pick
  grouped_turn i h = go (eqb (i % 10 % 2) 0) (eqb (i % 10) 1) refl refl
    where
      led : (e : ℕ) → exponents_at bs s.held s.exponents (suc i) ≡ e → grouped_in (suc i) ≡ grouped_in i → still (at s (suc i) (s.off + offs (grouped_value s.shape.code bs) (grouped_in i)) (held_at bs s.held (suc i)) e) ≡ still (grouped_at (suc i))
      led e x d = rw (x, d)

      begin : step (grouped_at i) (get_or bs i 0) ≡ grouped (grouped_at i) (get_or bs i 0) (i % 10)
      begin = run_step s bs 10 a i h _ _ _ ∙ word_grouped (grouped_at i) (get_or bs i 0) (s.place % s.shape.scan + i) (i % 10) a.group (spot_front s bs 10 a i h front)

      go : (t u : Bool) → eqb (i % 10 % 2) 0 ≡ t → eqb (i % 10) 1 ≡ u → Turn bs grouped_at grouped_in (grouped_value s.shape.code bs) i
      go true u p q =
          let even : i % 10 % 2 ≡ 0 = eqb-true (i % 10 % 2) 0 p in
          quietly
          (begin ∙ grouped_quiet (grouped_at i) (get_or bs i 0) (i % 10) even ∙ quiet_next s bs 10 a i h _ _ _
          ∙ led _ (rw (ne_eqb (i % 10) 1 (λ x. omega arith))) (quiet_words i even))
          (quiet_words i even)
      go false true p q =
          let one : i % 10 ≡ 1 = eqb-true (i % 10) 1 q in
          quietly
          (begin ∙ grouped_lead (grouped_at i) (get_or bs i 0) (i % 10) one ∙ ap still (at_next s i _ _ _ _ _ (get_or bs i 0))
          ∙ led _ (rw (eq-eqb (i % 10) 1 one)) (lead_words i one))
          (lead_words i one)
      go false false p q =
          let odd : i % 10 % 2 ≡ 0 → ⊥ = eqb-false (i % 10 % 2) 0 p in
          let big : i % 10 ≡ 1 → ⊥ = eqb-false (i % 10) 1 q in
          giving
          (begin ∙ grouped_wrote (grouped_at i) (get_or bs i 0) (i % 10) odd big
          ∙ sample_next s bs 10 a i h (grouped_value s.shape.code bs) (grouped_in i) _ _ _ (group_is i odd big)
          ∙ rw (ne_eqb (i % 10) 1 big, wrote_words i odd big))
          (wrote_words i odd big)

-- ---- what is left of a group of 0015

-- where the exponent of the word that ends i bytes after place g stands, by the words before it
word_bit : (g i : ℕ) → 2 ≤ g → g % 2 ≡ 0 → (i % 2 ≡ 0 → ⊥) → g + i < 10 → 18 - 2 * (g + i) ≡ 12 - 4 * (((g - 2) / 2 + i / 2) % 4)
word_bit g i two even odd h =
    let a : 2 * ((g - 2) / 2) + 2 ≡ g = omega arith in
    let b : 2 * (i / 2) + 1 ≡ i = omega arith in
    let c : ((g - 2) / 2 + i / 2) % 4 ≡ (g - 2) / 2 + i / 2 = mod-eq_of_lt (omega arith) in
    rw c (omega arith)

module _ (s : State) (bs : List ℕ) (a : Able s 10 (length bs)) (g : ℕ) (place : (s.place % s.shape.scan - 8) % 10 ≡ g) (two : 2 ≤ g) (even : g % 2 ≡ 0) (inside : g + length bs ≤ 10) (l : (i : ℕ) → get_or bs i 0 < 256) where
  abbrev pub rest_at : ℕ → State
  rest_at i = at s i (s.off + offs (rest_value s.shape.code s.exponents ((g - 2) / 2) bs) (i / 2)) (held_at bs s.held i) s.exponents

  abbrev pub pairs : ℕ → ℕ
  pairs i = i / 2

  rest_is : (i : ℕ) → i < length bs → (i % 2 ≡ 0 → ⊥) → value_of s.shape.code (nibble s.exponents (g + i)) (low (held_at bs s.held (suc i)) 2) ≡ rest_value s.shape.code s.exponents ((g - 2) / 2) bs (i / 2)
  unfolding rest_value exponent_of nibble
  rest_is i h odd =
      let bit = word_bit g i two even odd (omega arith) in
      let end : 2 * (i / 2) + 2 ≡ suc i = omega arith in
      rw (← bit) (ap (λ (x : ℕ). value_of s.shape.code (field s.exponents (18 - 2 * (g + i)) 4) x) (rw end at (held_low bs s.held l (2 * (i / 2)) 2 (omega arith))))

  pub rest_turn : (i : ℕ) → i < length bs → Turn bs rest_at pairs (rest_value s.shape.code s.exponents ((g - 2) / 2) bs) i
  unfolding moved_by
  rest_turn i h = go (eqb (i % 2) 0) refl
    where
      begin : step (rest_at i) (get_or bs i 0) ≡ grouped (rest_at i) (get_or bs i 0) (g + i)
      begin = run_step s bs 10 a i h _ _ _ ∙ word_grouped (rest_at i) (get_or bs i 0) (s.place % s.shape.scan + i) (g + i) a.group (spot s bs 10 a i h ∙ rw place (mod-eq_of_lt (omega arith)))

      go : (t : Bool) → eqb (i % 2) 0 ≡ t → Turn bs rest_at pairs (rest_value s.shape.code s.exponents ((g - 2) / 2) bs) i
      go true p =
          let first : i % 2 ≡ 0 = eqb-true (i % 2) 0 p in
          let d : suc i / 2 ≡ i / 2 = omega arith in
          quietly
          (begin ∙ grouped_quiet (rest_at i) (get_or bs i 0) (g + i) (omega arith) ∙ quiet_next s bs 10 a i h _ _ _
          ∙ ap (λ (n : ℕ). still (at s (suc i) (s.off + offs (rest_value s.shape.code s.exponents ((g - 2) / 2) bs) n) (held_at bs s.held (suc i)) s.exponents)) (sym d))
          d
      go false p =
          let odd : i % 2 ≡ 0 → ⊥ = eqb-false (i % 2) 0 p in
          let d : suc i / 2 ≡ i / 2 + 1 = omega arith in
          giving
          (begin ∙ grouped_wrote (rest_at i) (get_or bs i 0) (g + i) (λ x. omega arith) (λ x. omega arith)
          ∙ sample_next s bs 10 a i h (rest_value s.shape.code s.exponents ((g - 2) / 2) bs) (i / 2) _ _ _ (rest_is i h odd)
          ∙ ap (λ (n : ℕ). gave (at s (suc i) (s.off + offs (rest_value s.shape.code s.exponents ((g - 2) / 2) bs) n) (held_at bs s.held (suc i)) s.exponents) (rest_value s.shape.code s.exponents ((g - 2) / 2) bs (i / 2))) (sym d))
          d
