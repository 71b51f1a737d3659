-- A run that may be taken at once comes to what its bytes come to one by one.
-- Assumes nothing.
use Rattle.std.proofs.Common.{◌≡◌, ℕ, ◌+◌, ◌-◌, ◌*◌, ◌/◌, ◌%◌, ◌<◌, ◌≤◌, false, eqb, List, length, get_or, ℤ, refl, ◌∙◌, subst, le_trans, add-zero, div-le_self, arith, ne_eqb}
use native.Mathlib.Nat.{zero-div, min-eq_left}
use lib.Seq.{take-length}
use Rattle.basis.specs.Choice.{pick}
use Rattle.basis.specs.Digits.{written, byte_in}
use Rattle.basis.specs.Upto.{upto}
use Rattle.basis.proofs.Choices.{pick_both}
use Rattle.words.specs.declared.Value.{Value}
use Rattle.runs.specs.declared.Ran.{Ran}
use Rattle.runs.specs.Runs.{offs, numbers, samples_in, ran, filled, over}
use Rattle.runs.specs.Words.{words_in, plain_value, grouped_in, grouped_value, rest_value}
use Rattle.runs.proofs.Done.{offs_low, samples_low, numbers_length}
use Rattle.scan.specs.declared.State.{State}
use Rattle.scan.specs.Step.{after, wrote}
use Rattle.stream.specs.declared.Chunk.{Chunk}
use Rattle.stream.specs.Bulk.{GroupBytes, Spread, alone, groups, rest, Able, value_in, words_of, last_exponents, ran_to, chunk}
use Rattle.stream.proofs.Readers.{width_some, width_alone}
use Rattle.stream.proofs.Turns.{Turn, so_far}
use Rattle.stream.proofs.Words.{moved_none, plain_at, words, plain_turn, exponents_at, exponents_are, grouped_at, grouped_turn, rest_at, pairs, rest_turn}

-- what a run from place g of a group on comes to
pub record Comes (s : State) (w g : ℕ) (bs : List ℕ) (n : ℕ) : Type 0 where
  pub state : after s bs ≡ ran_to s w g bs (offs (value_in s.shape.code w g s.exponents bs) n)
  pub list : wrote s bs ≡ numbers (value_in s.shape.code w g s.exponents bs) n

-- the law of turns, at the end
module _ (s : State) (bs : List ℕ) (F : ℕ → State) (D : ℕ → ℕ) (f : ℕ → Value) (t : (i : ℕ) → i < length bs → Turn bs F D f i) (z : D 0 ≡ 0) (e : F 0 ≡ s) where
  all_state : after s bs ≡ F (length bs)
  all_state = rw (e, take-length bs) at (so_far bs F D f t z (length bs) (omega arith)).state

  all_list : wrote s bs ≡ numbers f (D (length bs))
  all_list = rw (e, take-length bs) at (so_far bs F D f t z (length bs) (omega arith)).list

offs_none : (f : ℕ → Value) (off : ℕ) → off + offs f 0 ≡ off
unfolding offs upto
offs_none f off = add-zero off

-- room for all: as many samples as there are words
all_fit : (words room : ℕ) → 2 * words ≤ room → samples_in words room ≡ words
unfolding samples_in
all_fit words room h = min-eq_left (omega arith)

module _ (s : State) (w g : ℕ) (bs : List ℕ) (room : ℕ) (a : Able s w (length bs)) (l : (i : ℕ) → get_or bs i 0 < 256) (r : 2 * length bs ≤ room) where
  plain_comes : (w ≡ 10 → ⊥) → (s.place % s.shape.scan - 8) % w ≡ 0 → 0 < w → w ≤ 4 → Comes s w g bs (samples_in (words_of w g (length bs)) room)
  unfolding value_in words_of words_in pick ran_to last_exponents
  plain_comes np front some few =
      let f = plain_value s.shape.code w bs in
      let start : plain_at s bs w a front np some few l 0 ≡ s = rw (zero-div w, offs_none (plain_value s.shape.code w bs) s.off) (moved_none s) in
      let n : samples_in (length bs / w) room ≡ length bs / w = all_fit (length bs / w) room (omega (arith, div-le_self (length bs) w)) in
      record {
        state = rw (ne_eqb w 10 np, n) (all_state s bs (plain_at s bs w a front np some few l) (words s bs w a front np some few l) f (plain_turn s bs w a front np some few l) (zero-div w) start);
        list = rw (ne_eqb w 10 np, n) (all_list s bs (plain_at s bs w a front np some few l) (words s bs w a front np some few l) f (plain_turn s bs w a front np some few l) (zero-div w) start);
      }

module _ (s : State) (bs : List ℕ) (room : ℕ) (a : Able s 10 (length bs)) (l : (i : ℕ) → get_or bs i 0 < 256) (r : 2 * length bs ≤ room) where
  grouped_comes : (s.place % s.shape.scan - 8) % 10 ≡ 0 → length bs % 2 ≡ 0 → Comes s 10 0 bs (samples_in (words_of 10 0 (length bs)) room)
  unfolding value_in words_of grouped_in pick ran_to last_exponents
  grouped_comes front even =
      let f = grouped_value s.shape.code bs in
      let start : grouped_at s bs a front l 0 ≡ s = rw (offs_none (grouped_value s.shape.code bs) s.off) (moved_none s) in
      let n : samples_in (length bs / 10 * 4 + (length bs % 10 - 2) / 2) room ≡ length bs / 10 * 4 + (length bs % 10 - 2) / 2 = all_fit _ room (omega arith) in
      let last : 10 * ((length bs - 1) / 10) + 2 + (length bs - 10 * ((length bs - 1) / 10) - 2) ≡ length bs = omega (arith, a.some) in
      let first : 10 * ((length bs - 1) / 10) ≡ (length bs - 1) / 10 * 10 = omega arith in
      let e : exponents_at bs s.held s.exponents (length bs) ≡ written 256 (byte_in bs) ((length bs - 1) / 10 * 10) 2 =
      rw (last, first) at (exponents_are bs s.held s.exponents l ((length bs - 1) / 10) (length bs - 10 * ((length bs - 1) / 10) - 2) (omega (arith, a.some))) in
      record {
        state = rw (n, ← e) (all_state s bs (grouped_at s bs a front l) grouped_in f (grouped_turn s bs a front l) refl start);
        list = rw n (all_list s bs (grouped_at s bs a front l) grouped_in f (grouped_turn s bs a front l) refl start);
      }

  rest_comes : (g : ℕ) → (s.place % s.shape.scan - 8) % 10 ≡ g → 2 ≤ g → g % 2 ≡ 0 → g + length bs ≤ 10 → Comes s 10 g bs (samples_in (words_of 10 g (length bs)) room)
  unfolding value_in words_of words_in pick ran_to last_exponents
  rest_comes g place two even inside =
      let f = rest_value s.shape.code s.exponents ((g - 2) / 2) bs in
      let start : rest_at s bs a g place two even inside l 0 ≡ s = rw (offs_none (rest_value s.shape.code s.exponents ((g - 2) / 2) bs) s.off) (moved_none s) in
      let n : samples_in (length bs / 2) room ≡ length bs / 2 = all_fit (length bs / 2) room (omega arith) in
      let later : eqb g 0 ≡ false = ne_eqb g 0 (λ x. omega arith) in
      record {
        state = rw (later, n) (all_state s bs (rest_at s bs a g place two even inside l) (pairs s bs a g place two even inside l) f (rest_turn s bs a g place two even inside l) refl start);
        list = rw (later, n) (all_list s bs (rest_at s bs a g place two even inside l) (pairs s bs a g place two even inside l) f (rest_turn s bs a g place two even inside l) refl start);
      }

pub comes : (s : State) (w g : ℕ) (bs : List ℕ) (room : ℕ) → Able s w (length bs) → (s.place % s.shape.scan - 8) % w ≡ g → ((i : ℕ) → get_or bs i 0 < 256) → 2 * length bs ≤ room → GroupBytes w
    → Comes s w g bs (samples_in (words_of w g (length bs)) room)
comes s w g bs room a e l r d = go (subst (λ (x : ℕ). Spread w x (length bs)) e a.words)
  where
    ten_wide : w ≡ 10 → Able s 10 (length bs)
    ten_wide z = subst (λ (x : ℕ). Able s x (length bs)) z a

    begins : w ≡ 10 → (s.place % s.shape.scan - 8) % 10 ≡ g
    begins z = subst (λ (x : ℕ). (s.place % s.shape.scan - 8) % x ≡ g) z e

    go : Spread w g (length bs) → Comes s w g bs (samples_in (words_of w g (length bs)) room)
    go (alone np f m) = plain_comes s w g bs room a l r np (e ∙ f) (width_some w d) (width_alone w d np)
    go (groups z f m) = rw (z, f) (grouped_comes s bs room (ten_wide z) l r (begins z ∙ f) m)
    go (rest z two even m inside) = rw z (rest_comes s bs room (ten_wide z) l r g (begins z) two even inside)

-- no more words than bytes, and no more off-rule ones than words
few : (w g len : ℕ) → words_of w g len ≤ len
unfolding words_of words_in grouped_in
few w g len =
    pick_both (λ (f : ℕ → ℕ). f len ≤ len) (eqb w 10)
    (pick_both (λ (f : ℕ → ℕ). f len ≤ len) (eqb g 0) (omega arith) (omega arith))
    (div-le_self len w)

samples_few : (w g len room : ℕ) → samples_in (words_of w g len) room ≤ len
samples_few w g len room = le_trans (samples_low (words_of w g len) room) (few w g len)

module _ (s : State) (w g : ℕ) (bs : List ℕ) (out : List ℤ) (r : Ran) (e : r ≡ ran (words_of w g) (value_in s.shape.code w g s.exponents) bs out) where
  pub ran_off : r.off ≤ length bs
  unfolding ran
  ran_off = rw e (le_trans (offs_low (value_in s.shape.code w g s.exponents bs) _) (samples_few w g (length bs) (length out)))

  pub ran_samples : r.samples ≤ length bs
  unfolding ran
  ran_samples = rw e (samples_few w g (length bs) (length out))

  pub ran_chunk : Comes s w g bs (samples_in (words_of w g (length bs)) (length out)) → (t : State) → t ≡ ran_to s w g bs r.off → ◌≡◌ {A = Chunk} (record { state = t; count = 2 * r.samples }) (chunk s bs)
  unfolding chunk ran
  ran_chunk c t et = rw (et, e, c.state, c.list, numbers_length (value_in s.shape.code w g s.exponents bs) (samples_in (words_of w g (length bs)) (length out)))

pub filled_wrote : (s : State) (w g : ℕ) (bs : List ℕ) (out : List ℤ) → Comes s w g bs (samples_in (words_of w g (length bs)) (length out)) → filled (words_of w g) (value_in s.shape.code w g s.exponents) bs out ≡ over (wrote s bs) out
unfolding filled
filled_wrote s w g bs out c = rw c.list
