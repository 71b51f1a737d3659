-- A trace header has no wrong byte exactly where each field is what it must be.
-- Assumes nothing.
use Rattle.std.specs.Prelude.{None, Ok, Option, Some}
use Prim.Native.Nat.{ℕ, ◌+◌, ◌-◌, ◌/◌, ◌%◌, ◌≤◌, ◌<◌}
use mathlib.Core.Path.{◌≡◌, refl, sym, ap, subst, ◌∙◌}
use mathlib.Core.Bool.{Bool, true, false, not}
use mathlib.Core.List.{List}
use native.Mathlib.Omega.{arith}
use lib.Dec.{eqb, leb, ltb}
use borrow.Author.Tests.{eqb-true, eq-eqb, leb-true, le-leb, lt-ltb, ltb-false, ne_eqb, not-false}
use Rattle.basis.specs.Choice.{◌and◌, ◌or◌}
use Rattle.basis.specs.Digits.{byte_in}
use Rattle.basis.specs.Upto.{upto}
use Rattle.refusals.specs.declared.Refusal.TheVariants.{Long, Block, Trace}
use Rattle.refusals.specs.Order.{when}
use Rattle.refusals.proofs.Clears.{both_clear, when_clear}
use Rattle.block.specs.Bytes.{byte, packed_of}
use Rattle.general.specs.General.{skew_fields, within}
use Rattle.general.proofs.Kept.{within_is}
use Rattle.turns.specs.declared.Turn.{Turn}
use Rattle.turns.specs.Turns.{turn_at, skew_at, writes, pair_is}
use Rattle.rules.specs.Tape.{Body, ends, block_of, length_of, start_of, byte_at}
use Rattle.rules.specs.First.{Stops, nowhere}
use Rattle.rules.proofs.Tapes.{byte_in_lem}
use Rattle.trace_rules.specs.Headers.{file_wrong, turn_wrong, skew_wrong, zero_wrong, header_wrong}
use Rattle.trace_rules.specs.Faults.{byte_fault, end_fault, after_last, header_cut}
use Rattle.trace_rules.specs.Outcome.{stop_of}
use Rattle.trace_rules.proofs.Laws.{stop_first}
use Rattle.trace_demands.specs.TraceHeaders.{TraceHeader, Headed}

-- ---- tests
pub or_false : (t u : Bool) → (t or u) ≡ false → (t ≡ false) × (u ≡ false)
unfolding ◌or◌
or_false true u e = let z : ◌≡◌ {A = Bool} true false = e in (cc, cc)
or_false false u e = (refl, e)

neither : (t u : Bool) → t ≡ false → u ≡ false → (t or u) ≡ false
unfolding ◌or◌
neither t u e f = rw (e, f)

unless : (t u : Bool) → (t ≡ true → u ≡ true) → (t and not u) ≡ false
unfolding ◌and◌
unless true u h = rw (h refl)
unless false u h = refl

pub not_not : (t : Bool) → not t ≡ false → t ≡ true
not_not t e = not-false t e

-- ---- digit pairs
pair_is_lem : (p : Option ℕ) (n : ℕ) → pair_is p n ≡ true → p ≡ Some n
pair_is_lem (Some d) n e = ap Some (eqb-true d n e)
pair_is_lem None n e = let z : ◌≡◌ {A = Bool} false true = e in let y : ◌≡◌ {A = ℕ} 0 1 = cc in absurd (omega arith)

is_pair : (x n : ℕ) → packed_of x ≡ Some n → writes x n ≡ true
unfolding writes
is_pair x n e = rw e (eq-eqb n n refl)

writes_is : (x n : ℕ) → not (writes x n) ≡ false → packed_of x ≡ Some n
unfolding writes
writes_is x n e = pair_is_lem (packed_of x) n (not_not (pair_is (packed_of x) n) e)

module _ (b : List ℕ) (i : ℕ) (x : ℕ → ℕ) where
  abbrev u : Turn
  u = turn_at b i

  -- ---- no byte is wrong
  parts : (n : ℕ) → header_wrong b i n (x n) ≡ false
      → (file_wrong b n (x n) ≡ false) × (turn_wrong u n (x n) ≡ false) × (skew_wrong b u n (x n) ≡ false) × (zero_wrong n (x n) ≡ false)
  unfolding header_wrong
  parts n e =
      let f = or_false (file_wrong b n (x n)) _ e in
      let g = or_false (turn_wrong u n (x n)) _ f.1 in
      let h = or_false (skew_wrong b u n (x n)) _ g.1 in
      (f.0, g.0, h.0, h.1)

  file_is : (n : ℕ) → n ≤ 2 → file_wrong b n (x n) ≡ false → x n ≡ byte b n
  unfolding ◌and◌
  file_is n l e = let h : not (eqb (x n) (byte b n)) ≡ false = rw (le-leb n 2 l) at e in eqb-true (x n) (byte b n) (not_not _ h)

  three : turn_wrong u 3 (x 3) ≡ false → packed_of (x 3) ≡ Some (u.scan_type + 1)
  unfolding ◌and◌
  three e = writes_is (x 3) _ (or_false (not (writes (x 3) (u.scan_type + 1))) _ e).0

  four : turn_wrong u 4 (x 4) ≡ false → packed_of (x 4) ≡ Some (u.set + 1)
  unfolding ◌and◌ ◌or◌
  four e = writes_is (x 4) _ (or_false (not (writes (x 4) (u.set + 1))) false e).0

  five : turn_wrong u 5 (x 5) ≡ false → packed_of (x 5) ≡ Some ((u.channel + 1) / 100)
  unfolding ◌and◌ ◌or◌
  five e = writes_is (x 5) _ (or_false (not (writes (x 5) ((u.channel + 1) / 100))) false e).0

  six : turn_wrong u 6 (x 6) ≡ false → packed_of (x 6) ≡ Some ((u.channel + 1) % 100)
  unfolding ◌and◌ ◌or◌
  six e = writes_is (x 6) _ e

  eleven : skew_wrong b u 11 (x 11) ≡ false → (skew_fields b ≡ 0 → ⊥) → x 11 ≡ skew_at b u
  unfolding ◌and◌
  eleven e n = let h : not (eqb (x 11) (skew_at b u)) ≡ false = rw (ne_eqb (skew_fields b) 0 n) at e in eqb-true (x 11) (skew_at b u) (not_not _ h)

  zero_ten : zero_wrong 10 (x 10) ≡ false → x 10 ≡ 0
  unfolding ◌and◌ ◌or◌
  zero_ten e = eqb-true (x 10) 0 (not_not _ e)

  zero_twelve : zero_wrong 12 (x 12) ≡ false → x 12 ≡ 0
  unfolding ◌and◌ ◌or◌
  zero_twelve e = eqb-true (x 12) 0 (not_not _ e)

  zero_last : (n : ℕ) → 16 ≤ n → n ≤ 20 → zero_wrong n (x n) ≡ false → x n ≡ 0
  unfolding ◌and◌ ◌or◌ within
  zero_last n l h e =
      let q : not (eqb (x n) 0) ≡ false = rw (ne_eqb n 10 (λ z. omega (arith, z, l)), ne_eqb n 12 (λ z. omega (arith, z, l)), le-leb 16 n l, le-leb n 20 h) at e in
      eqb-true (x n) 0 (not_not _ q)

  sound : ((n : ℕ) → 1 ≤ n → n ≤ 20 → header_wrong b i n (x n) ≡ false) → TraceHeader b u x
  unfolding skew_at
  sound h =
      record {
        file = λ n l m. file_is n m (parts n (h n l (omega arith))).0;
        scan_type = three (parts 3 (h 3 (omega arith) (omega arith))).1;
        set = four (parts 4 (h 4 (omega arith) (omega arith))).1;
        hundreds = five (parts 5 (h 5 (omega arith) (omega arith))).1;
        channel = six (parts 6 (h 6 (omega arith) (omega arith))).1;
        skew = eleven (parts 11 (h 11 (omega arith) (omega arith))).2;
        ten = zero_ten (parts 10 (h 10 (omega arith) (omega arith))).3;
        twelve = zero_twelve (parts 12 (h 12 (omega arith) (omega arith))).3;
        last = λ n l m. zero_last n l m (parts n (h n (omega arith) m)).3;
      }

  -- ---- every field is right
  module _ (f : TraceHeader b u x) (n : ℕ) (l : 1 ≤ n) (m : n ≤ 20) where
    file_right : file_wrong b n (x n) ≡ false
    file_right = unless (leb n 2) (eqb (x n) (byte b n)) (λ e. eq-eqb (x n) (byte b n) (f.file n l (leb-true n 2 e)))

    turn_right : turn_wrong u n (x n) ≡ false
    turn_right =
        neither _ _ (unless (eqb n 3) (writes (x n) (u.scan_type + 1)) (λ e. rw (eqb-true n 3 e) (is_pair (x 3) (u.scan_type + 1) f.scan_type)))
        (neither _ _ (unless (eqb n 4) (writes (x n) (u.set + 1)) (λ e. rw (eqb-true n 4 e) (is_pair (x 4) (u.set + 1) f.set)))
        (neither _ _ (unless (eqb n 5) (writes (x n) ((u.channel + 1) / 100)) (λ e. rw (eqb-true n 5 e) (is_pair (x 5) ((u.channel + 1) / 100) f.hundreds)))
        (unless (eqb n 6) (writes (x n) ((u.channel + 1) % 100)) (λ e. rw (eqb-true n 6 e) (is_pair (x 6) ((u.channel + 1) % 100) f.channel)))))

    skew_right : skew_wrong b u n (x n) ≡ false
    unfolding ◌and◌ skew_at
    skew_right = go (eqb n 11) (eqb (skew_fields b) 0) refl refl
      where
        go : (t v : Bool) → eqb n 11 ≡ t → eqb (skew_fields b) 0 ≡ v → (t and not v and not (eqb (x n) (skew_at b u))) ≡ false
        go false v e g = refl
        go true true e g = refl
        go true false e g = rw (eqb-true n 11 e, eq-eqb (x 11) (skew_at b u) (f.skew (λ z. clash (sym g ∙ eq-eqb (skew_fields b) 0 z))))
          where
            clash : ◌≡◌ {A = Bool} false true → ⊥
            clash w = let y : ◌≡◌ {A = ℕ} 0 1 = cc in omega arith

    zero_right : zero_wrong n (x n) ≡ false
    unfolding ◌and◌ ◌or◌
    zero_right = go (eqb n 10) (eqb n 12) (within 16 n 20) refl refl refl
      where
        go : (t v w : Bool) → eqb n 10 ≡ t → eqb n 12 ≡ v → within 16 n 20 ≡ w → ((t or v or w) and not (eqb (x n) 0)) ≡ false
        go true v w e g h = rw (eqb-true n 10 e, eq-eqb (x 10) 0 f.ten)
        go false true w e g h = rw (eqb-true n 12 g, eq-eqb (x 12) 0 f.twelve)
        go false false true e g h = let q = within_is 16 n 20 h in rw (eq-eqb (x n) 0 (f.last n q.0 q.1))
        go false false false e g h = refl

    all : header_wrong b i n (x n) ≡ false
    unfolding header_wrong
    all = neither _ _ file_right (neither _ _ turn_right (neither _ _ skew_right zero_right))

-- ---- in a body that does not stop
module _ (b : List ℕ) (d : Body) where
  byte_sound : (i s p : ℕ) → byte_fault b d i s p ≡ Ok tt → p - s < 20 → header_wrong b i (p - s + 1) (byte_at d p) ≡ false
  unfolding byte_fault ◌and◌
  byte_sound i s p e l =
      let f = both_clear (when (eqb p 4294967295) (Long p)) _ e in
      let g = both_clear (when (after_last b d i) (Block p)) _ f.1 in
      let h = when_clear (ltb (p - s) 20 and header_wrong b i (p - s + 1) (byte_at d p)) (Trace p) g.1 in
      rw (lt-ltb (p - s) 20 l) at h

  end_long : (i s p : ℕ) → end_fault b d i s p ≡ Ok tt → 20 ≤ p - s
  unfolding end_fault
  end_long i s p e =
      let f = both_clear (when (after_last b d i or header_cut b d (p - s)) (Block p)) _ e in
      let h = when_clear (after_last b d i or header_cut b d (p - s)) (Block p) f.0 in
      ltb-false (p - s) 20 (or_false (after_last b d i) (header_cut b d (p - s)) h).1

  read : stop_of b d ≡ Ok tt → (k : ℕ) → k < ends d → TraceHeader b (turn_at b k) (λ n. byte_in (block_of d k) (n - 1))
  unfolding upto
  read e k l = go (subst (Stops (byte_fault b d) (end_fault b d) d) e (stop_first b d))
    where
      go : Stops (byte_fault b d) (end_fault b d) d (Ok tt) → TraceHeader b (turn_at b k) (λ n. byte_in (block_of d k) (n - 1))
      go (nowhere blocks bytes) =
          let c = blocks k l in
          let w : 20 ≤ length_of d k = omega (arith, end_long k (start_of d k) (start_of d k + length_of d k) c.1) in
          sound b k (λ n. byte_in (block_of d k) (n - 1))
          (λ n h m.
          let q : start_of d k + (n - 1) - start_of d k + 1 ≡ n = omega arith in
          let s = byte_sound k (start_of d k) (start_of d k + (n - 1)) (c.0 (n - 1) (omega arith)) (omega arith) in
          rw (q, byte_in_lem d k (n - 1) (omega arith) (omega arith)) at s)

pub headed : Headed
headed = record { sound = sound; all = all; read = read }
