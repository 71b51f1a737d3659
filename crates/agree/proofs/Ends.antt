-- Block ends: where one is due, whether any byte follows the last, and what is known of block and phase from byte to byte and block to block.
-- Assumes nothing.
use Rattle.std.specs.Prelude.{Ok}
use Prim.Native.Nat.{ℕ, zero, suc, ◌+◌, ◌*◌, ◌/◌, ◌%◌, ◌≤◌, ◌<◌}
use mathlib.Core.Path.{◌≡◌, refl, sym, ap, ◌∙◌, subst⁻¹}
use mathlib.Core.Bool.{Bool, true, false, not}
use native.Mathlib.Nat.{div-add-mod', mod-eq_of_lt, div-eq_of_lt, mul-mod_left, mul-div_cancel, mul_assoc, mul-le-mul_right, zero-mul, add-zero}
use native.Mathlib.Omega.{arith}
use lib.Dec.{eqb, ltb, leb}
use borrow.Author.Tests.{eqb-true, eqb-false, ltb-true, ltb-false, leb-false, eq-eqb, ne_eqb, not-false}
use Rattle.basis.specs.Choice.{pick, ◌and◌, ◌or◌}
use Rattle.refusals.specs.declared.Refusal.TheVariants.{Long, Block, Sync, Phase}
use Rattle.refusals.proofs.Clears.{when_clear, first_clear}
use Rattle.rules.specs.Scans.{dp_of, start_wrong, phase_wrong, in_scan}
use Rattle.rules.specs.Faults.{wrong_count, scan_fault, byte_fault, end_fault}
use Rattle.agree.proofs.Plans.{Plan, scan, shape_in}
use Rattle.agree.proofs.Tests.{clash, pos_test, bit_low}
use Rattle.agree.proofs.Form.{Begun, sole, over, many, Inv, past}

or_false : (a b : Bool) → (a or b) ≡ false → (a ≡ false) × (b ≡ false)
unfolding ◌or◌
or_false true b e = absurd (clash true refl e)
or_false false b e = (refl, e)

or_idle : (a : Bool) → (a or false) ≡ a
unfolding ◌or◌
or_idle true = refl
or_idle false = refl

or_same : (a b : Bool) → (a ≡ true → b ≡ true) → (a or b) ≡ b
unfolding ◌or◌
or_same true b f = sym (f refl)
or_same false b f = refl

eqb_shift : (a n p : ℕ) → a + n ≡ p → eqb p a ≡ eqb n 0
eqb_shift a zero p e = eq-eqb p a (omega arith)
eqb_shift a (suc n) p e = ne_eqb p a (λ x. omega arith) ∙ sym (ne_eqb (suc n) 0 (λ x. omega arith))

module _ (byte : ℕ → ℕ) (k : Plan) where
  eight : 0 < scan k
  eight = omega arith

  scans_of : (p : ℕ) → p % scan k ≡ 0 → p ≡ p / scan k * scan k
  scans_of p e = omega (arith, div-add-mod' p (scan k))

  -- n scans are m blocks of them
  blocks_test : (0 < k.block) → (n m : ℕ) → (eqb (n % k.block) 0 and eqb (n / k.block) m) ≡ eqb n (m * k.block)
  unfolding ◌and◌
  blocks_test pos n m = go (eqb n (m * k.block)) refl
    where
      go : (t : Bool) → eqb n (m * k.block) ≡ t → (eqb (n % k.block) 0 and eqb (n / k.block) m) ≡ t
      go true e =
          let q : n ≡ m * k.block = eqb-true n (m * k.block) e in
          rw (q, mul-mod_left m k.block, mul-div_cancel m pos, eq-eqb m m refl)
      go false e = by (eqb (n % k.block) 0) (eqb (n / k.block) m) refl refl
        where
          by : (a b : Bool) → eqb (n % k.block) 0 ≡ a → eqb (n / k.block) m ≡ b → (a and b) ≡ false
          by true true a b =
              absurd (eqb-false n (m * k.block) e (sym (div-add-mod' n k.block) ∙ rw (eqb-true (n % k.block) 0 a, eqb-true (n / k.block) m b) (add-zero (m * k.block))))
          by true false a b = refl
          by false c a b = refl

  scale_test : (n m : ℕ) → eqb (n * scan k) (m * scan k) ≡ eqb n m
  scale_test n m = go (eqb n m) refl
    where
      go : (t : Bool) → eqb n m ≡ t → eqb (n * scan k) (m * scan k) ≡ t
      go true e = eq-eqb (n * scan k) (m * scan k) (ap (λ (x : ℕ). x * scan k) (eqb-true n m e))
      go false e =
          ne_eqb (n * scan k) (m * scan k)
          (λ x. eqb-false n m e (sym (mul-div_cancel n eight) ∙ ap (λ (y : ℕ). y / scan k) x ∙ mul-div_cancel m eight))

  zero_scans : (p : ℕ) → p % scan k ≡ 0 → eqb p 0 ≡ eqb (p / scan k) 0
  zero_scans p m = ap (λ (x : ℕ). eqb x 0) (scans_of p m) ∙ ap (eqb (p / scan k * scan k)) (sym (zero-mul (scan k))) ∙ scale_test (p / scan k) 0

  -- the rules' test of a block end, and the state's
  abbrev pub end_wrong : ℕ → ℕ → Bool
  end_wrong s p = not (eqb (p % scan k) 0) or eqb p s or wrong_count (shape_in k) byte s p

  abbrev pub due_at : ℕ → ℕ → ℕ → ℕ → Bool
  due_at block scans part ends = eqb part 0 and pick (eqb block 0) (eqb ends 0 and ltb 0 scans) (eqb (scans % block) 0 and eqb (scans / block) (ends + 1))

  pub due_same : (i s p : ℕ) → Begun byte k i s p → end_wrong s p ≡ not (due_at k.block (p / scan k) (p % scan k) i)
  unfolding pick ◌and◌ ◌or◌
  due_same i s p (sole z) = go (eqb (p % scan k) 0) refl
    where
      go : (t : Bool) → eqb (p % scan k) 0 ≡ t → end_wrong 0 p ≡ not (due_at k.block (p / scan k) (p % scan k) 0)
      go false e = rw e
      go true e =
          rw (e, eq-eqb k.block 0 z, zero_scans p (eqb-true (p % scan k) 0 e), pos_test (p / scan k)) (flip (eqb (p / scan k) 0))
        where
          flip : (t : Bool) → (t or false) ≡ not (not t)
          flip true = refl
          flip false = refl
  due_same i s p (over z m) = rw (eq-eqb (p % scan k) 0 m, eq-eqb k.block 0 z, eq-eqb p p refl)
  due_same i s p (many n l) = go (eqb (p % scan k) 0) refl
    where
      X : ℕ
      X = k.block * scan k

      N : ℕ
      N = p / scan k

      go : (t : Bool) → eqb (p % scan k) 0 ≡ t → end_wrong (i * X) p ≡ not (due_at k.block (p / scan k) (p % scan k) i)
      go false e = rw e
      go true e =
          rw (e, ne_eqb k.block 0 n, blocks_test (omega (arith, n)) N (i + 1), ← (scale_test N ((i + 1) * k.block)), ← (scans_of p (eqb-true (p % scan k) 0 e)))
          (by (eqb p ((i + 1) * k.block * scan k)) refl)
        where
          by : (t : Bool) → eqb p ((i + 1) * k.block * scan k) ≡ t → (eqb p (i * X) or not (eqb p (i * X + X))) ≡ not t
          by true f =
              let q : p ≡ (i + 1) * k.block * scan k = eqb-true p ((i + 1) * k.block * scan k) f in
              let m : 1 ≤ k.block = omega (arith, n) in
              rw (ne_eqb p (i * X) (λ x. omega (arith, mul-le-mul_right (scan k) m)), eq-eqb p (i * X + X) (omega arith))
          by false f =
              let q : p ≡ (i + 1) * k.block * scan k → ⊥ = eqb-false p ((i + 1) * k.block * scan k) f in
              rw (ne_eqb p (i * X + X) (λ x. q (omega arith))) (or_true (eqb p (i * X)))
            where
              or_true : (t : Bool) → (t or true) ≡ true
              or_true true = refl
              or_true false = refl

  -- no byte follows the last block end
  abbrev pub shut_at : ℕ → ℕ → ℕ → Bool
  shut_at block scans ends = eqb scans 0 or pick (eqb block 0) (eqb ends 1) (eqb (scans % block) 0 and eqb (scans / block) ends)

  pub shut_same : (j t len p : ℕ) → t + len ≡ p → p % scan k ≡ 0 → Begun byte k j t p → shut_at k.block (p / scan k) j ≡ eqb len 0
  unfolding pick
  shut_same j t len p e m (sole z) =
      let q : p ≡ len = omega arith in
      rw (eq-eqb k.block 0 z, ← (zero_scans p m), q) (or_idle (eqb len 0))
  shut_same j t len p e m (over z n) =
      let q : len ≡ 0 = omega arith in
      rw (eq-eqb k.block 0 z, q) (or_same (eqb (p / scan k) 0) true (λ _. refl))
  shut_same j t len p e m (many n l) =
      rw (ne_eqb k.block 0 n, blocks_test (omega (arith, n)) (p / scan k) j)
      (or_same (eqb (p / scan k) 0) (eqb (p / scan k) (j * k.block))
      (λ z. whole ∙ eq-eqb len 0 (omega (arith, e, scans_of p m, ap (λ (x : ℕ). x * scan k) (eqb-true (p / scan k) 0 z)))) ∙ whole)
    where
      whole : eqb (p / scan k) (j * k.block) ≡ eqb len 0
      whole =
          sym (scale_test (p / scan k) (j * k.block))
          ∙ ap (λ (x : ℕ). eqb x (j * k.block * scan k)) (sym (scans_of p m))
          ∙ eqb_shift (j * k.block * scan k) len p (rw (mul_assoc j k.block (scan k)) e)

  -- ---- what is kept from byte to byte
  not_past : (i s p : ℕ) → byte_fault (shape_in k) byte i s p ≡ Ok tt → past byte k i s p ≡ false
  unfolding byte_fault
  not_past i s p e = (first_clear (past byte k i s p) (Block p) (first_clear (eqb p 4294967295) (Long p) e).1).0

  begun_next : (i s p : ℕ) → Begun byte k i s p → byte_fault (shape_in k) byte i s p ≡ Ok tt → Begun byte k i s (suc p)
  unfolding ◌and◌ ◌or◌
  begun_next i s p (sole z) e = sole z
  begun_next i s p (over z m) e = absurd (clash true refl (rw (eq-eqb k.block 0 z) at (not_past i s p e)))
  begun_next i s p (many n l) e =
      let v : leb (i * (k.block * scan k) + k.block * scan k) p ≡ false = rw (ne_eqb k.block 0 n) at (not_past i s p e) in
      many {i = i} {p = suc p} n (omega (arith, leb-false (i * (k.block * scan k) + k.block * scan k) p v))

  first_phase : (i s : ℕ) → byte_fault (shape_in k) byte i s 3 ≡ Ok tt → dp_of (shape_in k) byte 0 ≡ 0
  unfolding byte_fault ◌and◌
  first_phase i s e =
      let f = (first_clear (past byte k i s 3) (Block 3) (first_clear (eqb 3 4294967295) (Long 3) e).1).1 in
      let g : scan_fault (shape_in k) byte 0 (3 + 1) 3 ≡ Ok tt = rw (mod-eq_of_lt three, div-eq_of_lt three) at f in
      let u = (first_clear (start_wrong 4 (byte 3)) (Sync 3) g).1 in
      let v : eqb (dp_of (shape_in k) byte 0) 1 ≡ false = (first_clear (phase_wrong (shape_in k) byte 0) (Phase 3) u).0 in
      let n : dp_of (shape_in k) byte 0 ≡ 1 → ⊥ = eqb-false (dp_of (shape_in k) byte 0) 1 v in
      omega (arith, bit_low (in_scan (shape_in k) byte 0 4) 4)
    where
      three : 3 < scan k
      three = omega arith

  pub inv_next : (i s p : ℕ) → Inv byte k i s p → byte_fault (shape_in k) byte i s p ≡ Ok tt → Inv byte k i s (suc p)
  inv_next i s p h e = record { begun = begun_next i s p h.begun e; phase = λ l. go (ltb 3 p) refl l }
    where
      go : (t : Bool) → ltb 3 p ≡ t → 3 < suc p → dp_of (shape_in k) byte 0 ≡ 0
      go true t l = h.phase (ltb-true 3 p t)
      go false t l =
          let q : p ≡ 3 = omega (arith, ltb-false 3 p t) in
          first_phase i s (rw q at e)

  -- ---- and from block to block
  begun_end : (i s p : ℕ) → Begun byte k i s p → end_wrong s p ≡ false → Begun byte k (suc i) p p
  unfolding ◌and◌
  begun_end i s p (sole z) e = over z (eqb-true (p % scan k) 0 (not-false _ (or_false (not (eqb (p % scan k) 0)) _ e).0))
  begun_end i s p (over z m) e =
      absurd (clash (eqb p p) (eq-eqb p p refl) (or_false (eqb p p) (wrong_count (shape_in k) byte p p) (or_false (not (eqb (p % scan k) 0)) _ e).1).0)
  begun_end i s p (many n l) e =
      let X : ℕ = k.block * scan k in
      let w = (or_false (eqb p (i * X)) (wrong_count (shape_in k) byte (i * X) p) (or_false (not (eqb (p % scan k) 0)) _ e).1).1 in
      let v : not (eqb p (i * X + X)) ≡ false = rw (ne_eqb k.block 0 n) at w in
      let q : p ≡ suc i * X = omega (arith, eqb-true p (i * X + X) (not-false _ v)) in
      subst⁻¹ (λ (x : ℕ). Begun byte k (suc i) x p) q (many n (omega arith))

  pub inv_end : (i s p : ℕ) → Inv byte k i s p → end_fault (shape_in k) byte i s p ≡ Ok tt → Inv byte k (suc i) p p
  unfolding end_fault
  inv_end i s p h e = record { begun = begun_end i s p h.begun (when_clear (end_wrong s p) (Block p) e); phase = h.phase }
