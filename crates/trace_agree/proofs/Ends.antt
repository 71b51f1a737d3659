-- A block end takes the closed form to the next trace, or halts it where the rules find a fault.
-- Assumes nothing.
use Rattle.std.specs.Prelude.{Err, Ok}
use Prim.Native.Nat.{ℕ, suc, ◌+◌, ◌-◌, ◌*◌, ◌/◌, ◌%◌, ◌≤◌, ◌<◌}
use mathlib.Core.Path.{◌≡◌, refl, sym, ap, ◌∙◌}
use mathlib.Core.Bool.{Bool, true, false, not}
use mathlib.Core.List.{List}
use native.Mathlib.Nat.{add-zero, zero-sub, zero-div, mod-one}
use native.Mathlib.Omega.{arith}
use native.Mathlib.Numerals.{add-one}
use lib.Dec.{eqb, ltb, leb}
use borrow.Author.Tests.{eqb-true, leb-true, leb-false, eq-eqb, ne_eqb}
use Rattle.basis.specs.Choice.{pick, ◌and◌, ◌or◌}
use Rattle.basis.specs.Upto.{upto}
use Rattle.refusals.specs.declared.Refusal.{Refusal}
use Rattle.refusals.specs.declared.Refusal.TheVariants.{Block, FourAt, Count}
use Rattle.codes.specs.Codes.{group_of, per_of, lead_of, word_bytes_of}
use Rattle.codes.proofs.Rows.{Words, alone, fours}
use Rattle.general.specs.General.{code_of}
use Rattle.turns.specs.Turns.{trace_count, turn_at}
use Rattle.rules.specs.Tape.{Body, length_of, start_of, byte_at}
use Rattle.rules.proofs.Machine.{AtEnd}
use Rattle.trace_rules.specs.Samples.{samples_in}
use Rattle.trace_rules.specs.Faults.{per_scan, scans_of, type_scans, after_last, count_wrong, end_fault}
use Rattle.trace_rules.specs.Outcome.{done_before, off_before, scans_read}
use Rattle.trace.specs.declared.State.{State}
use Rattle.trace.specs.Step.{look_by, look_at, halted}
use Rattle.trace_body.specs.Ends as E
use Rattle.trace_body.proofs.Choices.{ended_tally}
use Rattle.agree.proofs.Form.{tail}
use Rattle.trace_agree.proofs.Counts.{Sizes}
use Rattle.trace_agree.proofs.Places.{start_next}
use Rattle.trace_agree.proofs.Form.{exps_in, form, halt_at}
use Rattle.trace_agree.proofs.Types.{first_is, present_same}

-- ---- the samples of a trace, and whether a group of four has all
samples_whole : (code n : ℕ) → Words (group_of code) (per_of code) (lead_of code) (word_bytes_of code) → (n - 20) % group_of code ≡ 0 → E.samples_of (group_of code) n ≡ samples_in code n
unfolding E.samples_of samples_in pick
samples_whole code n (alone w y x v three) e = let non : group_of code ≡ 10 → ⊥ = λ t. omega arith in rw (ne_eqb (group_of code) 10 non, e, y, zero-sub (lead_of code), zero-div (word_bytes_of code)) (omega arith)
samples_whole code n (fours t y x w) e = rw (t, rw t at e, y, x, zero-div (word_bytes_of code)) (omega arith)

uneven_same : (code n : ℕ) → Words (group_of code) (per_of code) (lead_of code) (word_bytes_of code) → E.unevenb (group_of code) n ≡ not (eqb (samples_in code n % per_of code) 0)
unfolding E.unevenb samples_in ◌and◌
uneven_same code n (alone w y x v three) = let non : group_of code ≡ 10 → ⊥ = λ t. omega arith in rw (ne_eqb (group_of code) 10 non, y, mod-one ((n - 20) / group_of code * 1 + ((n - 20) % group_of code - lead_of code) / word_bytes_of code))
uneven_same code n (fours t y x w) = rw (t, x, y, w) (go (leb 4 ((n - 20) % 10)) refl)
  where
    go : (f : Bool) → leb 4 ((n - 20) % 10) ≡ f → f ≡ not (eqb (((n - 20) / 10 * 4 + ((n - 20) % 10 - 2) / 2) % 4) 0)
    go true e =
        let l : 4 ≤ (n - 20) % 10 = leb-true 4 ((n - 20) % 10) e in
        rw (ne_eqb (((n - 20) / 10 * 4 + ((n - 20) % 10 - 2) / 2) % 4) 0 (λ q. omega arith))
    go false e =
        let l : (n - 20) % 10 < 4 = leb-false 4 ((n - 20) % 10) e in
        rw (eq-eqb (((n - 20) / 10 * 4 + ((n - 20) % 10 - 2) / 2) % 4) 0 (omega arith))

add_picked : (t : Bool) (x y z : ℕ) → (t ≡ true → y ≡ z) → pick t (x + y) x ≡ x + pick t z 0
unfolding pick
add_picked true x y z f = ap (λ (m : ℕ). x + m) (f refl)
add_picked false x y z f = sym (add-zero x)

module _ (b : List ℕ) (d : Body) where
  pub data EndHop (i s p : ℕ) (t : State) : Type 0 where
    on : end_fault b d i s p ≡ Ok tt → t ≡ form b d (suc i) p → EndHop i s p t
    off : (r : Refusal) → end_fault b d i s p ≡ Err r → t ≡ halt_at b d r i p → EndHop i s p t

  module _ (z : Sizes (code_of b)) (i p : ℕ) (a : AtEnd d i (start_of d i) p) where
    abbrev s : ℕ
    s = start_of d i

    abbrev n : ℕ
    n = p - start_of d i

    all : p - start_of d i ≡ length_of d i
    all = omega arith

    abbrev left : ℕ
    left = (p - start_of d i - 20) % group_of (code_of b)

    -- the scans of the scan type
    scans_same : after_last b d i ≡ false → left ≡ 0 → E.scans_by b (look_at b i) (form b d i p) ≡ type_scans b d i
    unfolding E.scans_by look_at look_by pick
    scans_same q e = go (turn_at b i).first refl
      where
        go : (t : Bool) → (turn_at b i).first ≡ t → pick t (E.samples_of (group_of (code_of b)) n / per_scan b d i) (form b d i p).present ≡ type_scans b d i
        go true f =
            ap (λ (m : ℕ). m / per_scan b d i) (samples_whole (code_of b) n z.words e ∙ ap (samples_in (code_of b)) all)
            ∙ ap (scans_of b d) (sym (first_is b i f))
        go false f = present_same b d i f (leb-false (trace_count b) i q)

    scans_next : pick (turn_at b i).first (scans_read b d i + type_scans b d i) (scans_read b d i) ≡ scans_read b d (suc i)
    unfolding upto
    scans_next = add_picked (turn_at b i).first (scans_read b d i) (type_scans b d i) (scans_of b d i) (λ f. ap (scans_of b d) (first_is b i f))

    none_read : (m : ℕ) → m ≡ 0 → ◌≡◌ {A = ℕ} 0 (exps_in b d (start_of d (suc i)) m)
    unfolding exps_in
    none_read m e = rw e

    next_trace : E.one_end (form b d i p) (type_scans b d i) (turn_at b i).first ≡ form b d (suc i) p
    unfolding E.one_end
    next_trace =
        let q : 0 ≡ p - start_of d (suc i) = omega (arith, start_next d i) in
        λ x. record {
          code = code_of b;
          place = p;
          ends = add-one i x;
          at = q x;
          samples = done_before b d p;
          off = off_before b d p;
          present = type_scans b d i;
          scans = scans_next x;
          held = tail (byte_at d) p;
          exponents = none_read (p - start_of d (suc i)) (sym q) x;
          stop = 0;
          stopat = 0;
        }

    -- past BLOCK and FOUR
    module _ (q : after_last b d i ≡ false) (l : ltb n 20 ≡ false) (f : eqb (samples_in (code_of b) n % per_of (code_of b)) 0 ≡ true) where
      then : (t : Bool) → count_wrong b d i n ≡ t → end_fault b d i s p ≡ pick t (Err (Count p)) (Ok tt)
      unfolding end_fault pick ◌or◌
      then t e = rw (q, l, f, e)

      tally_hop : EndHop i s p (E.tally b (look_at b i) (form b d i p))
      unfolding E.tally E.countedb pick look_at look_by
      tally_hop = go (eqb left 0) refl
        where
          go : (t : Bool) → eqb left 0 ≡ t → EndHop i s p (E.tally b (look_at b i) (form b d i p))
          go false e = rw e (off (Count p) (then true (unfold ◌or◌ in (rw e refl))) refl)
          go true e =
              let w : left ≡ 0 = eqb-true left 0 e in
              rw (scans_same q w, e, samples_whole (code_of b) n z.words w) (by (eqb (type_scans b d i) 0) (eqb (samples_in (code_of b) n) (type_scans b d i * per_scan b d i)) refl refl)
            where
              by : (x y : Bool) → eqb (type_scans b d i) 0 ≡ x → eqb (samples_in (code_of b) n) (type_scans b d i * per_scan b d i) ≡ y
                  → EndHop i s p (pick (pick x false y) (E.one_end (form b d i p) (type_scans b d i) (turn_at b i).first) (halted (form b d i p) 25))
              by true y g h = off (Count p) (then true (unfold ◌or◌ in (rw (e, g) refl))) refl
              by false true g h = on (then false (unfold ◌or◌ in (rw (e, g, h) refl))) next_trace
              by false false g h = off (Count p) (then true (unfold ◌or◌ in (rw (e, g, h) refl))) refl

    past_same : (look_at b i).past ≡ after_last b d i
    unfolding look_at look_by
    past_same = refl

    group_same : (look_at b i).group ≡ group_of (code_of b)
    unfolding look_at look_by
    group_same = refl

    counts_hop : after_last b d i ≡ false → ltb n 20 ≡ false → eqb (samples_in (code_of b) n % per_of (code_of b)) 0 ≡ true → EndHop i s p (E.end_on b (form b d i p))
    unfolding E.end_on
    counts_hop e g h =
        rw (ended_tally b (look_at b i) (form b d i p) refl (past_same ∙ e) g (ap (λ (w : ℕ). E.unevenb w n) group_same ∙ uneven_same (code_of b) n z.words ∙ ap not h)) (tally_hop e g h)

    -- one block end
    pub end_hop : EndHop i s p (E.end_on b (form b d i p))
    unfolding E.end_on E.ended look_at look_by pick
    end_hop = go (after_last b d i) (ltb n 20) (eqb (samples_in (code_of b) n % per_of (code_of b)) 0) refl refl refl
      where
        go : (q l f : Bool) → after_last b d i ≡ q → ltb n 20 ≡ l → eqb (samples_in (code_of b) n % per_of (code_of b)) 0 ≡ f → EndHop i s p (E.end_on b (form b d i p))
        go true l f e g h = rw e (off (Block p) (unfold end_fault in (unfold ◌or◌ in (rw e refl))) refl)
        go false true f e g h = rw (e, g) (off (Block p) (unfold end_fault in (unfold ◌or◌ in (rw (e, g) refl))) refl)
        go false false false e g h =
            rw (e, g, uneven_same (code_of b) n z.words, h)
            (off (FourAt p ((turn_at b i).scan_type + 1) ((turn_at b i).set + 1)) (unfold end_fault in (unfold ◌or◌ in (rw (e, g, h) refl))) refl)
        go false false true e g h = counts_hop e g h
