-- The reader of traces follows the rules: over any pieces, its state, what it wrote and its closing answer are the rules' for the body that the pieces spell.
-- Assumes nothing.
use Rattle.std.specs.Prelude.{Err, Ok, Result, ⊤}
use Prim.Native.Nat.{ℕ, zero, suc, ◌+◌, ◌-◌, ◌%◌, ◌<◌}
use mathlib.Core.Path.{◌≡◌, refl, sym, ap, ◌∙◌, subst}
use mathlib.Core.Bool.{Bool, true, false, not}
use mathlib.Core.List.{List, [], ◌∷◌, ◌++◌, append-nil, append_assoc}
use native.Mathlib.Nat.{zero-mod}
use native.Mathlib.Omega.{arith}
use lib.Dec.{eqb, ltb}
use lib.IntN.{ℤ}
use lib.ListN.{length}
use borrow.Author.Tests.{ltb-true, ne_eqb}
use Rattle.basis.specs.Choice.{pick, ◌and◌, ◌or◌}
use Rattle.basis.specs.Upto.{upto, sum_upto, list_upto}
use Rattle.refusals.specs.declared.Refusal.{Refusal}
use Rattle.refusals.specs.declared.Refusal.TheVariants.{Part, Open, Missing}
use Rattle.refusals.specs.Order.{when, or_else}
use Rattle.refusals.specs.Table.{stop_place}
use Rattle.refusals.proofs.Clears.{clear_at}
use Rattle.codes.specs.Codes.{group_of}
use Rattle.general.specs.General.{code_of, scan_types}
use Rattle.turns.specs.Turns.{turn_at, turn_in}
use Rattle.rules.specs.Tape.{Body, ends, start_of, size, byte_at}
use Rattle.rules.specs.Outcome.{Report, report, answered}
use Rattle.rules.proofs.Tapes.{size_last}
use Rattle.rules.proofs.Machine.{Run, Still, Follows, Inside, AtEnd, feed, uncut, Ran, went, fell, ran_all}
use Rattle.trace_rules.specs.Samples.{numbers_at, off_at}
use Rattle.trace_rules.specs.Faults.{byte_fault, end_fault}
use Rattle.trace_rules.specs.Outcome.{bytes_in, done_in, numbers_in, off_in, done_before, numbers_before, off_before, types_seen, stop_of, numbers_of, report_of, part_left, closing}
use Rattle.trace_rules.proofs.Laws.{Halts, halts_at, byte_halts, end_halts, broke_halts}
use Rattle.trace.specs.declared.State.{State}
use Rattle.scan.specs.declared.Stepped.{Stepped}
use Rattle.scan.specs.Step as Scan
use Rattle.trace.specs.Step as S
use Rattle.trace_body.specs.Ends as E
use Rattle.trace.specs.Answers as T
use Rattle.trace_body.specs.Calls as L
use Rattle.trace_body.specs.Open as O
use Rattle.agree.specs.Cuts.{Piece, spelled}
use Rattle.agree.specs.Answers.{closed_of}
use Rattle.agree.proofs.Cuts.{pieces, pieces_uncut}
use Rattle.agree.proofs.Whole.{same_at}
use Rattle.trace_agree.proofs.Counts.{Sizes, none_yet}
use Rattle.trace_agree.proofs.Form.{exps_in, form, halt_at}
use Rattle.trace_agree.proofs.Steps.{Hop, on, off, step_hop}
use Rattle.trace_agree.proofs.Ends as G
use Rattle.trace_agree.proofs.Laws.{numbered, again, step_stopped, end_stopped}

all_none : {A : Type 0} (join : A → A → A) (none : A) → join none none ≡ none → (f : ℕ → A) → ((k : ℕ) → f k ≡ none) → (n : ℕ) → upto join none f n ≡ none
unfolding upto
all_none join none u f e zero = refl
all_none join none u f e (suc n) = rw (all_none join none u f e n, e n) u

-- the bytes that are left over of a trace begun
part_same : (b : List ℕ) (d : Body) (n : ℕ) → L.partb (group_of (code_of b)) n ≡ part_left b d n
unfolding L.partb pick ◌and◌ ◌or◌
part_same b d n = go (ltb n 20) refl
  where
    idle : (x : Bool) → x ≡ ((x and true) or false)
    idle true = refl
    idle false = refl

    past : (x y : Bool) → y ≡ ((x and false) or y)
    past true y = refl
    past false y = refl

    go : (t : Bool) → ltb n 20 ≡ t → pick t (ltb 0 n) (not (eqb ((n - 20) % group_of (code_of b)) 0)) ≡ ((ltb 0 n and ltb n 20) or not (eqb ((n - 20) % group_of (code_of b)) 0))
    go true e =
        let z : n - 20 ≡ 0 = omega (arith, ltb-true n 20 e) in
        rw (e, z, zero-mod (group_of (code_of b))) (idle (ltb 0 n))
    go false e = rw e (past (ltb 0 n) (not (eqb ((n - 20) % group_of (code_of b)) 0)))

seen_same : (b : List ℕ) (d : Body) (n : ℕ) → L.types_seen b n ≡ types_seen b d n
unfolding L.types_seen pick turn_at turn_in
seen_same b d zero = refl
seen_same b d (suc n) = rw (ne_eqb (suc n) 0 (λ x. omega arith))

module _ (b : List ℕ) where
  -- one byte, what it writes, and one block end
  abbrev pub step_of : State → ℕ → State
  step_of s x = (S.step_on b s x).state

  abbrev pub emit_of : State → ℕ → List ℤ
  emit_of s x = Scan.m_and_x (S.step_on b s x)

  abbrev pub end_of : State → State
  end_of s = E.end_on b s

  -- the stop that a state keeps
  abbrev pub stop_in : State → Result ⊤ Refusal
  stop_in s = pick (eqb s.stop 0) (Ok tt) (Err (T.stop_of b s))

module _ (b : List ℕ) (z : Sizes (code_of b)) (d : Body) (small : (p : ℕ) → byte_at d p < 256) where
  abbrev Inv : ℕ → ℕ → ℕ → Type 0
  Inv i s p = Unit {0}

  hop : (i s p : ℕ) → Inside d i s p → Hop b d i s p (S.step_on b (form b d i p) (byte_at d p))
  hop i s p a =
      subst (λ (x : ℕ). Hop b d i x p (S.step_on b (form b d i p) (byte_at d p))) (sym a.begins)
      (step_hop b d z small i p (record { few = a.few; begins = refl; after = omega arith; before = omega arith }))

  end : (i s p : ℕ) → AtEnd d i s p → G.EndHop b d i s p (E.end_on b (form b d i p))
  end i s p a =
      subst (λ (x : ℕ). G.EndHop b d i x p (E.end_on b (form b d i p))) (sym a.begins)
      (G.end_hop b d z i p (record { few = a.few; begins = refl; whole = omega arith }))

  stays : (i p : ℕ) (r : Refusal) → Halts b i p r → Still (step_of b) (emit_of b) (end_of b) (halt_at b d r i p)
  unfolding S.still Scan.m_and_x S.halted pick
  stays i p r h =
      let s : State = halt_at b d r i p in
      record {
        steps = λ x. ap (λ (t : Stepped State). t.state) (step_stopped b s x (numbered h));
        emits = λ x. ap Scan.m_and_x (step_stopped b s x (numbered h));
        closes = end_stopped b s (numbered h);
      }

  follows : Follows (step_of b) (emit_of b) (end_of b) (byte_fault b d) (end_fault b d) d (form b d) (halt_at b d) (numbers_before b d) Inv
  follows =
      record {
        byte_on = λ i s p a h e. on_state i s p e (hop i s p a);
        byte_out = λ i s p a h e. on_out i s p e (hop i s p a);
        byte_inv = λ i s p a h e. tt;
        byte_off = λ i s p r a h e. off_state i s p r e (hop i s p a);
        byte_none = λ i s p r a h e. off_out i s p r e (hop i s p a);
        byte_place = λ i s p r e. halts_at (byte_halts b d i s p r e);
        byte_still = λ i s p r e. stays i p r (byte_halts b d i s p r e);
        end_on_lem = λ i s p a h e. end_state i s p e (end i s p a);
        end_inv = λ i s p a h e. tt;
        end_off = λ i s p r a h e. end_halt i s p r e (end i s p a);
        end_place = λ i s p r e. halts_at (end_halts b d i s p r e);
        end_still = λ i s p r e. stays i p r (end_halts b d i s p r e);
      }
    where
      on_state : (i s p : ℕ) → byte_fault b d i s p ≡ Ok tt → Hop b d i s p (S.step_on b (form b d i p) (byte_at d p)) → step_of b (form b d i p) (byte_at d p) ≡ form b d i (suc p)
      on_state i s p e (on f c o) = c
      on_state i s p e (off r f c o) = absurd (clear_at (sym e ∙ f))

      on_out : (i s p : ℕ) → byte_fault b d i s p ≡ Ok tt → Hop b d i s p (S.step_on b (form b d i p) (byte_at d p)) → numbers_before b d p ++ emit_of b (form b d i p) (byte_at d p) ≡ numbers_before b d (suc p)
      on_out i s p e (on f c o) = o
      on_out i s p e (off r f c o) = absurd (clear_at (sym e ∙ f))

      off_state : (i s p : ℕ) (r : Refusal) → byte_fault b d i s p ≡ Err r → Hop b d i s p (S.step_on b (form b d i p) (byte_at d p)) → step_of b (form b d i p) (byte_at d p) ≡ halt_at b d r i p
      off_state i s p r e (on f c o) = absurd (clear_at (sym f ∙ e))
      off_state i s p r e (off q f c o) = rw (same_at (sym e ∙ f)) c

      off_out : (i s p : ℕ) (r : Refusal) → byte_fault b d i s p ≡ Err r → Hop b d i s p (S.step_on b (form b d i p) (byte_at d p)) → emit_of b (form b d i p) (byte_at d p) ≡ []
      off_out i s p r e (on f c o) = absurd (clear_at (sym f ∙ e))
      off_out i s p r e (off q f c o) = o

      end_state : (i s p : ℕ) → end_fault b d i s p ≡ Ok tt → G.EndHop b d i s p (E.end_on b (form b d i p)) → E.end_on b (form b d i p) ≡ form b d (suc i) p
      end_state i s p e (G.on f c) = c
      end_state i s p e (G.off r f c) = absurd (clear_at (sym e ∙ f))

      end_halt : (i s p : ℕ) (r : Refusal) → end_fault b d i s p ≡ Err r → G.EndHop b d i s p (E.end_on b (form b d i p)) → E.end_on b (form b d i p) ≡ halt_at b d r i p
      end_halt i s p r e (G.on f c) = absurd (clear_at (sym f ∙ e))
      end_halt i s p r e (G.off q f c) = rw (same_at (sym e ∙ f)) c

  -- ---- the first state, and the last
  none_in : (k : ℕ) → done_in b d 0 k ≡ 0
  none_in k = none_yet (code_of b) z (bytes_in d 0 k) (omega arith)

  no_samples : done_before b d 0 ≡ 0
  no_samples = all_none ◌+◌ 0 refl (done_in b d 0) none_in (suc (ends d))

  no_off : off_before b d 0 ≡ 0
  unfolding upto
  no_off = all_none ◌+◌ 0 refl (off_in b d 0) (λ k. ap (sum_upto (off_at (code_of b) (byte_at d) (start_of d k))) (none_in k)) (suc (ends d))

  no_numbers : numbers_before b d 0 ≡ []
  unfolding upto
  no_numbers = all_none ◌++◌ [] refl (numbers_in b d 0) (λ k. ap (list_upto (numbers_at (code_of b) (byte_at d) (start_of d k))) (none_in k)) (suc (ends d))

  opens : O.fresh (code_of b) ≡ form b d 0 0
  unfolding O.fresh exps_in upto
  opens = rw (no_samples, no_off)

  at_last : size d - start_of d (ends d) ≡ length d.tail
  at_last = omega (arith, size_last d)

  -- 19, 20, 21 or the report
  last_four : (x y v : Bool) (t : Report)
      → pick x (Err Part) (pick y (pick v (Err Missing) (closed_of (report t))) (Err Open))
      ≡ closed_of (answered (or_else (when x Part) (or_else (when (not y) Open) (when v Missing))) t)
  unfolding pick
  last_four true y v t = refl
  last_four false true true t = refl
  last_four false true false t = refl
  last_four false false v t = refl

  finish_same : stop_of b d ≡ Ok tt → L.finish b (form b d (ends d) (size d)) ≡ closed_of (closing b d)
  unfolding L.finish L.report closing pick
  finish_same g =
      rw (at_last, part_same b d (length d.tail), seen_same b d (ends d), g)
      (last_four (part_left b d (length d.tail)) (eqb (length d.tail) 0) (ltb (types_seen b d (ends d)) (scan_types b)) (report_of b d))

  -- ---- the whole
  pub record AgreesAt (c : Run State ℤ) : Type 0 where
    pub samples : c.out ≡ numbers_of b d
    pub stops : stop_in b c.st ≡ stop_of b d
    pub closes : L.finish b c.st ≡ closed_of (closing b d)

  told_again : (i : ℕ) (r : Refusal) → Halts b i (stop_place r) r → T.stop_of b (halt_at b d r i (stop_place r)) ≡ r
  unfolding S.halted
  told_again i r h = again (halt_at b d r i (stop_place r)) h refl refl refl

  halted_finish : (i : ℕ) (r : Refusal) → Halts b i (stop_place r) r → L.finish b (halt_at b d r i (stop_place r)) ≡ Err r
  unfolding L.finish S.halted pick
  halted_finish i r h = rw (numbered h, told_again i r h)

  halted_stop : (i : ℕ) (r : Refusal) → Halts b i (stop_place r) r → stop_in b (halt_at b d r i (stop_place r)) ≡ Err r
  unfolding S.halted pick
  halted_stop i r h = rw (numbered h, told_again i r h)

  agree_uncut : AgreesAt (uncut (step_of b) (emit_of b) (end_of b) (record { st = O.fresh (code_of b); out = [] }) d.blocks d.tail)
  unfolding pick
  agree_uncut = rw (opens, sym no_numbers) (go (ran_all (step_of b) (emit_of b) (end_of b) (byte_fault b d) (end_fault b d) d (form b d) (halt_at b d) (numbers_before b d) Inv follows tt))
    where
      go : Ran (step_of b) (emit_of b) (end_of b) (byte_fault b d) (end_fault b d) d (form b d) (halt_at b d) (numbers_before b d) Inv follows
          (stop_of b d) (uncut (step_of b) (emit_of b) (end_of b) (record { st = form b d 0 0; out = numbers_before b d 0 }) d.blocks d.tail)
          → AgreesAt (uncut (step_of b) (emit_of b) (end_of b) (record { st = form b d 0 0; out = numbers_before b d 0 }) d.blocks d.tail)
      go (went f c h) = rw c (record { samples = rw f; stops = sym f; closes = finish_same f })
      go (fell r i g f c) =
          let h = broke_halts b d i r g in
          rw c (record { samples = rw f; stops = halted_stop i r h ∙ sym f; closes = halted_finish i r h ∙ (unfold closing in (rw f)) })

-- the same for a body that is handed over in pieces
pub agree_pieces : (b : List ℕ) (z : Sizes (code_of b)) (es : List Piece) (small : (p : ℕ) → byte_at (spelled es) p < 256)
    → AgreesAt b z (spelled es) small (pieces (step_of b) (emit_of b) (end_of b) (record { st = O.fresh (code_of b); out = [] }) es)
agree_pieces b z es small =
    rw (pieces_uncut (step_of b) (emit_of b) (end_of b) (record { st = O.fresh (code_of b); out = [] }) es) (agree_uncut b z (spelled es) small)

-- a portion as the reader's own contract has it
pub feed_after : (b : List ℕ) (c : Run State ℤ) (bs : List ℕ) → feed (step_of b) (emit_of b) (end_of b) c bs ≡ record { st = S.after b c.st bs; out = c.out ++ S.wrote b c.st bs }
unfolding S.after S.wrote
feed_after b c [] = λ i. record { st = c.st; out = sym (append-nil c.out) i }
feed_after b c (x ∷ bs) =
    feed_after b (record { st = step_of b c.st x; out = c.out ++ emit_of b c.st x }) bs
    ∙ (λ i. record { st = S.after b (step_of b c.st x) bs; out = append_assoc c.out (emit_of b c.st x) (S.wrote b (step_of b c.st x) bs) i })
