-- One byte takes the closed form to the next, or halts it where the rules find a fault.
-- Assumes nothing.
use Rattle.std.specs.Prelude.{Err, Ok}
use Prim.Native.Nat.{ℕ, zero, suc, ◌+◌, ◌-◌, ◌*◌, ◌/◌, ◌%◌, ◌^◌, ◌≤◌, ◌<◌}
use mathlib.Core.Path.{◌≡◌, refl, sym, ap, ap₂, ◌∙◌}
use mathlib.Core.Bool.{Bool, true, false, not}
use mathlib.Core.List.{List, [], ◌++◌, append-nil}
use mathlib.Core.Logic.{inl, inr}
use native.Mathlib.Nat.{div-add-mod', mod-mod, zero-div}
use native.Mathlib.Omega.{arith}
use native.Mathlib.Numerals.{add-one}
use lib.Arith.{digits_mod}
use lib.Dec.{eqb, ltb, lit≤}
use borrow.Author.Tests.{eqb-true, eqb-false, ltb-true, ltb-false, lt-ltb, le-ltb, eq-eqb, ne_eqb}
use Rattle.basis.specs.Choice.{pick, ◌and◌}
use Rattle.basis.specs.Digits.{written}
use Rattle.basis.specs.Fields.{field}
use Rattle.basis.proofs.Digits.{Next, along, wrap, next}
use Rattle.refusals.specs.declared.Refusal.{Refusal}
use Rattle.refusals.specs.declared.Refusal.TheVariants.{Long, Block, Trace}
use Rattle.refusals.specs.Table.{said}
use Rattle.codes.specs.Codes.{group_of, per_of, lead_of, word_bytes_of}
use Rattle.codes.proofs.Rows.{Words, alone, fours}
use Rattle.words.specs.declared.Value.{Value}
use Rattle.words.specs.Words.{value_of}
use Rattle.general.specs.General.{code_of}
use Rattle.turns.specs.Turns.{turn_at}
use Rattle.scan.specs.Step as Scan
use Rattle.rules.specs.Tape.{Body, start_of, byte_at}
use Rattle.rules.proofs.Machine.{Inside}
use Rattle.trace_rules.specs.Headers.{header_wrong}
use Rattle.trace_rules.specs.Samples.{samples_in, value_at, numbers_at, off_at}
use Rattle.trace_rules.specs.Faults.{after_last, byte_fault}
use Rattle.trace_rules.specs.Outcome.{done_before, off_before, scans_read, numbers_before}
use Rattle.scan.specs.declared.Stepped.{Stepped}
use Rattle.trace.specs.declared.State.{State}
use Rattle.trace.specs.Step as S
use Rattle.agree.proofs.Form.{tail, low_same}
use Rattle.trace_agree.proofs.Counts.{Sizes, in_group, none_yet, Grown, same, more, grown, turn, group_start, word_start, value_now}
use Rattle.trace_agree.proofs.Places.{done_same, off_same, numbers_same, done_more, off_more, numbers_more}
use Rattle.trace_agree.proofs.Form.{header_same, lead_end, exps_in, exps_next, present_at, form, halt_at}

module _ (b : List ℕ) (d : Body) where
  pub data Hop (i s p : ℕ) (t : Stepped State) : Type 0 where
    on : byte_fault b d i s p ≡ Ok tt → t.state ≡ form b d i (suc p) → numbers_before b d p ++ Scan.m_and_x t ≡ numbers_before b d (suc p) → Hop i s p t
    off : (r : Refusal) → byte_fault b d i s p ≡ Err r → t.state ≡ halt_at b d r i p → Scan.m_and_x t ≡ [] → Hop i s p t

  module _ (z : Sizes (code_of b)) (small : (p : ℕ) → byte_at d p < 256) (i p : ℕ) (a : Inside d i (start_of d i) p) where
    abbrev s : ℕ
    s = start_of d i

    abbrev n : ℕ
    n = p - start_of d i

    here : start_of d i + (p - start_of d i) ≡ p
    here = omega arith

    goes : (m o e : ℕ) → m ≡ done_before b d (suc p) → o ≡ off_before b d (suc p) → e ≡ exps_in b d s (suc n)
        → S.moved (form b d i p) m o e (byte_at d p) ≡ form b d i (suc p)
    unfolding S.moved S.moved_by
    goes m o e u v w =
        let q : suc n ≡ suc p - s = omega arith in
        let r : n + 1 ≡ suc p - s = omega arith in
        λ x. record {
          code = code_of b;
          place = add-one p x;
          ends = i;
          at = r x;
          samples = u x;
          off = v x;
          present = present_at b d i;
          scans = scans_read b d i;
          held = tail (byte_at d) (suc p);
          exponents = (w ∙ ap (exps_in b d s) q) x;
          stop = 0;
          stopat = 0;
        }

    -- a byte that completes no sample
    quietly : (e : ℕ) → byte_fault b d i s p ≡ Ok tt → e ≡ exps_in b d s (suc n) → samples_in (code_of b) (suc n) ≡ samples_in (code_of b) n
        → Hop i s p (S.still (S.moved (form b d i p) (form b d i p).samples (form b d i p).off e (byte_at d p)))
    unfolding S.still Scan.m_and_x pick
    quietly e f w m =
        on f (goes (done_before b d p) (off_before b d p) e (sym (done_same d i s p a b z m)) (sym (off_same d i s p a b z m)) w)
        (append-nil (numbers_before b d p) ∙ sym (numbers_same d i s p a b z m))

    halts : (q : Refusal) → byte_fault b d i s p ≡ Err q → Hop i s p (S.halt (form b d i p) (said q).number)
    unfolding S.halt S.still Scan.m_and_x pick
    halts q f = off q f refl refl

    no_lead : lead_end b d n ≡ false → exps_in b d s n ≡ exps_in b d s (suc n)
    unfolding pick
    no_lead e = sym (exps_next b d s n ∙ rw e)

    module _ (l : eqb p 4294967295 ≡ false) (q : after_last b d i ≡ false) where
      -- ---- the trace header
      headed_hop : n < 20 → Hop i s p (S.headed b (turn_at b i) (form b d i p) (byte_at d p))
      unfolding S.headed S.quiet pick
      headed_hop u = rw (header_same b i n (byte_at d p) u) (go (header_wrong b i (n + 1) (byte_at d p)) refl)
        where
          early : lead_end b d n ≡ false
          early = unfold lead_end in (rw (lt-ltb n 20 u) refl)

          go : (t : Bool) → header_wrong b i (n + 1) (byte_at d p) ≡ t → Hop i s p (pick (not t) (S.quiet (form b d i p) (byte_at d p)) (S.halt (form b d i p) 24))
          go true e = halts (Trace p) (unfold byte_fault in (unfold ◌and◌ in (rw (l, q, lt-ltb n 20 u, e) refl)))
          go false e =
              quietly (exps_in b d s n) (unfold byte_fault in (unfold ◌and◌ in (rw (l, q, lt-ltb n 20 u, e) refl))) (no_lead early)
              (none_yet (code_of b) z (suc n) u ∙ sym (none_yet (code_of b) z n (omega arith)))

      -- ---- sample words
      fine : 20 ≤ n → byte_fault b d i s p ≡ Ok tt
      unfolding byte_fault pick ◌and◌
      fine u = rw (l, q, le-ltb n 20 u)

      sampled : (w : Value) → 20 ≤ n → lead_end b d n ≡ false → samples_in (code_of b) (suc n) ≡ suc (samples_in (code_of b) n)
          → w ≡ value_at (code_of b) (byte_at d) s (samples_in (code_of b) n) → Hop i s p (S.sample (form b d i p) w (byte_at d p))
      unfolding S.sample Scan.m_and_x pick off_at numbers_at
      sampled w u e m v =
          on (fine u) (goes _ _ (exps_in b d s n) (sym (done_more d i s p a b z m)) (rw v (sym (off_more d i s p a b z m))) (no_lead e))
          (rw v (sym (numbers_more d i s p a b z m)))

      -- the word that the byte ends is the sample's
      word_here : 20 ≤ n → lead_of (code_of b) ≤ in_group (code_of b) z n → suc ((in_group (code_of b) z n - lead_of (code_of b)) % word_bytes_of (code_of b)) ≡ word_bytes_of (code_of b) → word_bytes_of (code_of b) ≤ 4
          → Scan.low (Scan.shift (tail (byte_at d) p) (byte_at d p)) (word_bytes_of (code_of b)) ≡ written 256 (byte_at d) (word_start (code_of b) z s n) (word_bytes_of (code_of b))
      word_here u x y w =
          low_same (byte_at d) small (word_start (code_of b) z s n) p (word_bytes_of (code_of b)) w
          (omega (arith, u, x, y, div-add-mod' (n - 20) (group_of (code_of b)), div-add-mod' (in_group (code_of b) z n - lead_of (code_of b)) (word_bytes_of (code_of b))))

      value_here : 20 ≤ n → lead_of (code_of b) ≤ in_group (code_of b) z n → suc ((in_group (code_of b) z n - lead_of (code_of b)) % word_bytes_of (code_of b)) ≡ word_bytes_of (code_of b) → word_bytes_of (code_of b) ≤ 4
          → value_at (code_of b) (byte_at d) s (samples_in (code_of b) n)
          ≡ value_of (code_of b) (field (written 256 (byte_at d) (group_start (code_of b) z s n) (lead_of (code_of b))) (4 * (per_of (code_of b) - 1 - turn (code_of b) z n)) 4) (Scan.low (Scan.shift (tail (byte_at d) p) (byte_at d p)) (word_bytes_of (code_of b)))
      value_here u x y w =
          value_now (code_of b) z (byte_at d) s n u
          ∙ ap (value_of (code_of b) (field (written 256 (byte_at d) (group_start (code_of b) z s n) (lead_of (code_of b))) (4 * (per_of (code_of b) - 1 - turn (code_of b) z n)) 4)) (sym (word_here u x y w))

      no_part : (at m k : ℕ) → m ≡ 0 → field (written 256 (byte_at d) at m) k 4 ≡ 0
      unfolding field written
      no_part at m k e = rw (e, zero-div (2 ^ k))

      -- a word by itself
      plain_hop : (group_of (code_of b) ≡ 10 → ⊥) → group_of (code_of b) ≡ word_bytes_of (code_of b) → lead_of (code_of b) ≡ 0 → word_bytes_of (code_of b) ≤ 4 → 20 ≤ n
          → Hop i s p (S.plain (form b d i p) (group_of (code_of b)) (byte_at d p) (n - 20))
      unfolding S.plain pick S.quiet
      plain_hop non w x v u = rw w (go (grown (code_of b) z n u) (next (word_bytes_of (code_of b)) (n - 20) z.wide))
        where
          there : (in_group (code_of b) z n - lead_of (code_of b)) % word_bytes_of (code_of b) ≡ (n - 20) % word_bytes_of (code_of b)
          there =
              let e : (n - 20) % group_of (code_of b) ≡ (n - 20) % word_bytes_of (code_of b) = ap (λ (g : ℕ). (n - 20) % g) w in
              ap (λ (m : ℕ). m % word_bytes_of (code_of b)) (omega (arith, x, e)) ∙ mod-mod (n - 20) (word_bytes_of (code_of b))

          no_exps : lead_end b d n ≡ false
          no_exps = unfold lead_end in (rw (le-ltb n 20 u, ne_eqb (group_of (code_of b)) 10 non) refl)

          zero_part : field (written 256 (byte_at d) (group_start (code_of b) z s n) (lead_of (code_of b))) (4 * (per_of (code_of b) - 1 - turn (code_of b) z n)) 4 ≡ 0
          zero_part = no_part (group_start (code_of b) z s n) (lead_of (code_of b)) (4 * (per_of (code_of b) - 1 - turn (code_of b) z n)) x

          go : Grown (code_of b) z n → Next (word_bytes_of (code_of b)) (n - 20)
              → Hop i s p (pick (eqb ((n - 20 + 1) % word_bytes_of (code_of b)) 0) (S.sample (form b d i p) (value_of (code_of b) 0 (Scan.low (Scan.shift (tail (byte_at d) p) (byte_at d p)) (word_bytes_of (code_of b)))) (byte_at d p)) (S.quiet (form b d i p) (byte_at d p)))
          go (same (inl y) e) k = absurd (omega (arith, y, x))
          go (same (inr y) e) (along f g h) =
              rw (add-one (n - 20), g, ne_eqb (suc ((n - 20) % word_bytes_of (code_of b))) 0 (λ k. omega arith))
              (quietly (exps_in b d s n) (fine u) (no_lead no_exps) e)
          go (same (inr y) e) (wrap f g h) = absurd (omega (arith, y, there, h))
          go (more r y e) (along f g h) = absurd (omega (arith, y, there, h))
          go (more r y e) (wrap f g h) =
              rw (add-one (n - 20), g)
              (sampled _ u no_exps e
              (sym (value_here u r y v ∙ ap (λ (c : ℕ). value_of (code_of b) c (Scan.low (Scan.shift (tail (byte_at d) p) (byte_at d p)) (word_bytes_of (code_of b)))) zero_part)))

      -- a group of four, ten bytes
      module _ (t : group_of (code_of b) ≡ 10) (x : lead_of (code_of b) ≡ 2) (y : per_of (code_of b) ≡ 4) (w : word_bytes_of (code_of b) ≡ 2) (u : 20 ≤ n) where
        abbrev h : ℕ
        h = (n - 20) % 10

        -- byte m of the group that p is in
        abbrev at : ℕ → ℕ
        at m = 20 + ((n - 20) / 10 * 10 + m)

        lead_at : (m : ℕ) → m < 10 → lead_end b d (at m) ≡ eqb m 1
        unfolding lead_end pick
        lead_at m k =
            let e : at m - 20 ≡ (n - 20) / 10 * 10 + m = omega arith in
            rw (le-ltb (at m) 20 (omega arith), t, e, digits_mod ((n - 20) / 10) k)

        begins : s + at 0 ≡ group_start (code_of b) z s n
        begins = rw t (omega arith)

        exps_at : (m : ℕ) → m < 8 → exps_in b d s (at (2 + m)) ≡ written 256 (byte_at d) (group_start (code_of b) z s n) 2
        unfolding pick
        exps_at zero k =
            let e : at (2 + 0) ≡ suc (at 1) = omega arith in
            let f : suc (s + at 1) ≡ group_start (code_of b) z s n + 2 = omega (arith, begins) in
            rw (e, exps_next b d s (at 1), lead_at 1 (omega arith)) (low_same (byte_at d) small (group_start (code_of b) z s n) (s + at 1) 2 (lit≤ tt) f)
        exps_at (suc m) k =
            let e : at (2 + suc m) ≡ suc (at (2 + m)) = omega arith in
            rw (e, exps_next b d s (at (2 + m)), lead_at (2 + m) (omega arith), ne_eqb (2 + m) 1 (λ v. omega arith)) (exps_at m (omega arith))

        read : 2 ≤ h → exps_in b d s n ≡ written 256 (byte_at d) (group_start (code_of b) z s n) (lead_of (code_of b))
        read k =
            let e : n ≡ at (2 + (h - 2)) = omega (arith, u) in
            ap (exps_in b d s) e ∙ exps_at (h - 2) (omega arith) ∙ ap (written 256 (byte_at d) (group_start (code_of b) z s n)) (sym x)

        there : in_group (code_of b) z n ≡ h
        there = ap (λ (m : ℕ). (n - 20) % m) t

        part : 2 ≤ h → h % 2 ≡ 1 → Scan.nibble (exps_in b d s n) h ≡ field (written 256 (byte_at d) (group_start (code_of b) z s n) (lead_of (code_of b))) (4 * (per_of (code_of b) - 1 - turn (code_of b) z n)) 4
        unfolding Scan.nibble
        part k o = ap₂ (λ (e m : ℕ). field e m 4) (read k) places
          where
            c : turn (code_of b) z n ≡ (h - 2) / 2
            c = ap (λ (m : ℕ). (m - lead_of (code_of b)) / word_bytes_of (code_of b)) there ∙ ap₂ (λ (m v : ℕ). (h - m) / v) x w

            places : 18 - 2 * h ≡ 4 * (per_of (code_of b) - 1 - turn (code_of b) z n)
            places = omega (arith, c, y, k, o)

        last_byte : (in_group (code_of b) z n - lead_of (code_of b)) % word_bytes_of (code_of b) ≡ (h - 2) % 2
        last_byte = ap (λ (m : ℕ). (m - lead_of (code_of b)) % word_bytes_of (code_of b)) there ∙ ap₂ (λ (m v : ℕ). (h - m) % v) x w

        lead_now : lead_end b d n ≡ eqb h 1
        unfolding lead_end pick
        lead_now = rw (le-ltb n 20 u, t)

        -- the exponents, once read
        exps_now : lead_end b d n ≡ true → Scan.low (Scan.shift (tail (byte_at d) p) (byte_at d p)) 2 ≡ exps_in b d s (suc n)
        unfolding pick
        exps_now e = sym (exps_next b d s n ∙ rw (e, here))

        grouped_hop : Hop i s p (S.grouped (form b d i p) (byte_at d p) h)
        unfolding S.grouped pick S.quiet
        grouped_hop = go (eqb (h % 2) 0) (eqb h 1) refl refl (grown (code_of b) z n u)
          where
            go : (k o : Bool) → eqb (h % 2) 0 ≡ k → eqb h 1 ≡ o → Grown (code_of b) z n → Hop i s p (S.grouped (form b d i p) (byte_at d p) h)
            go true o e f (same q m) =
                let g : eqb h 1 ≡ false = ne_eqb h 1 (λ v. omega (arith, eqb-true (h % 2) 0 e)) in
                rw e (quietly (exps_in b d s n) (fine u) (no_lead (lead_now ∙ g)) m)
            go true o e f (more k q m) = absurd (omega (arith, eqb-true (h % 2) 0 e, k, q, last_byte, there, x, w))
            go false true e f (same q m) = rw (e, f) (quietly _ (fine u) (exps_now (lead_now ∙ f)) m)
            go false true e f (more k q m) = absurd (omega (arith, eqb-true h 1 f, k, there, x))
            go false false e f (same (inl q) m) =
                let v : h ≡ 1 → ⊥ = eqb-false h 1 f in
                let o : h % 2 ≡ 0 → ⊥ = eqb-false (h % 2) 0 e in
                absurd (omega (arith, q, there, x))
            go false false e f (same (inr q) m) =
                let v : h ≡ 1 → ⊥ = eqb-false h 1 f in
                let o : h % 2 ≡ 0 → ⊥ = eqb-false (h % 2) 0 e in
                absurd (omega (arith, q, last_byte, w))
            go false false e f (more k q m) =
                let v : h ≡ 1 → ⊥ = eqb-false h 1 f in
                let o : h % 2 ≡ 0 → ⊥ = eqb-false (h % 2) 0 e in
                rw (e, f)
                (sampled _ u (lead_now ∙ f) m
                (ap₂ (value_of (code_of b)) (part (omega arith) (omega arith)) (ap (Scan.low (Scan.shift (tail (byte_at d) p) (byte_at d p))) (sym w)) ∙ sym (value_here u k q (omega arith))))

      word_hop : Words (group_of (code_of b)) (per_of (code_of b)) (lead_of (code_of b)) (word_bytes_of (code_of b)) → 20 ≤ n → Hop i s p (S.word (form b d i p) (group_of (code_of b)) (byte_at d p))
      unfolding S.word pick
      word_hop (alone w y x v three) u = let non : group_of (code_of b) ≡ 10 → ⊥ = λ e. omega arith in rw (ne_eqb (group_of (code_of b)) 10 non) (plain_hop non w x v u)
      word_hop (fours t y x w) u = rw (eq-eqb (group_of (code_of b)) 10 t) (grouped_hop t x y w u)

    -- one byte, wherever it stands
    pub step_hop : Hop i s p (S.step_on b (form b d i p) (byte_at d p))
    unfolding S.step_on S.step S.look_at S.look_by pick
    step_hop = go (eqb p 4294967295) (after_last b d i) (ltb n 20) refl refl refl
      where
        go : (l q u : Bool) → eqb p 4294967295 ≡ l → after_last b d i ≡ q → ltb n 20 ≡ u → Hop i s p (S.step_on b (form b d i p) (byte_at d p))
        go true q u e f g = rw e (halts (Long p) (unfold byte_fault in (rw e refl)))
        go false true u e f g = rw (e, f) (halts (Block p) (unfold byte_fault in (rw (e, f) refl)))
        go false false true e f g = rw (e, f, g) (headed_hop e f (ltb-true n 20 g))
        go false false false e f g = rw (e, f, g) (word_hop e f z.words (ltb-false n 20 g))
