-- One byte takes the closed form to the next, or halts it where the rules find a fault.
-- Assumes nothing.
use Rattle.std.specs.Prelude.{Err, Ok}
use Prim.Native.Nat.{ℕ, zero, suc, ◌+◌, ◌-◌, ◌*◌, ◌/◌, ◌%◌, ◌^◌, ◌≤◌, ◌<◌}
use mathlib.Core.Path.{◌≡◌, refl, sym, ap, ap₂, ◌∙◌}
use mathlib.Core.Bool.{Bool, true, false, not}
use mathlib.Core.List.{List, [], ◌++◌, append-nil}
use mathlib.Core.Logic.{inl, inr}
use native.Mathlib.Nat.{div-add-mod', mod-lt, div-one, mul-le-mul_right, mod-mod, zero-div}
use native.Mathlib.Omega.{arith}
use native.Mathlib.Numerals.{add-one}
use lib.Arith.{digits_mod, digits_lt}
use lib.Dec.{eqb, ltb, lit≤}
use lib.IntN.{ℤ}
use borrow.Author.Tests.{eqb-true, eqb-false, lt-ltb, le-ltb, eq-eqb, ne_eqb, le-leb, lt-leb}
use Rattle.basis.specs.Choice.{pick, ◌and◌, ◌or◌}
use Rattle.basis.specs.Digits.{written}
use Rattle.basis.specs.Fields.{field}
use Rattle.basis.specs.Upto.{upto, sum_upto, list_upto}
use Rattle.basis.proofs.Digits.{Next, along, wrap, next}
use Rattle.refusals.specs.declared.Refusal.{Refusal}
use Rattle.refusals.specs.declared.Refusal.TheVariants.{Long, Block, Sync, Timing, Phase}
use Rattle.refusals.specs.Table.{said}
use Rattle.codes.specs.Codes.{group_of}
use Rattle.codes.proofs.Rows.{Words, alone, fours}
use Rattle.words.specs.declared.Value.{Value}
use Rattle.words.specs.Words.{value_of}
use Rattle.scan.specs.declared.State.{State}
use Rattle.scan.specs.declared.Track.{Track}
use Rattle.scan.specs.declared.Stepped.{Stepped}
use Rattle.scan.specs.Step as S
use Rattle.rules.specs.Scans.{in_scan, dp_of, phase_wrong, step_wrong}
use Rattle.rules.specs.Faults.{scan_fault, byte_fault}
use Rattle.rules.specs.Samples.{value_at, numbers_at, off_at}
use Rattle.agree.proofs.Plans.{Plan, per, lead, width, group, scan, shape_in, samples_in, samples_wrap, Grown, same, more, grown, in_group, turn, group_start, word_start, value_now}
use Rattle.agree.proofs.Tests.{Spot, start, fourth, time, nought, word, spot}
use Rattle.agree.proofs.Form.{head_of, tail, low_same, lead_end, exps, exps_next, track_at, track_all, track_still, form, Inv, past, full_same, not_full, phased_same, typed_same, instep_same, timed_same}

module _ (byte : ℕ → ℕ) (k : Plan) (pos : 0 < width k) (some : 0 < per k) (small : (p : ℕ) → byte p < 256) where
  -- what is put out of the first p bytes
  abbrev pub out_at : ℕ → List ℤ
  out_at p = list_upto (numbers_at (shape_in k) byte) (samples_in k (p / scan k) (p % scan k))

  abbrev off_in : ℕ → ℕ → ℕ
  off_in j r = sum_upto (off_at (shape_in k) byte) (samples_in k j r)

  -- halted by a refusal
  abbrev pub halt_at : Refusal → ℕ → ℕ → State
  halt_at r i p = S.halted (form byte k i p) (said r).number

  pub data Hop (i s p : ℕ) (t : Stepped State) : Type 0 where
    on : byte_fault (shape_in k) byte i s p ≡ Ok tt → t.state ≡ form byte k i (suc p) → out_at p ++ S.m_and_x t ≡ out_at (suc p) → Hop i s p t
    off : (r : Refusal) → byte_fault (shape_in k) byte i s p ≡ Err r → t.state ≡ halt_at r i p → S.m_and_x t ≡ [] → Hop i s p t

  module _ (p : ℕ) where
    abbrev j : ℕ
    j = p / scan k

    abbrev r : ℕ
    r = p % scan k

    -- what is so of a scan's end is so of the next scan's start
    wrap_place : {A : Type 0} (F : ℕ → ℕ → A) → F j (scan k) ≡ F (suc j) 0 → F j (suc r) ≡ F (suc p / scan k) (suc p % scan k)
    wrap_place F z = go (next (scan k) p (omega arith))
      where
        go : Next (scan k) p → F j (suc r) ≡ F (suc p / scan k) (suc p % scan k)
        go (along d m l) = rw (d, m)
        go (wrap d m l) = rw (d, m, l) z

    goes : (i : ℕ) (t : Track) (e o : ℕ) → t ≡ track_at byte k j (suc r) → e ≡ exps byte k (suc p) → o ≡ off_in j (suc r)
        → S.moved (form byte k i p) t e o (byte p) ≡ form byte k i (suc p)
    unfolding S.moved S.moved_by
    goes i t e o a b c =
        λ x. record {
          shape = head_of k;
          place = add-one p x;
          ends = i;
          off = (c ∙ wrap_place off_in (ap (sum_upto (off_at (shape_in k) byte)) (samples_wrap k pos some j))) x;
          track = (a ∙ wrap_place (track_at byte k) (track_all byte k j)) x;
          held = tail byte (suc p);
          exponents = b x;
          stop = 0;
          stopat = 0;
        }

    -- before the ninth byte of a scan there is no sample
    early : r < 8 → samples_in k j (suc r) ≡ samples_in k j r
    early l = let m : suc r - 8 ≡ r - 8 = omega arith in rw m

    silent : samples_in k j (suc r) ≡ samples_in k j r → samples_in k j r ≡ samples_in k (suc p / scan k) (suc p % scan k)
    silent e = sym e ∙ wrap_place (samples_in k) (samples_wrap k pos some j)

    no_lead : lead_end byte k r ≡ false → exps byte k p ≡ exps byte k (suc p)
    unfolding exps pick
    no_lead e = rw e

    lead_early : r < 8 → lead_end byte k r ≡ false
    unfolding lead_end pick
    lead_early l = rw (lt-ltb r 8 l)

    -- a byte that completes no sample
    quietly : (i s : ℕ) (t : Track) (e : ℕ) → byte_fault (shape_in k) byte i s p ≡ Ok tt → t ≡ track_at byte k j (suc r) → e ≡ exps byte k (suc p)
        → samples_in k j (suc r) ≡ samples_in k j r → Hop i s p (S.still (S.moved (form byte k i p) t e (form byte k i p).off (byte p)))
    unfolding S.still S.m_and_x pick
    quietly i s t e f a b n =
        on f (goes i t e (form byte k i p).off a b (ap (sum_upto (off_at (shape_in k) byte)) (sym n)))
        (append-nil (out_at p) ∙ ap (list_upto (numbers_at (shape_in k) byte)) (silent n))

    halts : (i s : ℕ) (q : Refusal) → byte_fault (shape_in k) byte i s p ≡ Err q → Hop i s p (S.halt (form byte k i p) (said q).number)
    unfolding S.halt S.still S.m_and_x pick
    halts i s q f = off q f refl refl

    -- ---- the parts of a scan
    at_place : (n : ℕ) → r ≡ n → p ≡ j * scan k + n
    at_place n e = omega (arith, div-add-mod' p (scan k))

    far : 0 < j → 3 < p
    far h = omega (arith, div-add-mod' p (scan k), mul-le-mul_right (scan k) h)

    last_bits : (b : ℕ) → field b 0 2 ≡ b % 4
    unfolding field
    last_bits b = ap (λ (x : ℕ). x % 4) (div-one b)

    module _ (i s : ℕ) (inv : Inv byte k i s p) (l : eqb p 4294967295 ≡ false) where
      in_scan_lem : past byte k i s p ≡ false → byte_fault (shape_in k) byte i s p ≡ scan_fault (shape_in k) byte j (r + 1) p
      unfolding byte_fault pick
      in_scan_lem f = rw (l, f)

      sync_hop : r < 3 → past byte k i s p ≡ false → Hop i s p (S.sync (form byte k i p) (byte p))
      unfolding S.sync S.quiet pick ◌and◌ ◌or◌
      sync_hop u f = go (eqb (byte p) 255) refl
        where
          go : (t : Bool) → eqb (byte p) 255 ≡ t → Hop i s p (S.sync (form byte k i p) (byte p))
          go true e =
              rw e
              (quietly i s (track_at byte k j r) (exps byte k p)
              (in_scan_lem f ∙ rw (le-leb (r + 1) 3 (omega arith), e, ne_eqb (r + 1) 4 (λ x. omega arith), ne_eqb (r + 1) 8 (λ x. omega arith)))
              (sym (track_still byte k j r (λ x. omega arith) (λ x. omega arith))) (no_lead (lead_early (omega arith))) (early (omega arith)))
          go false e = rw e (halts i s (Sync p) (in_scan_lem f ∙ rw (le-leb (r + 1) 3 (omega arith), e)))

      start_hop : r ≡ 0 → Hop i s p (S.start (form byte k i p) (byte p))
      unfolding S.start pick
      start_hop z = rw (full_same byte k i s p inv.begun z) (go (past byte k i s p) refl)
        where
          here : past byte k i s p ≡ true → byte_fault (shape_in k) byte i s p ≡ Err (Block p)
          here f = unfold byte_fault in (rw (l, f) refl)

          go : (t : Bool) → past byte k i s p ≡ t → Hop i s p (pick t (S.halt (form byte k i p) 15) (S.sync (form byte k i p) (byte p)))
          go true f = halts i s (Block p) (here f)
          go false f = sync_hop (omega arith) f

      phase_hop : r ≡ 3 → Hop i s p (S.phase (form byte k i p) (byte p))
      unfolding S.phase pick ◌and◌ ◌or◌
      phase_hop z = go (eqb (byte p % 4) 1) (phase_wrong (shape_in k) byte j) refl refl
        where
          f : past byte k i s p ≡ false
          f = not_full byte k i s p inv.begun (λ x. omega (arith, z))

          b : byte p ≡ in_scan (shape_in k) byte j 4
          b = ap byte (at_place 3 z)

          dp : 0 < j → dp_of (shape_in k) byte 0 ≡ 0
          dp h = inv.phase (far h)

          go : (t u : Bool) → eqb (byte p % 4) 1 ≡ t → phase_wrong (shape_in k) byte j ≡ u → Hop i s p (S.phase (form byte k i p) (byte p))
          go false u e w = rw e (halts i s (Sync p) (in_scan_lem f ∙ rw (lt-leb (r + 1) 3 (omega (arith, z)), eq-eqb (r + 1) 4 (omega (arith, z)), last_bits (byte p), e)))
          go true true e w =
              rw (e, phased_same byte k j (byte p) dp b r z, w)
              (halts i s (Phase p) (in_scan_lem f ∙ rw (lt-leb (r + 1) 3 (omega (arith, z)), eq-eqb (r + 1) 4 (omega (arith, z)), last_bits (byte p), e, w)))
          go true false e w =
              rw (e, phased_same byte k j (byte p) dp b r z, w)
              (quietly i s (S.typed (track_at byte k j r) (byte p)) (exps byte k p)
              (in_scan_lem f ∙ rw (lt-leb (r + 1) 3 (omega (arith, z)), eq-eqb (r + 1) 4 (omega (arith, z)), ne_eqb (r + 1) 8 (λ x. omega (arith, z)), last_bits (byte p), e, w))
              (typed_same byte k j (byte p) dp b r z) (no_lead (lead_early (omega (arith, z)))) (early (omega (arith, z))))

      time_hop : r ≡ 7 → Hop i s p (S.time (form byte k i p) (byte p))
      unfolding S.time pick ◌and◌ ◌or◌
      time_hop z = rw (instep_same byte k small j p (at_place 7 z) i (form byte k i p) refl refl refl (rw z)) (go (eqb (byte p) 0) (step_wrong (shape_in k) byte j) refl refl)
        where
          f : past byte k i s p ≡ false
          f = not_full byte k i s p inv.begun (λ x. omega (arith, z))

          go : (t u : Bool) → eqb (byte p) 0 ≡ t → step_wrong (shape_in k) byte j ≡ u
              → Hop i s p (pick (t and not u) (S.still (S.moved (form byte k i p) (S.timed (track_at byte k j r) (tail byte p) (byte p)) (exps byte k p) (form byte k i p).off (byte p))) (S.halt (form byte k i p) 17))
          go false u e w = halts i s (Timing p) (in_scan_lem f ∙ rw (lt-leb (r + 1) 3 (omega (arith, z)), ne_eqb (r + 1) 4 (λ x. omega (arith, z)), eq-eqb (r + 1) 8 (omega (arith, z)), e))
          go true true e w = halts i s (Timing p) (in_scan_lem f ∙ rw (lt-leb (r + 1) 3 (omega (arith, z)), ne_eqb (r + 1) 4 (λ x. omega (arith, z)), eq-eqb (r + 1) 8 (omega (arith, z)), e, w))
          go true false e w =
              quietly i s (S.timed (track_at byte k j r) (tail byte p) (byte p)) (exps byte k p)
              (in_scan_lem f ∙ rw (lt-leb (r + 1) 3 (omega (arith, z)), ne_eqb (r + 1) 4 (λ x. omega (arith, z)), eq-eqb (r + 1) 8 (omega (arith, z)), e, w))
              (timed_same byte k small j p (at_place 7 z) (eqb-true (byte p) 0 e) r z) (no_lead (lead_early (omega (arith, z)))) (early (omega (arith, z)))

      -- the rest of a scan's start
      timing_quiet : 4 ≤ r → r < 7 → Hop i s p (S.quiet (form byte k i p) (byte p))
      unfolding S.quiet pick ◌and◌ ◌or◌
      timing_quiet a b =
          quietly i s (track_at byte k j r) (exps byte k p)
          (in_scan_lem (not_full byte k i s p inv.begun (λ x. omega arith)) ∙ rw (lt-leb (r + 1) 3 (omega arith), ne_eqb (r + 1) 4 (λ x. omega arith), ne_eqb (r + 1) 8 (λ x. omega arith)))
          (sym (track_still byte k j r (λ x. omega arith) (λ x. omega arith))) (no_lead (lead_early (omega arith))) (early (omega arith))

      -- ---- sample words
      -- past the eighth byte nothing is wrong with a scan
      fine : 8 ≤ r → byte_fault (shape_in k) byte i s p ≡ Ok tt
      unfolding pick ◌and◌ ◌or◌
      fine u =
          in_scan_lem (not_full byte k i s p inv.begun (λ x. omega arith))
          ∙ rw (lt-leb (r + 1) 3 (omega arith), ne_eqb (r + 1) 4 (λ x. omega arith), ne_eqb (r + 1) 8 (λ x. omega arith))

      sampled : (w : Value) → 8 ≤ r → lead_end byte k r ≡ false → samples_in k j (suc r) ≡ suc (samples_in k j r)
          → w ≡ value_at (shape_in k) byte (samples_in k j r) → Hop i s p (S.sample (form byte k i p) w (byte p))
      unfolding S.sample S.m_and_x pick off_at numbers_at upto
      sampled w u e n v =
          on (fine u) (goes i (track_at byte k j r) (exps byte k p) _ (sym (track_still byte k j r (λ x. omega arith) (λ x. omega arith))) (no_lead e)
          (rw (n, v)))
          (rw v (ap (list_upto (numbers_at (shape_in k) byte)) (sym n ∙ wrap_place (samples_in k) (samples_wrap k pos some j))))

      shown : 8 ≤ r → Grown k pos some j r
      shown u = grown k pos some j r u

      -- the word that the byte ends is the sample's
      word_here : 8 ≤ r → lead k ≤ in_group k pos some r → suc ((in_group k pos some r - lead k) % width k) ≡ width k → width k ≤ 4
          → S.low (S.shift (tail byte p) (byte p)) (width k) ≡ written 256 byte (word_start k pos some byte j r) (width k)
      word_here u a b d =
          low_same byte small (word_start k pos some byte j r) p (width k) d
          (omega (arith, u, a, b, div-add-mod' p (scan k), div-add-mod' (r - 8) (group k), div-add-mod' (in_group k pos some r - lead k) (width k)))

      value_here : 8 ≤ r → lead k ≤ in_group k pos some r → suc ((in_group k pos some r - lead k) % width k) ≡ width k → width k ≤ 4
          → value_at (shape_in k) byte (samples_in k j r)
          ≡ value_of k.code (field (written 256 byte (group_start k pos some byte j r) (lead k)) (4 * (per k - 1 - turn k pos some byte r)) 4) (S.low (S.shift (tail byte p) (byte p)) (width k))
      value_here u a b d =
          value_now k pos some byte j r u (mod-lt p (omega arith))
          ∙ ap (value_of k.code (field (written 256 byte (group_start k pos some byte j r) (lead k)) (4 * (per k - 1 - turn k pos some byte r)) 4)) (sym (word_here u a b d))

      no_part : (a n at : ℕ) → n ≡ 0 → field (written 256 byte a n) at 4 ≡ 0
      unfolding field written
      no_part a n at e = rw (e, zero-div (2 ^ at))

      -- a word by itself: where it ends, and its exponent, which is 0
      plain_hop : (group_of k.code ≡ 10 → ⊥) → group_of k.code ≡ width k → lead k ≡ 0 → per k ≡ 1 → width k ≤ 4 → 8 ≤ r
          → Hop i s p (S.plain (form byte k i p) (byte p) (group_of k.code) r)
      unfolding S.plain pick S.quiet
      plain_hop n w x y d u = rw w (go (shown u) (next (width k) (r - 8) pos))
        where
          whole : group k ≡ width k
          whole = rw (x, y) (omega arith)

          here : (in_group k pos some r - lead k) % width k ≡ (r - 8) % width k
          here =
              let e : (r - 8) % group k ≡ (r - 8) % width k = ap (λ (g : ℕ). (r - 8) % g) whole in
              ap (λ (n : ℕ). n % width k) (omega (arith, x, e)) ∙ mod-mod (r - 8) (width k)

          m : r - 7 ≡ suc (r - 8)
          m = omega (arith, u)

          no_exps : lead_end byte k r ≡ false
          no_exps = unfold lead_end in (rw (le-ltb r 8 u, ne_eqb (group_of k.code) 10 n) refl)

          zero_part : field (written 256 byte (group_start k pos some byte j r) (lead k)) (4 * (per k - 1 - turn k pos some byte r)) 4 ≡ 0
          zero_part = no_part (group_start k pos some byte j r) (lead k) (4 * (per k - 1 - turn k pos some byte r)) x

          go : Grown k pos some j r → Next (width k) (r - 8)
              → Hop i s p (pick (eqb ((r - 7) % width k) 0) (S.sample (form byte k i p) (value_of k.code 0 (S.low (S.shift (tail byte p) (byte p)) (width k))) (byte p)) (S.quiet (form byte k i p) (byte p)))
          go (same (inl b) e) q = absurd (omega (arith, b, x))
          go (same (inr b) e) (along f g h) =
              rw (m, g, ne_eqb (suc ((r - 8) % width k)) 0 (λ z. omega arith))
              (quietly i s (track_at byte k j r) (exps byte k p) (fine u) (sym (track_still byte k j r (λ z. omega (arith, u)) (λ z. omega (arith, u)))) (no_lead no_exps) e)
          go (same (inr b) e) (wrap f g h) = absurd (omega (arith, b, here, h))
          go (more a b e) (along f g h) = absurd (omega (arith, b, here, h))
          go (more a b e) (wrap f g h) =
              rw (m, g)
              (sampled _ u no_exps e
              (sym (value_here u a b d ∙ ap (λ (c : ℕ). value_of k.code c (S.low (S.shift (tail byte p) (byte p)) (width k))) zero_part)))

      -- a group of four, ten bytes: the exponents once read, and each word with its own
      module _ (t : group_of k.code ≡ 10) (x : lead k ≡ 2) (y : per k ≡ 4) (z : width k ≡ 2) (u : 8 ≤ r) where
        ten : group k ≡ 10
        ten = rw (x, y, z)

        abbrev g : ℕ
        g = (r - 8) / 10

        abbrev h : ℕ
        h = (r - 8) % 10

        whole : scan k ≡ 8 + k.groups * 10
        whole = ap (λ (n : ℕ). 8 + k.groups * n) ten

        -- byte m of the group that p is in
        abbrev at : ℕ → ℕ
        at m = j * scan k + (8 + ((r - 8) / 10 * 10 + m))

        few : (r - 8) / 10 < k.groups
        few = omega (arith, whole, u, mod-lt p (let e : 0 < scan k = omega arith in e))

        lead_at : (m : ℕ) → m < 10 → lead_end byte k (at m % scan k) ≡ eqb m 1
        unfolding lead_end pick
        lead_at m l =
            let e : at m % scan k ≡ 8 + ((r - 8) / 10 * 10 + m) = digits_mod j (omega (arith, whole, digits_lt few l)) in
            let d : 8 + ((r - 8) / 10 * 10 + m) - 8 ≡ (r - 8) / 10 * 10 + m = omega arith in
            rw (e, le-ltb (8 + ((r - 8) / 10 * 10 + m)) 8 (omega arith), t, d, digits_mod ((r - 8) / 10) l)

        begins : at 0 ≡ group_start k pos some byte j r
        begins = rw ten (omega arith)

        exps_at : (m : ℕ) → m < 8 → exps byte k (at (2 + m)) ≡ written 256 byte (group_start k pos some byte j r) 2
        unfolding pick
        exps_at zero l =
            let e : at (2 + 0) ≡ suc (at 1) = omega arith in
            let d : suc (at 1) ≡ group_start k pos some byte j r + 2 = omega (arith, begins) in
            rw (e, exps_next byte k (at 1), lead_at 1 (omega arith)) (low_same byte small (group_start k pos some byte j r) (at 1) 2 (lit≤ tt) d)
        exps_at (suc m) l =
            let e : at (2 + suc m) ≡ suc (at (2 + m)) = omega arith in
            rw (e, exps_next byte k (at (2 + m)), lead_at (2 + m) (omega arith), ne_eqb (2 + m) 1 (λ w. omega arith)) (exps_at m (omega arith))

        read : 2 ≤ h → exps byte k p ≡ written 256 byte (group_start k pos some byte j r) (lead k)
        read l =
            let e : p ≡ at (2 + (h - 2)) = omega (arith, div-add-mod' p (scan k), u) in
            ap (exps byte k) e ∙ exps_at (h - 2) (omega arith) ∙ ap (written 256 byte (group_start k pos some byte j r)) (sym x)

        here : in_group k pos some r ≡ h
        here = ap (λ (n : ℕ). (r - 8) % n) ten

        part : 2 ≤ h → h % 2 ≡ 1 → S.nibble (exps byte k p) h ≡ field (written 256 byte (group_start k pos some byte j r) (lead k)) (4 * (per k - 1 - turn k pos some byte r)) 4
        unfolding S.nibble
        part l o = ap₂ (λ (e a : ℕ). field e a 4) (read l) places
          where
            c : turn k pos some byte r ≡ (h - 2) / 2
            c = ap (λ (n : ℕ). (n - lead k) / width k) here ∙ ap₂ (λ (m n : ℕ). (h - m) / n) x z

            places : 18 - 2 * h ≡ 4 * (per k - 1 - turn k pos some byte r)
            places = omega (arith, c, y, l, o)

        last_byte : (in_group k pos some r - lead k) % width k ≡ (h - 2) % 2
        last_byte = ap (λ (n : ℕ). (n - lead k) % width k) here ∙ ap₂ (λ (m n : ℕ). (h - m) % n) x z

        grouped_hop : Hop i s p (S.grouped (form byte k i p) (byte p) ((r - 8) % 10))
        unfolding S.grouped pick S.quiet
        grouped_hop = go (eqb (h % 2) 0) (eqb h 1) refl refl (shown u)
          where
            lead_now : lead_end byte k r ≡ eqb h 1
            lead_now = unfold lead_end in (rw (le-ltb r 8 u, t) refl)

            track : track_at byte k j r ≡ track_at byte k j (suc r)
            track = sym (track_still byte k j r (λ q. omega (arith, u)) (λ q. omega (arith, u)))

            go : (a b : Bool) → eqb (h % 2) 0 ≡ a → eqb h 1 ≡ b → Grown k pos some j r → Hop i s p (S.grouped (form byte k i p) (byte p) h)
            go true b e f (same q n) =
                let m : eqb h 1 ≡ false = ne_eqb h 1 (λ w. omega (arith, eqb-true (h % 2) 0 e)) in
                rw e (quietly i s (track_at byte k j r) (exps byte k p) (fine u) track (no_lead (lead_now ∙ m)) n)
            go true b e f (more a q n) = absurd (omega (arith, eqb-true (h % 2) 0 e, a, q, last_byte, here, x, z))
            go false true e f (same q n) = rw (e, f) (quietly i s (track_at byte k j r) _ (fine u) track (sym (exps_next byte k p ∙ rw (lead_now, f))) n)
            go false true e f (more a q n) = absurd (omega (arith, eqb-true h 1 f, a, here, x))
            go false false e f (same (inl q) n) =
                let v : h ≡ 1 → ⊥ = eqb-false h 1 f in
                let w : h % 2 ≡ 0 → ⊥ = eqb-false (h % 2) 0 e in
                absurd (omega (arith, q, here, x))
            go false false e f (same (inr q) n) =
                let v : h ≡ 1 → ⊥ = eqb-false h 1 f in
                let w : h % 2 ≡ 0 → ⊥ = eqb-false (h % 2) 0 e in
                absurd (omega (arith, q, last_byte, z))
            go false false e f (more a q n) =
                let v : h ≡ 1 → ⊥ = eqb-false h 1 f in
                let w : h % 2 ≡ 0 → ⊥ = eqb-false (h % 2) 0 e in
                rw (e, f)
                (sampled _ u (lead_now ∙ f) n
                (ap₂ (value_of k.code) (part (omega arith) (omega arith)) (ap (S.low (S.shift (tail byte p) (byte p))) (sym z)) ∙ sym (value_here u a q (omega (arith, z)))))

      word_hop : Words (group_of k.code) (per k) (lead k) (width k) → 8 ≤ r → Hop i s p (S.word (form byte k i p) (byte p) r)
      unfolding S.word pick
      word_hop (alone w y x d o) u = let n : group_of k.code ≡ 10 → ⊥ = λ t. omega (arith, w, d) in rw (ne_eqb (group_of k.code) 10 n) (plain_hop n w x y d u)
      word_hop (fours t y x z) u = rw (eq-eqb (group_of k.code) 10 t) (grouped_hop t x y z u)

    -- one byte, wherever it stands
    pub step_hop : Words (group_of k.code) (per k) (lead k) (width k) → (i s : ℕ) → Inv byte k i s p → Hop i s p (S.step (form byte k i p) (byte p))
    unfolding S.step pick
    step_hop kind i s inv = go (eqb p 4294967295) refl
      where
        go : (t : Bool) → eqb p 4294967295 ≡ t → Hop i s p (S.step (form byte k i p) (byte p))
        go true l = rw l (halts i s (Long p) (unfold byte_fault in (rw l refl)))
        go false l = rw l (by (spot r))
          where
            by : Spot r → Hop i s p (pick (eqb r 0) (S.start (form byte k i p) (byte p)) (pick (ltb r 3) (S.sync (form byte k i p) (byte p)) (pick (eqb r 3) (S.phase (form byte k i p) (byte p))
                (pick (ltb r 7) (S.quiet (form byte k i p) (byte p)) (pick (eqb r 7) (S.time (form byte k i p) (byte p)) (S.word (form byte k i p) (byte p) r))))))
            by (start u) = at (eqb r 0) refl
              where
                at : (t : Bool) → eqb r 0 ≡ t → Hop i s p (pick t (S.start (form byte k i p) (byte p)) (pick (ltb r 3) (S.sync (form byte k i p) (byte p)) (pick (eqb r 3) (S.phase (form byte k i p) (byte p))
                    (pick (ltb r 7) (S.quiet (form byte k i p) (byte p)) (pick (eqb r 7) (S.time (form byte k i p) (byte p)) (S.word (form byte k i p) (byte p) r))))))
                at true e = start_hop i s inv l (eqb-true r 0 e)
                at false e = rw (lt-ltb r 3 u) (sync_hop i s inv l u (not_full byte k i s p inv.begun (eqb-false r 0 e)))
            by (fourth e) = rw (ne_eqb r 0 (λ x. omega arith), le-ltb r 3 (omega arith), eq-eqb r 3 e) (phase_hop i s inv l e)
            by (time a b) = rw (ne_eqb r 0 (λ x. omega arith), le-ltb r 3 (omega arith), ne_eqb r 3 (λ x. omega arith), lt-ltb r 7 b) (timing_quiet i s inv l a b)
            by (nought e) = rw (ne_eqb r 0 (λ x. omega arith), le-ltb r 3 (omega arith), ne_eqb r 3 (λ x. omega arith), le-ltb r 7 (omega arith), eq-eqb r 7 e) (time_hop i s inv l e)
            by (word u) =
                rw (ne_eqb r 0 (λ x. omega arith), le-ltb r 3 (omega arith), ne_eqb r 3 (λ x. omega arith), le-ltb r 7 (omega arith), ne_eqb r 7 (λ x. omega arith))
                (word_hop i s inv l kind u)
