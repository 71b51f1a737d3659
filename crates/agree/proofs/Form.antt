-- The reader's state after p bytes and i block ends, in closed form by the rules' own words.
-- Assumes nothing.
use Rattle.std.specs.Prelude.{Option, Some, None}
use Prim.Native.Nat.{ℕ, zero, suc, ◌+◌, ◌-◌, ◌*◌, ◌/◌, ◌%◌, ◌^◌, ◌≤◌, ◌<◌, ◌∣◌}
use mathlib.Core.Path.{◌≡◌, refl, sym, ap, ◌∙◌, subst}
use mathlib.Core.Bool.{Bool, true, false, not}
use native.Mathlib.Nat.{add-zero, add-suc, mul-mod_left, le-div_iff_mul-le, mul_assoc, mod-one, pow-suc, one-le-pow, dvd-mul_left, mod-mod_of_dvd}
use native.Mathlib.Omega.{arith}
use lib.Arith.{mod-mul, digits_div, digits_mod}
use lib.Pow.{pow-add}
use lib.Dec.{eqb, ltb, lit<}
use borrow.Author.Tests.{eqb-true, eqb-false, le-ltb, eq-eqb, ne_eqb, lt-leb}
use Rattle.basis.specs.Choice.{pick, ◌and◌, ◌or◌}
use Rattle.basis.specs.Digits.{written}
use Rattle.basis.specs.Fields.{field}
use Rattle.basis.specs.Upto.{upto, sum_upto}
use Rattle.codes.specs.Codes.{group_of}
use Rattle.scan.specs.declared.State.{State}
use Rattle.scan.specs.declared.Shape.{Shape as Head}
use Rattle.scan.specs.declared.Track.{Track}
use Rattle.scan.specs.Step as S
use Rattle.rules.specs.Scans.{in_scan, twi_of, itb_of, dp_of, time_of, flip_of, type_of, phase_wrong, step_wrong, next_timing}
use Rattle.rules.specs.Faults.{over_at, full_at}
use Rattle.rules.specs.Samples.{off_at}
use Rattle.rules.specs.Outcome.{last_type, first_itb, or_next, first_window}
use Rattle.agree.proofs.Plans.{Plan, scan, shape_in, samples_in}
use Rattle.agree.proofs.Tests.{same_test, bit_low, bit_test, not_not, le_test, top_step, is_zero, in_first, seen, seen_still}

-- what the reader's state keeps of a plan
abbrev pub head_of : Plan → Head
head_of k = record { code = k.code; scan = scan k; advance = 16 * k.interval * 256; types = k.types; block = k.block }

-- numbers for "or none"
abbrev pub itbs : Option ℕ → ℕ
itbs None = 0
itbs (Some b) = b

abbrev pub twis : Option ℕ → ℕ
twis None = 0
twis (Some t) = 1

abbrev pub wins : Option ℕ → ℕ
wins None = 0
wins (Some t) = t * 256

twi_grow : (w : Option ℕ) (t : ℕ) (b : Bool) → ◌≡◌ {A = ℕ} (pick (eqb (twis w) 0 and b) 1 (twis w)) (twis (or_next w (pick b (Some t) None)))
unfolding pick ◌and◌
twi_grow None t true = refl
twi_grow None t false = refl
twi_grow (Some w) t b = refl

win_grow : (w : Option ℕ) (t : ℕ) (b : Bool) → pick (eqb (twis w) 0 and b) (t * 256) (wins w) ≡ wins (or_next w (pick b (Some t) None))
unfolding pick ◌and◌
win_grow None t true = refl
win_grow None t false = refl
win_grow (Some w) t b = refl

module _ (byte : ℕ → ℕ) where
  -- the last four bytes
  abbrev pub tail : ℕ → ℕ
  tail zero = 0
  tail (suc p) = S.shift (tail p) (byte p)

  module _ (small : (p : ℕ) → byte p < 256) where
    pub tail_four : (a : ℕ) → tail (suc (suc (suc (suc a)))) ≡ ((byte a * 256 + byte (suc a)) * 256 + byte (suc (suc a))) * 256 + byte (suc (suc (suc a)))
    unfolding S.shift
    tail_four a = omega (arith, small a, small (suc a), small (suc (suc a)), small (suc (suc (suc a))))

    -- the last w of them are the word that ends there
    low_tail : (a w : ℕ) → w ≤ 4 → S.low (tail (a + w)) w ≡ written 256 byte a w
    unfolding S.low S.shift written
    low_tail a zero h = mod-one (tail (a + 0))
    low_tail a (suc w) h =
        let f : 3 - w + w ≡ 3 = omega (arith, h) in
        let d : 256 ^ w ∣ 16777216 = subst (λ (x : ℕ). 256 ^ w ∣ x) (sym (pow-add 256 (3 - w) w) ∙ ap (λ (x : ℕ). 256 ^ x) f) (dvd-mul_left (256 ^ w) (256 ^ (3 - w))) in
        let b : byte (a + w) < 256 = small (a + w) in
        rw (
          add-suc a w,
          pow-suc 256 w,
          mod-mul (tail (a + w) % 16777216 * 256 + byte (a + w)) {m = 256 ^ w} {c = 256} (one-le-pow w 256 (lit< tt)) (lit< tt),
          digits_div (tail (a + w) % 16777216) b,
          digits_mod (tail (a + w) % 16777216) b,
          mod-mod_of_dvd (256 ^ w) (tail (a + w)) d,
          low_tail a w (omega (arith, h)),
        )

    pub low_same : (a p w : ℕ) → w ≤ 4 → suc p ≡ a + w → S.low (S.shift (tail p) (byte p)) w ≡ written 256 byte a w
    low_same a p w h e = ap (λ (n : ℕ). S.low (tail n) w) e ∙ low_tail a w h

  module _ (k : Plan) where
    -- where a group's exponents end
    unfoldable pub lead_end : ℕ → Bool
    lead_end r = pick (ltb r 8) false (pick (eqb (group_of k.code) 10) (eqb ((r - 8) % 10) 1) false)

    unfoldable pub exps : ℕ → ℕ
    exps zero = 0
    exps (suc p) = pick (lead_end (p % scan k)) (S.low (S.shift (tail p) (byte p)) 2) (exps p)

    abbrev pub times_in : ℕ → ℕ
    times_in zero = 0
    times_in (suc j) = time_of (shape_in k) byte j * 256

    abbrev pub track_at : ℕ → ℕ → Track
    track_at j r =
        record {
          timing = times_in (seen 8 j r);
          seen = last_type (shape_in k) byte (seen 4 j r);
          itb = itbs (first_itb (shape_in k) byte (seen 4 j r));
          twi = twis (first_window (shape_in k) byte (seen 8 j r));
          window = wins (first_window (shape_in k) byte (seen 8 j r));
        }

    pub track_all : (j : ℕ) → track_at j (scan k) ≡ track_at (suc j) 0
    unfolding pick
    track_all j = rw (le-ltb (scan k) 8 (omega arith), le-ltb (scan k) 4 (omega arith))

    pub track_still : (j r : ℕ) → (r ≡ 3 → ⊥) → (r ≡ 7 → ⊥) → track_at j (suc r) ≡ track_at j r
    track_still j r m n = rw (seen_still 3 j r m, seen_still 7 j r n)

    -- after p bytes and i block ends
    abbrev pub form : ℕ → ℕ → State
    form i p =
        record {
          shape = head_of k;
          place = p;
          ends = i;
          off = sum_upto (off_at (shape_in k) byte) (samples_in k (p / scan k) (p % scan k));
          track = track_at (p / scan k) (p % scan k);
          held = tail p;
          exponents = exps p;
          stop = 0;
          stopat = 0;
        }

    -- ---- where blocks can begin, and the first scan's phase
    pub data Begun : ℕ → ℕ → ℕ → Type 0 where
      sole : {p : ℕ} → k.block ≡ 0 → Begun 0 0 p
      over : {p : ℕ} → k.block ≡ 0 → p % scan k ≡ 0 → Begun 1 p p
      many : {i p : ℕ} → (k.block ≡ 0 → ⊥) → p ≤ suc i * (k.block * scan k) → Begun i (i * (k.block * scan k)) p

    pub record Inv (i s p : ℕ) : Type 0 where
      pub begun : Begun i s p
      pub phase : 3 < p → dp_of (shape_in k) byte 0 ≡ 0

    -- no byte may stand here
    abbrev pub past : ℕ → ℕ → ℕ → Bool
    past i s p = over_at (shape_in k) byte i or full_at (shape_in k) byte s p

    -- at the start of a scan the block is full as the rules say; inside a scan it never is
    pub full_same : (i s p : ℕ) → Begun i s p → p % scan k ≡ 0 → S.full (head_of k) p i ≡ past i s p
    unfolding S.full pick ◌and◌ ◌or◌
    full_same i s p (sole z) r = rw (eq-eqb k.block 0 z)
    full_same i s p (over z m) r = rw (eq-eqb k.block 0 z)
    full_same i s p (many n l) r =
        rw (ne_eqb k.block 0 n)
        (same_test (suc i) (p / scan k / k.block) (i * (k.block * scan k) + k.block * scan k) p
        (λ h. omega (arith, (le-div_iff_mul-le eight).0 ((le-div_iff_mul-le pos).0 h)))
        (λ h. (le-div_iff_mul-le pos).1 ((le-div_iff_mul-le eight).1 (omega arith))))
      where
        pos : 0 < k.block
        pos = omega (arith, n)

        eight : 0 < scan k
        eight = omega arith

    pub not_full : (i s p : ℕ) → Begun i s p → (p % scan k ≡ 0 → ⊥) → past i s p ≡ false
    unfolding pick ◌and◌ ◌or◌
    not_full i s p (sole z) r = rw (eq-eqb k.block 0 z)
    not_full i s p (over z m) r = absurd (r m)
    not_full i s p (many n l) r = rw (ne_eqb k.block 0 n) (lt-leb (i * (k.block * scan k) + k.block * scan k) p (omega (arith, l, less)))
      where
        less : p ≡ suc i * (k.block * scan k) → ⊥
        less e = r (ap (λ (x : ℕ). x % scan k) (e ∙ sym (mul_assoc (suc i) k.block (scan k))) ∙ mul-mod_left (suc i * k.block) (scan k))

    -- ---- the phase, by the parity of the scan type
    flip_parity : (a b : ℕ) → a < 2 → b < 2 → (n : ℕ) → a ≡ n % 2 → b ≡ (n + pick (eqb a b) 0 1) % 2
    unfolding pick
    flip_parity a b la lb n e = go (eqb a b) refl
      where
        go : (t : Bool) → eqb a b ≡ t → b ≡ (n + pick t 0 1) % 2
        go true t = omega (arith, eqb-true a b t)
        go false t = let d : a ≡ b → ⊥ = eqb-false a b t in omega arith

    parity : dp_of (shape_in k) byte 0 ≡ 0 → (j : ℕ) → dp_of (shape_in k) byte j ≡ sum_upto (flip_of (shape_in k) byte) j % 2
    unfolding upto
    parity z zero = z
    parity z (suc j) =
        flip_parity (dp_of (shape_in k) byte j) (dp_of (shape_in k) byte (suc j)) (bit_low (in_scan (shape_in k) byte j 4) 4) (bit_low (in_scan (shape_in k) byte (suc j) 4) 4)
        (sum_upto (flip_of (shape_in k) byte) j) (parity z j)

    seen_flip : (a b : ℕ) → a < 2 → b < 2 → (n : ℕ) → a ≡ n % 2 → pick (eqb b ((1 + n + 1) % 2)) (1 + n) (1 + n + 1) ≡ 1 + (n + pick (eqb a b) 0 1)
    unfolding pick
    seen_flip a b la lb n e = go (eqb a b) refl
      where
        m : (1 + n + 1) % 2 ≡ a
        m = omega (arith, e)

        go : (t : Bool) → eqb a b ≡ t → pick (eqb b ((1 + n + 1) % 2)) (1 + n) (1 + n + 1) ≡ 1 + (n + pick t 0 1)
        go true t = rw (m, eq-eqb b a (sym (eqb-true a b t))) (omega arith)
        go false t = rw (m, ne_eqb b a (λ x. eqb-false a b t (sym x))) (omega arith)

    seen_same : (j b : ℕ) → (0 < j → dp_of (shape_in k) byte 0 ≡ 0) → b ≡ in_scan (shape_in k) byte j 4 → S.seen (last_type (shape_in k) byte j) b ≡ type_of (shape_in k) byte j
    unfolding S.seen pick upto
    seen_same zero b z e = refl
    seen_same (suc j) b z e =
        rw (ne_eqb (type_of (shape_in k) byte j) 0 (λ x. omega arith), e)
        (seen_flip (dp_of (shape_in k) byte j) (dp_of (shape_in k) byte (suc j)) (bit_low (in_scan (shape_in k) byte j 4) 4) (bit_low (in_scan (shape_in k) byte (suc j) 4) 4)
        (sum_upto (flip_of (shape_in k) byte) j) (parity (z (omega arith)) j))

    pub phased_same : (j b : ℕ) → (0 < j → dp_of (shape_in k) byte 0 ≡ 0) → b ≡ in_scan (shape_in k) byte j 4 → (r : ℕ) → r ≡ 3
        → S.phased (track_at j r) k.types b ≡ not (phase_wrong (shape_in k) byte j)
    unfolding S.phased S.typed pick
    phased_same zero b z e r q = rw (q, e) (bit_test (dp_of (shape_in k) byte 0) (bit_low (in_scan (shape_in k) byte 0 4) 4))
    phased_same (suc j) b z e r q =
        rw (q, ne_eqb (type_of (shape_in k) byte j) 0 (λ x. omega arith), seen_same (suc j) b z e) (le_test (type_of (shape_in k) byte (suc j)) k.types)

    -- ---- the fourth and the eighth byte
    pub typed_same : (j b : ℕ) → (0 < j → dp_of (shape_in k) byte 0 ≡ 0) → b ≡ in_scan (shape_in k) byte j 4 → (r : ℕ) → r ≡ 3 → S.typed (track_at j r) b ≡ track_at j (suc r)
    unfolding S.typed pick
    typed_same zero b z e r q = rw (q, seen_same 0 b z e, e)
    typed_same (suc j) b z e r q = rw (q, seen_same (suc j) b z e, ne_eqb (type_of (shape_in k) byte j) 0 (λ x. omega arith))

    time_is : (j : ℕ) → time_of (shape_in k) byte j ≡ (byte (j * scan k + 4) * 256 + byte (suc (j * scan k + 4))) * 256 + byte (suc (suc (j * scan k + 4)))
    unfolding written
    time_is j = omega (arith, ap byte (let e : j * scan k + 5 ≡ suc (j * scan k + 4) = omega arith in e), ap byte (let e : j * scan k + 6 ≡ suc (suc (j * scan k + 4)) = omega arith in e))

    module _ (small : (p : ℕ) → byte p < 256) (j p : ℕ) (here : p ≡ j * scan k + 7) where
      -- the last four bytes, before and with byte 8
      last_three : S.shift (tail p) (byte p) ≡ time_of (shape_in k) byte j * 256 + byte p
      last_three =
          let a : ℕ = j * scan k + 4 in
          let e : p ≡ suc (suc (suc a)) = omega arith in
          rw e (tail_four small a ∙ ap (λ (x : ℕ). x * 256 + byte (suc (suc (suc a)))) (sym (time_is j)))

      fourth_kept : field (tail p) 30 1 ≡ twi_of (shape_in k) byte j
      unfolding field
      fourth_kept =
          let a : ℕ = j * scan k + 3 in
          let e : p ≡ suc (suc (suc (suc a))) = omega arith in
          rw (e, tail_four small a) (omega (arith, small a, small (suc a), small (suc (suc a)), small (suc (suc (suc a)))))

      -- T in step: the sum of the tops wraps where T starts again
      pub instep_same : (i : ℕ) (st : State) → st.shape ≡ head_of k → st.place ≡ p → st.held ≡ tail p → st.track.timing ≡ times_in j
          → S.instep st (byte p) ≡ (eqb (byte p) 0 and not (step_wrong (shape_in k) byte j))
      unfolding S.instep ◌and◌ ◌or◌
      instep_same i st a b c d = go (eqb (byte p) 0) refl j d (rw (← here) at (in_first (scan k) j 7 (omega arith))) refl
        where
          go : (t : Bool) → eqb (byte p) 0 ≡ t → (m : ℕ) → st.track.timing ≡ times_in m → ltb p (scan k) ≡ is_zero m → m ≡ j
              → S.instep st (byte p) ≡ (eqb (byte p) 0 and not (step_wrong (shape_in k) byte m))
          go false e m d f q = rw e
          go true e zero d f q = rw (e, b, a, f)
          go true e (suc m) d f q =
              let z : byte p ≡ 0 = eqb-true (byte p) 0 e in
              rw (e, b, a, f, c, d, last_three, z, add-zero (time_of (shape_in k) byte j * 256), ← q)
              (top_step (time_of (shape_in k) byte (suc m)) (time_of (shape_in k) byte m) (16 * k.interval)
              ∙ sym (not_not (eqb (time_of (shape_in k) byte (suc m)) (next_timing k.interval (time_of (shape_in k) byte m)))))

      pub timed_same : byte p ≡ 0 → (r : ℕ) → r ≡ 7 → S.timed (track_at j r) (tail p) (byte p) ≡ track_at j (suc r)
      unfolding S.timed S.opens pick upto
      timed_same z r e =
          rw (e, last_three, fourth_kept, z, add-zero (time_of (shape_in k) byte j * 256))
          (λ x. record {
            timing = time_of (shape_in k) byte j * 256;
            seen = type_of (shape_in k) byte j;
            itb = itb_of (shape_in k) byte 0;
            twi = twi_grow (first_window (shape_in k) byte j) (time_of (shape_in k) byte j) (eqb (twi_of (shape_in k) byte j) 1) x;
            window = win_grow (first_window (shape_in k) byte j) (time_of (shape_in k) byte j) (eqb (twi_of (shape_in k) byte j) 1) x;
          })

    pub exps_next : (p : ℕ) → exps (suc p) ≡ pick (lead_end (p % scan k)) (S.low (S.shift (tail p) (byte p)) 2) (exps p)
    unfolding exps
    exps_next p = refl
