-- The traces of a record are its channels, each once, in order of scan type, set and channel.
-- Assumes nothing.
use Prim.Native.Nat.{ℕ, ◌+◌, ◌-◌, ◌≤◌, ◌<◌}
use mathlib.Core.Path.{◌≡◌, refl, sym, ap, ◌∙◌}
use mathlib.Core.Bool.{Bool, true, false}
use mathlib.Core.List.{List}
use native.Mathlib.Omega.{arith}
use lib.Dec.{eqb}
use borrow.Author.Tests.{eqb-true, eqb-false, eq-eqb, ne_eqb}
use Rattle.basis.specs.Upto.{sum_upto}
use Rattle.basis.proofs.Uptos.{sum_grows}
use Rattle.general.specs.General.{scan_types, channel_sets}
use Rattle.sets.specs.Samples.{channels_of}
use Rattle.layout.specs.Indexes.{set_at}
use Rattle.layout.proofs.SetLaws.{sum_more, set_at_lem, set_of_sample, in_total, set_below, rest_below}
use Rattle.turns.specs.declared.Turn.{Turn}
use Rattle.turns.specs.Turns.{traces_of, trace_count, holder_of, type_at, set_in, turn_in, turn_at}
use Rattle.trace_agree.proofs.Places.{Side, lower, even, upper, side}
use Rattle.trace_demands.specs.Order.{HasChannel, trace_of, Is, Earlier, by_type, by_set, by_channel, InTurn}

module _ (b : List ℕ) where
  -- the scan type of trace i, which of its traces it is, and the set of that one
  abbrev pub type : ℕ → ℕ
  type i = set_at (traces_of b) i (scan_types b)

  abbrev pub rest : ℕ → ℕ
  rest i = i - sum_upto (traces_of b) (type i)

  abbrev pub set : ℕ → ℕ → ℕ
  set t k = set_at (channels_of b t) k (channel_sets b)

  pub turn_is : (i : ℕ) → turn_at b i
      ≡ record { scan_type = type i; set = set (type i) (rest i); channel = rest i - sum_upto (channels_of b (type i)) (set (type i) (rest i)); first = eqb (rest i) 0 }
  unfolding turn_at turn_in type_at set_in holder_of
  turn_is i = refl

  rest_in : (i : ℕ) → i < trace_count b → rest i < traces_of b (type i)
  unfolding trace_count
  rest_in i h = rest_below (traces_of b) (scan_types b) i h

  rest_set : (t k : ℕ) → k < traces_of b t → (set t k < channel_sets b) × (k - sum_upto (channels_of b t) (set t k) < channels_of b t (set t k)) × (sum_upto (channels_of b t) (set t k) ≤ k)
  unfolding traces_of
  rest_set t k h = (set_below (channels_of b t) (channel_sets b) k h, rest_below (channels_of b t) (channel_sets b) k h, (set_at_lem (channels_of b t) k (channel_sets b)).begins)

  pub there : (i : ℕ) → i < trace_count b → HasChannel b (turn_at b i).scan_type (turn_at b i).set (turn_at b i).channel
  unfolding trace_count
  there i h =
      let r = rest_set (type i) (rest i) (rest_in i h) in
      rw (turn_is i) (record { scan_type = set_below (traces_of b) (scan_types b) i h; set = r.0; channel = r.1 })

  begins : (i : ℕ) → sum_upto (traces_of b) (type i) ≤ i
  begins i = (set_at_lem (traces_of b) i (scan_types b)).begins

  pub back : (i : ℕ) → i < trace_count b → trace_of b (turn_at b i).scan_type (turn_at b i).set (turn_at b i).channel ≡ i
  back i h = let r = rest_set (type i) (rest i) (rest_in i h) in rw (turn_is i) (omega (arith, r.2, begins i))

  in_type : (t s c : ℕ) → HasChannel b t s c → sum_upto (channels_of b t) s + c < traces_of b t
  unfolding traces_of
  in_type t s c h = in_total (channels_of b t) (channel_sets b) s c h.set h.channel

  inside : (t s c : ℕ) → HasChannel b t s c → trace_of b t s c < trace_count b
  unfolding trace_count
  inside t s c h = in_total (traces_of b) (scan_types b) t (sum_upto (channels_of b t) s + c) h.scan_type (in_type t s c h)

  pub forth : (t s c : ℕ) → HasChannel b t s c → Is (turn_at b (trace_of b t s c)) t s c
  forth t s c h =
      let q : type (trace_of b t s c) ≡ t = set_of_sample (traces_of b) (scan_types b) t (sum_upto (channels_of b t) s + c) h.scan_type (in_type t s c h) in
      let k : trace_of b t s c - sum_upto (traces_of b) t ≡ sum_upto (channels_of b t) s + c = omega arith in
      let m : set t (sum_upto (channels_of b t) s + c) ≡ s = set_of_sample (channels_of b t) (channel_sets b) s c h.set h.channel in
      let z : sum_upto (channels_of b t) s + c - sum_upto (channels_of b t) s ≡ c = omega arith in
      record { scan_type = rw (turn_is (trace_of b t s c), q); set = rw (turn_is (trace_of b t s c), q, k, m); channel = rw (turn_is (trace_of b t s c), q, k, m, z) }

  -- ---- order
  -- a channel of an earlier scan type, or of an earlier set, has an earlier trace
  before_type : (t s c u : ℕ) → HasChannel b t s c → t < u → trace_of b t s c < sum_upto (traces_of b) u
  before_type t s c u h l = omega (arith, in_type t s c h, sum_more (traces_of b) t, sum_grows (traces_of b) (t + 1) u (omega arith))

  before_set : (t s c u : ℕ) → HasChannel b t s c → s < u → sum_upto (channels_of b t) s + c < sum_upto (channels_of b t) u
  before_set t s c u h l = omega (arith, h.channel, sum_more (channels_of b t) s, sum_grows (channels_of b t) (s + 1) u (omega arith))

  by_numbers : (u v : Turn) → HasChannel b u.scan_type u.set u.channel → HasChannel b v.scan_type v.set v.channel
      → trace_of b u.scan_type u.set u.channel < trace_of b v.scan_type v.set v.channel → Earlier u v
  by_numbers u v hu hv l = types (side u.scan_type v.scan_type)
    where
      channels : u.scan_type ≡ v.scan_type → u.set ≡ v.set → Earlier u v
      channels e f =
          let g : trace_of b u.scan_type u.set u.channel ≡ trace_of b v.scan_type v.set u.channel = rw (e, f) in
          by_channel e f (omega (arith, l, g))

      sets : u.scan_type ≡ v.scan_type → Side u.set v.set → Earlier u v
      sets e (lower h) = by_set e h
      sets e (even f) = channels e f
      sets e (upper h) =
          let g : sum_upto (traces_of b) u.scan_type ≡ sum_upto (traces_of b) v.scan_type = ap (sum_upto (traces_of b)) e in
          let f : sum_upto (channels_of b u.scan_type) u.set ≡ sum_upto (channels_of b v.scan_type) u.set = rw e in
          absurd (omega (arith, l, g, f, before_set v.scan_type v.set v.channel u.set hv h))

      types : Side u.scan_type v.scan_type → Earlier u v
      types (lower h) = by_type h
      types (even e) = sets e (side u.set v.set)
      types (upper h) = absurd (omega (arith, l, before_type v.scan_type v.set v.channel u.scan_type hv h))

  order : (i j : ℕ) → i < j → j < trace_count b → Earlier (turn_at b i) (turn_at b j)
  order i j l h =
      let k : i < trace_count b = omega arith in
      by_numbers (turn_at b i) (turn_at b j) (there i k) (there j h) (rw (back i k, back j h) l)

  first : (i : ℕ) → i < trace_count b → (turn_at b i).first ≡ eqb i (sum_upto (traces_of b) (turn_at b i).scan_type)
  first i h = rw (turn_is i) (go (eqb (rest i) 0) refl)
    where
      go : (t : Bool) → eqb (rest i) 0 ≡ t → eqb (rest i) 0 ≡ eqb i (sum_upto (traces_of b) (type i))
      go true e = e ∙ sym (eq-eqb i (sum_upto (traces_of b) (type i)) (omega (arith, begins i, eqb-true (rest i) 0 e)))
      go false e = e ∙ sym (ne_eqb i (sum_upto (traces_of b) (type i)) (λ q. eqb-false (rest i) 0 e (omega (arith, q))))

  pub in_turn : InTurn b
  in_turn = record { there = there; back = back; inside = inside; forth = forth; order = order; first = first }
