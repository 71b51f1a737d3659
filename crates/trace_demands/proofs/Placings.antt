-- Whose a sample of a trace is, and which sample of which trace is a channel's in a scan and subscan.
-- Assumes nothing.
use Rattle.std.specs.Prelude.{Err, Ok, Result, ⊤}
use Prim.Native.Nat.{ℕ, ◌+◌, ◌*◌, ◌-◌, ◌<◌}
use mathlib.Core.Path.{◌≡◌, refl, ap}
use mathlib.Core.List.{List}
use native.Mathlib.Nat.{div-add-mod', mod-lt}
use native.Mathlib.Omega.{arith}
use lib.Arith.{digits_div, digits_mod}
use lib.Pow.{pow_pos}
use borrow.Author.Tests.{le-leb, lt-ltb, leb-true, ltb-true}
use Rattle.basis.specs.Choice.{pick, ◌and◌}
use Rattle.basis.proofs.Choices.{both_true}
use Rattle.refusals.specs.declared.Refusal.TheVariants.{Index}
use Rattle.refusals.proofs.Clears.{both_clear}
use Rattle.codes.specs.Codes.{demultiplexed}
use Rattle.general.specs.General.{code_of}
use Rattle.block.specs.Bytes.{upper}
use Rattle.sets.specs.Descriptors.{descriptor_at}
use Rattle.sets.specs.Samples.{subscans_of}
use Rattle.header.specs.Faults.{header_fault}
use Rattle.layout.proofs.Facts.{kept}
use Rattle.turns.specs.declared.Placed.{Placed}
use Rattle.turns.specs.Turns.{trace_count, turn_at, subscans_at}
use Rattle.turns.specs.Places.{owner, has_trace, trace_fault, sample_of, placed_after, placed_at}
use Rattle.trace_demands.specs.Order.{HasChannel, trace_of}
use Rattle.trace_demands.specs.TracePlaces.{Asked, Its, Placing}
use Rattle.trace_demands.proofs.Orders.{there, back, forth}
use Rattle.refusals.specs.declared.Refusal.{Refusal}

of_given : {t s c n u : ℕ} (f : Result ⊤ Refusal) (p : Placed) → placed_after f p ≡ Ok (owner t s c n u) → (f ≡ Ok tt) × (p ≡ owner t s c n u)
of_given (Ok tt) p e = (refl, cc)
of_given (Err r) p e = let z : ◌≡◌ {A = ℕ} 0 1 = cc in absurd (omega arith)

same_of : {t s c n u t' s' c' n' u' : ℕ} → owner t s c n u ≡ owner t' s' c' n' u' → (t ≡ t') × (s ≡ s') × (c ≡ c') × (n ≡ n') × (u ≡ u')
same_of e = (ap (λ (p : Placed). p.scan_type) e, ap (λ (p : Placed). p.set) e, ap (λ (p : Placed). p.channel) e, ap (λ (p : Placed). p.scan) e, ap (λ (p : Placed). p.subscan) e)

module _ (b : List ℕ) where
  asked : (j : ℕ) → trace_fault b j ≡ Ok tt → Asked b j
  unfolding trace_fault has_trace
  asked j e =
      let f = both_clear (header_fault b) _ e in
      let g = both_true (demultiplexed (code_of b)) _ (kept _ Index f.1) in
      record { accepted = f.0; demultiplexed = leb-true 0x8000 (code_of b) g.0; there = ltb-true j (trace_count b) g.1 }

  clear : (j : ℕ) → Asked b j → trace_fault b j ≡ Ok tt
  unfolding trace_fault has_trace ◌and◌ pick
  clear j a = rw (a.accepted, le-leb 0x8000 (code_of b) a.demultiplexed, lt-ltb j (trace_count b) a.there)

  some : (t s : ℕ) → 0 < subscans_of b t s
  some t s = pow_pos (upper (descriptor_at b t s) 12)

  its : (j i t s c n u : ℕ) → j < trace_count b → sample_of b (turn_at b j) i ≡ owner t s c n u → Its b j i t s c n u
  unfolding sample_of subscans_at
  its j i t s c n u l e =
      let q = same_of e in
      let x : t - 1 ≡ (turn_at b j).scan_type = omega (arith, q.0) in
      let y : s - 1 ≡ (turn_at b j).set = omega (arith, q.1) in
      let z : c - 1 ≡ (turn_at b j).channel = omega (arith, q.2) in
      let p = some (turn_at b j).scan_type (turn_at b j).set in
      record {
        channel = rw (x, y, z) (there b j l);
        from_one = (omega (arith, q.0), omega (arith, q.1), omega (arith, q.2));
        subscan = rw (x, y, ← q.4) (mod-lt i p);
        trace = rw (x, y, z) (back b j l);
        sample = rw (x, y, ← q.3, ← q.4) (div-add-mod' i _);
      }

  back_again : (j i t s c n u : ℕ) → placed_at b j i ≡ Ok (owner t s c n u) → Asked b j × Its b j i t s c n u
  unfolding placed_at
  back_again j i t s c n u e =
      let g = of_given (trace_fault b j) (sample_of b (turn_at b j) i) e in
      let a = asked j g.0 in
      (a, its j i t s c n u a.there g.1)

  forth_by : (t s c n u : ℕ) → HasChannel b t s c → u < subscans_of b t s → sample_of b (turn_at b (trace_of b t s c)) (n * subscans_of b t s + u) ≡ owner (t + 1) (s + 1) (c + 1) n u
  unfolding sample_of subscans_at
  forth_by t s c n u h l =
      let f = forth b t s c h in
      rw (f.scan_type, f.set, f.channel, digits_div n l, digits_mod n l)

  forth_again : (j i t s c n u : ℕ) → Asked b j → Its b j i t s c n u → placed_at b j i ≡ Ok (owner t s c n u)
  unfolding placed_at
  forth_again j i t s c n u a m =
      let x : t - 1 + 1 ≡ t = omega (arith, m.from_one.0) in
      let y : s - 1 + 1 ≡ s = omega (arith, m.from_one.1) in
      let z : c - 1 + 1 ≡ c = omega (arith, m.from_one.2) in
      let k = forth_by (t - 1) (s - 1) (c - 1) n u m.channel m.subscan in
      rw (clear j a) (ap (λ (p : Placed). Ok p) (rw (m.trace, m.sample, x, y, z) at k))

  pub placing : Placing b
  placing = record { back = back_again; forth = forth_again }
