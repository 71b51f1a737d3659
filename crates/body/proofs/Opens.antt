-- What an accepted header is, and which openings are fit.
-- Assumes nothing.
use Rattle.std.specs.Prelude.{Err, Ok, Result, ⊤}
use Prim.Native.Nat.{ℕ, ◌-◌, ◌*◌, ◌/◌, ◌%◌, ◌^◌, ◌≤◌, ◌<◌}
use mathlib.Core.Path.{◌≡◌, refl, sym, ap, ◌∙◌, subst}
use mathlib.Core.Bool.{true, false}
use mathlib.Core.List.{List}
use native.Mathlib.Nat.{mul-mod_left, mul-le-mul_left, mul-le-mul_right, le_trans}
use native.Mathlib.Omega.{arith}
use lib.Dec.{leb-zero}
use lib.Pow.{pow_mono}
use borrow.Author.Tests.{le-leb, lt-leb, lt-ltb, eq-eqb}
use Rattle.basis.specs.Choice.{pick, ◌and◌, ◌or◌}
use Rattle.refusals.specs.declared.Refusal.{Refusal}
use Rattle.codes.specs.Codes.{group_of, per_of}
use Rattle.block.specs.Bytes.{byte, lower}
use Rattle.general.specs.General.{code_of, bytes_per_scan, interval_of, block_exponent, block_scans, scan_types}
use Rattle.sets.specs.Samples.{samples_of}
use Rattle.header.specs.declared.Header.{Header}
use Rattle.header.specs.Faults.{header_fault}
use Rattle.header.specs.Answers.{header_of, header_answer, answer_after}
use Rattle.header.proofs.Accepted.{accepted, types_few, interval_is, scan_is, first_type, sizes, scan_in_groups}
use Rattle.scan.specs.declared.Shape.{Shape}
use Rattle.scan.specs.Fit.{fitb, fit_by, countsb, trackb, shapeb, shape_by, wholeb, limitsb, stopb}
use Rattle.body.specs.declared.Body.TheVariants.{Scans, Traces}
use Rattle.body.specs.Open.{shape_of, fresh, unfit, opened}
use Rattle.stream.proofs.Readers.{row_some}

-- the header of an answer, or another
abbrev told : Header → Result Header Refusal → Header
told d (Ok h) = h
told d (Err r) = d

abbrev is : Result Header Refusal → ℕ
is (Ok h) = 1
is (Err r) = 0

pub record Took (b : List ℕ) (h : Header) : Type 0 where
  pub clear : header_fault b ≡ Ok tt
  pub fields : header_of b ≡ h

pub took : (b : List ℕ) (h : Header) → header_answer b ≡ Ok h → Took b h
unfolding header_answer
took b h e = go (header_fault b) refl e
  where
    go : (f : Result ⊤ Refusal) → header_fault b ≡ f → answer_after f (header_of b) ≡ Ok h → Took b h
    go (Ok tt) p q = record { clear = p; fields = ap (told h) q }
    go (Err r) p q = let z : ◌≡◌ {A = ℕ} 0 1 = ap is q in absurd (omega arith)

pub exponent_low : (b : List ℕ) (h : Header) → header_answer b ≡ Ok h → h.block_exponent < 16
unfolding header_of lower
exponent_low b h e = subst (λ (x : Header). x.block_exponent < 16) (took b h e).fields (omega arith)

-- the state before the first byte is fit where its shape is; the all-zero one is not
pub fresh_fit : (h : Shape) → fitb (fresh h) ≡ shapeb h
unfolding fitb fit_by shapeb fresh countsb trackb stopb ◌or◌
fresh_fit h = rw (leb-zero h.types)

pub unfit_not : fitb unfit ≡ false
unfolding unfit fresh fitb fit_by countsb trackb stopb ◌or◌ shape_by ◌and◌
unfit_not = refl

-- an accepted header of a multiplexed code has a fit shape, where the block's numbers are bytes
module _ (b : List ℕ) (e : header_fault b ≡ Ok tt) (m : code_of b < 0x8000) (l : (n : ℕ) → byte b n < 256) where
  some_group : 0 < group_of (code_of b)
  some_group = row_some (code_of b) (accepted b e).general.known.row (accepted b e).general.known.found

  whole_scans : (bytes_per_scan b - 8) % group_of (code_of b) ≡ 0
  whole_scans =
      let g = (scan_in_groups b e m 0 (first_type b e)).size in
      let k : bytes_per_scan b - 8 ≡ samples_of b 0 / per_of (code_of b) * group_of (code_of b) = rw (sizes b e).sum (omega (arith, g)) in
      rw k (mul-mod_left (samples_of b 0 / per_of (code_of b)) (group_of (code_of b)))

  few_scans : block_scans b * 2 ^ block_exponent b ≤ 8355840
  unfolding lower
  few_scans =
      let q : block_exponent b ≤ 15 = omega arith in
      let p : 2 ^ block_exponent b ≤ 2 ^ 15 = pow_mono q in
      let k : block_scans b ≤ 255 = omega (arith, l 25) in
      le_trans (mul-le-mul_left (block_scans b) p) (mul-le-mul_right 32768 k)

  interval_small : interval_of b ≤ 128
  interval_small = let i = interval_is b e in rw i.is (pow_mono i.small)

  pub accepted_shape : shapeb (shape_of (header_of b)) ≡ true
  unfolding shape_of header_of shapeb shape_by wholeb limitsb ◌and◌
  accepted_shape =
      let s = scan_is b e m in
      let t = types_few b e in
      rw (
        le-leb 8 (bytes_per_scan b) s.0,
        le-leb (bytes_per_scan b) 999999 s.1,
        lt-ltb 0 (group_of (code_of b)) some_group,
        eq-eqb ((bytes_per_scan b - 8) % group_of (code_of b)) 0 whole_scans,
        lt-ltb (code_of b) 0x8000 m,
        eq-eqb (4096 * interval_of b % 256) 0 (omega arith),
        le-leb (4096 * interval_of b) 524288 (omega (arith, interval_small)),
        le-leb 1 (scan_types b) t.0,
        le-leb (scan_types b) 99 t.1,
        le-leb (block_scans b * 2 ^ block_exponent b) 8355840 few_scans,
      )

-- an accepted header's code
pub code_is : (b : List ℕ) (h : Header) → header_answer b ≡ Ok h → h.code ≡ code_of b
unfolding header_of
code_is b h e = ap (λ (x : Header). x.code) (sym (took b h e).fields)

-- the opening of a body of scans, and that of a demultiplexed record
pub opens_scans : (b : List ℕ) (h : Header) → header_answer b ≡ Ok h → code_of b < 0x8000 → opened b ≡ record { state = fresh (shape_of h); answer = Ok Scans }
unfolding opened pick
opens_scans b h e m = rw (e, code_is b h e, lt-leb 0x8000 (code_of b) m)

pub opens_traces : (b : List ℕ) (h : Header) → header_answer b ≡ Ok h → 0x8000 ≤ code_of b → opened b ≡ record { state = unfit; answer = Ok Traces }
unfolding opened pick
opens_traces b h e m = rw (e, code_is b h e, le-leb 0x8000 (code_of b) m)

-- every opening on an accepted header of a multiplexed code is fit, and every refused one is not
pub open_fit : (b : List ℕ) (h : Header) → ((n : ℕ) → byte b n < 256) → header_answer b ≡ Ok h → code_of b < 0x8000 → fitb (opened b).state ≡ true
open_fit b h l e m =
    let t = took b h e in
    rw (opens_scans b h e m) (fresh_fit (shape_of h) ∙ subst (λ (x : Header). shapeb (shape_of x) ≡ true) t.fields (accepted_shape b t.clear m l))

pub open_unfit : (b : List ℕ) (r : Refusal) → header_answer b ≡ Err r → fitb (opened b).state ≡ false
unfolding opened
open_unfit b r e = rw e unfit_not
