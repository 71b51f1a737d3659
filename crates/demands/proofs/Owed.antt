-- A report counts the samples that were written.
-- Assumes nothing.
use Rattle.std.specs.Prelude.{Err, Ok, Result, ⊤}
use Prim.Native.Nat.{ℕ, zero, suc, ◌+◌, ◌%◌}
use mathlib.Core.Path.{◌≡◌, refl}
use mathlib.Core.Bool.{not}
use native.Mathlib.Omega.{arith}
use lib.Dec.{eqb, ltb}
use lib.ListN.{length}
use borrow.Author.Tests.{eqb-true, lt-leb}
use Rattle.basis.specs.Choice.{pick}
use Rattle.basis.specs.Upto.{upto, sum_upto}
use Rattle.refusals.specs.declared.Refusal.TheVariants.{Part, Open, Missing}
use Rattle.refusals.specs.Order.{when, or_else}
use Rattle.refusals.proofs.Clears.{both_clear}
use Rattle.codes.specs.Codes.{word_bytes_of}
use Rattle.layout.proofs.Facts.{kept}
use Rattle.rules.specs.Tape.{Body, byte_at, size}
use Rattle.rules.specs.Scans.{Shape}
use Rattle.rules.specs.Samples.{done_before, done_in, word_begins}
use Rattle.rules.specs.Outcome.{Report, report, answered, stop_of, done_of, scans_of, last_type, report_of, closing_fault, closing}
use Rattle.refusals.specs.declared.Refusal.{Refusal}

-- none of a scan's samples is done before its bytes
none_done : (sh : Shape) (byte : ℕ → ℕ) (n : ℕ) → sum_upto (done_in sh byte 0) n ≡ 0
unfolding upto pick
none_done sh byte zero = refl
none_done sh byte (suc n) = rw (none_done sh byte n, lt-leb (word_begins sh byte n + word_bytes_of sh.code) 0 (omega arith))

report_given : (f : Result ⊤ Refusal) (a t : Report) → answered f a ≡ report t → (f ≡ Ok tt) × (t ≡ a)
report_given (Ok tt) a t e = (refl, cc)
report_given (Err r) a t e = let z : ◌≡◌ {A = ℕ} 0 1 = cc in absurd (omega arith)

pub owed : (sh : Shape) (d : Body) (t : Report) → closing sh d ≡ report t → done_of sh d ≡ t.samples
unfolding closing done_before
owed sh d t e =
    let last : (Result ⊤ Refusal) = when (ltb (last_type sh (byte_at d) (scans_of sh d)) sh.types) Missing in
    let later : (Result ⊤ Refusal) = when (not (eqb (length d.tail) 0)) Open in
    let part : (Result ⊤ Refusal) = when (not (eqb (size d % sh.scan) 0)) Part in
    let g = report_given (closing_fault sh d) (report_of sh d) t e in
    let p = both_clear (stop_of sh d) (or_else part (or_else later last)) g.0 in
    let q = both_clear part (or_else later last) p.1 in
    let z : size d % sh.scan ≡ 0 = eqb-true _ _ (kept (eqb (size d % sh.scan) 0) Part q.0) in
    rw (p.0, z, none_done sh (byte_at d) sh.samples, g.1) (omega arith)
