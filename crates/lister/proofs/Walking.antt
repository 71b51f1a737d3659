-- The loop over a portion: what is left of it leads to its end, and the lines that are made stand at the front of their buffer.
-- Assumes nothing.
use Rattle.std.proofs.Common.{◌≡◌, ℕ, suc, ◌-◌, ◌<◌, ◌≤◌, List, length, ℤ, ap, ◌∙◌, arith}
use lib.Seq.{sets}
use Rattle.framing.specs.Next.{next_of}
use Rattle.framing.proofs.Forward.{forward}
use Rattle.lister.specs.declared.Run.{Run}
use Rattle.lister.specs.declared.Made.{Made}
use Rattle.lister.specs.Turn.{Lister, turned, turns}
use Rattle.lister.specs.Run.{Turned}
use Rattle.lister.specs.Calls.{made_by}
use Rattle.lister.proofs.Onward.{enough}
use Rattle.lister.proofs.Room.{Roomy, Few, said, due, turned_few}
use Rattle.lister.proofs.Said.{put_said}

-- at a place of a portion that leads to `end`, with the lines' buffer as it was at the start
pub record Here (end : Lister) (bytes lines₀ : List ℕ) (r : Run) (at : ℕ) : Type 0 where
  pub out : List ℕ
  pub left : turns (length bytes - at) (record { progress = r.progress; header = r.header.now; numbers = r.numbers.now; out = out }) bytes at ≡ end
  pub few : Few (record { progress = r.progress; header = r.header.now; numbers = r.numbers.now; out = out }) at
  pub front : r.lines.now ≡ sets lines₀ 0 out
  pub place : r.end ≡ length out

module _ (end : Lister) (bytes lines₀ : List ℕ) (r : Run) (at : ℕ) (o : Here end bytes lines₀ r at) where
  abbrev here : Lister
  here = record { progress = r.progress; header = r.header.now; numbers = r.numbers.now; out = o.out }

  pub on : (header₀ : List ℕ) (numbers₀ : List ℤ) → Roomy (length bytes) header₀ numbers₀ lines₀ → at < length bytes
      → {new : Run} {to : ℕ} → to ≡ (next_of r.progress.frame bytes at).to → Turned r bytes at new → Here end bytes lines₀ new to
  on header₀ numbers₀ room h e t =
      let w = forward r.progress.frame bytes at h in
      let n : length bytes - at ≡ suc (length bytes - at - 1) = omega arith in
      let p = put_said (said here bytes at o.few) r.progress.count r.end lines₀ r.lines.now o.out o.front o.place (due here bytes at o.few header₀ numbers₀ lines₀ room h) in
      rw e
      (record {
        out = (turned here bytes at).out;
        left =
            rw (t.progress_is, t.header_is, t.numbers_is)
            (enough (length bytes - (next_of r.progress.frame bytes at).to) (length bytes - at - 1) (turned here bytes at) bytes (next_of r.progress.frame bytes at).to (omega arith) (omega (arith, w.grows))
            ∙ (rw n at o.left));
        few = rw (t.progress_is, t.header_is, t.numbers_is) (turned_few here bytes at o.few h);
        front = t.lines_is ∙ p.1;
        place = t.end_is ∙ p.0;
      })

  pub ended : length bytes ≤ at
      → (◌≡◌ {A = Made} (record { progress = r.progress; length = r.end }) (made_by end)) × (r.header.now ≡ end.header) × (r.numbers.now ≡ end.numbers) × (r.lines.now ≡ sets lines₀ 0 end.out)
  ended h =
      let n : length bytes - at ≡ 0 = omega arith in
      let e : here ≡ end = rw n at o.left in
      (ap (λ (k : ℕ). record { progress = r.progress; length = k }) o.place ∙ ap made_by e, ap (λ (s : Lister). s.header) e, ap (λ (s : Lister). s.numbers) e, o.front ∙ ap (λ (s : Lister). sets lines₀ 0 s.out) e)
