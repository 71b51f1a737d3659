-- `trace_body::ends::End::counted` meets its contract.
-- Assumes nothing.
use borrow.Author.Tests.{eq-eqb, ne_eqb}
use mathlib.Core.Logic.{inl, inr}
use Rattle.basis.specs.Choice.{pick}
use Rattle.trace_body.specs.Ends.{countedb}
use Rattle.trace_body.proofs.ends.End.counted.Goals as goal

pub returns-then-bytes-self-ne0 : goal.returns-then-bytes-self-ne0
unfolding countedb pick
returns-then-bytes-self-ne0 c =
    elim c.then-bytes-self-ne0.either [
      | inl n ↦ rw (← c.bytes.ensures, ne_eqb _ _ n)
      | inr e ↦ rw (← c.bytes.ensures, eq-eqb _ _ e.0, eq-eqb _ _ e.1)
    ]

pub returns : goal.returns
unfolding countedb pick
returns c =
    rw (← c.bytes.ensures, eq-eqb _ _ c.if-bytes-self-ne0.false, ne_eqb _ _ c.if-scans-eq0.false, c.from.ensures, c.samples.ensures.0, c.from-2.ensures, c.from-3.ensures)
