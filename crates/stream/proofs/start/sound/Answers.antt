-- `stream::start::sound` meets its contract.
-- Assumes nothing.
use Rattle.std.proofs.Common.{sym, ◌∙◌}
use Rattle.basis.specs.Choice.{pick}
use Rattle.stream.specs.Starts.{soundb}
use Rattle.stream.proofs.start.sound.Goals as goal

pub returns-then-full : goal.returns-then-full
unfolding soundb pick
returns-then-full c = rw (sym c.full.ensures ∙ c.if-full.true)

pub returns-then-not-synced : goal.returns-then-not-synced
unfolding soundb pick
returns-then-not-synced c = rw (sym c.full.ensures ∙ c.if-full.false, sym c.synced.ensures ∙ c.if-not-synced.true)

pub returns-then-not-phased : goal.returns-then-not-phased
unfolding soundb pick
returns-then-not-phased c = rw (sym c.full.ensures ∙ c.if-full.false, sym c.synced.ensures ∙ c.if-not-synced.false, sym c.phased.ensures ∙ c.if-not-phased.true)

pub returns : goal.returns
unfolding soundb pick
returns c = rw (sym c.full.ensures ∙ c.if-full.false, sym c.synced.ensures ∙ c.if-not-synced.false, sym c.phased.ensures ∙ c.if-not-phased.false, c.instep.ensures, c.seventh.ensures)
