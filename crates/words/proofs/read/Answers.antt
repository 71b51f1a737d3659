-- `words::read` meets its contract: the default is the definition's zero.
-- Assumes nothing.
use Rattle.std.specs.Prelude.{Ok, Err, Result}
use mathlib.Core.Path.{◌≡◌}
use Rattle.std.specs.Result.{ResultUnwrapsOrElse}
use Rattle.refusals.specs.declared.Refusal.{Refusal}
use Rattle.words.specs.declared.Value.{Value}
use Rattle.words.specs.Words.{valued, value_of}
use Rattle.words.specs.contracts.ValueDefault.TheImpl.{is_default-value}
use Rattle.words.proofs.read.Goals as goal

defaulted : (w : Result Value Refusal) {v : Value} → ResultUnwrapsOrElse w is_default-value.it v → v ≡ valued w
defaulted (Ok x) h = h
defaulted (Err r) {v} h = let e : record { m = v.m; x = v.x; off = v.off } ≡ valued (Err r) = rw (h.0, h.1.0, h.1.1) in e

pub returns : goal.returns
unfolding value_of
returns c = rw (← c.read_word.ensures) (defaulted _ c.unwrap_or_default.ensures)
