-- `stream::reading::Reading::starts` meets its contract.
-- Assumes nothing.
use Rattle.std.proofs.Common.{sym, ◌∙◌, arith}
use mathlib.Core.Bool.{false≢true}
use Rattle.stream.proofs.reading.Reading.starts.Goals as goal

pub returns-then-s-ne0 : goal.returns-then-s-ne0
returns-then-s-ne0 c = λ e. absurd (false≢true e)

pub returns-then-s-ne0-2 : goal.returns-then-s-ne0-2
returns-then-s-ne0-2 c = λ e. absurd (false≢true e)

pub returns-then-s : goal.returns-then-s
returns-then-s c = λ e. absurd (false≢true e)

pub returns-then-bytes-i-lt8 : goal.returns-then-bytes-i-lt8
returns-then-bytes-i-lt8 c = λ e. absurd (false≢true e)

pub returns : goal.returns
returns c =
    λ e. let z = c in
    record {
      fit = z.args.self.fit;
      stop = c.if-s-ne0.false;
      first = c.if-s-ne0-2.false;
      long = omega (arith, c.if-s.false);
      whole = omega (arith, c.if-bytes-i-lt8.false, z.requires);
      right = sym c.sound.ensures ∙ e;
    }
