-- `lister::walk` meets its contract: what is left of the portion leads to its end.
-- Assumes nothing.
use Rattle.std.proofs.Common.{◌≡◌, ◌-◌, ◌≤◌, length}
use Rattle.lister.specs.Turn.{walked}
use Rattle.lister.proofs.Walking.{Here}
use Rattle.lister.proofs.walk.Given as goal

abbrev pub invariant-loop-at : goal.invariant-loop-at
invariant-loop-at l = record {
  within : l.at ≤ length l.bytes;
  same_header : l.run.header.ghost_name ≡ l.initial.run.header.ghost_name;
  same_numbers : l.run.numbers.ghost_name ≡ l.initial.run.numbers.ghost_name;
  same_lines : l.run.lines.ghost_name ≡ l.initial.run.lines.ghost_name;
  here : Here (walked l.fn.start l.bytes l.fn.header l.fn.numbers) l.bytes l.fn.lines l.run l.at;
}

abbrev pub decreases-loop-at : goal.decreases-loop-at
decreases-loop-at l = length l.bytes - l.at
