-- `runs::grouped_in` meets its contract.
-- Assumes nothing.
use native.Mathlib.Omega.{arith}
use Rattle.runs.specs.Words.{grouped_in}
use Rattle.runs.proofs.grouped_in.Goals as goal

pub returns-then-rest-lt2 : goal.returns-then-rest-lt2
unfolding grouped_in
returns-then-rest-lt2 c = omega arith

pub returns : goal.returns
unfolding grouped_in
returns c = omega arith
