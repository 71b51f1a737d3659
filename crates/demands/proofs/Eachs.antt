-- Each contract of a function of many types leaves one answer, since it equates it.
-- Assumes nothing.
use Rattle.basis.proofs.Answers.{one_answer, one_within}
use Rattle.demands.specs.Each.{UniqueOfEach, BoundOfEach}

pub unique_of_each : UniqueOfEach
unique_of_each = record {
  plain_words = λ n P f l t d κ a z z' e e'. one_within;
  plain_words_content = λ n P f l t d κ a z z' e e' p q. one_answer p.1 q.1;
  unchanged = λ S l κ a z z' e e'. one_answer;
  still = λ S l κ a z z' e e'. one_answer;
}

pub bound_of_each : BoundOfEach
bound_of_each = record { unchanged = λ S l κ a z e p. p; still = λ S l κ a z e p. p }
