-- Each contract over a view says what the definition does.
-- Assumes nothing.
use contract.Monad.{fact_mono}
use Rattle.demands.specs.BoundHeld.{BoundHeld}

pub bound_held : BoundHeld
bound_held = record {
  carry = λ w κs a g z e. fact_mono w.𝓤 _ _ (λ p. p);
  answer_of = λ w κs a g z e. fact_mono w.𝓤 _ _ (λ p. p);
  descriptor_of = λ w κs a g z e. fact_mono w.𝓤 _ _ (λ p. p);
  sample_index_of = λ w κs a g z e. fact_mono w.𝓤 _ _ (λ p. p);
  sample_place_of = λ w κs a g z e. fact_mono w.𝓤 _ _ (λ p. p);
  constants_of = λ w κs a g z e. fact_mono w.𝓤 _ _ (λ p. p);
  extended_of = λ w κs a g z e. fact_mono w.𝓤 _ _ (λ p. p);
  external_of = λ w κs a g z e. fact_mono w.𝓤 _ _ (λ p. p);
  skew_of = λ w κs a g z e. fact_mono w.𝓤 _ _ (λ p. p);
  skew_fault_of = λ w κs a g z e. fact_mono w.𝓤 _ _ (λ p. p);
  sample_time_of = λ w κs a g z e. fact_mono w.𝓤 _ _ (λ p. p);
  open_of = λ w κs a g z e. fact_mono w.𝓤 _ _ (λ p. p);
}
