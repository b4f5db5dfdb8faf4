-- What an estimate is multiplied by.
use Rattle.std.specs.Prelude.{ℕ, ◌≤◌}
use Rattle.pgr_words.specs.declared.estimate.Factor.{Factor}

-- the greatest part of a factor
abbrev pub most_of_factor : ℕ
most_of_factor = 1000000

-- a factor has a numerator and a denominator from 1 to 1,000,000
pub record IsFactor (factor : Factor) : Type 0 where
  pub over_least : 1 ≤ factor.over
  pub over_most : factor.over ≤ most_of_factor
  pub under_least : 1 ≤ factor.under
  pub under_most : factor.under ≤ most_of_factor
