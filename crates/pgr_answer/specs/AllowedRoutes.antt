-- Routes between numbers that stand for least allowed walks.
use Rattle.std.specs.Prelude.{◌≢◌, ℕ, ℤ, List, [], map, All, Contains}
use Rattle.pgr_walks.specs.declared.link.LinkOf.{LinkOf}
use Rattle.pgr_turns.specs.Restrictions.{IsAllowedWalk}
use Rattle.pgr_numbers.specs.Names.{IsNumbered, named}
use Rattle.pgr_answer.specs.Trsp.{IsLeastAllowed}

-- a route between numbers that stands for the least walk from an id to another that meets no restriction, which has a link
pub record IsAllowedRoute (links : List (LinkOf ℤ)) (restrictions : List (List ℤ)) (names : List ℤ) (start end : ℤ) (route : List (LinkOf ℕ)) : Type 0 where
  pub least : IsLeastAllowed (Contains links) restrictions start end (map (named names) route)
  pub numbered : All (IsNumbered names) route
  pub some : route ≢ []

-- the walks over the links that meet no restriction
abbrev pub allowed_over : List (LinkOf ℤ) → List (List ℤ) → ℤ → ℤ → List (LinkOf ℤ) → Type 0
allowed_over links restrictions = IsAllowedWalk (Contains links) restrictions
