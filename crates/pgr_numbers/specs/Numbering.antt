-- What a numbering of links keeps: walks by numbers that stand for walks by ids, and graphs of numbered links.
use Rattle.std.specs.Prelude.{◌≡◌, ◌↔◌, ℕ, List, map, Contains, ℤ}
use Rattle.pgr_walks.specs.declared.link.LinkOf.{LinkOf}
use Rattle.pgr_walks.specs.Walk.{IsWalk}
use Rattle.pgr_walks.specs.Graph.{IsLinkOf}
use Rattle.pgr_numbers.specs.Names.{named}

-- a walk over the numbered links from s to t that stands for a walk by ids
pub record IsNumberedWalk (names : List ℤ) (numbers : List (LinkOf ℕ)) (s t : ℕ) (walk : List (LinkOf ℤ)) (numbered : List (LinkOf ℕ)) : Type 0 where
  pub is_walk : IsWalk (Contains numbers) s numbered t
  pub same : map (named names) numbered ≡ walk

-- the links of a graph are exactly those of a list
abbrev pub HasExactly : ℕ → (ℕ → List (LinkOf ℕ)) → List (LinkOf ℕ) → Type 0
HasExactly size ins numbers = (link : LinkOf ℕ) → IsLinkOf size ins link ↔ Contains numbers link
