-- Lists of links that follow one another.
use Rattle.std.specs.Prelude.{◌≡◌, List, [], ◌∷◌}
use Rattle.pgr_walks.specs.declared.link.LinkOf.{LinkOf}
use Rattle.pgr_walks.specs.Walk.{IsWalk}

-- each link begins where the one before it ended
abbrev pub IsChain : {V : Type 0} → List (LinkOf V) → Type 0
IsChain [] = Unit {0}
IsChain (link ∷ []) = Unit {0}
IsChain (link ∷ next ∷ rest) = (next.from ≡ link.to) × IsChain (next ∷ rest)

-- the links of a walk follow one another
pub walk_chain : {V : Type 0} (Has : LinkOf V → Type 0) (s : V) (walk : List (LinkOf V)) (t : V) → IsWalk Has s walk t → IsChain walk
walk_chain Has s [] t w = tt
walk_chain Has s (x ∷ []) t w = tt
walk_chain Has s (x ∷ y ∷ rest) t w = (w.2.1, walk_chain Has x.to (y ∷ rest) t w.2)
