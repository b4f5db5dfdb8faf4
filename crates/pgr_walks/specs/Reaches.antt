-- Where walks lead: reaching, and links taken both ways.
use Rattle.std.specs.Prelude.{List, ◌⊎◌}
use Rattle.pgr_walks.specs.declared.link.LinkOf.{LinkOf}
use Rattle.pgr_walks.specs.Walk.{IsWalk}
pub use Rattle.pgr_walks.specs.Reversed.{turned}

-- some walk over the links leads from u to v; the empty walk leads from each vertex to itself
abbrev pub Reaches : {V : Type 0} → (LinkOf V → Type 0) → V → V → Type 0
Reaches Has u v = (walk : List (LinkOf _)) × IsWalk Has u walk v

-- a link of the set, or one that is a link of the set once it is turned: the links taken both ways
abbrev pub BothWays : {V : Type 0} → (LinkOf V → Type 0) → LinkOf V → Type 0
BothWays Has link = Has link ⊎ Has (turned link)
