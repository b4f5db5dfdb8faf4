-- Links turned round, and walks read backwards.
use Rattle.std.specs.Prelude.{List, Option, Some, ℕ, map}
use Rattle.std.specs.Prelude.{reverse}
use Rattle.pgr_walks.specs.declared.link.LinkOf.{LinkOf}

-- the link from where it leads to where it begins
abbrev pub turned : {V : Type 0} → LinkOf V → LinkOf V
turned link = record { from = link.to; edge = link.edge; cost = link.cost; to = link.from }

-- the walk from its end to its start: its links from the last to the first, each turned round
abbrev pub read_backwards : {V : Type 0} → List (LinkOf V) → List (LinkOf V)
read_backwards walk = reverse (map turned walk)

-- what a visitor that turns links round makes of each
abbrev pub turn : Unit {0} → LinkOf ℕ → Option (LinkOf ℕ)
turn by link = Some (turned link)
