-- The links between ids of a network, and routes over them by number.
use Rattle.std.specs.Prelude.{◌≢◌, List, [], map, All, Contains, ℤ, ℕ}
use Rattle.pgr_walks.specs.declared.link.LinkOf.{LinkOf}
use Rattle.pgr_walks.specs.declared.graph.Graph.{Ghosts}
use Rattle.pgr_numbers.specs.Names.{IsNumbered, named}
use Rattle.pgr_answer.specs.declared.network.Network.{Network}
use Rattle.pgr_answer.specs.NamedLinks.{named_links}
use Rattle.pgr_answer.specs.Paths.{IsLeastBetween}

-- the links between ids of a network: those of its graph, vertex by vertex, each between the ids that its numbers stand for
abbrev pub id_links : {G : Type 0} {meanings : Ghosts G} → Network G meanings → List (LinkOf ℤ)
id_links {meanings = meanings} network = named_links network.names (meanings.count network.graph) (meanings.ins network.graph)

-- a route between numbers that stands for the least walk from an id to another, which has a link
pub record IsRouteBetween (links : List (LinkOf ℤ)) (names : List ℤ) (start end : ℤ) (route : List (LinkOf ℕ)) : Type 0 where
  pub least : IsLeastBetween (Contains links) start end (map (named names) route)
  pub numbered : All (IsNumbered names) route
  pub some : route ≢ []
