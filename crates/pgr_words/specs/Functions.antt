-- The functions, as data: of each its name, and its options.
use Rattle.std.specs.Prelude.{ℕ, Bool, List, [], ◌∷◌, Option, codes, find}
use Rattle.std.specs.List.{list_any}
use Rattle.std.specs.Map.{lookup}
use Rattle.std.specs.Str.{bytes_eq}
use Rattle.pgr_words.specs.declared.function.Called.{Called}
use Rattle.pgr_words.specs.declared.function.Function.{Function}
use Rattle.pgr_words.specs.declared.function.Function.TheVariants as function
use Rattle.pgr_words.specs.declared.option.OptionName.{OptionName}
use Rattle.pgr_words.specs.declared.option.OptionName.TheVariants.{Edges, Points, Restrictions, Combinations, Start, End, Vids, Directed, DrivingSide, Details, Distance, Equicost, K, Order, MaxCycles, Forbidden, Heuristic, Factor}
use Rattle.pgr_words.specs.Options.{name_of, is_same}

-- the options of a function that asks for pairs, in the order in which needed ones are looked for
abbrev pub pair_options : List OptionName
pair_options = Edges ∷ Start ∷ End ∷ Combinations ∷ Directed ∷ []

-- the options of a function that asks about the edges as a whole
abbrev pub edge_options : List OptionName
edge_options = Edges ∷ []

-- the options of a function of flows from the starts to the ends, in the same order
abbrev pub flow_options : List OptionName
flow_options = Edges ∷ Start ∷ End ∷ []

-- the options of a function that asks for all pairs of one list, in the same order
abbrev pub matrix_options : List OptionName
matrix_options = Edges ∷ Vids ∷ Directed ∷ []

-- the options of driving distance, in the same order
abbrev pub driving_options : List OptionName
driving_options = Edges ∷ Start ∷ Distance ∷ Directed ∷ Equicost ∷ []

-- the options of least routes between points, in the same order
abbrev pub point_options : List OptionName
point_options = Edges ∷ Points ∷ Start ∷ End ∷ Combinations ∷ Directed ∷ DrivingSide ∷ Details ∷ []

-- the options of least routes under restrictions, in the same order
abbrev pub trsp_options : List OptionName
trsp_options = Edges ∷ Restrictions ∷ Start ∷ End ∷ Combinations ∷ Directed ∷ []

-- the options of the first K routes, in the same order
abbrev pub ksp_options : List OptionName
ksp_options = Edges ∷ Start ∷ End ∷ K ∷ Combinations ∷ Directed ∷ []

-- the options of contraction, in the same order
abbrev pub contraction_options : List OptionName
contraction_options = Edges ∷ Order ∷ MaxCycles ∷ Forbidden ∷ Directed ∷ []

-- the options of a search that an estimate guides, in the same order
abbrev pub guided_options : List OptionName
guided_options = Edges ∷ Start ∷ End ∷ Combinations ∷ Directed ∷ Heuristic ∷ Factor ∷ []

-- each function by what it is called, with its options
abbrev pub functions : List (List ℕ × (Function × List OptionName))
functions =
    (codes "pgr_aStar", (function.AStar, guided_options))
    ∷ (codes "pgr_connectedComponents", (function.ConnectedComponents, edge_options))
    ∷ (codes "pgr_strongComponents", (function.StrongComponents, edge_options))
    ∷ (codes "pgr_biconnectedComponents", (function.BiconnectedComponents, edge_options))
    ∷ (codes "pgr_articulationPoints", (function.ArticulationPoints, edge_options))
    ∷ (codes "pgr_bridges", (function.Bridges, edge_options))
    ∷ (codes "pgr_dijkstra", (function.Dijkstra, pair_options))
    ∷ (codes "pgr_dijkstraCost", (function.DijkstraCost, pair_options))
    ∷ (codes "pgr_dijkstraCostMatrix", (function.DijkstraCostMatrix, matrix_options))
    ∷ (codes "pgr_drivingDistance", (function.DrivingDistance, driving_options))
    ∷ (codes "pgr_withPoints", (function.WithPoints, point_options))
    ∷ (codes "pgr_trsp", (function.Trsp, trsp_options))
    ∷ (codes "pgr_KSP", (function.Ksp, ksp_options))
    ∷ (codes "pgr_contraction", (function.Contraction, contraction_options))
    ∷ (codes "pgr_maxFlow", (function.MaxFlow, flow_options))
    ∷ (codes "pgr_edmondsKarp", (function.EdmondsKarp, flow_options))
    ∷ (codes "minCut", (function.MinCut, flow_options))
    ∷ []

-- what a row of the table in the code says, as a row of this one
abbrev pub row_of : Called → List ℕ × (Function × List OptionName)
row_of called = (called.name.now, (called.function, called.options.now))

-- the function that is called so, and its options
abbrev pub function_named : List ℕ → Option (Function × List OptionName)
function_named name = lookup (bytes_eq name) functions

-- the one of some options that is called so
abbrev pub option_named : List OptionName → List ℕ → Option OptionName
option_named options name = find (λ option. bytes_eq (name_of option) name) options

-- the option is among these
abbrev pub is_among : List OptionName → OptionName → Bool
is_among options option = list_any (λ other. is_same other option) options
