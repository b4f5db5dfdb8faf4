-- What a file is to a command: which files it names, in which order, what they are read as, and what messages call them.
use Rattle.std.specs.Prelude.{ℕ, List, [], ◌∷◌, Option, Some, codes}
use Rattle.pgr_words.specs.declared.command.Command.{Command}
use Rattle.pgr_words.specs.declared.function.Function.{Function}
use Rattle.pgr_words.specs.declared.function.Function.TheVariants as function
use Rattle.pgr_answer.specs.declared.role.Kind.{Kind}
use Rattle.pgr_answer.specs.declared.role.Kind.TheVariants as kind
use Rattle.pgr_answer.specs.declared.role.Role.{Role}
use Rattle.pgr_answer.specs.declared.role.Role.TheVariants.{Edges, Points, Restrictions, Combinations}

-- the roles, in the order in which their files are read
abbrev pub roles : List Role
roles = Edges ∷ Points ∷ Restrictions ∷ Combinations ∷ []

-- what a role is called: as the option that names its file
abbrev pub name_of : Role → List ℕ
name_of Edges = codes "edges"
name_of Points = codes "points"
name_of Restrictions = codes "restrictions"
name_of Combinations = codes "combinations"

-- the name of the file that has this role to a command, if the command names one
abbrev pub file_name_of : Command → Role → Option (List ℕ)
file_name_of command Edges = Some command.edges
file_name_of command Points = command.points
file_name_of command Restrictions = command.restrictions
file_name_of command Combinations = command.combinations

-- what the file of edges is read as by a function
abbrev pub kind_of_edges : Function → Kind
kind_of_edges function.AStar = kind.PlacedEdges
kind_of_edges function.MaxFlow = kind.Capacities
kind_of_edges function.EdmondsKarp = kind.Capacities
kind_of_edges function.MinCut = kind.Capacities
kind_of_edges f = kind.Edges

-- what the file of this role is read as by a function
abbrev pub kind_of : Function → Role → Kind
kind_of f Edges = kind_of_edges f
kind_of f Points = kind.Points
kind_of f Restrictions = kind.Restrictions
kind_of f Combinations = kind.Combinations
