use Rattle.pgr_numbers.proofs.Graphs.{IsLeast-graph, IsLeast-to_one, none_to_one}
use Rattle.pgr_numbers.proofs.graph_laws.least_walk_of_graph_is_least_by_ids.Goals as goal

pub returns-clause-least : goal.returns-clause-least
returns-clause-least g c = λ names links numbers s t walk numbered exactly. IsLeast-to_one names links numbers numbered _ exactly s t walk

pub returns-clause-none : goal.returns-clause-none
returns-clause-none g c = λ names links numbers s t numbered exactly. none_to_one names links numbers numbered _ exactly s t

pub returns-clause-least_of_targets : goal.returns-clause-least_of_targets
returns-clause-least_of_targets g c = λ names links numbers targets s walk numbered exactly targets_below below.
    IsLeast-graph names links numbers numbered _ exactly targets targets_below s below walk
