use Rattle.pgr_numbers.proofs.Graphs.{IsLabel-graph}
use Rattle.pgr_numbers.proofs.graph_laws.labels_of_graph_are_labels_by_ids.Goals as goal

pub returns : goal.returns
returns g c = λ names links numbers targets s label numbered exactly targets_below below.
    IsLabel-graph names links numbers numbered _ exactly targets targets_below s below label
