use Rattle.pgr_numbers.proofs.Graphs.{Fits-graph}
use Rattle.pgr_numbers.proofs.graph_laws.graph_of_numbered_links_fits.Goals as goal

pub returns : goal.returns
returns g c = λ names links numbers numbered exactly. Fits-graph names links numbers numbered _ exactly
