use Rattle.pgr_walks.specs.ListGraphLaws.{starts_in_order}
use Rattle.pgr_walks.proofs.list_graph.ListGraphGraph.each_out.Goals as goal

pub run_from-requires : goal.run_from-requires
run_from-requires g c = rw c.deref.ensures.value (starts_in_order c.args.self.now.by_start.items c.args.self.now.starts_rise)
