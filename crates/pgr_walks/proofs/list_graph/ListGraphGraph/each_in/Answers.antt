use Rattle.pgr_walks.specs.ListGraphLaws.{ends_in_order}
use Rattle.pgr_walks.proofs.list_graph.ListGraphGraph.each_in.Goals as goal

pub run_into-requires : goal.run_into-requires
run_into-requires g c = rw c.deref.ensures.value (ends_in_order c.args.self.now.by_end.items c.args.self.now.ends_rise)
