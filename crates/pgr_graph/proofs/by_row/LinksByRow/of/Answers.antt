use Rattle.pgr_graph.proofs.RowSlots.{table_slots, few-slots}
use Rattle.pgr_graph.proofs.TableLinks.{links_exact, links_once}
use Rattle.pgr_graph.proofs.by_row.LinksByRow.of.Goals as goal

pub returns-clause-links : goal.returns-clause-links
returns-clause-links c = links_exact c.args.directed c.args.edges.now _ (table_slots c.args.directed c.args.edges.now)

pub returns-clause-once : goal.returns-clause-once
returns-clause-once c =
    links_once c.args.directed c.args.edges.now _ (table_slots c.args.directed c.args.edges.now) c.len-rows.ensures.accepted.distinct

pub returns-clause-few : goal.returns-clause-few
returns-clause-few c = few-slots c.args.directed c.args.edges.now

pub returns-clause-rows : goal.returns-clause-rows
returns-clause-rows c = table_slots c.args.directed c.args.edges.now
