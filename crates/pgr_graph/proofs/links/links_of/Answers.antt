use Rattle.std.specs.Ordering.{int_cmp}
use Rattle.std.proofs.lemmas.Cmp.{int_cmp_total}
use Rattle.pgr_walks.specs.LinkOrders.{link_total, link_tie, int_tie}
use Rattle.pgr_walks.proofs.Rising.{rising_from_permutation}
use Rattle.pgr_graph.proofs.TableLinks.{links_kept}
use Rattle.pgr_graph.proofs.links.links_of.Goals as goal

pub returns-clause-links : goal.returns-clause-links
returns-clause-links c =
    links_kept c.args.directed c.args.table.now _ _ c.in_ok-links.ensures.links c.sort_unstable.ensures.permutation

pub returns-clause-rising : goal.returns-clause-rising
returns-clause-rising c =
    rising_from_permutation (link_total int_cmp int_cmp_total) (link_tie int_cmp int_tie) _ _ c.in_ok-links.ensures.once c.sort_unstable.ensures.permutation
    c.sort_unstable.ensures.sorted
