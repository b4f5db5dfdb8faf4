use Rattle.std.proofs.Common.{rules, arith}
use Rattle.std.proofs.lemmas.List.Sorted.{answers_always}
use Rattle.pgr_walks.specs.declared.link.LinkOf.{LinkOf}
use Rattle.std.proofs.Common.{ℤ}
use Rattle.pgr_graph.proofs.ArcLists.{arcs-more}
use Rattle.pgr_graph.proofs.ArcOrder.{arcs_kept, arcs_rise}
use Rattle.pgr_graph.proofs.arcs.arcs_of.Goals as goal

pub loop-i-preserved : goal.loop-i-preserved
loop-i-preserved c = record {
  arcs = arcs-more c.args.table.now c.loop-i.i _ _ _ c.row.ensures c.loop-i.invariant.arcs c.in_ok-push_arcs_of.ensures.items;
  few = search rules;
}

pub returns-clause-arcs : goal.returns-clause-arcs
returns-clause-arcs c =
    arcs_kept c.args.table.now c.loop-i.i (omega (arith, c.len-rows.ensures.len)) _ _ c.loop-i.invariant.arcs c.sort_unstable_by_key.ensures.permutation

pub returns-clause-rising : goal.returns-clause-rising
returns-clause-rising c =
    arcs_rise c.args.table.now c.loop-i.i (omega (arith, c.len-rows.ensures.len)) _ _ c.loop-i.invariant.arcs c.sort_unstable_by_key.ensures.permutation
    c.len-rows.ensures.accepted.distinct
    (c.sort_unstable_by_key.ensures.sorted (λ (arc : LinkOf ℤ). (arc.edge, arc.from, arc.to)) (answers_always _ _ _ (λ f a r g h. search rules)))
