use Rattle.std.proofs.Common.{sym, ap, subst, ◌∙◌, arith, ℤ, ◌++◌, ◌∷◌, [], None, length, ◌≤◌, ◌≡◌, false}
use Rattle.std.specs.List.{list_any}
use Rattle.std.specs.Ordering.{int_eq}
use Rattle.std.proofs.lemmas.List.{length-map}
use Rattle.pgr_table.specs.declared.row.EdgeRow.{EdgeRow}
use Rattle.pgr_table.specs.Rows.{greatest}
use Rattle.pgr_table.specs.Edges.{edge_kind, edge_of, values_of_edge, HasIds, sum_of_costs}
use Rattle.pgr_table.specs.KeptEdges.{edge_row}
use Rattle.pgr_table.proofs.RecordFacts.{IsRow-length}
use Rattle.pgr_table.proofs.Keyed.{is_repeat-rows, values-push-ok}
use Rattle.pgr_table.proofs.EdgeFacts.{makes_edge, edge_values, edge_row-plain, sum_of_costs-push, sum_of_row-edge}
use Rattle.pgr_table.proofs.edge_table.EdgeTableGrowing.add.Goals as goal

pub plain_edge-requires : goal.plain_edge-requires
plain_edge-requires c = omega (arith, ap length c.as_slice-values.ensures.value, IsRow-length edge_kind c.args.values.now.items c.requires.row)

pub push-requires-clause-ids : goal.push-requires-clause-ids
push-requires-clause-ids c =
    let made = edge_row-plain c.args.values.now.items c.as_slice-values.result.now c.plain_edge.result c.plain_edge.ensures c.as_slice-values.ensures.value c.requires.row in
    subst HasIds (sym made) (makes_edge c.args.values.now.items c.requires.row).ids

pub push-requires-clause-sum : goal.push-requires-clause-sum
push-requires-clause-sum c =
    let made = edge_row-plain c.args.values.now.items c.as_slice-values.result.now c.plain_edge.result c.plain_edge.ensures c.as_slice-values.ensures.value c.requires.row in
    subst (λ (row : EdgeRow). sum_of_costs (c.args.self.now ++ row ∷ []) ≤ greatest) (sym made)
    (rw (← sum_of_costs-push edge_kind sum_of_row-edge c.args.self.now c.args.values.now.items (makes_edge c.args.values.now.items c.requires.row).values_are) c.requires.sum)

pub push-requires-clause-new : goal.push-requires-clause-new
push-requires-clause-new c =
    let made = edge_row-plain c.args.values.now.items c.as_slice-values.result.now c.plain_edge.result c.plain_edge.ensures c.as_slice-values.ensures.value c.requires.row in
    let repeat = is_repeat-rows edge_kind values_of_edge (λ (row : EdgeRow). row.id) edge_values c.args.self.now c.args.values.now.items
    (edge_of c.args.values.now.items).id (makes_edge c.args.values.now.items c.requires.row).id in
    subst (λ (id : ℤ). list_any (λ (one : EdgeRow). int_eq id one.id) c.args.self.now ≡ false) (sym (ap (λ (row : EdgeRow). row.id) made)) (sym repeat ∙ c.requires.new)

pub push-requires-clause-few : goal.push-requires-clause-few
push-requires-clause-few c = rw (length-map c.args.self.now values_of_edge) at c.requires.few

pub returns-clause-ok : goal.returns-clause-ok
returns-clause-ok c =
    let row = edge_row c.plain_edge.result None in
    let made = edge_row-plain c.args.values.now.items c.as_slice-values.result.now c.plain_edge.result c.plain_edge.ensures c.as_slice-values.ensures.value c.requires.row in
    values-push-ok values_of_edge c.push.result c.args.self.now c.push.new.self row c.args.values.now.items c.push.ensures.ok
    (ap values_of_edge made ∙ (makes_edge c.args.values.now.items c.requires.row).values_are)
