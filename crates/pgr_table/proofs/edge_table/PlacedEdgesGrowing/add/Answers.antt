use Rattle.std.proofs.Common.{sym, ap, subst, ◌∙◌, arith, ℤ, ◌++◌, ◌∷◌, [], Option, Some, length, ◌≤◌, ◌≡◌, false, refl}
use Rattle.std.specs.Prelude.{IfSome}
use Rattle.std.specs.List.{list_any}
use Rattle.std.specs.Ordering.{int_eq}
use Rattle.std.proofs.lemmas.List.{length-map}
use Rattle.pgr_table.specs.declared.row.EdgeRow.{EdgeRow}
use Rattle.pgr_table.specs.declared.row.Place.{Place}
use Rattle.pgr_table.specs.Rows.{greatest}
use Rattle.pgr_table.specs.Edges.{placed_edge_kind, edge_of, values_of_edge, HasIds, IsPlace, sum_of_costs}
use Rattle.pgr_table.specs.KeptEdges.{edge_row}
use Rattle.pgr_table.proofs.RecordFacts.{IsRow-length}
use Rattle.pgr_table.proofs.Keyed.{is_repeat-rows, values-push}
use Rattle.pgr_table.proofs.EdgeFacts.{HasPlaces-push, makes_placed_edge, placed_edge_values, edge_row-placed, sum_of_costs-push, sum_of_row-placed}
use Rattle.pgr_table.proofs.edge_table.PlacedEdgesGrowing.add.Goals as goal

pub plain_edge-requires : goal.plain_edge-requires
plain_edge-requires c = omega (arith, ap length c.as_slice-values.ensures.value, IsRow-length placed_edge_kind c.args.values.now.items c.requires.row)

pub place-requires : goal.place-requires
place-requires c = omega (arith, ap length c.as_slice-values.ensures.value, IsRow-length placed_edge_kind c.args.values.now.items c.requires.row)

pub push_placed-requires-clause-ids : goal.push_placed-requires-clause-ids
push_placed-requires-clause-ids c =
    let made = edge_row-placed c.args.values.now.items c.as_slice-values.result.now c.plain_edge.result c.place.result c.plain_edge.ensures c.place.ensures
    c.as_slice-values.ensures.value c.requires.row in
    subst HasIds (sym made) (makes_placed_edge c.args.values.now.items c.requires.row).ids

pub push_placed-requires-clause-place : goal.push_placed-requires-clause-place
push_placed-requires-clause-place c =
    let made = edge_row-placed c.args.values.now.items c.as_slice-values.result.now c.plain_edge.result c.place.result c.plain_edge.ensures c.place.ensures
    c.as_slice-values.ensures.value c.requires.row in
    subst (λ (place : Option Place). IfSome place IsPlace) (sym (ap (λ (row : EdgeRow). row.place) made)) (makes_placed_edge c.args.values.now.items c.requires.row).place

pub push_placed-requires-clause-sum : goal.push_placed-requires-clause-sum
push_placed-requires-clause-sum c =
    let made = edge_row-placed c.args.values.now.items c.as_slice-values.result.now c.plain_edge.result c.place.result c.plain_edge.ensures c.place.ensures
    c.as_slice-values.ensures.value c.requires.row in
    let sum = rw (← c.self.view_is) at c.requires.sum in
    let are = (makes_placed_edge c.args.values.now.items c.requires.row).values_are in
    subst (λ (row : EdgeRow). sum_of_costs (c.self.inside.table ++ row ∷ []) ≤ greatest) (sym made)
    (rw (← sum_of_costs-push placed_edge_kind sum_of_row-placed c.self.inside.table c.args.values.now.items are) sum)

pub push_placed-requires-clause-new : goal.push_placed-requires-clause-new
push_placed-requires-clause-new c =
    let made = edge_row-placed c.args.values.now.items c.as_slice-values.result.now c.plain_edge.result c.place.result c.plain_edge.ensures c.place.ensures
    c.as_slice-values.ensures.value c.requires.row in
    let new = rw (← c.self.view_is) at c.requires.new in
    let repeat = is_repeat-rows placed_edge_kind values_of_edge (λ (row : EdgeRow). row.id) placed_edge_values c.self.inside.table c.args.values.now.items
    (edge_of c.args.values.now.items).id (makes_placed_edge c.args.values.now.items c.requires.row).id in
    subst (λ (id : ℤ). list_any (λ (one : EdgeRow). int_eq id one.id) c.self.inside.table ≡ false) (sym (ap (λ (row : EdgeRow). row.id) made)) (sym repeat ∙ new)

pub push_placed-requires-clause-few : goal.push_placed-requires-clause-few
push_placed-requires-clause-few c = rw (← c.self.view_is, length-map c.self.inside.table values_of_edge) at c.requires.few

pub returns-clause-ok : goal.returns-clause-ok
returns-clause-ok c =
    let row = edge_row c.plain_edge.result (Some c.place.result) in
    let made = edge_row-placed c.args.values.now.items c.as_slice-values.result.now c.plain_edge.result c.place.result c.plain_edge.ensures c.place.ensures
    c.as_slice-values.ensures.value c.requires.row in
    rw (← c.self.view_is) (values-push values_of_edge c.self.inside.table c.push_placed.new.self row c.args.values.now.items c.in_ok-push_placed.ensures.ok
    (ap values_of_edge made ∙ (makes_placed_edge c.args.values.now.items c.requires.row).values_are))

pub invariant_of-self-2 : goal.invariant_of-self-2
invariant_of-self-2 c =
    let row = edge_row c.plain_edge.result (Some c.place.result) in
    rw c.in_ok-push_placed.ensures.ok (HasPlaces-push c.self.inside.table row c.place.result c.self.invariant refl)
