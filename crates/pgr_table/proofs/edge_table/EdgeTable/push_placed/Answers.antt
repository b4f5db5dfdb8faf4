use Rattle.std.proofs.Common.{ap, ◌∙◌, ◌≡◌, List, ◌++◌, ◌∷◌, [], Some}
use Rattle.pgr_table.specs.declared.row.EdgeRow.{EdgeRow}
use Rattle.pgr_table.specs.declared.row.Place.{Place}
use Rattle.pgr_table.specs.KeptEdges.{edge_row, edge_rows}
use Rattle.pgr_table.proofs.KeptEdges.{edge_rows-push_placed, new-edge_rows}
use Rattle.pgr_table.proofs.EdgeFacts.{AreAccepted-push}
use Rattle.pgr_table.proofs.edge_table.EdgeTable.push_placed.Goals as goal

pub push-requires-2 : goal.push-requires-2
push-requires-2 c = new-edge_rows c.self.inside.edges c.self.inside.places.items c.args.edge.id (rw (← c.self.view_is) at c.requires.new)

pub invariant_of-self-in-Ok : goal.invariant_of-self-in-Ok
invariant_of-self-in-Ok c =
    let edges = c.self.inside.edges in
    let places = c.self.inside.places.items in
    let row = edge_row c.args.edge (Some c.args.place) in
    let grown : c.push.new.self.items ≡ places ++ c.args.place ∷ [] = c.in_ok-push.ensures.items in
    let placed = rw (← c.self.view_is) at c.requires.placed in
    let new = rw (← c.self.view_is) at c.requires.new in
    let few = rw (← c.self.view_is) at c.requires.few in
    let sum = rw (← c.self.view_is) at c.requires.sum in
    let pushed = edge_rows-push_placed edges places c.args.edge c.push-2.new.self c.args.place c.self.invariant.0 placed c.in-Ok.ensures.ok in
    rw grown (pushed.within, rw pushed.rows (AreAccepted-push (edge_rows edges places) row c.self.invariant.1 c.requires.ids c.requires.place new few sum))

pub returns-in-Ok-clause-ok : goal.returns-in-Ok-clause-ok
returns-in-Ok-clause-ok c =
    let edges = c.self.inside.edges in
    let places = c.self.inside.places.items in
    let grown : c.push.new.self.items ≡ places ++ c.args.place ∷ [] = c.in_ok-push.ensures.items in
    let placed = rw (← c.self.view_is) at c.requires.placed in
    let pushed = edge_rows-push_placed edges places c.args.edge c.push-2.new.self c.args.place c.self.invariant.0 placed c.in-Ok.ensures.ok in
    ap (λ (these : List Place). edge_rows c.push-2.new.self these) grown ∙ pushed.rows
    ∙ ap (λ (rows : List EdgeRow). rows ++ edge_row c.args.edge (Some c.args.place) ∷ []) c.self.view_is
