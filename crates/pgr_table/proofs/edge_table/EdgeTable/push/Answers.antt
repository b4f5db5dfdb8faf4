use Rattle.std.proofs.Common.{ap, ◌∙◌, List, ◌++◌, ◌∷◌, [], None}
use Rattle.pgr_table.specs.declared.row.EdgeRow.{EdgeRow}
use Rattle.pgr_table.specs.KeptEdges.{edge_row, edge_rows}
use Rattle.pgr_table.proofs.KeptEdges.{edge_rows-push, new-edge_rows}
use Rattle.pgr_table.proofs.EdgeFacts.{AreAccepted-push}
use Rattle.pgr_table.proofs.edge_table.EdgeTable.push.Goals as goal

pub push-requires : goal.push-requires
push-requires c = new-edge_rows c.self.inside.edges c.self.inside.places.items c.args.edge.id (rw (← c.self.view_is) at c.requires.new)

pub invariant_of-self-2 : goal.invariant_of-self-2
invariant_of-self-2 c =
    let edges = c.self.inside.edges in
    let places = c.self.inside.places.items in
    let pushed = edge_rows-push edges places c.args.edge c.push.new.self c.self.invariant.0 c.in_ok-push.ensures.ok in
    let new = rw (← c.self.view_is) at c.requires.new in
    let few = rw (← c.self.view_is) at c.requires.few in
    let sum = rw (← c.self.view_is) at c.requires.sum in
    (pushed.within, rw pushed.rows (AreAccepted-push (edge_rows edges places) (edge_row c.args.edge None) c.self.invariant.1 c.requires.ids tt new few sum))

pub returns-clause-ok : goal.returns-clause-ok
returns-clause-ok c =
    let pushed = edge_rows-push c.self.inside.edges c.self.inside.places.items c.args.edge c.push.new.self c.self.invariant.0 c.in_ok-push.ensures.ok in
    pushed.rows ∙ ap (λ (rows : List EdgeRow). rows ++ edge_row c.args.edge None ∷ []) c.self.view_is
