-- The edges of a function with notes have places; a function without them leaves the list as it was.
use Rattle.std.proofs.Common.{sym, ap, subst}
use Rattle.std.specs.Prelude.{OnOk}
use Rattle.pgr_answer.specs.Roles.{kind_of_edges}
use Rattle.pgr_answer.specs.Allowed.{AreNotesFor}
use Rattle.pgr_answer.proofs.FirstRefusals.{not_restricted}
use Rattle.pgr_answer.proofs.answering.allowed_rows.Goals as goal

pub astar_rows-requires-clause-places : goal.astar_rows-requires-clause-places
astar_rows-requires-clause-places c = c.requires.places (ap kind_of_edges c.in-AStar.is)

pub returns-in-AStar-clause-notes : goal.returns-in-AStar-clause-notes
returns-in-AStar-clause-notes c =
    subst (λ f. OnOk c.astar_rows.result (AreNotesFor f c.args.command.now c.args.tables.now c.astar_rows.new.notes.items)) (sym c.in-AStar.is) c.astar_rows.ensures.notes

pub trsp_rows-requires : goal.trsp_rows-requires
trsp_rows-requires c = not_restricted _ c.requires.together
