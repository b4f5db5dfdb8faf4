use Rattle.std.proofs.Common.{◌≡◌, take}
use Rattle.std.specs.Prelude.{flat_map}
use Rattle.pgr_outside.specs.Faults.{NoneFell}
use Rattle.pgr_answer.specs.Files.{files_with}
use Rattle.pgr_answer.specs.Reading.{AreRead}
use Rattle.pgr_table.specs.Edges.{HasPlaces}
use Rattle.pgr_answer.specs.declared.role.Kind.TheVariants as kind
use Rattle.pgr_answer.specs.Roles.{roles, kind_of_edges}
use Rattle.pgr_answer.specs.Tables.{no_tables}
use Rattle.pgr_answer.proofs.reading.read_tables.Given as goal

abbrev pub invariant-loop-role : goal.invariant-loop-role
invariant-loop-role g l = record {
  -- the files of the roles so far are read
  read : AreRead (g.S.Store.content l.fn.store) (flat_map (files_with l.command) (take l.role-index roles)) no_tables l.tables;
  content : g.S.Store.content l.store ≡ g.S.Store.content l.fn.store;
  faults : NoneFell (g.S.Store.faults l.fn.store) (g.S.Store.faults l.store);
  -- edges have places, where they are to be read with them
  places : kind_of_edges l.command.function ≡ kind.PlacedEdges → HasPlaces l.tables.edges;
}
