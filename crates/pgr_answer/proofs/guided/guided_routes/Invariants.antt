use Rattle.std.proofs.Common.{◌≡◌, List, ◌++◌, length, take, drop}
use Rattle.std.specs.Prelude.{All, Contains}
use Rattle.pgr_answer.specs.declared.pair.Pair.{Pair}
use Rattle.pgr_answer.specs.Notes.{BreaksEstimate}
use Rattle.pgr_answer.specs.Noting.{AreNotesOf}
use Rattle.pgr_answer.specs.Networks.{id_links, IsRouteBetween}
use Rattle.pgr_answer.specs.Finding.{IsPairAmong, start_cmp, AreFound, RisesBy}
use Rattle.pgr_answer.proofs.guided.guided_routes.Given as goal

abbrev pub invariant-loop-start : goal.invariant-loop-start
invariant-loop-start g l = record {
  -- the pairs that are done, and those that are left, with the starts to come
  done : List Pair;
  order : l.pairs ≡ done ++ l.rest;
  among : All (IsPairAmong (length l.network.names)) l.rest;
  started : All (λ pair. Contains (drop l.start-index l.starts) pair.start) l.rest;
  -- what is found is for those that are done
  found : AreFound (Contains (id_links l.network)) (IsRouteBetween (id_links l.network) l.network.names) l.network.names done l.found.items × RisesBy start_cmp l.found.items;
  -- the notes are those of the starts so far
  notes : AreNotesOf (Contains (id_links l.network)) (BreaksEstimate l.edges l.command.heuristic l.command.factor) l.network.names
      (take l.start-index l.starts) l.notes.items;
  room : l.room ≡ g.G.Graph.count l.network.graph;
}
