use Rattle.std.proofs.Common.{◌≡◌, take}
use Rattle.std.specs.Prelude.{Contains}
use Rattle.pgr_answer.specs.Networks.{id_links, IsRouteBetween}
use Rattle.pgr_answer.specs.Answers.{walks_over}
use Rattle.pgr_answer.specs.Finding.{start_cmp, ExtendsInOrder}
use Rattle.pgr_answer.proofs.guided.find_from.Given as goal

-- what is found has more for the pairs so far
abbrev pub invariant-loop-pair : goal.invariant-loop-pair
invariant-loop-pair g l = record {
  found : ExtendsInOrder start_cmp (walks_over (Contains (id_links l.network))) (IsRouteBetween (id_links l.network) l.network.names) l.network.names
      (take l.pair-index l.group) l.initial.found.items l.found.items;
  room : l.room ≡ l.initial.room;
}
