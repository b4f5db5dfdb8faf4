use Rattle.std.proofs.Common.{take}
use Rattle.std.specs.Prelude.{Contains}
use Rattle.pgr_answer.specs.Finding.{Extends}
use Rattle.pgr_answer.specs.Networks.{id_links}
use Rattle.pgr_answer.proofs.found.find_group.Given as goal

-- what is found has more for the pairs so far
abbrev pub invariant-loop-pair : goal.invariant-loop-pair
invariant-loop-pair g l = Extends (Contains (id_links l.network)) (g.K.Kept.shows (id_links l.network) l.network.names) l.network.names
    (take l.pair-index l.group) l.initial.found.items l.found.items
