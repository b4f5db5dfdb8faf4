use Rattle.std.proofs.Common.{take}
use Rattle.pgr_turns.specs.Seen.{restrictions_of}
use Rattle.pgr_answer.specs.AllowedRoutes.{IsAllowedRoute, allowed_over}
use Rattle.pgr_answer.specs.Finding.{ExtendsBy}
use Rattle.pgr_answer.specs.Networks.{id_links}
use Rattle.pgr_answer.proofs.trsp.allow_group.Given as goal

-- what is found has more for the pairs so far
abbrev pub invariant-loop-pair : goal.invariant-loop-pair
invariant-loop-pair g l = ExtendsBy (allowed_over (id_links l.network) (restrictions_of l.turned))
    (IsAllowedRoute (id_links l.network) (restrictions_of l.turned) l.network.names) l.network.names (take l.pair-index l.group) l.initial.found.items l.found.items
