use Rattle.std.proofs.Common.{◌≡◌, map, take}
use Rattle.pgr_turns.specs.States.{vertex_of}
use Rattle.pgr_turns.specs.Turned.{beneath}
use Rattle.pgr_turns.proofs.allowed.route_beneath.Given as goal

-- the links beneath those so far
abbrev pub invariant-loop-link : goal.invariant-loop-link
invariant-loop-link g l = l.links.items ≡ map (beneath (vertex_of (g.G.Graph.count l.turned.graph.now) l.turned.states.items)) (take l.link-index l.link-items)
