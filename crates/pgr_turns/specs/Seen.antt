-- What is seen of a graph of states: the graph beneath, the restrictions, and of each state its vertex and its front.
use Rattle.std.specs.Prelude.{ℕ, ℤ, List}
use Rattle.pgr_walks.specs.declared.graph.Graph.{Ghosts}
use Rattle.pgr_turns.specs.declared.turn_graph.TurnGraph.{TurnGraph}
use Rattle.pgr_turns.specs.Trie.{word}
use Rattle.pgr_turns.specs.States.{vertex_of, node_of}

-- the graph beneath
abbrev pub graph_of : {G M : Type 0} {graph : Ghosts G} {states : Ghosts M} → TurnGraph G M graph states → G
graph_of turned = turned.graph.now

-- the restrictions
abbrev pub restrictions_of : {G M : Type 0} {graph : Ghosts G} {states : Ghosts M} → TurnGraph G M graph states → List (List ℤ)
restrictions_of turned = turned.turns.now

-- the vertex of a state, where the meanings are those that the type of the graph beneath gives
abbrev pub vertex_at : {G M : Type 0} (graph : Ghosts G) {states : Ghosts M} → TurnGraph G M graph states → ℕ → ℕ
vertex_at graph turned x = vertex_of (graph.count turned.graph.now) turned.states.items x

-- the front of a state, its last edge first
abbrev pub front_at : {G M : Type 0} (graph : Ghosts G) {states : Ghosts M} → TurnGraph G M graph states → ℕ → List ℤ
front_at graph turned x = word turned.trie.now.lists.items turned.trie.now.nodes.items (node_of (graph.count turned.graph.now) turned.states.items x)
