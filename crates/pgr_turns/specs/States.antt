-- States: a vertex with a front that isn't empty, where a link with the last id of the front leads.
use Rattle.std.specs.Prelude.{◌≡◌, ◌≢◌, ℕ, ℤ, ◌-◌, ◌<◌, ◌==◌, zero, suc, nat_lt, ◌||◌, ◌++◌, map, filter, List, [], false, All, Contains, slice_index_or, if◌then◌else◌}
use Rattle.std.specs.declared.cmp.Ordering.{Ordering}
use Rattle.std.specs.Ordering.{nat_cmp, int_cmp, ordering_then, ordering_index}
use Rattle.std.specs.List.Sorted.{IsNonDecreasingBy}
use Rattle.pgr_walks.specs.declared.link.LinkOf.{LinkOf}
use Rattle.pgr_walks.specs.Graph.{IsStrictlyRising}
use Rattle.pgr_turns.specs.declared.state.State.{State}
use Rattle.pgr_turns.specs.declared.state.Head.{Head}
use Rattle.pgr_turns.specs.declared.trie.Node.{Node}
use Rattle.pgr_turns.specs.declared.trie.Back.{Back}
use Rattle.pgr_turns.specs.Trie.{node_at, back_at}

-- the order of states: by node, then by vertex
abbrev pub state_cmp : State → State → Ordering
state_cmp a b = ordering_then (nat_cmp a.node b.node) (nat_cmp a.vertex b.vertex)

-- the order of heads: by edge, then by vertex
abbrev pub head_cmp : Head → Head → Ordering
head_cmp a b = ordering_then (int_cmp a.edge b.edge) (nat_cmp a.vertex b.vertex)

-- a link with the edge leads to the vertex
abbrev pub IsHead : (LinkOf ℕ → Type 0) → ℤ → ℕ → Type 0
IsHead Has edge v = (link : LinkOf ℕ) × (Has link × (link.edge ≡ edge) × (link.to ≡ v))

-- an edge id and where a link of it leads
abbrev pub head_of : LinkOf ℕ → Head
head_of link = record { edge = link.edge; vertex = link.to }

-- how the edge of a head compares with an edge
abbrev pub edge_index : ℤ → Head → ℕ
edge_index edge head = ordering_index (int_cmp head.edge edge)

-- the heads of all links, by their edges
pub record AreHeads (Has : LinkOf ℕ → Type 0) (heads : List Head) : Type 0 where
  pub edges_rise : (edge : ℤ) → IsNonDecreasingBy (edge_index edge) heads
  pub are : (head : Head) → Contains heads head → IsHead Has head.edge head.vertex
  pub each : (link : LinkOf ℕ) → Has link → Contains heads (head_of link)

-- the states of the nodes below a number: of each node that completes no restriction one at each head of its last edge
pub record AreStates (Has : LinkOf ℕ → Type 0) (nodes : List Node) (backs : List Back) (below : ℕ) (states : List State) : Type 0 where
  pub nodes_are : All (λ state. (0 < state.node) × (state.node < below)) states
  pub heads_are : All (λ state. IsHead Has (node_at nodes state.node).edge state.vertex) states
  pub live : All (λ state. (back_at backs state.node).forbids ≡ false) states
  pub rise : IsStrictlyRising state_cmp states
  pub each : (x v : ℕ) → x < below → x ≢ 0 → (back_at backs x).forbids ≡ false → IsHead Has (node_at nodes x).edge v → Contains states (record { node = x; vertex = v })

-- the heads with an edge
abbrev pub run_heads : ℤ → List Head → List Head
run_heads edge heads = filter (λ head. edge_index edge head == 1) heads

-- the state of a node at a head
abbrev pub with_node : ℕ → Head → State
with_node x head = record { node = x; vertex = head.vertex }

-- the states of a node: none for the root and for a node that completes a restriction, else one at each head of its last edge
abbrev pub states_with : List Node → List Back → List Head → ℕ → List State
states_with nodes backs heads x = if x == 0 || (back_at backs x).forbids then [] else map (with_node x) (run_heads (node_at nodes x).edge heads)

-- the states of all nodes below a number, node by node
abbrev pub states_below : List Node → List Back → List Head → ℕ → List State
states_below nodes backs heads zero = []
states_below nodes backs heads (suc x) = states_below nodes backs heads x ++ states_with nodes backs heads x

-- a state by its number: the vertices come first, with no front, and then the states with one
abbrev pub state_at : ℕ → List State → ℕ → State
state_at count states x = if nat_lt x count then record { node = 0; vertex = x } else slice_index_or states (x - count) (record { node = 0; vertex = 0 })

-- the node of a state by its number
abbrev pub node_of : ℕ → List State → ℕ → ℕ
node_of count states x = (state_at count states x).node

-- the vertex of a state by its number
abbrev pub vertex_of : ℕ → List State → ℕ → ℕ
vertex_of count states x = (state_at count states x).vertex
