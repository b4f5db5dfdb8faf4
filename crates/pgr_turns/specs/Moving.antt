-- The links of states, from the links of the graph beneath.
use Rattle.std.specs.Prelude.{◌≡◌, ℕ, ℤ, ◌+◌, ◌<◌, List, ◌∷◌, Contains, length}
use Rattle.pgr_walks.specs.declared.link.LinkOf.{LinkOf}
use Rattle.pgr_turns.specs.declared.state.State.{State}
use Rattle.pgr_turns.specs.declared.trie.Node.{Node}
use Rattle.pgr_turns.specs.Fronts.{Completes, IsLongest}
use Rattle.pgr_turns.specs.Trie.{word}
use Rattle.pgr_turns.specs.Turned.{beneath}
use Rattle.pgr_turns.specs.States.{node_of, vertex_of}

-- a link of the state x that is the link beneath
pub record MovesTo (count : ℕ) (states : List State) (x : ℕ) (link moved : LinkOf ℕ) : Type 0 where
  pub from : moved.from ≡ x
  pub is : beneath (vertex_of count states) moved ≡ link

-- a link of states: beneath it is a link of the graph, which completes no restriction, and the front at its end is the longest
pub record IsMoved (count : ℕ) (outs : ℕ → List (LinkOf ℕ)) (lists : List (List ℤ)) (nodes : List Node) (states : List State) (moved : LinkOf ℕ) : Type 0 where
  pub from_below : moved.from < count + length states
  pub to_below : moved.to < count + length states
  pub passes : Contains (outs (vertex_of count states moved.from)) (beneath (vertex_of count states) moved)
  pub free : Completes lists (moved.edge ∷ word lists nodes (node_of count states moved.from)) → ⊥
  pub longest : IsLongest lists (moved.edge ∷ word lists nodes (node_of count states moved.from)) (word lists nodes (node_of count states moved.to))

-- each link beneath out of the state x that completes no restriction is that of a link of x
abbrev pub MovesAll : ℕ → (ℕ → List (LinkOf ℕ)) → List (List ℤ) → List Node → List State → ℕ → List (LinkOf ℕ) → Type 0
MovesAll count outs lists nodes states x links = (link : LinkOf ℕ) → Contains (outs (vertex_of count states x)) link
    → (Completes lists (link.edge ∷ word lists nodes (node_of count states x)) → ⊥) → (moved : LinkOf ℕ) × (Contains links moved × MovesTo count states x link moved)
