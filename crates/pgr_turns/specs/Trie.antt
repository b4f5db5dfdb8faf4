-- The fronts of restrictions as nodes of a tree: each is the front before it with one edge id more.
use Rattle.std.specs.Prelude.{◌≡◌, ◌≢◌, ℕ, ℤ, pos, ◌+◌, ◌^◌, ◌<◌, ◌≤◌, List, [], ◌∷◌, Option, Some, None, length, take, reverse, slice_index_or, Bool, true, false, All, Contains, ◌==◌}
use Rattle.std.specs.List.{list_any, sum_by}
use Rattle.std.specs.List.Sorted.{IsNonDecreasingBy}
use Rattle.std.specs.declared.cmp.Ordering.{Ordering}
use Rattle.std.specs.Ordering.{nat_cmp, int_cmp, ordering_then}
use Rattle.pgr_turns.specs.declared.trie.Node.{Node}
use Rattle.pgr_turns.specs.declared.trie.Back.{Back}
use Rattle.pgr_turns.specs.Fronts.{Begins, IsFront, Completes}

-- the order of pairs of a node and an edge id
abbrev pub key_cmp : ℕ × ℤ → ℕ × ℤ → Ordering
key_cmp p q = ordering_then (nat_cmp p.0 q.0) (int_cmp p.1 q.1)

-- the node at a place
abbrev pub node_at : List Node → ℕ → Node
node_at nodes x = slice_index_or nodes x (record { list = 0; len = 0; parent = 0; edge = pos 0 })

-- how many ids the restrictions have
abbrev pub elements : List (List ℤ) → ℕ
elements lists = sum_by length lists

-- a restriction by its place
abbrev pub list_at : List (List ℤ) → ℕ → List ℤ
list_at lists i = slice_index_or lists i []

-- the first ids of a restriction, read backwards
abbrev pub front_of : List (List ℤ) → ℕ → ℕ → List ℤ
front_of lists i len = reverse (take len (list_at lists i))

-- the front of a node
abbrev pub word : List (List ℤ) → List Node → ℕ → List ℤ
word lists nodes x = front_of lists (node_at nodes x).list (node_at nodes x).len

-- the nodes are fronts, each once, and each but the first is a child of another
pub record IsTrie (lists : List (List ℤ)) (nodes : List Node) (child : ℕ → ℤ → Option ℕ) : Type 0 where
  pub some : 0 < length nodes
  pub small : length nodes < 2 ^ 32
  pub root : (node_at nodes 0).len ≡ 0
  pub fronts : (x : ℕ) → x < length nodes → x ≢ 0 → ((node_at nodes x).list < length lists) × ((node_at nodes x).len ≤ length (list_at lists (node_at nodes x).list))
  pub children : (a x : ℕ) (e : ℤ) → child a e ≡ Some x → (a < length nodes) × (x < length nodes) × (word lists nodes x ≡ e ∷ word lists nodes a)
  pub parents : (x : ℕ) → x < length nodes → x ≢ 0 → child (node_at nodes x).parent (node_at nodes x).edge ≡ Some x
  pub one : (x y : ℕ) → x < length nodes → y < length nodes → word lists nodes x ≡ word lists nodes y → x ≡ y

-- some node has the front
abbrev pub HasWord : List (List ℤ) → List Node → List ℤ → Type 0
HasWord lists nodes ids = (x : ℕ) × (x < length nodes) × (word lists nodes x ≡ ids)

-- each front of a restriction up to a length is a node
abbrev pub HasFronts : List (List ℤ) → List Node → ℕ → ℕ → Type 0
HasFronts lists nodes i len = (k : ℕ) → k ≤ len → HasWord lists nodes (front_of lists i k)

-- the nodes of the first so many restrictions, each the front that is the whole of it
pub record AreLasts (lists : List (List ℤ)) (nodes : List Node) (count : ℕ) (lasts : List ℕ) : Type 0 where
  pub size_is : length lasts ≡ count
  pub below : (i : ℕ) → i < count → slice_index_or lasts i 0 < length nodes
  pub words : (i : ℕ) → i < count → word lists nodes (slice_index_or lasts i 0) ≡ reverse (list_at lists i)

-- the nodes stay where they are
pub record Keeps (old new : List Node) : Type 0 where
  pub longer : length old ≤ length new
  pub same : (x : ℕ) → x < length old → node_at new x ≡ node_at old x

-- the longest front, other than the ids themselves, that the ids begin with
pub record IsShorter (lists : List (List ℤ)) (ids other : List ℤ) : Type 0 where
  pub begins : Begins other ids
  pub less : length other < length ids
  pub longest : (front : List ℤ) → IsFront lists front → Begins front ids → length front < length ids → Begins front other

-- what is kept of a node: the node of the longest shorter front, and whether the front completes a restriction
pub record IsBack (lists : List (List ℤ)) (nodes : List Node) (x : ℕ) (back : Back) : Type 0 where
  pub shorter : x ≢ 0 → (back.shorter < length nodes) × IsShorter lists (word lists nodes x) (word lists nodes back.shorter)
  pub done : Completes lists (word lists nodes x) → back.forbids ≡ true
  pub only : back.forbids ≡ true → (Completes lists (word lists nodes x) → ⊥) → ⊥

-- what is kept of a node, by its number
abbrev pub back_at : List Back → ℕ → Back
back_at backs x = slice_index_or backs x (record { shorter = 0; forbids = false })

-- a front with one id more than that of a node is that of a child
abbrev pub IsComplete : List (List ℤ) → List Node → (ℕ → ℤ → Option ℕ) → Type 0
IsComplete lists nodes child = (a : ℕ) (e : ℤ) → a < length nodes → IsFront lists (e ∷ word lists nodes a) → child a e ≡ None → ⊥

-- a mark for each place at which a number of the list stands
abbrev pub AreMarks : List ℕ → List Bool → Type 0
AreMarks lasts marks = (x : ℕ) → slice_index_or marks x false ≡ list_any (λ last. last == x) lasts

-- the nodes that are marked are the restrictions whole
pub record IsMarking (lists : List (List ℤ)) (nodes : List Node) (marks : List Bool) : Type 0 where
  pub size_is : length marks ≡ length nodes
  pub whole : (x : ℕ) (of : List ℤ) → x < length nodes → Contains lists of → word lists nodes x ≡ reverse of → slice_index_or marks x false ≡ true
  pub only : (x : ℕ) → x < length nodes → slice_index_or marks x false ≡ true → (of : List ℤ) × (Contains lists of × (word lists nodes x ≡ reverse of))

-- what is kept is that of each node whose front is shorter than that of the node
abbrev pub AreBacksBefore : List (List ℤ) → List Node → ℕ → List Back → Type 0
AreBacksBefore lists nodes x backs = (y : ℕ) → y < length nodes → (node_at nodes y).len < (node_at nodes x).len → IsBack lists nodes y (back_at backs y)

-- the same of each node whose front is no longer than that of the node
abbrev pub AreBacksUpTo : List (List ℤ) → List Node → ℕ → List Back → Type 0
AreBacksUpTo lists nodes x backs = (y : ℕ) → y < length nodes → (node_at nodes y).len ≤ (node_at nodes x).len → IsBack lists nodes y (back_at backs y)

-- each node with the length of its front, by rising length
pub record AreOrdered (nodes : List Node) (order : List (ℕ × ℕ)) : Type 0 where
  pub nodes_are : All (λ entry. (entry.1 < length nodes) × (entry.0 ≡ (node_at nodes entry.1).len)) order
  pub each : (y : ℕ) → y < length nodes → Contains order ((node_at nodes y).len, y)
  pub in_order : IsNonDecreasingBy (λ entry. entry.0) order

-- every front is a node, and of each node is known what is kept
pub record IsAutomaton (lists : List (List ℤ)) (nodes : List Node) (child : ℕ → ℤ → Option ℕ) (backs : List Back) : Type 0 where
  pub trie : IsTrie lists nodes child
  pub few : length nodes ≤ 1 + elements lists
  pub complete : IsComplete lists nodes child
  pub size_is : length backs ≡ length nodes
  pub backs_are : (x : ℕ) → x < length nodes → IsBack lists nodes x (back_at backs x)
