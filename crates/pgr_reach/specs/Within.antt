-- The vertices within a cost of a root; over vertex numbers and over vertex ids.
use Rattle.std.specs.Prelude.{◌≡◌, ◌≢◌, ◌⊎◌, ℕ, ◌≤◌, negsuc, List, All, Any}
use Rattle.std.specs.declared.cmp.Ordering.{Ordering}
use Rattle.std.specs.Ordering.{nat_cmp, ordering_then}
use Rattle.pgr_outside.specs.Lists.{IsStrictlyRising}
use Rattle.pgr_walks.specs.declared.link.LinkOf.{LinkOf}
use Rattle.pgr_walks.specs.declared.label.Label.{Label}
use Rattle.pgr_reach.specs.declared.reach.ReachedOf.{ReachedOf}
use Rattle.pgr_walks.specs.Label.{IsLeastLabelFrom}
use Rattle.pgr_reach.specs.FromRoot.{IsTreeLink}

-- the row of the root: it has itself, edge -1 and cost 0
pub record IsRootRow {V : Type 0} (root : V) (row : ReachedOf V) : Type 0 where
  pub node : row.node ≡ root
  pub pred : row.pred ≡ root
  pub edge : row.edge ≡ negsuc 0
  pub cost : row.cost ≡ 0

-- the row of another vertex: it has the start, the edge and the cost of its tree link
pub record IsTreeRow {V : Type 0} (vertex_cmp : V → V → Ordering) (Has : LinkOf V → Type 0) (root : V) (row : ReachedOf V) : Type 0 where
  pub node : row.node ≢ root
  pub link : LinkOf V
  pub tree : IsTreeLink vertex_cmp Has root row.node link
  pub pred : row.pred ≡ link.from
  pub edge : row.edge ≡ link.edge
  pub cost : row.cost ≡ link.cost

-- the row of a vertex within the limit: its label is its least from the root, the cost of which is at most the limit
pub record IsRowWithin {V : Type 0} (vertex_cmp : V → V → Ordering) (Has : LinkOf V → Type 0) (root : V) (limit : ℕ) (row : ReachedOf V) : Type 0 where
  pub label : IsLeastLabelFrom Has root row.node row.label
  pub within : row.label.cost ≤ limit
  pub link : IsRootRow root row ⊎ IsTreeRow vertex_cmp Has root row

-- the order of rows: by cost from the root, then by vertex
abbrev pub row_cmp : {V : Type 0} → (V → V → Ordering) → ReachedOf V → ReachedOf V → Ordering
row_cmp vertex_cmp a b = ordering_then (nat_cmp a.label.cost b.label.cost) (vertex_cmp a.node b.node)

-- the rows are those of the vertices within the limit: each is the row of one, each of them has a row, and they rise by cost and then vertex, so no vertex has two
pub record AreWithin {V : Type 0} (vertex_cmp : V → V → Ordering) (Has : LinkOf V → Type 0) (root : V) (limit : ℕ) (rows : List (ReachedOf V)) : Type 0 where
  pub each : All (IsRowWithin vertex_cmp Has root limit) rows
  pub every : (v : V) (label : Label) → IsLeastLabelFrom Has root v label → label.cost ≤ limit → Any (λ row. row.node ≡ v) rows
  pub rise : IsStrictlyRising (row_cmp vertex_cmp) rows
