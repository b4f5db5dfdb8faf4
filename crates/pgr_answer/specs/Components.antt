-- The tables that `pgr_connectedComponents` and `pgr_strongComponents` may answer with: each vertex with the name of its class.
use Rattle.std.specs.Prelude.{◌≡◌, ℕ, ◌+◌, ℤ, List, [], ◌∷◌, All, Any, true, false}
use Rattle.std.specs.declared.cmp.Ordering.{Ordering}
use Rattle.std.specs.Ordering.{int_cmp, ordering_then}
use Rattle.pgr_outside.specs.Lists.{IsStrictlyRising}
use Rattle.pgr_walks.specs.declared.link.LinkOf.{LinkOf}
use Rattle.pgr_walks.specs.Walk.{IsVertex}
use Rattle.pgr_graph.specs.Links.{IsLinkOfTable}
use Rattle.pgr_parts.specs.Classes.{Connected, StronglyConnected, IsClassName}
use Rattle.pgr_rows.specs.declared.rows.PartRow.{PartRow}
use Rattle.pgr_rows.specs.declared.rows.Rows.{Rows}
use Rattle.pgr_rows.specs.declared.rows.Rows.TheVariants.{Parts}
use Rattle.pgr_answer.specs.declared.tables.Tables.{Tables}

-- a vertex and the name of its class
pub record Member : Type 0 where
  pub component : ℤ
  pub node : ℤ

-- the order of members: by class, then by vertex
abbrev pub member_cmp : Member → Member → Ordering
member_cmp a b = ordering_then (int_cmp a.component b.component) (int_cmp a.node b.node)

-- the members of the classes of a set of links: each is a vertex with the name of its class, the least vertex in it; each vertex is one of them;
-- they rise by class and then by vertex, so no vertex stands twice
pub record AreMembers (Has : LinkOf ℤ → Type 0) (InClass : ℤ → ℤ → Type 0) (members : List Member) : Type 0 where
  pub vertices : All (λ m. IsVertex Has m.node) members
  pub named : All (λ m. IsClassName int_cmp InClass m.node m.component) members
  pub every : (v : ℤ) → IsVertex Has v → Any (λ m. m.node ≡ v) members
  pub rise : IsStrictlyRising member_cmp members

-- the rows of members, numbered from n on
abbrev pub part_rows : ℕ → List Member → List PartRow
part_rows n [] = []
part_rows n (m ∷ members) = record { seq = n; component = m.component; node = m.node } ∷ part_rows (n + 1) members

-- a table of the classes of a set of links: a row for each member, numbered from 1
abbrev pub IsPartTable : (LinkOf ℤ → Type 0) → (ℤ → ℤ → Type 0) → Rows → Type 0
IsPartTable Has InClass rows = (members : List Member) × AreMembers Has InClass members × (rows ≡ Parts (part_rows 1 members))

-- the connected classes over the links of the edges in the undirected graph
abbrev pub IsConnectedComponents : Tables → Rows → Type 0
IsConnectedComponents tables = IsPartTable (IsLinkOfTable tables.edges false) (Connected (IsLinkOfTable tables.edges false))

-- the strongly connected classes over the links of the edges in the directed graph
abbrev pub IsStrongComponents : Tables → Rows → Type 0
IsStrongComponents tables = IsPartTable (IsLinkOfTable tables.edges true) (StronglyConnected (IsLinkOfTable tables.edges true))
