-- Links and their orders. A link is one direction of an edge, with its ends, its edge and its cost.
use Rattle.std.specs.Prelude.{Bool, ◌&&◌, nat_eq}
use Rattle.std.specs.declared.cmp.Ordering.{Ordering}
use Rattle.std.specs.Ordering.{nat_cmp, int_cmp, int_eq, ordering_then}
use Rattle.pgr_walks.specs.declared.link.LinkOf.{LinkOf}

-- the order of links that begin at one vertex: by edge, then cost, then where they lead
abbrev pub step_cmp : {V : Type 0} → (V → V → Ordering) → LinkOf V → LinkOf V → Ordering
step_cmp vertex_cmp a b = ordering_then (int_cmp a.edge b.edge) (ordering_then (nat_cmp a.cost b.cost) (vertex_cmp a.to b.to))

-- the order of links that lead to one vertex: by edge, then cost, then where they begin
abbrev pub entry_cmp : {V : Type 0} → (V → V → Ordering) → LinkOf V → LinkOf V → Ordering
entry_cmp vertex_cmp a b = ordering_then (int_cmp a.edge b.edge) (ordering_then (nat_cmp a.cost b.cost) (vertex_cmp a.from b.from))

-- the order of all links: by where they begin, then edge, cost and where they lead
abbrev pub link_cmp : {V : Type 0} → (V → V → Ordering) → LinkOf V → LinkOf V → Ordering
link_cmp vertex_cmp a b = ordering_then (vertex_cmp a.from b.from) (step_cmp vertex_cmp a b)

-- whether two links have the same parts
abbrev pub link_eq : {V : Type 0} → (V → V → Bool) → LinkOf V → LinkOf V → Bool
link_eq vertex_eq a b = vertex_eq a.from b.from && (int_eq a.edge b.edge && (nat_eq a.cost b.cost && vertex_eq a.to b.to))

-- the order of arcs: by edge, then where they begin, then where they lead
abbrev pub arc_cmp : {V : Type 0} → (V → V → Ordering) → LinkOf V → LinkOf V → Ordering
arc_cmp vertex_cmp a b = ordering_then (int_cmp a.edge b.edge) (ordering_then (vertex_cmp a.from b.from) (vertex_cmp a.to b.to))
