-- The route order: by cost, then by the number of links, then by the lists of (edge, cost, to) from the first link.
use Rattle.std.specs.Prelude.{◌≡◌, ◌≢◌, List}
use Rattle.std.specs.declared.cmp.Ordering.{Ordering}
use Rattle.std.specs.declared.cmp.Ordering.TheVariants.{Less}
use Rattle.std.specs.Ordering.{nat_cmp, on, then_cmp}
use Rattle.std.specs.Cmp.Lexicographic.{slice_cmp}
use Rattle.pgr_walks.specs.declared.link.LinkOf.{LinkOf}
use Rattle.pgr_walks.specs.Link.{step_cmp}
use Rattle.pgr_walks.specs.Walk.{cost_of, hops_of}

-- how two walks from one vertex compare, where vertices compare so
abbrev pub route_cmp : {V : Type 0} → (V → V → Ordering) → List (LinkOf V) → List (LinkOf V) → Ordering
route_cmp vertex_cmp = then_cmp (on cost_of nat_cmp) (then_cmp (on hops_of nat_cmp) (slice_cmp (step_cmp vertex_cmp)))

-- the one walk comes before the other
abbrev pub Precedes : {V : Type 0} → (V → V → Ordering) → List (LinkOf V) → List (LinkOf V) → Type 0
Precedes vertex_cmp walk other = route_cmp vertex_cmp walk other ≡ Less

-- the walk has the property, and precedes every other that has it
pub record IsLeast {V : Type 0} (vertex_cmp : V → V → Ordering) (Belongs : List (LinkOf V) → Type 0) (walk : List (LinkOf V)) : Type 0 where
  pub belongs : Belongs walk
  pub precedes : (other : List (LinkOf V)) → Belongs other → other ≢ walk → Precedes vertex_cmp walk other
