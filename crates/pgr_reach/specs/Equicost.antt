-- Which rows stay where each vertex is left under its closest root alone; over vertex numbers and over vertex ids.
use Rattle.std.specs.Prelude.{◌≡◌, ◌≢◌, ◌⊎◌, ◌↔◌, ℕ, ◌<◌, List, Bool, true, Contains, map, filter}
use Rattle.std.specs.declared.cmp.Ordering.{Ordering}
use Rattle.std.specs.declared.cmp.Ordering.TheVariants.{Less}
use Rattle.pgr_reach.specs.declared.reach.ReachedOf.{ReachedOf}
use Rattle.pgr_reach.specs.declared.reach.Reach.{Reach}

-- a root with its rows
abbrev pub listed : Reach → ℕ × List (ReachedOf ℕ)
listed reach = (reach.root, reach.rows.items)

-- of some roots with their rows none has the vertex of this row at a lesser cost, and none that is less than this root has it at the same cost
abbrev pub IsClosest : {V : Type 0} → (V → V → Ordering) → List (V × List (ReachedOf V)) → V → ReachedOf V → Type 0
IsClosest {V} vertex_cmp lists root row = (other : V) (rows : List (ReachedOf V)) (there : ReachedOf V) → Contains lists (other, rows) → Contains rows there → there.node ≡ row.node
    → (row.label.cost < there.label.cost) ⊎ ((row.label.cost ≡ there.label.cost) × (vertex_cmp other root ≢ Less))

-- a root with those of its rows that this test keeps
abbrev pub with_kept : {V : Type 0} → (V → ReachedOf V → Bool) → V × List (ReachedOf V) → V × List (ReachedOf V)
with_kept keeps list = (list.0, filter (keeps list.0) list.1)

-- the same roots in the same order, each with exactly those of its rows whose vertex no listed root is closer to, unchanged and in their order
pub record AreClosest {V : Type 0} (vertex_cmp : V → V → Ordering) (old new : List (V × List (ReachedOf V))) : Type 0 where
  pub keeps : V → ReachedOf V → Bool
  pub lists : new ≡ map (with_kept keeps) old
  pub exactly : (root : V) (rows : List (ReachedOf V)) (row : ReachedOf V) → Contains old (root, rows) → Contains rows row
      → (keeps root row ≡ true) ↔ IsClosest vertex_cmp old root row
