-- Connected and strong classes of vertices, and the names of classes. Over vertex numbers and vertex ids alike.
use Rattle.std.specs.Prelude.{◌≡◌, ◌≢◌, ℕ, ◌<◌, List, length, slice_index}
use Rattle.std.specs.declared.cmp.Ordering.{Ordering}
use Rattle.std.specs.declared.cmp.Ordering.TheVariants.{Greater}
use Rattle.std.specs.Ordering.{nat_cmp}
use Rattle.pgr_walks.specs.declared.link.LinkOf.{LinkOf}
use Rattle.pgr_walks.specs.Reaches.{Reaches, BothWays}

-- a walk over the links taken both ways leads from u to v
abbrev pub Connected : {V : Type 0} → (LinkOf V → Type 0) → V → V → Type 0
Connected Has u v = Reaches (BothWays Has) u v

-- a walk leads from u to v, and one from v to u
abbrev pub StronglyConnected : {V : Type 0} → (LinkOf V → Type 0) → V → V → Type 0
StronglyConnected Has u v = Reaches Has u v × Reaches Has v u

-- the least vertex of the class of v: it is in the class, and no vertex of the class is less
pub record IsClassName {V : Type 0} (vertex_cmp : V → V → Ordering) (InClass : V → V → Type 0) (v name : V) : Type 0 where
  pub member : InClass v name
  pub least : (u : V) → InClass v u → vertex_cmp name u ≢ Greater

-- for each vertex number below the size the name of its class
pub record AreClassNames (InClass : ℕ → ℕ → Type 0) (size : ℕ) (names : List ℕ) : Type 0 where
  pub size_is : length names ≡ size
  pub each : (v : ℕ) → v < size → IsClassName nat_cmp InClass v (slice_index names v)
