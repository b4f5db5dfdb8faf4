-- Links that break an estimate.
use Rattle.std.specs.Prelude.{◌≡◌, ◌≢◌, ℕ, ◌+◌, ◌<◌, List, slice_index_or}
use Rattle.std.specs.declared.cmp.Ordering.{Ordering}
use Rattle.std.specs.declared.cmp.Ordering.TheVariants.{Less}
use Rattle.pgr_walks.specs.declared.link.LinkOf.{LinkOf}
use Rattle.pgr_walks.specs.Link.{link_cmp}

-- the estimate of a vertex number
abbrev pub value_at : List ℕ → ℕ → ℕ
value_at values v = slice_index_or values v 0

-- along the link the estimate rises by more than the link costs
abbrev pub Breaks : {V : Type 0} → (V → ℕ) → LinkOf V → Type 0
Breaks values link = values link.from + link.cost < values link.to

-- the first of the links that break what they are to keep, by where they begin, then edge, cost and where they lead
pub record IsFirstBreaking {V : Type 0} (vertex_cmp : V → V → Ordering) (Has Broken : LinkOf V → Type 0) (link : LinkOf V) : Type 0 where
  pub has : Has link
  pub broken : Broken link
  pub first : (other : LinkOf V) → Has other → Broken other → other ≢ link → link_cmp vertex_cmp link other ≡ Less
