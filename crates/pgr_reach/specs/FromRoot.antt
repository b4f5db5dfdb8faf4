-- Least walks from a root, and the links that end them; over vertex numbers and over vertex ids.
use Rattle.std.specs.Prelude.{◌≡◌, ◌≢◌}
use Rattle.std.specs.declared.cmp.Ordering.{Ordering}
use Rattle.std.specs.declared.cmp.Ordering.TheVariants.{Less}
use Rattle.pgr_walks.specs.declared.link.LinkOf.{LinkOf}
use Rattle.pgr_walks.specs.declared.label.Label.{Label}
use Rattle.pgr_walks.specs.Link.{entry_cmp}
use Rattle.pgr_walks.specs.Label.{IsLeastLabelFrom, beyond}

-- a link that ends a least walk from the root: the label of its end is that of its start and the link together
pub record IsTightFrom {V : Type 0} (Has : LinkOf V → Type 0) (root : V) (link : LinkOf V) : Type 0 where
  pub before : Label
  pub start : IsLeastLabelFrom Has root link.from before
  pub end : IsLeastLabelFrom Has root link.to (beyond before link)

-- the tree link of a vertex: the least by edge, then cost, then where it begins, of the links of the set that lead to it and end a least walk
pub record IsTreeLink {V : Type 0} (vertex_cmp : V → V → Ordering) (Has : LinkOf V → Type 0) (root v : V) (link : LinkOf V) : Type 0 where
  pub has : Has link
  pub leads : link.to ≡ v
  pub tight : IsTightFrom Has root link
  pub least : (other : LinkOf V) → Has other → other.to ≡ v → IsTightFrom Has root other → entry_cmp vertex_cmp other link ≢ Less
