-- The rows of labelled vertices, as a search over the graph turned round leaves their labels.
use Rattle.std.specs.Prelude.{◌≡◌, ◌⊎◌, ℕ, ◌<◌, negsuc, List, All, Any, Option, Some, Contains}
use Rattle.std.specs.Ordering.{nat_cmp}
use Rattle.pgr_outside.specs.Lists.{IsStrictlyRising}
use Rattle.pgr_walks.specs.declared.link.LinkOf.{LinkOf}
use Rattle.pgr_walks.specs.declared.label.Label.{Label}
use Rattle.pgr_search.specs.Tight.{label_at, IsTight, IsLeastTight}
use Rattle.pgr_reach.specs.declared.reach.ReachedOf.{ReachedOf}

-- the row has the first tight link of these
pub record HasLeastTight (links : List (LinkOf ℕ)) (labels : List (Option Label)) (row : ReachedOf ℕ) : Type 0 where
  pub link : LinkOf ℕ
  pub from : link.from ≡ row.node
  pub least : IsLeastTight links labels link
  pub pred : row.pred ≡ link.to
  pub edge : row.edge ≡ link.edge
  pub cost : row.cost ≡ link.cost

-- none of these links is tight, and the row has the root, edge -1 and cost 0
pub record HasNoTight (links : List (LinkOf ℕ)) (labels : List (Option Label)) (root : ℕ) (row : ReachedOf ℕ) : Type 0 where
  pub none : (link : LinkOf ℕ) → Contains links link → IsTight labels link → ⊥
  pub pred : row.pred ≡ root
  pub edge : row.edge ≡ negsuc 0
  pub cost : row.cost ≡ 0

-- the row has the first tight link of these, if one is tight
abbrev pub IsLinkRow : List (LinkOf ℕ) → List (Option Label) → ℕ → ReachedOf ℕ → Type 0
IsLinkRow links labels root row = HasLeastTight links labels row ⊎ HasNoTight links labels root row

-- the row is that of a vertex below the bound, with its label and its link
pub record IsLabelRow (outs : ℕ → List (LinkOf ℕ)) (labels : List (Option Label)) (root bound : ℕ) (row : ReachedOf ℕ) : Type 0 where
  pub below : row.node < bound
  pub label : label_at labels row.node ≡ Some row.label
  pub link : IsLinkRow (outs row.node) labels root row

-- the rows of the vertices below the bound that have labels, each once, by rising number
pub record AreRowsBelow (outs : ℕ → List (LinkOf ℕ)) (labels : List (Option Label)) (root bound : ℕ) (rows : List (ReachedOf ℕ)) : Type 0 where
  pub each : All (IsLabelRow outs labels root bound) rows
  pub every : (v : ℕ) (label : Label) → v < bound → label_at labels v ≡ Some label → Any (λ row. row.node ≡ v) rows
  pub rise : IsStrictlyRising (λ a b. nat_cmp a.node b.node) rows
