-- Tight links: those on the least walks to the targets that the labels stand for.
use Rattle.std.specs.Prelude.{◌≡◌, ◌≢◌, ℕ, List, ◌∷◌, Option, Some, Contains}
use Rattle.std.specs.Ordering.{nat_cmp}
use Rattle.std.specs.declared.cmp.Ordering.TheVariants.{Less}
use Rattle.pgr_walks.specs.declared.link.LinkOf.{LinkOf}
use Rattle.pgr_walks.specs.declared.label.Label.{Label}
use Rattle.pgr_walks.specs.Link.{step_cmp}
use Rattle.pgr_walks.specs.Label.{beyond, label_of, LeadsTo}
pub use Rattle.pgr_search.specs.FinalLabels.{label_at}

-- a tight link: both its ends have labels, and where it begins the label is that where it leads, with its cost and one hop more
pub record IsTight (labels : List (Option Label)) (link : LinkOf ℕ) : Type 0 where
  pub here : Label
  pub there : Label
  pub here_is : label_at labels link.from ≡ Some here
  pub there_is : label_at labels link.to ≡ Some there
  pub one_more : here ≡ beyond there link

-- the first of the tight links among these, by edge, then cost, then where they lead
pub record IsLeastTight (links : List (LinkOf ℕ)) (labels : List (Option Label)) (link : LinkOf ℕ) : Type 0 where
  pub among : Contains links link
  pub tight : IsTight labels link
  pub least : (other : LinkOf ℕ) → Contains links other → IsTight labels other → other ≢ link → step_cmp nat_cmp link other ≡ Less

-- a walk that has the label of its vertex begins with a tight link, and what is left of it has the label of where that leads
abbrev pub BeginsTight : (LinkOf ℕ → Type 0) → List ℕ → List (Option Label) → Type 0
BeginsTight Has targets labels = (v : ℕ) (link : LinkOf ℕ) (rest : List (LinkOf ℕ)) → label_at labels v ≡ Some (label_of (link ∷ rest)) → LeadsTo Has targets v (link ∷ rest)
    → IsTight labels link × (label_at labels link.to ≡ Some (label_of rest))
