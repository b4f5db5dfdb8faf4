-- What is left of a vertex's links when one looks through them, in order, for a tight one.
use Rattle.std.specs.Prelude.{ℕ, ◌+◌, Bool, false, ◌&&◌, ◌==◌, cond, List, Option, Some, None, length, ◌<◌}
use Rattle.pgr_walks.specs.declared.link.LinkOf.{LinkOf}
use Rattle.pgr_walks.specs.declared.label.Label.{Label}
use Rattle.pgr_walks.specs.declared.visitor.Next.{Next}
use Rattle.pgr_walks.specs.declared.visitor.Next.TheVariants.{Go, Stop}
use Rattle.pgr_search.specs.Tight.{label_at}

-- the label of the vertex, the labels of all, and the tight link that was found
pub record Seeking : Type 0 where
  pub here : Label
  pub labels : List (Option Label)
  pub found : Option (LinkOf ℕ)

-- whether a label is that of where a link leads, with its cost and one hop more
abbrev pub is_beyond : Label → Label → LinkOf ℕ → Bool
is_beyond here there link = (there.cost + link.cost == here.cost) && (there.hops + 1 == here.hops)

-- whether a link from a vertex with this label is tight
abbrev pub is_tight : Label → List (Option Label) → LinkOf ℕ → Bool
is_tight here labels link = elim (label_at labels link.to) [ None ↦ false | Some there ↦ is_beyond here there link ]

-- a tight link is found
abbrev pub seek : Seeking → LinkOf ℕ → Seeking
seek seeking link = record { here = seeking.here; labels = seeking.labels; found = cond (is_tight seeking.here seeking.labels link) (Some link) seeking.found }

-- the search is over at a tight link
abbrev pub seek_on : Seeking → LinkOf ℕ → Next
seek_on seeking link = cond (is_tight seeking.here seeking.labels link) Stop Go

-- there is a label, or its absence, to be read where the link leads
abbrev pub MayBeSought : Seeking → LinkOf ℕ → Type 0
MayBeSought seeking link = link.to < length seeking.labels
