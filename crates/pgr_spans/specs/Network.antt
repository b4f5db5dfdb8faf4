-- Spans by the places of their ends: links, and arrows both ways.
use Rattle.std.specs.Prelude.{◌≡◌, ◌⊎◌, ℕ, List, [], ◌∷◌, All, Contains, ℤ}
use Rattle.std.specs.List.Sorted.{IsNonDecreasingBy}
use Rattle.pgr_walks.specs.declared.link.LinkOf.{LinkOf}
use Rattle.pgr_spans.specs.declared.span.Span.{Span}
use Rattle.pgr_spans.specs.declared.arrow.Arrow.{Arrow}
use Rattle.pgr_spans.specs.Exploring.{HasPlacesBelow}

-- a span as a link from its one end to the other
abbrev pub link_of : Span → LinkOf ℤ
link_of span = record { from = span.a; edge = span.edge; cost = 0; to = span.b }

-- a link from its start to its end, and back
abbrev pub both_ways : LinkOf ℕ → List Arrow
both_ways link = record { from = link.from; to = link.to } ∷ record { from = link.to; to = link.from } ∷ []

-- with each arrow there is the one back
abbrev pub AreBothWays : List Arrow → Type 0
AreBothWays arrows = (v w : ℕ) → Contains arrows (record { from = v; to = w }) → Contains arrows (record { from = w; to = v })

-- the arrows are those of the links, both ways, by where they lead from
pub record AreArrows (size : ℕ) (links : List (LinkOf ℕ)) (arrows : List Arrow) : Type 0 where
  pub sorted : IsNonDecreasingBy (λ arrow. arrow.from) arrows
  pub below : All (HasPlacesBelow size) arrows
  pub back : AreBothWays arrows
  pub along : (link : LinkOf ℕ) → Contains links link → Contains arrows (record { from = link.from; to = link.to })
  pub only : (v w : ℕ) → Contains arrows (record { from = v; to = w })
      → (link : LinkOf ℕ) × Contains links link × (((link.from ≡ v) × (link.to ≡ w)) ⊎ ((link.from ≡ w) × (link.to ≡ v)))
