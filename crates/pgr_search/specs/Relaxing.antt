-- How labels are lowered along links.
use Rattle.std.specs.Prelude.{ℕ, ◌+◌, ◌<◌, ◌^◌, List, [], ◌∷◌, Option, length, if◌then◌else◌}
use Rattle.std.specs.Borrow.{GName}
use Rattle.std.specs.Option.{is_some}
use Rattle.std.specs.declared.cmp.Ordering.{Ordering}
use Rattle.std.specs.Ordering.{nat_cmp, ordering_then}
use Rattle.pgr_walks.specs.declared.link.LinkOf.{LinkOf}
use Rattle.pgr_walks.specs.declared.label.Label.{Label}
use Rattle.pgr_walks.specs.Label.{beyond}
use Rattle.pgr_search.specs.FinalLabels.{label_at}
use Rattle.pgr_search.specs.Heap.{lowered}

-- the order of labels: by cost, then by hops
abbrev pub label_cmp : Label → Label → Ordering
label_cmp a b = ordering_then (nat_cmp a.cost b.cost) (nat_cmp a.hops b.hops)

-- the labels of waiting vertices after a link was relaxed that leads to a vertex of this label; a settled vertex waits no more
abbrev pub relaxed : List (Option Label) → List (Option Label) → Label → LinkOf ℕ → List (Option Label)
relaxed settled waiting label link = if is_some (label_at settled link.from) then waiting else lowered label_cmp waiting link.from (beyond label link)

-- those labels after each of some links was relaxed that lead to a vertex of this label
abbrev pub all_relaxed : List (Option Label) → List (Option Label) → Label → List (LinkOf ℕ) → List (Option Label)
all_relaxed settled waiting label [] = waiting
all_relaxed settled waiting label (link ∷ links) = all_relaxed settled (relaxed settled waiting label link) label links

-- what a visitor that relaxes links means: the reference that it holds, the labels of settled vertices, those of waiting vertices behind it, and the label of the vertex
-- that the links lead to
pub record Relaxation : Type 0 where
  pub reference : GName
  pub settled : List (Option Label)
  pub waiting : List (Option Label)
  pub label : Label

-- that meaning after a link was relaxed
abbrev pub relaxation_after : Relaxation → LinkOf ℕ → Relaxation
relaxation_after relaxation link = record relaxation { waiting = relaxed relaxation.settled relaxation.waiting relaxation.label link }

-- a link may be relaxed among so many labels: it begins at one of them, and the sums fit
pub record CanRelax (size : ℕ) (label : Label) (link : LinkOf ℕ) : Type 0 where
  pub from_below : link.from < size
  pub cost_fits : label.cost + link.cost < 2 ^ 64
  pub hops_fit : label.hops + 1 < 2 ^ 32

-- a link that the visitor may be shown
pub record IsReady (relaxation : Relaxation) (link : LinkOf ℕ) : Type 0 where
  pub waiting : CanRelax (length relaxation.waiting) relaxation.label link
  pub settled : CanRelax (length relaxation.settled) relaxation.label link
