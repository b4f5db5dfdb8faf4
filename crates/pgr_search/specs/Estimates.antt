-- Estimates of what a walk costs up to a vertex.
use Rattle.std.specs.Prelude.{◌≡◌, ℕ, ◌+◌, ◌≤◌, List, Option, Some}
use Rattle.pgr_walks.specs.declared.link.LinkOf.{LinkOf}
use Rattle.pgr_walks.specs.declared.label.Label.{Label}
use Rattle.pgr_walks.specs.Label.{AtMost}
use Rattle.pgr_search.specs.FinalLabels.{label_at}

-- a consistent estimate: along each link of the set it rises by at most what the link costs
abbrev pub IsConsistent : (LinkOf ℕ → Type 0) → (ℕ → ℕ) → Type 0
IsConsistent Has values = (link : LinkOf ℕ) → Has link → values link.to ≤ values link.from + link.cost

-- a label, with the estimate of its vertex added to its cost
abbrev pub keyed : (ℕ → ℕ) → ℕ → Label → Label
keyed values v label = record { cost = label.cost + values v; hops = label.hops }

-- no vertex is labelled beyond the start: by cost and estimate together, and then by hops, each label is at most that of the start, where it has one
abbrev pub NoneBeyond : (ℕ → ℕ) → List (Option Label) → ℕ → Type 0
NoneBeyond values labels start = (v : ℕ) (label own : Label) → label_at labels v ≡ Some label → label_at labels start ≡ Some own
    → AtMost (keyed values v label) (keyed values start own)
