-- Articulation points: vertices without which two others are no longer joined.
use Rattle.std.specs.Prelude.{◌≢◌, List, ℤ, Contains}
use Rattle.pgr_spans.specs.declared.span.Span.{Span}
use Rattle.pgr_spans.specs.Linked.{HasEnd, Joins}

-- one of the spans, that lacks the end x
abbrev pub IsSpanWithout : List Span → ℤ → Span → Type 0
IsSpanWithout spans x span = Contains spans span × (HasEnd span x → ⊥)

-- some two different vertices other than x are joined by a list of the spans, and by no list of spans that all lack the end x
abbrev pub IsArticulationPoint : List Span → ℤ → Type 0
IsArticulationPoint spans x =
    (u v : ℤ) × (u ≢ v) × (u ≢ x) × (v ≢ x) × Joins (Contains spans) u v × (Joins (IsSpanWithout spans x) u v → ⊥)
