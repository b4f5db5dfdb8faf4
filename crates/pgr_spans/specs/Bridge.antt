-- Bridges: spans without which their ends are no longer joined.
use Rattle.std.specs.Prelude.{◌≢◌, List, Contains}
use Rattle.pgr_spans.specs.declared.span.Span.{Span}
use Rattle.pgr_spans.specs.Linked.{Joins}

-- one of the spans, and not this one
abbrev pub IsOtherSpan : List Span → Span → Span → Type 0
IsOtherSpan spans span other = Contains spans other × (other ≢ span)

-- the ends of the span differ, and no list of other spans joins them
abbrev pub IsBridge : List Span → Span → Type 0
IsBridge spans span = (span.a ≢ span.b) × (Joins (IsOtherSpan spans span) span.a span.b → ⊥)
