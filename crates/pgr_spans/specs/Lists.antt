-- What the three lists of some spans hold: each span with its block, the articulation points, the bridges.
use Rattle.std.specs.Prelude.{◌≡◌, ◌↔◌, List, ℤ, Any, Contains}
use Rattle.std.specs.declared.cmp.Ordering.{Ordering}
use Rattle.std.specs.Ordering.{int_cmp, ordering_then}
use Rattle.pgr_outside.specs.Lists.{IsStrictlyRising}
use Rattle.pgr_spans.specs.declared.span.Span.{Span}
use Rattle.pgr_spans.specs.declared.classed.Classed.{Classed}
use Rattle.pgr_spans.specs.Linked.{IsEndOf}
use Rattle.pgr_spans.specs.Block.{IsBlockName}
use Rattle.pgr_spans.specs.ArticulationPoint.{IsArticulationPoint}
use Rattle.pgr_spans.specs.Bridge.{IsBridge}

-- the edges of the spans rise strictly, so no two spans have one edge
abbrev pub HaveRisingEdges : List Span → Type 0
HaveRisingEdges spans = IsStrictlyRising (λ s t. int_cmp s.edge t.edge) spans

-- exactly the ends of the spans, each once, rising
pub record AreEndsOf (spans : List Span) (ends : List ℤ) : Type 0 where
  pub rise : IsStrictlyRising int_cmp ends
  pub each : (id : ℤ) → Contains ends id ↔ IsEndOf spans id

-- the order of classes: by component, then by edge
abbrev pub classed_cmp : Classed → Classed → Ordering
classed_cmp c d = ordering_then (int_cmp c.component d.component) (int_cmp c.edge d.edge)

-- the edge of one of the spans, with the name of its block
abbrev pub IsClassed : List Span → Classed → Type 0
IsClassed spans classed = (span : Span) × Contains spans span × (classed.edge ≡ span.edge) × IsBlockName spans span classed.component

-- exactly the edges of the spans, each with the name of its block, by component and then by edge; every span has its class
pub record AreClasses (spans : List Span) (classes : List Classed) : Type 0 where
  pub rise : IsStrictlyRising classed_cmp classes
  pub every : (span : Span) → Contains spans span → Any (λ classed. classed.edge ≡ span.edge) classes
  pub each : (classed : Classed) → Contains classes classed ↔ IsClassed spans classed

-- exactly the articulation points, each once, rising
pub record ArePoints (spans : List Span) (points : List ℤ) : Type 0 where
  pub rise : IsStrictlyRising int_cmp points
  pub each : (x : ℤ) → Contains points x ↔ IsArticulationPoint spans x

-- exactly the edges of the bridges, each once, rising
pub record AreBridges (spans : List Span) (bridges : List ℤ) : Type 0 where
  pub rise : IsStrictlyRising int_cmp bridges
  pub each : (edge : ℤ) → Contains bridges edge ↔ ((span : Span) × Contains spans span × (span.edge ≡ edge) × IsBridge spans span)
