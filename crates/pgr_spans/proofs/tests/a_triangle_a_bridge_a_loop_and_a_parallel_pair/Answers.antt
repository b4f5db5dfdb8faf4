-- The edges are written in order, and the ends are few since the spans are.
use Rattle.std.proofs.Common.{ℕ, pos, List, [], ◌∷◌, refl, lit<}
use Rattle.pgr_spans.specs.declared.span.Span.{Span}
use Rattle.pgr_spans.proofs.TestCases.{rising}
use Rattle.pgr_spans.proofs.tests.a_triangle_a_bridge_a_loop_and_a_parallel_pair.Goals as goal

abbrev span : ℕ → ℕ → ℕ → Span
span edge a b = record { edge = pos edge; a = pos a; b = pos b }

abbrev spans : List Span
spans = span 1 1 2 ∷ span 2 2 3 ∷ span 3 3 1 ∷ span 4 3 4 ∷ span 5 4 4 ∷ span 6 4 5 ∷ span 7 5 4 ∷ []

pub blocks-requires-clause-edges : goal.blocks-requires-clause-edges
blocks-requires-clause-edges g c = rising spans (
  (refl, (refl, (refl, (refl, (refl, (refl, tt)))))),
  ((refl, (refl, (refl, (refl, (refl, tt))))), ((refl, (refl, (refl, (refl, tt)))), ((refl, (refl, (refl, tt))), ((refl, (refl, tt)), ((refl, tt), (tt, tt)))))),
)

pub blocks-requires-clause-few : goal.blocks-requires-clause-few
blocks-requires-clause-few g c = c.ends_are_few.ensures.few (lit< tt)
