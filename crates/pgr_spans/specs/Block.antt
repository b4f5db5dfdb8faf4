-- Blocks: spans that no vertex separates. From Hopcroft and Tarjan 1973, in the form of separation.
use Rattle.std.specs.Prelude.{◌≡◌, ◌⊎◌, List, ℤ, ◌≤ℤ◌, Contains}
use Rattle.pgr_spans.specs.declared.span.Span.{Span}
use Rattle.pgr_spans.specs.Linked.{ShareAnEndBeside, LeadsOn}

-- a list of the spans, each two neighbours of which share an end other than x, leads from the one span to the other
abbrev pub LinkedOutside : List Span → ℤ → Span → Span → Type 0
LinkedOutside spans x e f = (rest : List Span) × LeadsOn (Contains spans) (ShareAnEndBeside x) e rest f

-- two spans are in one block: they are equal, or for every vertex x such a list, which may be another for each x, leads from the one to the other
abbrev pub InOneBlock : List Span → Span → Span → Type 0
InOneBlock spans e f = (e ≡ f) ⊎ ((x : ℤ) → LinkedOutside spans x e f)

-- the name of the block of a span: the least edge id in it
pub record IsBlockName (spans : List Span) (span : Span) (name : ℤ) : Type 0 where
  pub member : (other : Span) × Contains spans other × InOneBlock spans span other × (other.edge ≡ name)
  pub least : (other : Span) → Contains spans other → InOneBlock spans span other → name ≤ℤ other.edge
