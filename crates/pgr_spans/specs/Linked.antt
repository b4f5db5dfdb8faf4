-- Spans that share ends, and lists of spans that lead from one to another or join two vertices.
use Rattle.std.specs.Prelude.{◌≡◌, ◌≢◌, ◌⊎◌, List, [], ◌∷◌, ℤ, Contains}
use Rattle.pgr_spans.specs.declared.span.Span.{Span}

-- the vertex is an end of the span
abbrev pub HasEnd : Span → ℤ → Type 0
HasEnd span v = (v ≡ span.a) ⊎ (v ≡ span.b)

-- a vertex is an end of some of the spans
abbrev pub IsEndOf : List Span → ℤ → Type 0
IsEndOf spans v = (span : Span) × Contains spans span × HasEnd span v

-- both spans have some vertex as an end
abbrev pub ShareAnEnd : Span → Span → Type 0
ShareAnEnd e f = (y : ℤ) × HasEnd e y × HasEnd f y

-- both spans have some vertex other than x as an end
abbrev pub ShareAnEndBeside : ℤ → Span → Span → Type 0
ShareAnEndBeside x e f = (y : ℤ) × (y ≢ x) × HasEnd e y × HasEnd f y

-- the list e ∷ rest ends with f; each of rest is one of the set, and is linked to the one before it
abbrev pub LeadsOn : (Span → Type 0) → (Span → Span → Type 0) → Span → List Span → Span → Type 0
LeadsOn Has Linked e [] f = e ≡ f
LeadsOn Has Linked e (next ∷ rest) f = Has next × Linked e next × LeadsOn Has Linked next rest f

-- a list of spans of the set joins two vertices: each two neighbours share an end, the first span has the one vertex as an end and the last the other
pub record Joins (Has : Span → Type 0) (u v : ℤ) : Type 0 where
  pub first : Span
  pub rest : List Span
  pub last : Span
  pub has : Has first
  pub from : HasEnd first u
  pub leads : LeadsOn Has ShareAnEnd first rest last
  pub to : HasEnd last v
