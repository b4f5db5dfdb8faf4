-- Pairs of vertices: which are asked for, and which can be answered.
use Rattle.std.specs.Prelude.{◌≢◌, ◌⊎◌, List, Contains, ℤ}
use Rattle.pgr_table.specs.declared.row.PairRow.{PairRow}
use Rattle.pgr_walks.specs.declared.link.LinkOf.{LinkOf}
use Rattle.pgr_walks.specs.Walk.{IsVertex}

-- a pair that lists of starts and ends and rows of combinations ask for: its vertices stand in the two lists, or it is one of the rows
abbrev pub IsAsked : List ℤ → List ℤ → List PairRow → ℤ → ℤ → Type 0
IsAsked starts ends combinations start end = (Contains starts start × Contains ends end) ⊎ Contains combinations (record { source = start; target = end })

-- a pair that a matrix over some vertices asks for: two of them that differ
abbrev pub IsAskedOfMatrix : List ℤ → ℤ → ℤ → Type 0
IsAskedOfMatrix vids start end = Contains vids start × Contains vids end × (start ≢ end)

-- a pair that can be answered over a set of links: both are vertices, and they differ
pub record IsAnswerable (Has : LinkOf ℤ → Type 0) (start end : ℤ) : Type 0 where
  pub start_is_vertex : IsVertex Has start
  pub end_is_vertex : IsVertex Has end
  pub differ : start ≢ end
