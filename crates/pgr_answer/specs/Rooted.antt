-- Roots with the vertices that are reached from them, by number, as those by id.
use Rattle.std.specs.Prelude.{ℕ, ◌<◌, ℤ, List, map, Contains}
use Rattle.pgr_numbers.specs.Names.{id_at}
use Rattle.pgr_reach.specs.declared.reach.ReachedOf.{ReachedOf}
use Rattle.pgr_answer.specs.DrivingDistance.{Rooted}

-- the row of a vertex number as that of the id that it stands for
abbrev pub named_row : List ℤ → ReachedOf ℕ → ReachedOf ℤ
named_row names row = record { node = id_at names row.node; label = row.label; pred = id_at names row.pred; edge = row.edge; cost = row.cost }

-- a root with its rows by ids
abbrev pub named_list : List ℤ → Rooted ℕ → Rooted ℤ
named_list names list = (id_at names list.0, map (named_row names) list.1)

-- the vertices of a row are numbers below this one
abbrev pub IsRowBelow : ℕ → ReachedOf ℕ → Type 0
IsRowBelow size row = (row.node < size) × (row.pred < size)

-- and those of a root with its rows
abbrev pub IsListBelow : ℕ → Rooted ℕ → Type 0
IsListBelow size list = (list.0 < size) × ((row : ReachedOf ℕ) → Contains list.1 row → IsRowBelow size row)
