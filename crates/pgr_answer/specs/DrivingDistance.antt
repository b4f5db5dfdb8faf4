-- The tables that `pgr_drivingDistance` may answer with.
use Rattle.std.specs.Prelude.{◌≡◌, ◌↔◌, ℕ, ◌+◌, ℤ, List, [], ◌∷◌, Bool, true, false, map, flat_map, Contains}
use Rattle.std.specs.declared.cmp.Ordering.{Ordering}
use Rattle.std.specs.Ordering.{int_cmp}
use Rattle.pgr_outside.specs.Lists.{IsStrictlyRising}
use Rattle.pgr_words.specs.declared.command.Command.{Command}
use Rattle.pgr_walks.specs.declared.link.LinkOf.{LinkOf}
use Rattle.pgr_walks.specs.Walk.{IsVertex}
use Rattle.pgr_graph.specs.Links.{IsLinkOfTable}
use Rattle.pgr_reach.specs.declared.reach.ReachedOf.{ReachedOf}
use Rattle.pgr_reach.specs.Within.{AreWithin}
use Rattle.pgr_reach.specs.Equicost.{AreClosest}
use Rattle.pgr_rows.specs.declared.rows.ReachRow.{ReachRow}
use Rattle.pgr_rows.specs.declared.rows.Rows.{Rows}
use Rattle.pgr_rows.specs.declared.rows.Rows.TheVariants.{Reaches}
use Rattle.pgr_answer.specs.declared.tables.Tables.{Tables}

-- a root with the vertices that are reached from it
abbrev pub Rooted : Type 0 → Type 0
Rooted V = V × List (ReachedOf V)

-- the row of a vertex that is reached from a root; it has the number 0 until the rows of its table are numbered
abbrev pub reach_row : ℤ → ReachedOf ℤ → ReachRow
reach_row root row =
    record { seq = 0; depth = row.label.hops; start_vid = root; pred = row.pred; node = row.node; edge = row.edge; cost = row.cost; agg_cost = row.label.cost }

-- the rows of the vertices that are reached from a root, in their order
abbrev pub reach_rows : Rooted ℤ → List ReachRow
reach_rows list = map (reach_row list.0) list.1

-- rows with the numbers from n on
abbrev pub reaches_from : ℕ → List ReachRow → List ReachRow
reaches_from n [] = []
reaches_from n (row ∷ rows) = record row { seq = n } ∷ reaches_from (n + 1) rows

-- the rows of some roots, one root after the other, numbered over the whole table from 1
abbrev pub reach_table : List (Rooted ℤ) → List ReachRow
reach_table lists = reaches_from 1 (flat_map reach_rows lists)

-- the roots of a table are the starts that are vertices, each once, rising; each has the vertices whose least cost from it is at most the distance
pub record AreReaches (Has : LinkOf ℤ → Type 0) (starts : List ℤ) (distance : ℕ) (lists : List (Rooted ℤ)) : Type 0 where
  pub roots : (id : ℤ) → Contains (map (λ (list : Rooted ℤ). list.0) lists) id ↔ (Contains starts id × IsVertex Has id)
  pub rise : IsStrictlyRising int_cmp (map (λ (list : Rooted ℤ). list.0) lists)
  pub within : (list : Rooted ℤ) → Contains lists list → AreWithin int_cmp Has list.0 distance list.1

-- which of the vertices are shown: where it is asked for, each under its closest root of all these roots alone, and else all of them
abbrev pub AreShown : {V : Type 0} → (V → V → Ordering) → Bool → List (Rooted V) → List (Rooted V) → Type 0
AreShown vertex_cmp true lists shown = AreClosest vertex_cmp lists shown
AreShown vertex_cmp false lists shown = shown ≡ lists

-- a table of the vertices within a distance of some starts
pub record IsReachTable (Has : LinkOf ℤ → Type 0) (starts : List ℤ) (distance : ℕ) (equicost : Bool) (rows : Rows) : Type 0 where
  pub lists : List (Rooted ℤ)
  pub reaches : AreReaches Has starts distance lists
  pub shown : List (Rooted ℤ)
  pub are_shown : AreShown int_cmp equicost lists shown
  pub rows_are : rows ≡ Reaches (reach_table shown)

-- the vertices within the distance of the starts, over the links of the edges
abbrev pub IsDrivingDistance : Command → Tables → Rows → Type 0
IsDrivingDistance command tables = IsReachTable (IsLinkOfTable tables.edges command.directed) command.starts command.distance command.equicost
