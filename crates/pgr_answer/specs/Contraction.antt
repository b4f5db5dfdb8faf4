-- The tables that `pgr_contraction` may answer with: the vertices and the shortcuts that the run of a contraction leaves, with what they hold.
use Rattle.std.specs.Prelude.{◌≡◌, ◌↔◌, ℤ, Bool, List, [], ◌∷◌, ◌++◌, map, flat_map, Contains}
use Rattle.std.specs.Ordering.{int_cmp}
use Rattle.pgr_walks.specs.declared.link.LinkOf.{LinkOf}
use Rattle.pgr_walks.specs.Link.{link_cmp}
use Rattle.pgr_walks.specs.Graph.{IsStrictlyRising}
use Rattle.pgr_words.specs.declared.command.Command.{Command}
use Rattle.pgr_table.specs.declared.row.EdgeRow.{EdgeRow}
use Rattle.pgr_graph.specs.Links.{IsLinkOfTable}
use Rattle.pgr_contract.specs.declared.contracted.Kept.{Kept}
use Rattle.pgr_contract.specs.declared.contracted.Shortcut.{Shortcut}
use Rattle.pgr_contract.specs.State.{State, first_state}
use Rattle.pgr_contract.specs.Run.{IsRun, times_over}
use Rattle.pgr_contract.specs.Shown.{IsShown}
use Rattle.pgr_rows.specs.declared.rows.ContractRow.{ContractRow}
use Rattle.pgr_rows.specs.declared.rows.ContractRow.TheVariants as row
use Rattle.pgr_rows.specs.declared.rows.Rows.{Rows}
use Rattle.pgr_rows.specs.declared.rows.Rows.TheVariants.{Contractions}
use Rattle.pgr_answer.specs.declared.tables.Tables.{Tables}

-- the links of the edges, each once, in order
pub record AreLinksOf (edges : List EdgeRow) (directed : Bool) (links : List (LinkOf ℤ)) : Type 0 where
  pub exactly : (link : LinkOf ℤ) → Contains links link ↔ IsLinkOfTable edges directed link
  pub rise : IsStrictlyRising (link_cmp int_cmp) links

-- the row of a vertex that is left with what it holds, which has none where it holds nothing
abbrev pub row_of_vertex : ℤ → List ℤ → List ContractRow
row_of_vertex node [] = []
row_of_vertex node (held ∷ more) = row.Vertex node (held ∷ more) ∷ []

-- the row of a vertex that is left, if it holds another
abbrev pub vertex_row : Kept → List ContractRow
vertex_row kept = row_of_vertex kept.node kept.inside

-- the row of a shortcut that is left
abbrev pub shortcut_row : Shortcut → ContractRow
shortcut_row shown = row.Shortcut shown.id shown.inside shown.from shown.to shown.cost

-- the rows of the vertices that hold others, and behind them those of the shortcuts
abbrev pub rows_left : List Kept → List Shortcut → List ContractRow
rows_left vertices shortcuts = flat_map vertex_row vertices ++ map shortcut_row shortcuts

-- over the links of the edges the run of the order, so many times over, ends in a state, and the rows show what it leaves
pub record IsContraction (command : Command) (tables : Tables) (rows : Rows) : Type 0 where
  pub links : List (LinkOf ℤ)
  pub links_are : AreLinksOf tables.edges command.directed links
  pub end : State
  pub run : IsRun command.directed command.forbidden (times_over command.max_cycles command.order) (first_state links) end
  pub vertices : List Kept
  pub shortcuts : List Shortcut
  pub left : List (LinkOf ℤ)
  pub shown : IsShown command.directed end vertices shortcuts left
  pub rows_are : rows ≡ Contractions (rows_left vertices shortcuts)
