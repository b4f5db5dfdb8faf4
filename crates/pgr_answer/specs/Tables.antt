-- The tables that a command asks about, one of each kind: what contents of its files are.
use Rattle.std.specs.Prelude.{ℕ, true, false, List, [], Result, Ok, Err}
use Rattle.pgr_table.specs.Edges.{judged_edges}
use Rattle.pgr_table.specs.Points.{judged_points}
use Rattle.pgr_table.specs.Restrictions.{judged_restrictions}
use Rattle.pgr_table.specs.Pairs.{judged_pairs}
use Rattle.pgr_table.specs.Capacities.{judged_capacities}
use Rattle.pgr_table.specs.declared.fault.TableFault.{TableFault}
use Rattle.pgr_answer.specs.declared.role.Kind.{Kind}
use Rattle.pgr_answer.specs.declared.role.Kind.TheVariants.{Edges, PlacedEdges, Capacities, Points, Restrictions, Combinations}
use Rattle.pgr_answer.specs.declared.tables.Tables.{Tables}

-- no table has a row
abbrev pub no_tables : Tables
no_tables = record { edges = []; points = []; restrictions = []; combinations = []; capacities = [] }

-- a verdict with its rows put among tables
abbrev pub put : {Rows : Type 0} → (Rows → Tables → Tables) → Result Rows TableFault → Result (Tables → Tables) TableFault
put place (Ok rows) = Ok (place rows)
put place (Err fault) = Err fault

-- the verdict on the bytes of a table of this kind: where its rows belong among the tables, or its first fault
abbrev pub judged_as : Kind → List ℕ → Result (Tables → Tables) TableFault
judged_as Edges bytes = put (λ rows tables. record tables { edges = rows }) (judged_edges false bytes)
judged_as Points bytes = put (λ rows tables. record tables { points = rows }) (judged_points bytes)
judged_as Restrictions bytes = put (λ rows tables. record tables { restrictions = rows }) (judged_restrictions bytes)
judged_as Combinations bytes = put (λ rows tables. record tables { combinations = rows }) (judged_pairs bytes)
judged_as PlacedEdges bytes = put (λ rows tables. record tables { edges = rows }) (judged_edges true bytes)
judged_as Capacities bytes = put (λ rows tables. record tables { capacities = rows }) (judged_capacities bytes)
