-- The sum of the costs of the links of a table, and what it allows of restrictions.
use Rattle.std.specs.Prelude.{ℕ, ◌+◌, ◌*◌, ◌&&◌, ◌==◌, Bool, not, List, [], ◌∷◌, length, sum_by, if◌then◌else◌, nat_lt, ℤ, Option, Some, None}
use Rattle.std.specs.Ordering.{int_eq}
use Rattle.pgr_table.specs.declared.row.EdgeRow.{EdgeRow}
use Rattle.pgr_table.specs.declared.fault.TableFault.{TableFault}
use Rattle.pgr_table.specs.declared.fault.TableFault.TheVariants.{CostSum}
use Rattle.pgr_table.specs.Rows.{counted, greatest}

-- the sum of two costs as a set: what is negative counts nothing, and equal ones count once
abbrev pub each_once : ℤ → ℤ → ℕ
each_once cost reverse_cost = if int_eq cost reverse_cost then counted cost else counted cost + counted reverse_cost

-- the sum of the costs of the links that a row gives, each link once: a self loop has the same links both ways
abbrev pub links_cost : Bool → EdgeRow → ℕ
links_cost directed row =
    if int_eq row.source row.target then each_once row.cost row.reverse_cost
    else if directed then counted row.cost + counted row.reverse_cost
    else 2 * each_once row.cost row.reverse_cost

-- the sum of the costs of the links that a table gives
abbrev pub table_cost : Bool → List EdgeRow → ℕ
table_cost directed rows = sum_by (links_cost directed) rows

-- a list that isn't empty, up to and with which all lists have this many elements, takes the sum above 2^63 - 1: an allowed walk may cost
-- the sum once for each element, and once more
abbrev pub is_over : ℕ → ℕ → List ℤ → Bool
is_over total elements list = not (length list == 0) && nat_lt greatest (total * (1 + elements))

-- the fault of the first of these lists that does, where the first list is the record with this number, and this many elements stand before it
abbrev pub first_over : ℕ → ℕ → ℕ → List (List ℤ) → Option TableFault
first_over total number before [] = None
first_over total number before (list ∷ lists) =
    if is_over total (before + length list) list then Some (CostSum number) else first_over total (number + 1) (before + length list) lists

-- the fault of restrictions over a table, if there is one: that of the first record that takes the sum too far
abbrev pub restricted_fault : List EdgeRow → Bool → List (List ℤ) → Option TableFault
restricted_fault rows directed lists = first_over (table_cost directed rows) 2 0 lists
