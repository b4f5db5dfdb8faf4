-- The columns of tables by their names.
use Rattle.std.specs.Prelude.{ℕ, List, codes}
use Rattle.pgr_table.specs.declared.column.Column.{Column}
use Rattle.pgr_table.specs.declared.column.Column.TheVariants as column

-- the name of a column, as a header has it
abbrev pub name_of : Column → List ℕ
name_of column.Id = codes "id"
name_of column.Source = codes "source"
name_of column.Target = codes "target"
name_of column.Cost = codes "cost"
name_of column.ReverseCost = codes "reverse_cost"
name_of column.X1 = codes "x1"
name_of column.Y1 = codes "y1"
name_of column.X2 = codes "x2"
name_of column.Y2 = codes "y2"
name_of column.Capacity = codes "capacity"
name_of column.ReverseCapacity = codes "reverse_capacity"
name_of column.Pid = codes "pid"
name_of column.EdgeId = codes "edge_id"
name_of column.Fraction = codes "fraction"
name_of column.SideOf = codes "side"
name_of column.Path = codes "path"
