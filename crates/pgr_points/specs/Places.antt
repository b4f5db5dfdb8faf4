-- An order of all points, by edge and along it: also of those with a denominator of 0, which no table has.
use Rattle.std.specs.Prelude.{ℕ, ◌*◌, max}
use Rattle.std.specs.declared.cmp.Ordering.{Ordering}
use Rattle.std.specs.Ordering.{nat_cmp, int_cmp, ordering_then}
use Rattle.pgr_table.specs.declared.row.PointRow.{PointRow}

-- two fractions by value, where a denominator of 0 counts as 1
abbrev pub value_cmp : PointRow → PointRow → Ordering
value_cmp a b = nat_cmp (a.over * max b.under 1) (b.over * max a.under 1)

-- by edge, then by fraction and then by id
abbrev pub place_cmp : PointRow → PointRow → Ordering
place_cmp a b = ordering_then (int_cmp a.edge_id b.edge_id) (ordering_then (value_cmp a b) (int_cmp a.pid b.pid))
