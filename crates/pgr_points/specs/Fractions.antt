-- How points stand along an edge: by their fractions, compared by value, and at one place by their ids.
use Rattle.std.specs.Prelude.{ℕ, ◌*◌}
use Rattle.std.specs.declared.cmp.Ordering.{Ordering}
use Rattle.std.specs.Ordering.{nat_cmp, int_cmp, ordering_then}
use Rattle.pgr_table.specs.declared.row.PointRow.{PointRow}

-- two fractions by value: over / under is compared by products across
abbrev pub fraction_cmp : PointRow → PointRow → Ordering
fraction_cmp a b = nat_cmp (a.over * b.under) (b.over * a.under)

-- the order along an edge, from its source: by rising fraction, and equal fractions by rising id
abbrev pub along_cmp : PointRow → PointRow → Ordering
along_cmp a b = ordering_then (fraction_cmp a b) (int_cmp a.pid b.pid)
