-- Small tables and their verdicts, computed.
use Rattle.std.proofs.Common.{◌≡◌, ◌^◌, List, ℕ, [], ◌∷◌, ℤ, pos, negsuc, None, Some, Ok, Err, refl, Result, true, false}
use Rattle.std.specs.Prelude.{codes}
use Rattle.pgr_outside.specs.declared.side.Side.TheVariants as side
use Rattle.pgr_table.specs.declared.row.EdgeRow.{EdgeRow}
use Rattle.pgr_table.specs.declared.row.PairRow.{PairRow}
use Rattle.pgr_table.specs.declared.row.CapacityRow.{CapacityRow}
use Rattle.pgr_table.specs.declared.row.PointRow.{PointRow}
use Rattle.pgr_table.specs.declared.column.Column.TheVariants as column
use Rattle.pgr_table.specs.declared.fault.TableFault.{TableFault}
use Rattle.pgr_table.specs.declared.fault.TableFault.TheVariants as fault
use Rattle.pgr_table.specs.Edges.{edge_kind, placed_edge_kind, edge_of}
use Rattle.pgr_table.specs.Capacities.{capacity_kind, capacity_of}
use Rattle.pgr_table.specs.Points.{point_kind, point_of}
use Rattle.pgr_table.specs.Restrictions.{restriction_kind, restriction_of}
use Rattle.pgr_table.specs.Pairs.{pair_kind, pair_of}
use Rattle.pgr_table.specs.Judging.{judged_records, with_rows, record_fault}

-- the verdict on the records of edges, and of combinations
abbrev edges : List (List (List ℕ)) → Result (List EdgeRow) TableFault
edges records = with_rows edge_of (judged_records edge_kind records)

abbrev pairs : List (List (List ℕ)) → Result (List PairRow) TableFault
pairs records = with_rows pair_of (judged_records pair_kind records)

-- two, three, four and five fields
abbrev two : List ℕ → List ℕ → List (List ℕ)
two a b = a ∷ b ∷ []

abbrev three : List ℕ → List ℕ → List ℕ → List (List ℕ)
three a b c = a ∷ b ∷ c ∷ []

abbrev four : List ℕ → List ℕ → List ℕ → List ℕ → List (List ℕ)
four a b c d = a ∷ b ∷ c ∷ d ∷ []

abbrev five : List ℕ → List ℕ → List ℕ → List ℕ → List ℕ → List (List ℕ)
five a b c d e = a ∷ b ∷ c ∷ d ∷ e ∷ []

-- the header with all columns, and the one without `reverse_cost`
abbrev whole : List (List ℕ)
whole = five (codes "id") (codes "source") (codes "target") (codes "cost") (codes "reverse_cost")

abbrev short : List (List ℕ)
short = four (codes "id") (codes "source") (codes "target") (codes "cost")

-- a row without a place
abbrev row : ℕ → ℕ → ℕ → ℤ → ℤ → EdgeRow
row id source target cost reverse_cost = record { id = pos id; source = pos source; target = pos target; cost = cost; reverse_cost = reverse_cost; place = None }

-- no record: no header. A header alone: no rows
no_record : edges [] ≡ Err fault.NoHeader
no_record = refl

header_alone : edges (whole ∷ []) ≡ Ok []
header_alone = refl

-- the columns in their order: the first that is missing, or stands twice
missing : edges (three (codes "id") (codes "source") (codes "cost") ∷ []) ≡ Err (fault.MissingColumn column.Target)
missing = refl

twice : edges (five (codes "id") (codes "source") (codes "target") (codes "cost") (codes "cost") ∷ []) ≡ Err (fault.RepeatedColumn column.Cost)
twice = refl

twice_before_missing : edges (four (codes "id") (codes "id") (codes "source") (codes "cost") ∷ []) ≡ Err (fault.RepeatedColumn column.Id)
twice_before_missing = refl

missing_before_twice : edges (five (codes "source") (codes "target") (codes "cost") (codes "cost") (codes "cost") ∷ []) ≡ Err (fault.MissingColumn column.Id)
missing_before_twice = refl

reverse_cost_twice : edges ((codes "reverse_cost" ∷ codes "reverse_cost" ∷ short) ∷ []) ≡ Err (fault.RepeatedColumn column.ReverseCost)
reverse_cost_twice = refl

-- a name is compared exactly
blank_in_a_name : edges (four (codes "id ") (codes "source") (codes "target") (codes "cost") ∷ []) ≡ Err (fault.MissingColumn column.Id)
blank_in_a_name = refl

-- other columns are ignored, and may stand twice
ignored_twice : edges ((codes "name" ∷ codes "name" ∷ short) ∷ (codes "x" ∷ [] ∷ four (codes "1") (codes "1") (codes "2") (codes "3")) ∷ []) ≡ Ok
    (row 1 1 2 (pos 3) (negsuc 0) ∷ [])
ignored_twice = refl

-- columns in another order, as an export may have them, an empty reverse cost, and whole numbers with zeros
exported : edges (five (codes "reverse_cost") (codes "cost") (codes "target") (codes "source") (codes "id")
    ∷ five [] (codes "3.0") (codes "2") (codes "1") (codes "007")
    ∷ five (codes "0.0") (codes "-12") (codes "3") (codes "2") (codes "8")
    ∷ []) ≡ Ok (row 7 1 2 (pos 3) (negsuc 0) ∷ row 8 2 3 (negsuc 11) (pos 0) ∷ [])
exported = refl

-- without the column, each reverse cost is -1
no_reverse_cost : edges (short ∷ four (codes "1") (codes "1") (codes "2") (codes "3") ∷ []) ≡ Ok (row 1 1 2 (pos 3) (negsuc 0) ∷ [])
no_reverse_cost = refl

-- fewer or more fields than the header, before any of them is judged
too_few : edges (whole ∷ four (codes "x") (codes "1") (codes "2") (codes "3") ∷ []) ≡ Err (fault.UnevenRecord 2)
too_few = refl

too_many : edges (short ∷ five (codes "1") (codes "1") (codes "2") (codes "3") (codes "3") ∷ []) ≡ Err (fault.UnevenRecord 2)
too_many = refl

-- a bad field: an exponent, an empty cost, a negative source
exponent : edges (whole ∷ five (codes "1") (codes "1") (codes "2") (codes "1e3") (codes "-1") ∷ []) ≡ Err (fault.BadField 2 column.Cost)
exponent = refl

empty_cost : edges (whole ∷ five (codes "1") (codes "1") (codes "2") [] (codes "-1") ∷ []) ≡ Err (fault.BadField 2 column.Cost)
empty_cost = refl

negative_source : edges (whole ∷ five (codes "1") (codes "-1") (codes "2") (codes "3") (codes "3") ∷ []) ≡ Err (fault.BadField 2 column.Source)
negative_source = refl

-- of two bad fields the one whose column comes first in the kind, not in the header
first_of_two : edges (five (codes "cost") (codes "reverse_cost") (codes "target") (codes "source") (codes "id")
    ∷ five (codes "x") (codes "x") (codes "2") (codes "x") (codes "1") ∷ []) ≡ Err (fault.BadField 2 column.Source)
first_of_two = refl

-- an id that stood before; a bad field comes before it in the same record, and behind it in a later one
same_id : edges (whole ∷ five (codes "1") (codes "1") (codes "2") (codes "3") (codes "3") ∷ five (codes "01") (codes "2") (codes "3") (codes "4") (codes "4") ∷
    []) ≡ Err (fault.DuplicateId 3)
same_id = refl

same_id_and_bad : edges (whole ∷ five (codes "1") (codes "1") (codes "2") (codes "3") (codes "3") ∷ five (codes "1") (codes "2") (codes "3") (codes "4")
    (codes "x") ∷ []) ≡ Err (fault.BadField 3 column.ReverseCost)
same_id_and_bad = refl

same_id_then_bad : edges (whole ∷ five (codes "1") (codes "1") (codes "2") (codes "3") (codes "3") ∷ five (codes "1") (codes "2") (codes "3") (codes "4")
    (codes "4") ∷ five (codes "x") (codes "2") (codes "3") (codes "4") (codes "4") ∷ []) ≡ Err (fault.DuplicateId 3)
same_id_then_bad = refl

-- the sum at the limit, and one above it, by both columns; what is negative counts nothing
at_the_limit : edges (whole ∷ five (codes "1") (codes "1") (codes "2") (codes "9223372036854775800") (codes "-9") ∷ five (codes "2") (codes "1") (codes "2")
    (codes "3") (codes "4") ∷ [])
    ≡ Ok (row 1 1 2 (pos 9223372036854775800) (negsuc 8) ∷ row 2 1 2 (pos 3) (pos 4) ∷ [])
at_the_limit = refl

one_above : edges (whole ∷ five (codes "1") (codes "1") (codes "2") (codes "9223372036854775800") (codes "-9") ∷ five (codes "2") (codes "1") (codes "2")
    (codes "3") (codes "5") ∷ []) ≡ Err (fault.CostSum 3)
one_above = refl

-- an id that stood before comes before the sum
same_id_above : edges (short ∷ four (codes "1") (codes "1") (codes "2") (codes "9223372036854775807") ∷ four (codes "1") (codes "1") (codes "2") (codes "1") ∷
    []) ≡ Err (fault.DuplicateId 3)
same_id_above = refl

-- combinations: negative names, and a pair twice
pair_twice : pairs (two (codes "target") (codes "source") ∷ two (codes "-2") (codes "1") ∷ two (codes "-2") (codes "1") ∷ [])
    ≡ Ok (record { source = pos 1; target = negsuc 1 } ∷ record { source = pos 1; target = negsuc 1 } ∷ [])
pair_twice = refl

bad_pair : pairs (two (codes "source") (codes "target") ∷ two (codes "1") (codes "2.0") ∷ []) ≡ Err (fault.BadField 2 column.Target)
bad_pair = refl

no_target : pairs ((codes "source" ∷ []) ∷ []) ≡ Err (fault.MissingColumn column.Target)
no_target = refl

-- edges with places: the coordinates come behind the costs in the order of judging
abbrev placed : List (List (List ℕ)) → Result (List EdgeRow) TableFault
placed records = with_rows edge_of (judged_records placed_edge_kind records)

abbrev wide : List (List ℕ)
wide = codes "x1" ∷ codes "y1" ∷ codes "x2" ∷ codes "y2" ∷ short

a_place : placed (wide ∷ (codes "-1" ∷ codes "2.0" ∷ codes "1000000000000000" ∷ codes "-1000000000000000" ∷ four (codes "7") (codes "1") (codes "2") (codes "3")) ∷ [])
    ≡ Ok (record {
      id = pos 7;
      source = pos 1;
      target = pos 2;
      cost = pos 3;
      reverse_cost = negsuc 0;
      place = Some (record { x1 = negsuc 0; y1 = pos 2; x2 = pos (10 ^ 15); y2 = negsuc 999999999999999 });
    } ∷ [])
a_place = refl

a_place_too_far : placed (wide ∷ (codes "1" ∷ codes "1000000000000001" ∷ codes "1" ∷ codes "1" ∷ four (codes "7") (codes "1") (codes "2") (codes "3")) ∷ []) ≡ Err
    (fault.BadField 2 column.Y1)
a_place_too_far = refl

cost_before_place : placed (wide ∷ (codes "x" ∷ codes "1" ∷ codes "1" ∷ codes "1" ∷ four (codes "7") (codes "1") (codes "2") (codes "x")) ∷ []) ≡ Err
    (fault.BadField 2 column.Cost)
cost_before_place = refl

no_places : placed (whole ∷ []) ≡ Err (fault.MissingColumn column.X1)
no_places = refl

-- capacities: the sum has both columns, and rows whose ends are equal
abbrev capacities : List (List (List ℕ)) → Result (List CapacityRow) TableFault
capacities records = with_rows capacity_of (judged_records capacity_kind records)

abbrev both : List (List ℕ)
both = five (codes "id") (codes "source") (codes "target") (codes "capacity") (codes "reverse_capacity")

a_capacity : capacities (both ∷ five (codes "1") (codes "2") (codes "2") (codes "-3") [] ∷ [])
    ≡ Ok (record { id = pos 1; source = pos 2; target = pos 2; capacity = negsuc 2; reverse_capacity = negsuc 0 } ∷ [])
a_capacity = refl

loops_are_summed : capacities (both ∷ five (codes "1") (codes "2") (codes "2") (codes "9223372036854775807") (codes "1") ∷ []) ≡ Err (fault.CostSum 2)
loops_are_summed = refl

a_cost_is_no_capacity : capacities (whole ∷ []) ≡ Err (fault.MissingColumn column.Capacity)
a_cost_is_no_capacity = refl

-- points: ids from 1 on, fractions as they are written, both sides where there is none
abbrev points : List (List (List ℕ)) → Result (List PointRow) TableFault
points records = with_rows point_of (judged_records point_kind records)

abbrev sided : List (List ℕ)
sided = four (codes "pid") (codes "edge_id") (codes "fraction") (codes "side")

two_points : points (sided ∷ four (codes "1") (codes "0") (codes "0.50") (codes "l") ∷ four (codes "2") (codes "0") (codes "2/4") [] ∷ [])
    ≡ Ok (record { pid = pos 1; edge_id = pos 0; over = 50; under = 100; side = side.L }
    ∷ record { pid = pos 2; edge_id = pos 0; over = 2; under = 4; side = side.B } ∷ [])
two_points = refl

no_side : points (three (codes "pid") (codes "edge_id") (codes "fraction") ∷ three (codes "1") (codes "0") (codes "1/2") ∷ [])
    ≡ Ok (record { pid = pos 1; edge_id = pos 0; over = 1; under = 2; side = side.B } ∷ [])
no_side = refl

pid_zero : points (sided ∷ four (codes "0") (codes "1") (codes "0.5") (codes "b") ∷ []) ≡ Err (fault.BadField 2 column.Pid)
pid_zero = refl

no_such_side : points (sided ∷ four (codes "1") (codes "1") (codes "0.5") (codes "B") ∷ []) ≡ Err (fault.BadField 2 column.SideOf)
no_such_side = refl

same_pid : points (sided ∷ four (codes "1") (codes "1") (codes "0.5") (codes "b") ∷ four (codes "1") (codes "2") (codes "0.5") (codes "b") ∷ []) ≡ Err (fault.DuplicateId 3)
same_pid = refl

-- restrictions: empty lists are rows, and lists may stand twice
abbrev restrictions : List (List (List ℕ)) → Result (List (List ℤ)) TableFault
restrictions records = with_rows restriction_of (judged_records restriction_kind records)

four_lists : restrictions ((codes "path" ∷ []) ∷ (codes "{1,-2}" ∷ []) ∷ (codes "{}" ∷ []) ∷ ([] ∷ []) ∷ (codes "{1,-2}" ∷ []) ∷ [])
    ≡ Ok ((pos 1 ∷ negsuc 1 ∷ []) ∷ [] ∷ [] ∷ (pos 1 ∷ negsuc 1 ∷ []) ∷ [])
four_lists = refl

bad_list : restrictions ((codes "path" ∷ []) ∷ (codes "{1}" ∷ []) ∷ (codes "{1, 2}" ∷ []) ∷ []) ≡ Err (fault.BadField 3 column.Path)
bad_list = refl

-- too many elements come behind an id that stood before, and before a sum that is too great
elements_behind_ids : record_fault 7 false true None true false false ≡ Some (fault.DuplicateId 7)
elements_behind_ids = refl

elements_before_the_sum : record_fault 7 false true None false false false ≡ Some (fault.TooManyRows 7)
elements_before_the_sum = refl
