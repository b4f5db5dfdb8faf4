-- Tables of combinations: their kind and their rows.
use Rattle.std.specs.Prelude.{ℕ, List, [], ◌∷◌, Result}
use Rattle.pgr_table.specs.declared.row.PairRow.{PairRow}
use Rattle.pgr_table.specs.declared.column.Column.TheVariants as column
use Rattle.pgr_table.specs.declared.kind.Grammar.TheVariants as grammar
use Rattle.pgr_table.specs.declared.kind.Check.TheVariants as check
use Rattle.pgr_table.specs.declared.kind.Rule.{Rule}
use Rattle.pgr_table.specs.declared.fault.TableFault.{TableFault}
use Rattle.pgr_table.specs.Kinds.{required}
use Rattle.pgr_table.specs.Values.{number_at}
use Rattle.pgr_table.specs.declared.field_value.FieldValue.{FieldValue}
use Rattle.pgr_table.specs.declared.field_value.FieldValue.TheVariants.{Number}
use Rattle.pgr_table.specs.Judging.{judged, with_rows}

-- the columns, in the order of judging: pairs of ids, which may stand twice
abbrev pub pair_kind : List Rule
pair_kind =
    required column.Source grammar.Integer check.Free
    ∷ required column.Target grammar.Integer check.Free
    ∷ []

-- the pair with these values
abbrev pub pair_of : List FieldValue → PairRow
pair_of values = record { source = number_at values 0; target = number_at values 1 }

-- the values of a pair
abbrev pub values_of_pair : PairRow → List FieldValue
values_of_pair row = Number row.source ∷ Number row.target ∷ []

-- the verdict on the bytes of a table of combinations
abbrev pub judged_pairs : List ℕ → Result (List PairRow) TableFault
judged_pairs bytes = with_rows pair_of (judged pair_kind bytes)
