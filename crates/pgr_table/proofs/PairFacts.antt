-- Pairs and their values.
use Rattle.std.proofs.Common.{◌≡◌, List, [], ◌∷◌, refl}
use Rattle.pgr_numerals.specs.Numeral.{i64_of}
use Rattle.pgr_table.specs.declared.field_value.FieldValue.{FieldValue}
use Rattle.pgr_table.specs.Pairs.{pair_kind, pair_of, values_of_pair}
use Rattle.pgr_table.specs.Kept.{IsRow}
use Rattle.pgr_table.proofs.FieldValues.{is-number}

-- two values make a pair, whose values they are
pub makes_pair : (values : List FieldValue) → IsRow pair_kind values → values_of_pair (pair_of values) ≡ values
makes_pair [] h = absurd h
makes_pair (s ∷ []) h = absurd h.1
makes_pair (s ∷ t ∷ []) h = rw (is-number (i64_of h.0.0) s h.0.1, is-number (i64_of h.1.0.0) t h.1.0.1) refl
makes_pair (s ∷ t ∷ v ∷ more) h = absurd h.1.1
