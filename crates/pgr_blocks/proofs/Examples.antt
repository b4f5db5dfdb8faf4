-- Small cases of the spans of rows, computed.
use Rattle.std.proofs.Common.{pos, negsuc, refl, [], ◌∷◌, inl, inr, arith}
use Rattle.std.specs.Prelude.{None}
use Rattle.std.proofs.lemmas.Int.{ints}
use Rattle.pgr_table.specs.declared.row.EdgeRow.{EdgeRow}
use Rattle.pgr_blocks.specs.Spans.{HasDirection, IsSpanOfTable}

-- a row that leads back alone, and one that leads neither way
abbrev back_alone : EdgeRow
back_alone = record { id = pos 5; source = pos 1; target = pos 2; cost = negsuc 0; reverse_cost = pos 0; place = None }

abbrev neither_way : EdgeRow
neither_way = record { id = pos 6; source = pos 3; target = pos 4; cost = negsuc 0; reverse_cost = negsuc 4; place = None }

-- a row that leads back alone is a span, from its source to its target
a_row_that_leads_back_is_a_span : IsSpanOfTable (back_alone ∷ neither_way ∷ []) (record { edge = pos 5; a = pos 1; b = pos 2 })
a_row_that_leads_back_is_a_span = (0, back_alone, omega arith, refl, (inr (omega (arith, ints)), refl))

-- a row that leads neither way is none
a_row_that_leads_neither_way_is_none : HasDirection neither_way → ⊥
a_row_that_leads_neither_way_is_none (inl cost) = omega (arith, ints, cost)
a_row_that_leads_neither_way_is_none (inr reverse_cost) = omega (arith, ints, reverse_cost)
