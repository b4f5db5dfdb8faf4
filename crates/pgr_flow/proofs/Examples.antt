-- Small cases of flows, values and cuts, computed.
use Rattle.std.proofs.Common.{◌≡◌, ℕ, pos, List, [], ◌∷◌, nat_eq, refl}
use Rattle.pgr_walks.specs.declared.link.LinkOf.{LinkOf}
use Rattle.pgr_flow.specs.Flow.{sum_where, HasValue, among}
use Rattle.pgr_flow.specs.Cut.{capacity_of}

abbrev arc : ℕ → ℕ → ℕ → ℕ → LinkOf ℕ
arc edge from to capacity = record { from = from; edge = pos edge; cost = capacity; to = to }

-- five arcs from 1 to 4
abbrev five : List (LinkOf ℕ)
five = arc 1 1 2 1 ∷ arc 2 1 3 1 ∷ arc 3 2 3 1 ∷ arc 4 2 4 1 ∷ arc 5 3 4 1 ∷ []

the_flow_has_value_2 : HasValue five (among nat_eq (1 ∷ [])) (1 ∷ 1 ∷ 0 ∷ 1 ∷ 1 ∷ []) 2
unfolding sum_where
the_flow_has_value_2 = refl

the_cut_of_1_has_capacity_2 : capacity_of (among nat_eq (1 ∷ [])) five ≡ 2
the_cut_of_1_has_capacity_2 = refl

-- a source that stands twice counts once
a_repeated_source_counts_once : HasValue five (among nat_eq (1 ∷ 1 ∷ [])) (1 ∷ 1 ∷ 0 ∷ 1 ∷ 1 ∷ []) 2
unfolding sum_where
a_repeated_source_counts_once = refl

-- an arc between two sources leaves and enters the set, whatever it carries
between_sources_it_cancels : HasValue (arc 1 0 1 2 ∷ arc 2 1 2 1 ∷ []) (among nat_eq (0 ∷ 1 ∷ [])) (2 ∷ 1 ∷ []) 1
unfolding sum_where
between_sources_it_cancels = refl

-- arcs into a set don't count in its capacity
only_what_leads_out_counts : capacity_of (among nat_eq (0 ∷ [])) (arc 1 0 1 2 ∷ arc 1 1 0 3 ∷ []) ≡ 2
only_what_leads_out_counts = refl
