-- Links that are given one at a time, by slots of which some are empty.
use Rattle.std.specs.Prelude.{ℤ, List, Option}
use Rattle.std.specs.List.{flat_map}
use Rattle.std.specs.Option.{option_to_list}
use Rattle.pgr_walks.specs.declared.link.LinkOf.{LinkOf}

-- the links of some slots: those of the slots that have one, in order
abbrev pub links_in : List (Option (LinkOf ℤ)) → List (LinkOf ℤ)
links_in slots = flat_map option_to_list slots
