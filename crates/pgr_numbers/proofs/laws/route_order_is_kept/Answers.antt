use Rattle.std.proofs.lemmas.List.Elements.{recursion_from_All}
use Rattle.pgr_numbers.specs.Names.{IsNumbered}
use Rattle.pgr_numbers.proofs.Order.{route_cmp-named}
use Rattle.pgr_numbers.proofs.laws.route_order_is_kept.Goals as goal

pub returns : goal.returns
returns c = λ names walk other rise walk_ends other_ends.
    route_cmp-named names rise walk other (recursion_from_All (IsNumbered names) walk walk_ends) (recursion_from_All (IsNumbered names) other other_ends)
