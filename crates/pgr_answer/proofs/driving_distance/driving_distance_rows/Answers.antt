-- The roots with the vertices within the distance are a table over the links of the edges.
use Rattle.std.proofs.Common.{◌∙◌, ap, sym, subst, List, length}
use Rattle.std.specs.Prelude.{All}
use Rattle.pgr_reach.specs.declared.reach.Reach.{Reach}
use Rattle.pgr_reach.specs.Equicost.{listed}
use Rattle.pgr_answer.specs.Rooted.{IsListBelow}
use Rattle.pgr_rows.specs.declared.rows.Rows.TheVariants.{Reaches}
use Rattle.pgr_answer.proofs.ReachesFound.{roots_below, shown_below, reach_table_found}
use Rattle.pgr_answer.specs.Networks.{id_links}
use Rattle.pgr_answer.proofs.NetworkLemmas.{is_network}
use Rattle.pgr_answer.proofs.driving_distance.driving_distance_rows.Goals as goal

pub reaches_of-requires : goal.reaches_of-requires
reaches_of-requires c = record { roots = rw c.as_slice-roots.ensures.value (roots_below _ c.as_slice-starts.result.now _ c.in_ok-roots.ensures.exactly) }

pub rows_of_reaches-requires : goal.rows_of_reaches-requires
rows_of_reaches-requires c =
    let network = is_network c.in_ok-network.network in
    let names = c.in_ok-network.network.names in
    let links = id_links c.in_ok-network.network in
    let left = c.leave_shown.new.reaches.items in
    subst (λ (reaches : List Reach). All (λ (reach : Reach). IsListBelow (length names) (listed reach)) reaches) (sym c.as_slice-shown.ensures.value)
    (shown_below names links network.numbers _ _ network.ends network.numbered network.exactly
    (c.walks_correspond.ensures.named names links network.numbers) (c.walks_correspond.ensures.numbered names links network.numbers)
    (c.costs_and_hops_are_kept.ensures.cost names) (c.costs_and_hops_are_kept.ensures.hops names)
    (c.numbers_rise_with_ids.ensures.order names) (c.numbers_rise_with_ids.ensures.one names)
    c.as_slice-starts.result.now c.args.command.now.distance c.in_ok-roots.roots.items c.in_ok-roots.ensures.exactly c.in_ok-reaches.reaches.items
    (rw c.as_slice-roots.ensures.value at c.in_ok-reaches.ensures.roots) c.in_ok-reaches.ensures.within
    c.args.command.now.equicost left c.in_ok-leave_shown.ensures)

pub returns : goal.returns
returns c =
    let network = is_network c.in_ok-network.network in
    let names = c.in_ok-network.network.names in
    let links = id_links c.in_ok-network.network in
    let rows = rw c.as_slice-shown.ensures.value at c.in_ok-rows.ensures in
    reach_table_found names links network.numbers _ _ network.ends network.numbered network.exactly
    (c.walks_correspond.ensures.named names links network.numbers) (c.walks_correspond.ensures.numbered names links network.numbers)
    (c.costs_and_hops_are_kept.ensures.cost names) (c.costs_and_hops_are_kept.ensures.hops names)
    (c.numbers_rise_with_ids.ensures.order names) (c.numbers_rise_with_ids.ensures.one names)
    c.args.command.now.starts c.args.command.now.distance c.in_ok-roots.roots.items (rw c.as_slice-starts.ensures at c.in_ok-roots.ensures.exactly) c.in_ok-reaches.reaches.items
    (rw c.as_slice-roots.ensures.value at c.in_ok-reaches.ensures.roots) c.in_ok-reaches.ensures.within
    _ c.in_ok-network.ensures.links c.in_ok-roots.ensures.rise
    c.args.command.now.equicost c.leave_shown.new.reaches.items _ c.in_ok-leave_shown.ensures (ap Reaches (c.from_vec.ensures ∙ rows))
