-- From the network to the three lists, step by step.
use Rattle.std.proofs.Common.{◌<◌, ℕ, length, get_or, map, None, sym, subst, ap, ◌∙◌, IsSome}
use Rattle.std.specs.List.{All, flat_map}
use Rattle.std.specs.List.Sorted.{IsPermutation}
use Rattle.pgr_spans.specs.Network.{AreBothWays}
use Rattle.pgr_spans.specs.Member.{classed_of, bridge_of, corners_of, ArePointsAt}
use Rattle.pgr_spans.specs.Seen.{AreSeen}
use Rattle.pgr_spans.proofs.Composing.{all_numbered, composed, composed_below, corners_inside, classes_are, points_are, bridges_are}
use Rattle.pgr_spans.proofs.answer.blocks.Goals as goal

pub depth_first-requires-clause-back : goal.depth_first-requires-clause-back
depth_first-requires-clause-back c =
    subst AreBothWays (sym c.as_slice.ensures.value) c.in_ok-network.ensures.arrows.back

pub segments_of-requires-clause-numbered : goal.segments_of-requires-clause-numbered
segments_of-requires-clause-numbered c =
    let search = c.in_ok-search.search in
    subst (λ ns. (v : ℕ) → v < length ns → IsSome (get_or ns v None)) (sym c.as_slice-3.ensures.value)
    (all_numbered c.len.result c.as_slice.result.now search.numbers.items search.parents.items c.in_ok-search.ensures)

pub members_of-requires-clause-below : goal.members_of-requires-clause-below
members_of-requires-clause-below c =
    let network = c.in_ok-network.network in
    let search = c.in_ok-search.search in
    composed_below network.names _ network.links.items c.as_slice-2.result.now c.as_slice.result.now search.numbers.items c.as_slice-3.result.now search.parents.items
    c.as_slice-4.result.now c.in_ok-segments.segments.items c.as_slice-5.result.now c.len.result
    c.in_ok-network.ensures.links c.in_ok-search.ensures c.in_ok-segments.ensures c.len.ensures.len c.as_slice-2.ensures.value c.as_slice-3.ensures.value
    c.as_slice-4.ensures.value c.as_slice-5.ensures.value

pub gather-requires : goal.gather-requires
gather-requires c =
    let network = c.in_ok-network.network in
    let search = c.in_ok-search.search in
    let are = composed c.args.spans.now network.names network.links.items c.as_slice-2.result.now network.arrows.items c.as_slice.result.now search.numbers.items
    c.as_slice-3.result.now search.parents.items c.as_slice-4.result.now c.in_ok-segments.segments.items c.as_slice-5.result.now c.in_ok-members.members.items c.len.result
    c.in_ok-network.ensures.links c.in_ok-network.ensures.arrows c.in_ok-search.ensures c.in_ok-segments.ensures c.in_ok-members.ensures c.len.ensures.len
    c.as_slice.ensures.value c.as_slice-2.ensures.value c.as_slice-3.ensures.value c.as_slice-4.ensures.value c.as_slice-5.ensures.value in
    let corners = c.as_slice-7.result.now in
    let is = c.as_slice-7.ensures.value ∙ (c.in_ok-corners.ensures ∙ ap (flat_map corners_of) c.as_slice-6.ensures.value) in
    let inside = corners_inside c.args.spans.now c.requires.edges network.names network.links.items network.arrows.items search.numbers.items search.parents.items are.numbered
    are.both are.search c.in_ok-members.members.items are.are corners is in
    subst (λ n. All (λ entry. entry.key < n) corners) (sym c.len-2.ensures.len) inside

pub returns-clause-classes : goal.returns-clause-classes
returns-clause-classes c =
    let network = c.in_ok-network.network in
    let search = c.in_ok-search.search in
    let are = composed c.args.spans.now network.names network.links.items c.as_slice-2.result.now network.arrows.items c.as_slice.result.now search.numbers.items
    c.as_slice-3.result.now search.parents.items c.as_slice-4.result.now c.in_ok-segments.segments.items c.as_slice-5.result.now c.in_ok-members.members.items c.len.result
    c.in_ok-network.ensures.links c.in_ok-network.ensures.arrows c.in_ok-search.ensures c.in_ok-segments.ensures c.in_ok-members.ensures c.len.ensures.len
    c.as_slice.ensures.value c.as_slice-2.ensures.value c.as_slice-3.ensures.value c.as_slice-4.ensures.value c.as_slice-5.ensures.value in
    let moved = subst (λ ms. IsPermutation (map classed_of ms) c.in_ok-classes.classes.items) c.as_slice-8.ensures.value c.in_ok-classes.ensures.moved in
    classes_are c.args.spans.now c.requires.edges network.names network.links.items network.arrows.items search.numbers.items search.parents.items are.numbered are.both are.search
    c.in_ok-members.members.items are.are c.in_ok-classes.classes.items moved c.in_ok-classes.ensures.sorted

pub returns-clause-points : goal.returns-clause-points
returns-clause-points c =
    let network = c.in_ok-network.network in
    let search = c.in_ok-search.search in
    let are = composed c.args.spans.now network.names network.links.items c.as_slice-2.result.now network.arrows.items c.as_slice.result.now search.numbers.items
    c.as_slice-3.result.now search.parents.items c.as_slice-4.result.now c.in_ok-segments.segments.items c.as_slice-5.result.now c.in_ok-members.members.items c.len.result
    c.in_ok-network.ensures.links c.in_ok-network.ensures.arrows c.in_ok-search.ensures c.in_ok-segments.ensures c.in_ok-members.ensures c.len.ensures.len
    c.as_slice.ensures.value c.as_slice-2.ensures.value c.as_slice-3.ensures.value c.as_slice-4.ensures.value c.as_slice-5.ensures.value in
    let corners = c.as_slice-7.result.now in
    let is = c.as_slice-7.ensures.value ∙ (c.in_ok-corners.ensures ∙ ap (flat_map corners_of) c.as_slice-6.ensures.value) in
    let seen = subst (λ n. AreSeen n corners c.in_ok-found.found.items) c.len-2.ensures.len c.in_ok-found.ensures in
    let at_places = subst (λ found. ArePointsAt network.names found c.in_ok-points.points.items) c.as_slice-9.ensures.value c.in_ok-points.ensures in
    points_are c.args.spans.now c.requires.edges network.names network.links.items network.arrows.items search.numbers.items search.parents.items are.numbered are.both are.search
    c.in_ok-members.members.items are.are corners c.in_ok-found.found.items c.in_ok-points.points.items is seen at_places

pub returns-clause-bridges : goal.returns-clause-bridges
returns-clause-bridges c =
    let network = c.in_ok-network.network in
    let search = c.in_ok-search.search in
    let are = composed c.args.spans.now network.names network.links.items c.as_slice-2.result.now network.arrows.items c.as_slice.result.now search.numbers.items
    c.as_slice-3.result.now search.parents.items c.as_slice-4.result.now c.in_ok-segments.segments.items c.as_slice-5.result.now c.in_ok-members.members.items c.len.result
    c.in_ok-network.ensures.links c.in_ok-network.ensures.arrows c.in_ok-search.ensures c.in_ok-segments.ensures c.in_ok-members.ensures c.len.ensures.len
    c.as_slice.ensures.value c.as_slice-2.ensures.value c.as_slice-3.ensures.value c.as_slice-4.ensures.value c.as_slice-5.ensures.value in
    let is = c.in_ok-bridges.ensures ∙ ap (flat_map bridge_of) c.as_slice-10.ensures.value in
    bridges_are c.args.spans.now c.requires.edges network.names network.links.items network.arrows.items search.numbers.items search.parents.items are.numbered are.both are.search
    c.in_ok-members.members.items are.are c.in_ok-bridges.bridges.items is
