-- The first link by numbers that breaks the estimate is the first by ids, and 0 is consistent.
use Rattle.std.proofs.Common.{ℕ, pos, length, ap, sym, ◌∙◌, inl, inr, refl, rules, w64}
use Rattle.std.specs.Prelude.{Contains}
use Rattle.std.proofs.lemmas.Int.{to_z-of_z}
use Rattle.std.proofs.lemmas.List.{length-replicate}
use Rattle.std.proofs.lemmas.List.Elements.{Contains-get_or}
use mir.Val.{SFits}
use Rattle.pgr_numbers.specs.Names.{id_at}
use Rattle.pgr_astar.specs.Breaking.{value_at}
use Rattle.pgr_answer.proofs.ClassTables.{links_named}
use Rattle.pgr_answer.proofs.EstimatesById.{links_order, first_by_ids, none_by_ids, zero_at, zero_consistent}
use Rattle.pgr_answer.specs.Networks.{id_links}
use Rattle.pgr_answer.proofs.NetworkLemmas.{is_network}
use Rattle.pgr_answer.proofs.astar.trusted_estimate.Goals as goal

pub make-requires-clause-start : goal.make-requires-clause-start
make-requires-clause-start g c =
    let fits : SFits w64 c.name-id.result = search rules in
    simp to_z-of_z (rw c.name-id.ensures.id (Contains-get_or c.args.network.now.names c.args.start (pos 0) c.requires.start))

pub first_inconsistent-requires : goal.first_inconsistent-requires
first_inconsistent-requires g c = c.in_ok-estimate.ensures.size ∙ sym c.args.network.now.size_is

pub named_link-link-requires : goal.named_link-link-requires
named_link-link-requires g c =
    let network = is_network c.args.network.now in
    let links = id_links c.args.network.now in
    let stand = links_named c.args.network.now.names links network.numbers _ _ (Contains links) network.numbered network.exactly (λ link. (λ h. h, λ h. h)) in
    record { numbered = stand.ends c.in-Some.link c.in-Some.ensures.first.has }

pub returns-in_default-clause-noted : goal.returns-in_default-clause-noted
returns-in_default-clause-noted g c =
    let network = is_network c.args.network.now in
    let names = c.args.network.now.names in
    let links = id_links c.args.network.now in
    let fits : SFits w64 c.name-id.result = search rules in
    let estimates = rw c.name-id.ensures.id at (simp to_z-of_z at c.in_ok-estimate.ensures.estimates) in
    let stand = links_named names links network.numbers _ _ (Contains links) network.numbered network.exactly (λ link. (λ h. h, λ h. h)) in
    inr (
      none_by_ids c.args.edges.now c.args.command.now.heuristic c.args.command.now.factor (id_at names c.args.start) names (value_at c.in_ok-estimate.estimate)
          estimates _ _ stand c.in_default.ensures.none,
      refl,
    )

pub returns-in_default-clause-size : goal.returns-in_default-clause-size
returns-in_default-clause-size g c = c.in_ok-estimate.ensures.size ∙ sym c.args.network.now.size_is

pub returns-in_default-clause-consistent : goal.returns-in_default-clause-consistent
returns-in_default-clause-consistent g c = c.in_default.ensures.none

pub returns-in_default-clause-zero : goal.returns-in_default-clause-zero
returns-in_default-clause-zero g c =
    let fits : SFits w64 c.name-id.result = search rules in
    let zero = simp to_z-of_z at c.in_ok-estimate.ensures.zero in
    zero c.args.start c.requires.start (sym c.name-id.ensures.id)

pub returns-clause-noted : goal.returns-clause-noted
returns-clause-noted g c =
    let network = is_network c.args.network.now in
    let names = c.args.network.now.names in
    let links = id_links c.args.network.now in
    let fits : SFits w64 c.name-id.result = search rules in
    let from : SFits w64 c.named_link-link.result.from = search rules in
    let edge : SFits w64 c.named_link-link.result.edge = search rules in
    let to : SFits w64 c.named_link-link.result.to = search rules in
    let estimates = rw c.name-id.ensures.id at (simp to_z-of_z at c.in_ok-estimate.ensures.estimates) in
    let stand = links_named names links network.numbers _ _ (Contains links) network.numbered network.exactly (λ link. (λ h. h, λ h. h)) in
    let order = links_order names (λ m n. c.numbers_rise_with_ids.ensures.order names m n network.ends.rise) in
    let first = first_by_ids c.args.edges.now c.args.command.now.heuristic c.args.command.now.factor (id_at names c.args.start) names (value_at c.in_ok-estimate.estimate)
    estimates _ _ stand order c.in-Some.link c.in-Some.ensures.first in
    let pushed = simp to_z-of_z at c.in_ok-push.ensures.items in
    inl (_, first, (rw (c.name-id.ensures.id, c.named_link-link.ensures) at pushed))

pub returns-clause-size : goal.returns-clause-size
returns-clause-size g c = ap length c.in_ok-zero.ensures ∙ length-replicate {A = ℕ} c.len.result 0 ∙ c.len.ensures.len ∙ sym c.args.network.now.size_is

pub returns-clause-consistent : goal.returns-clause-consistent
returns-clause-consistent g c = zero_consistent _ _ _ c.in_ok-zero.ensures

pub returns-clause-zero : goal.returns-clause-zero
returns-clause-zero g c = zero_at _ _ c.args.start c.in_ok-zero.ensures
