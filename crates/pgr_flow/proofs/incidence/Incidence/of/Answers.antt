use Rattle.std.proofs.Common.{sym, subst, rules, List}
use Rattle.std.specs.List.Sorted.{IsNonDecreasingBy}
use Rattle.std.proofs.lemmas.List.Sorted.{IsNonDecreasingBy-from_sort_by_key}
use Rattle.pgr_flow.specs.declared.incidence.Incident.{Incident}
use Rattle.pgr_flow.specs.Incidence.{AreBeginnings}
use Rattle.pgr_flow.proofs.Beginnings.{permuted_ends, holds_incidence}
use Rattle.pgr_flow.proofs.incidence.Incidence.of.Goals as goal

pub beginnings-requires : goal.beginnings-requires
beginnings-requires c =
    subst (IsNonDecreasingBy (λ (i : Incident). i.vertex)) (sym c.deref.ensures.value)
    (IsNonDecreasingBy-from_sort_by_key (λ (i : Incident). i.vertex) _ c.sort_unstable_by_key.ensures.sorted (λ a r q k. search rules))

pub returns : goal.returns
returns c =
    let list = c.sort_unstable_by_key.new.self.items in
    holds_incidence c.args.size c.args.arcs.now list c.in_ok-starts.starts.items c.requires
    (permuted_ends c.args.arcs.now _ c.in_ok-list.list.items list c.sort_unstable_by_key.ensures.permutation c.in_ok-list.ensures)
    (subst (λ (xs : List Incident). AreBeginnings c.args.size xs c.in_ok-starts.starts.items) c.deref.ensures.value c.in_ok-starts.ensures)
