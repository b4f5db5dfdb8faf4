-- Where no lead is left, the search is done.
use Rattle.std.proofs.Common.{◌≡◌, [], subst, arith}
use Rattle.std.proofs.lemmas.List.{nil_from_length}
use Rattle.pgr_spans.specs.Exploring.{IsExploring}
use Rattle.pgr_spans.proofs.Exploring.{explored_all}
use Rattle.pgr_spans.proofs.search.depth_first.Goals as goal

pub returns : goal.returns
returns c =
    let search = c.loop-lead.search in
    let empty : search.leads.items ≡ [] = nil_from_length search.leads.items (omega (arith, c.in_default.ensures.cases.0, search.leads.ok.0)) in
    explored_all c.args.size c.args.arrows.now search.numbers.items search.parents.items
    (subst (IsExploring c.args.size c.args.arrows.now search.numbers.items search.parents.items) empty c.loop-lead.invariant)
