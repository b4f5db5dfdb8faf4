-- Before the first lead is taken, each vertex is to be a root.
use Rattle.std.proofs.Common.{◌≡◌, None, rules}
use Rattle.std.specs.Prelude.{replicate}
use Rattle.pgr_spans.proofs.Exploring.{nothing_explored}
use Rattle.pgr_spans.proofs.search.Search.of_roots.Goals as goal

pub returns : goal.returns
returns c = λ arrows.
    let numbers : c.in_ok-numbers.numbers.items ≡ replicate c.args.size None = search rules in
    let (size, are) = c.in_ok-leads.ensures in
    nothing_explored c.args.size arrows c.in_ok-numbers.numbers.items c.new.result.items c.in_ok-leads.leads.items numbers c.new.ensures.items size are
