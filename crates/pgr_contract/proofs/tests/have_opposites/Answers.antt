use Rattle.std.proofs.Common.{◌≡◌, ℤ, true, subst, arith, rules}
use Rattle.std.specs.List.{Contains}
use Rattle.std.proofs.lemmas.List.{take_all}
use Rattle.pgr_walks.specs.declared.link.LinkOf.{LinkOf}
use Rattle.pgr_walks.specs.Reaches.{turned}
use Rattle.pgr_contract.proofs.LinkSorting.{parts_tie}
use Rattle.pgr_contract.proofs.TestLinks.{each_more, found_among}
use Rattle.pgr_contract.proofs.tests.have_opposites.Goals as goal

pub loop-link-preserved : goal.loop-link-preserved
loop-link-preserved c =
    let found : c.contains.result ≡ true = search rules in
    each_more (λ (link : LinkOf ℤ). Contains c.args.links.now (turned link)) c.args.links.now c.loop-link.link-index _ (omega arith) c.loop-link.invariant
    (found_among _ parts_tie c.args.links.now c.opposite_of-opposite.result _ c.contains.result c.contains.ensures.cases found c.opposite_of-opposite.ensures)

pub returns : goal.returns
returns c = λ _ undirected.
    let all = take_all c.loop-link.link-index c.args.links.now (omega arith) in
    subst (λ ls. (link : LinkOf ℤ) → Contains ls link → Contains c.args.links.now (turned link)) all c.loop-link.invariant
