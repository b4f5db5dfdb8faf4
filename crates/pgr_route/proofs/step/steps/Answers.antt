use Rattle.std.proofs.Common.{◌∙◌, sym, arith, ℕ, pos}
use Rattle.pgr_walks.specs.declared.link.LinkOf.{LinkOf}
use Rattle.pgr_route.proofs.StepLemmas.{steps_all}
use Rattle.pgr_route.proofs.step.steps.Goals as goal

-- a link to read past the end of a list
abbrev no_link : LinkOf ℕ
no_link = record { from = 0; edge = pos 0; cost = 0; to = 0 }

pub returns : goal.returns
returns c =
    let links = c.links-links.result.now in
    let same = c.links-links.ensures.links in
    let whole = steps_all c.args.names.now links c.loop-link.link-index c.loop-link.reached no_link c.loop-link.steps.items
    (λ e. c.requires.links (sym same ∙ e)) (omega arith) c.loop-link.invariant.cost c.loop-link.invariant.steps in
    cc (whole, same, c.in_ok-push-2.ensures, c.last_step.ensures)
