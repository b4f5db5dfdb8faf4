use Rattle.std.proofs.Common.{drop}
use Rattle.pgr_walks.specs.Visit.{shown}
use Rattle.pgr_walks.proofs.Shows.{IsLeft}
use Rattle.pgr_walks.proofs.showing.show.Given as goal

abbrev pub invariant-loop-link : goal.invariant-loop-link
invariant-loop-link g l =
    let v = g.V.LinkVisitor in
    IsLeft v.after v.answer v.ready (shown v.after v.answer (v.meaning l.initial.visitor) l.links) (v.meaning l.visitor) (drop l.link-index l.links)
