use Rattle.std.proofs.Common.{◌≡◌, ◌∙◌, ap, sym, subst}
use Rattle.pgr_walks.specs.Visit.{shown, Admits}
use Rattle.pgr_walks.specs.ListGraph.{links_into}
use Rattle.pgr_walks.proofs.row_graph.RowGraphGraph.each_in.Goals as goal

pub show-requires : goal.show-requires
show-requires g c =
    let V = g.V.LinkVisitor in
    let same : c.part.result.now ≡ links_into c.args.self.now.by_end.items c.args.v = c.part.ensures ∙ ap (λ xs. links_into xs c.args.v) c.deref.ensures.value in
    subst (Admits V.after V.answer V.ready (V.meaning c.args.visitor.now)) (sym same) c.requires.ready

pub returns : goal.returns
returns g c =
    let V = g.V.LinkVisitor in
    let same : c.part.result.now ≡ links_into c.args.self.now.by_end.items c.args.v = c.part.ensures ∙ ap (λ xs. links_into xs c.args.v) c.deref.ensures.value in
    c.show.ensures ∙ ap (shown V.after V.answer (V.meaning c.args.visitor.now)) same
