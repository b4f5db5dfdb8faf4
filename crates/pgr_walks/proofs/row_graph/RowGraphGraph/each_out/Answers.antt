use Rattle.std.proofs.Common.{◌≡◌, ◌∙◌, ap, sym, subst}
use Rattle.pgr_walks.specs.Visit.{shown, Admits}
use Rattle.pgr_walks.specs.ListGraph.{links_from}
use Rattle.pgr_walks.proofs.row_graph.RowGraphGraph.each_out.Goals as goal

pub show-requires : goal.show-requires
show-requires g c =
    let V = g.V.LinkVisitor in
    let same : c.part.result.now ≡ links_from c.args.self.now.by_start.items c.args.v = c.part.ensures ∙ ap (λ xs. links_from xs c.args.v) c.deref.ensures.value in
    subst (Admits V.after V.answer V.ready (V.meaning c.args.visitor.now)) (sym same) c.requires.ready

pub returns : goal.returns
returns g c =
    let V = g.V.LinkVisitor in
    let same : c.part.result.now ≡ links_from c.args.self.now.by_start.items c.args.v = c.part.ensures ∙ ap (λ xs. links_from xs c.args.v) c.deref.ensures.value in
    c.show.ensures ∙ ap (shown V.after V.answer (V.meaning c.args.visitor.now)) same
