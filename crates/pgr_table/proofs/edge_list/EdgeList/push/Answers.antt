use Rattle.std.proofs.Common.{List, [], ◌∷◌, ◌++◌, subst, arith, to_z, of_z, w64, ◌≡◌}
use Rattle.std.specs.Ordering.{int_cmp}
use Rattle.std.proofs.lemmas.Int.{ints}
use Rattle.pgr_outside.specs.Lists.{IsStrictlyRising}
use Rattle.pgr_table.specs.declared.edge_list.PlainEdge.{PlainEdge}
use Rattle.pgr_table.specs.KeptEdges.{ids_of}
use Rattle.pgr_table.proofs.FindingIds.{AreFound-risen}
use Rattle.pgr_table.proofs.edge_list.EdgeList.push.Goals as goal

pub invariant_of-self-then-rises_with : goal.invariant_of-self-then-rises_with
invariant_of-self-then-rises_with c =
    let edges = c.self.inside.edges.items in
    let P : List PlainEdge → Type 0 = λ these. IsStrictlyRising int_cmp (ids_of these ++ c.args.edge.id ∷ []) in
    let same : to_z w64 (of_z w64 c.args.edge.id) ≡ c.args.edge.id = omega (arith, ints) in
    let shown = rw same at c.rises_with.ensures in
    let rises : P edges = subst P c.deref.ensures.value (shown.0 c.if-rises_with.true) in
    AreFound-risen c.self.inside.rising edges c.push.new.self.items c.args.edge c.self.inside.index.keys c.if-not-self.false c.in_ok-push.ensures.items rises
