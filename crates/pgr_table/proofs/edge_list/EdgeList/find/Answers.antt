use Rattle.std.proofs.Common.{◌≡◌, ◌≢◌, ◌↔◌, All, IsNone, List, [], ◌∷◌, ◌++◌, refl, subst, ◌∙◌, arith, to_z, of_z, w64, rules}
use Rattle.std.proofs.lemmas.Int.{ints}
use Rattle.std.specs.Ordering.{int_cmp}
use Rattle.pgr_outside.specs.Lists.{IsStrictlyRising}
use Rattle.pgr_table.specs.declared.edge_list.PlainEdge.{PlainEdge}
use Rattle.pgr_table.specs.KeptEdges.{ids_of}
use Rattle.pgr_table.proofs.FindingIds.{absent-rising, position-found, position-absent}
use Rattle.pgr_table.proofs.edge_list.EdgeList.find.Goals as goal

pub returns-then-not-self-clause-found : goal.returns-then-not-self-clause-found
returns-then-not-self-clause-found c =
    let same : to_z w64 (of_z w64 c.args.id) ≡ c.args.id = omega (arith, ints) in
    let indexed : c.self.inside.index.keys ≡ ids_of c.args.self.now = search rules in
    position-found c.args.id c.self.inside.index.keys (ids_of c.args.self.now) c.get_index_of.result indexed (rw same at c.get_index_of.ensures.index)

pub returns-then-not-self-clause-absent : goal.returns-then-not-self-clause-absent
returns-then-not-self-clause-absent c =
    let same : to_z w64 (of_z w64 c.args.id) ≡ c.args.id = omega (arith, ints) in
    let indexed : c.self.inside.index.keys ≡ ids_of c.args.self.now = search rules in
    position-absent c.args.id c.self.inside.index.keys (ids_of c.args.self.now) c.get_index_of.result indexed (rw same at c.get_index_of.ensures.found)

pub returns-then-rises_with-clause-absent : goal.returns-then-rises_with-clause-absent
returns-then-rises_with-clause-absent c =
    let P : List PlainEdge → Type 0 = λ edges. IsStrictlyRising int_cmp (ids_of edges ++ c.args.id ∷ []) in
    let same : to_z w64 (of_z w64 c.args.id) ≡ c.args.id = omega (arith, ints) in
    let shown = rw same at c.rises_with.ensures in
    let rises : P c.args.self.now = subst P (c.deref.ensures.value ∙ c.self.view_is) (shown.0 c.if-rises_with.true) in
    (λ none. absent-rising (ids_of c.args.self.now) c.args.id rises, λ others. refl)

pub returns-clause-absent : goal.returns-clause-absent
returns-clause-absent c =
    let same : to_z w64 (of_z w64 c.args.id) ≡ c.args.id = omega (arith, ints) in
    let P : List PlainEdge → Type 0 = λ edges. IsNone c.bisected.result ↔ All (λ other. other ≢ c.args.id) (ids_of edges) in
    subst P (c.deref-2.ensures.value ∙ c.self.view_is) (rw same at c.bisected.ensures.absent)
