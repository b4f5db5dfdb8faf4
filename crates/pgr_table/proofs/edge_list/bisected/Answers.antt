use Rattle.std.proofs.Common.{◌≡◌, refl, rules, arith, to_z, of_z, w64, Some, slice_get}
use Rattle.std.proofs.lemmas.Int.{ints}
use Rattle.std.proofs.lemmas.List.Sorted.{answers_always}
use Rattle.pgr_table.specs.KeptEdges.{ids_of}
use Rattle.pgr_table.proofs.FindingIds.{bisected-found, bisected-absent, present}
use Rattle.pgr_table.proofs.edge_list.bisected.Goals as goal

found : (c : goal.In-Ok) → slice_get (ids_of c.args.edges.now) c.in-Ok.place ≡ Some c.args.id
found c =
    let same : to_z w64 (of_z w64 c.args.id) ≡ c.args.id = omega (arith, ints) in
    let position = c.in-Ok.ensures.position (λ edge. edge.id) (answers_always _ _ _ (λ f a r g called. search (rules, ints))) in
    bisected-found c.args.edges.now c.args.id c.in-Ok.place c.in-Ok.ensures.bound (rw same at position)

pub returns-in-Ok-clause-found : goal.returns-in-Ok-clause-found
returns-in-Ok-clause-found c = found c

pub returns-in-Ok-clause-absent : goal.returns-in-Ok-clause-absent
returns-in-Ok-clause-absent c = (λ none. cc none, λ others. absurd (present (ids_of c.args.edges.now) c.args.id c.in-Ok.place (found c) others))

pub returns-in-Err-clause-absent : goal.returns-in-Err-clause-absent
returns-in-Err-clause-absent c =
    let same : to_z w64 (of_z w64 c.args.id) ≡ c.args.id = omega (arith, ints) in
    let position = c.in-Err.ensures.position (λ edge. edge.id) (answers_always _ _ _ (λ f a r g called. search (rules, ints))) in
    (λ none. bisected-absent c.args.edges.now c.args.id c.in-Err.field-0 c.requires (rw same at position), λ others. refl)
