use Rattle.std.proofs.Common.{◌≡◌, arith, to_z, of_z, w64}
use Rattle.std.proofs.lemmas.Int.{ints}
use Rattle.pgr_turns.proofs.trie.set_child.Goals as goal

pub returns-in-Ok-clause-set : goal.returns-in-Ok-clause-set
returns-in-Ok-clause-set c =
    let e : to_z w64 (of_z w64 c.args.edge) ≡ c.args.edge = omega (arith, ints) in
    rw e at c.in-Ok.ensures.updates.1

pub returns-in-Ok-clause-others : goal.returns-in-Ok-clause-others
returns-in-Ok-clause-others c = λ a f apart.
    let e : to_z w64 (of_z w64 c.args.edge) ≡ c.args.edge = omega (arith, ints) in
    let h = rw e at c.in-Ok.ensures.updates.2 in
    h (a, f) apart
