use Rattle.std.proofs.Common.{◌≡◌, rules, arith, to_z, of_z, w64}
use Rattle.std.proofs.lemmas.Int.{ints}
use Rattle.std.proofs.lemmas.Grind.{common_steps}
use Rattle.pgr_turns.proofs.trie.child.Goals as goal

pub returns : goal.returns
returns c =
    let e : to_z w64 (of_z w64 c.args.edge) ≡ c.args.edge = omega (arith, ints) in
    let h = rw e at c.get.ensures.value in
    first_of (search rules, cc, grind (arith, common_steps))
