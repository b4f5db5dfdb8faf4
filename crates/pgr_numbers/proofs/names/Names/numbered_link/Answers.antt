-- The numbers stand for the link's ends.
use Rattle.std.proofs.Common.{◌≡◌, arith, rules, to_z, of_z, w64, Some, slice_get}
use Rattle.std.proofs.lemmas.Int.{ints}
use Rattle.pgr_numbers.proofs.Turning.{named_link}
use Rattle.pgr_numbers.proofs.names.Names.numbered_link.Goals as goal

pub returns-clause-same : goal.returns-clause-same
returns-clause-same c =
    let from : slice_get c.args.self.now c.unwrap.result ≡ Some c.args.link.now.from = search rules in
    let to : slice_get c.args.self.now c.unwrap-2.result ≡ Some c.args.link.now.to = search rules in
    let edge : to_z w64 (of_z w64 c.args.link.now.edge) ≡ c.args.link.now.edge = omega (arith, ints) in
    named_link c.args.self.now c.args.link.now c.unwrap.result c.unwrap-2.result _ from to edge
