use Rattle.std.proofs.Common.{◌≡◌, true, arith, rules}
use Rattle.pgr_contract.proofs.tests.contracted.Goals as goal

pub contract-requires-clause-few : goal.contract-requires-clause-few
contract-requires-clause-few g c = λ names are.
    let light : c.are_light.result ≡ true = search rules in
    let few = c.are_light.ensures.few light in
    let twice = c.names_are_few.ensures.twice names are in
    omega (arith, few, twice)
