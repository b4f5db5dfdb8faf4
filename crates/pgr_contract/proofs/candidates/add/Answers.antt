use Rattle.std.proofs.Common.{◌≡◌, ◌∙◌, sym, false, true, rules}
use Rattle.std.proofs.lemmas.Int.{to_z-of_z}
use Rattle.pgr_contract.proofs.CandidateSets.{IsAdded-by, IsAdded-not}
use Rattle.pgr_contract.proofs.candidates.add.Goals as goal

pub returns-in_ok-insert : goal.returns-in_ok-insert
returns-in_ok-insert c =
    let id = c.ranges.id in
    let has = simp to_z-of_z at c.contains.ensures in
    let changed = simp to_z-of_z at c.in_ok-insert.ensures.updates.0 in
    let free : c.contains.result ≡ false = search rules in
    IsAdded-by c.args.barred.now c.args.id c.args.set.now c.insert.new.self changed (sym has ∙ free)

pub returns-else-not-contains : goal.returns-else-not-contains
returns-else-not-contains c =
    let id = c.ranges.id in
    let has = simp to_z-of_z at c.contains.ensures in
    let is : c.contains.result ≡ true = search rules in
    IsAdded-not c.args.barred.now c.args.id c.args.set.now (sym has ∙ is)
