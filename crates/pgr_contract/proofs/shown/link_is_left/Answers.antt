use Rattle.std.proofs.Common.{◌≡◌, ◌∙◌, sym, to_z, of_z, w64, arith}
use Rattle.std.proofs.lemmas.Int.{ints}
use Rattle.pgr_contract.proofs.ShownLists.{both_left, one_gone}
use Rattle.pgr_contract.proofs.shown.link_is_left.Goals as goal

pub returns-then-is_left : goal.returns-then-is_left
returns-then-is_left c =
    let link = c.args.link.now in
    let from : to_z w64 (of_z w64 link.from) ≡ link.from = omega (arith, ints) in
    let to : to_z w64 (of_z w64 link.to) ≡ link.to = omega (arith, ints) in
    let first = rw from at c.is_left.ensures in
    let second = rw to at c.is_left-then-is_left.ensures in
    second ∙ sym (both_left c.args.rests.now link.from link.to (sym first ∙ c.if-is_left.true))

pub returns-else-is_left : goal.returns-else-is_left
returns-else-is_left c =
    let link = c.args.link.now in
    let from : to_z w64 (of_z w64 link.from) ≡ link.from = omega (arith, ints) in
    let first = rw from at c.is_left.ensures in
    c.if-is_left.false ∙ sym (one_gone c.args.rests.now link.from link.to (sym first ∙ c.if-is_left.false))
