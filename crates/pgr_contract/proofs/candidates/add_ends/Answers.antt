use Rattle.std.proofs.Common.{◌≡◌, arith, to_z, of_z, w64}
use Rattle.std.proofs.lemmas.Int.{ints}
use Rattle.pgr_contract.proofs.CandidateSets.{AreEndsIn-more}
use Rattle.pgr_contract.proofs.candidates.add_ends.Goals as goal

pub returns : goal.returns
returns c = λ links so_far.
    let from : to_z w64 (of_z w64 c.args.link.now.from) ≡ c.args.link.now.from = omega (arith, ints) in
    let to : to_z w64 (of_z w64 c.args.link.now.to) ≡ c.args.link.now.to = omega (arith, ints) in
    AreEndsIn-more links c.args.link.now c.args.barred.now c.args.set.now c.add.new.set c.add-2.new.set so_far (rw from at c.in_ok-add.ensures) (rw to at c.in_ok-add-2.ensures)
