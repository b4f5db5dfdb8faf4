use Rattle.std.proofs.Common.{◌≡◌, ◌≢◌, ◌∙◌, sym, ap, inl, refl, Some, None, [], ◌∷◌, arith, to_z, of_z, w64}
use Rattle.std.proofs.lemmas.Int.{ints}
use Rattle.pgr_contract.specs.Ways.{way_at, lowered, at_pair}
use Rattle.pgr_contract.proofs.WayChanges.{noted_is, one_between, loop_is}
use Rattle.pgr_contract.proofs.WayEvents.{lowered-like}
use Rattle.pgr_contract.proofs.ways.note.Goals as goal

pub returns-in_ok-lower-2-clause-ways : goal.returns-in_ok-lower-2-clause-ways
returns-in_ok-lower-2-clause-ways c = λ links holds a b.
    let link = c.args.link.now in
    let from : to_z w64 (of_z w64 link.from) ≡ link.from = omega (arith, ints) in
    let to : to_z w64 (of_z w64 link.to) ≡ link.to = omega (arith, ints) in
    let apart : link.from ≢ link.to = λ same. c.if-link.true (ap (of_z w64) same) in
    let second = rw (from, to) at (c.in_ok-lower-2.ensures.ways a b) in
    let first = rw (from, to) at (c.in_ok-lower.ensures.ways a b) in
    second
    ∙ (lowered-like link.to link.from None (at_pair c.lower.new.ways) (lowered link.from link.to (Some link.cost) (way_at links)) a b
    (first ∙ lowered-like link.from link.to (Some link.cost) (at_pair c.args.ways.now) (way_at links) a b (holds a b))
    ∙ noted_is links (link ∷ []) link.from link.to (Some link.cost) None apart (one_between link apart) (inl refl) a b)

pub returns-in_ok-lower-2-clause-low : goal.returns-in_ok-lower-2-clause-low
returns-in_ok-lower-2-clause-low c = λ low. c.in_ok-lower-2.ensures.low (c.in_ok-lower.ensures.low low)

pub returns-else-link-clause-ways : goal.returns-else-link-clause-ways
returns-else-link-clause-ways c = λ links holds a b.
    let link = c.args.link.now in
    let from : to_z w64 (of_z w64 link.from) ≡ link.from = omega (arith, ints) in
    let to : to_z w64 (of_z w64 link.to) ≡ link.to = omega (arith, ints) in
    holds a b ∙ loop_is links link (sym from ∙ (ap (to_z w64) c.if-link.false ∙ to)) a b
