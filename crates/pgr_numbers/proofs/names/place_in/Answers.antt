-- An id that the search doesn't find isn't among the ids, since each of them is less or greater.
use Rattle.std.proofs.Common.{◌≡◌, arith, to_z, of_z, w64}
use Rattle.std.proofs.lemmas.Int.{ints}
use Rattle.pgr_numbers.proofs.Rising.{absent_from_search}
use Rattle.pgr_numbers.proofs.names.place_in.Goals as goal

pub returns-in-Err-clause-held : goal.returns-in-Err-clause-held
returns-in-Err-clause-held c =
    let asked : to_z w64 (of_z w64 c.args.id) ≡ c.args.id = omega (arith, ints) in
    (λ some. cc, λ there. absurd (absent_from_search c.args.ids.now c.args.id _ c.in-Err.field-0 asked c.requires.rise c.in-Err.ensures.position there))
