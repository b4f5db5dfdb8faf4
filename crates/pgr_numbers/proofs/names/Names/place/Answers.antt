-- What stands at the place of an id is its number, or none where it isn't among the ids.
use Rattle.std.proofs.Common.{◌≡◌, arith, ap, sym, ◌∙◌, Some, to_z, of_z, w64}
use Rattle.std.proofs.lemmas.Int.{ints}
use Rattle.std.proofs.lemmas.Option.{slice_get-get_or}
use Rattle.pgr_numbers.proofs.Marks.{number-held, number-place}
use Rattle.pgr_numbers.proofs.names.Names.place.Goals as goal

pub returns-in-Some-get-clause-held : goal.returns-in-Some-get-clause-held
returns-in-Some-get-clause-held c =
    let same : to_z w64 (of_z w64 c.args.id) ≡ c.args.id = omega (arith, ints) in
    let is = c.in-Some.ensures.place in
    let look = c.in-Some-get.ensures.lookup in
    let at = rw c.deref.ensures.value at (slice_get-get_or c.deref.result.now c.in-Some.place c.in-Some-get.number.now look.3.0 ∙ ap Some (sym look.1)) in
    rw (← c.self.view_is) (number-held c.self.inside.ids.items c.self.inside.numbers.items c.args.id c.in-Some.place c.in-Some-get.number.now c.self.invariant.2 (sym same ∙ is) at)

pub returns-in-Some-get-clause-place : goal.returns-in-Some-get-clause-place
returns-in-Some-get-clause-place c =
    let same : to_z w64 (of_z w64 c.args.id) ≡ c.args.id = omega (arith, ints) in
    let is = c.in-Some.ensures.place in
    let look = c.in-Some-get.ensures.lookup in
    let at = rw c.deref.ensures.value at (slice_get-get_or c.deref.result.now c.in-Some.place c.in-Some-get.number.now look.3.0 ∙ ap Some (sym look.1)) in
    rw (← c.self.view_is) (number-place c.self.inside.ids.items c.self.inside.numbers.items c.args.id c.in-Some.place c.in-Some-get.number.now
    c.self.invariant.2 (sym same ∙ is) at)
