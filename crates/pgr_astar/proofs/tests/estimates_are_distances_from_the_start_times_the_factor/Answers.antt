-- Both names are ends of the one row.
use Rattle.std.proofs.Common.{◌≡◌, ◌<◌, rules, arith, length, get_or, pos, sym, ◌∙◌}
use Rattle.std.proofs.lemmas.Int.{ints}
use Rattle.std.proofs.lemmas.List.{get_or_default}
use Rattle.pgr_astar.proofs.PointLemmas.{ends_named}
use Rattle.pgr_astar.proofs.tests.estimates_are_distances_from_the_start_times_the_factor.Goals as goal

pub make-requires-clause-named : goal.make-requires-clause-named
make-requires-clause-named g c =
    let source : c.row-row.result.source ≡ pos 5 = first_of (search rules, omega (arith, ints)) in
    let target : c.row-row.result.target ≡ pos 7 = first_of (search rules, omega (arith, ints)) in
    let some : 0 < length c.in_ok-table.table = omega (arith, c.len.ensures.len) in
    let two : length c.in_ok-names.names ≡ 2 = omega (arith, c.len-2.ensures.len) in
    let first : c.name.result ≡ pos 5 = first_of (search rules, omega (arith, ints)) in
    let second : c.name-2.result ≡ pos 7 = first_of (search rules, omega (arith, ints)) in
    ends_named c.in_ok-table.table c.in_ok-names.names c.row-row.result c.row-row.ensures some source target two (sym c.name.ensures.id ∙ first) (sym c.name-2.ensures.id ∙ second)

pub make-requires-clause-start : goal.make-requires-clause-start
make-requires-clause-start g c =
    let two : length c.in_ok-names.names ≡ 2 = omega (arith, c.len-2.ensures.len) in
    let first : c.name.result ≡ pos 5 = first_of (search rules, omega (arith, ints)) in
    let some : 0 < length c.in_ok-names.names = omega arith in
    (0, some, get_or_default c.in_ok-names.names 0 (pos 5) (pos 0) some ∙ sym c.name.ensures.id ∙ first)
