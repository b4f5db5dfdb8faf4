use Rattle.std.proofs.Common.{◌≡◌, Some, rules, sym, ◌∙◌}
use Rattle.std.proofs.lemmas.Int.{ints, to_z-of_z}
use Rattle.pgr_numerals.specs.Numeral.{whole_of}
use Rattle.pgr_numerals.proofs.Wholes.{whole-read}
use Rattle.pgr_numerals.proofs.whole.read_whole.Goals as goal

pub returns-in-Some : goal.returns-in-Some
returns-in-Some c =
    let whole : Some c.in-Some.number ≡ whole_of c.args.bytes.now = sym (whole-read c.args.bytes.now c.in-Some.number (sym c.read_i64.ensures ∙ c.in-Some.is)) in
    search (rules, ints, to_z-of_z) ∙ whole
