use Rattle.std.proofs.Common.{◌∙◌, sym}
use Rattle.pgr_numerals.proofs.NumeralLists.{numbers-bounded}
use Rattle.pgr_numerals.proofs.numeral_list.read_numbers.Goals as goal

pub returns : goal.returns
returns c = rw (← numbers-bounded c.args.bytes.now (sym c.is_empty.ensures ∙ c.if-is_empty.false)) c.read_i64_list.ensures
