use Rattle.std.proofs.Common.{length}
use Rattle.pgr_numerals.proofs.NumeralLists.{AreRead}
use Rattle.pgr_numerals.proofs.numeral_list.read_i64_list.Given as goal

-- the parts so far are the numbers
abbrev pub invariant-loop-part : goal.invariant-loop-part
invariant-loop-part l = AreRead l.most (length l.yielded) l.bytes l.numbers.items
