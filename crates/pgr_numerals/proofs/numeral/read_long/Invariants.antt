use Rattle.std.proofs.Common.{take}
use Rattle.pgr_numerals.proofs.Digits.{Wrote}
use Rattle.pgr_numerals.proofs.numeral.read_long.Given as goal

-- the bytes so far are digits, and write the value, which is within the limit
abbrev pub invariant-loop-byte : goal.invariant-loop-byte
invariant-loop-byte l = Wrote l.most (take l.byte-index l.bytes) l.value
