use Rattle.std.proofs.Common.{take}
use Rattle.pgr_numerals.proofs.Digits.{Writes}
use Rattle.pgr_numerals.proofs.numeral.read_short.Given as goal

-- the bytes so far are digits, and write the value
abbrev pub invariant-loop-byte : goal.invariant-loop-byte
invariant-loop-byte l = Writes (take l.byte-index l.bytes) l.value
