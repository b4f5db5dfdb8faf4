use Rattle.std.proofs.Common.{◌∙◌, sym}
use Rattle.pgr_numerals.proofs.Digits.{more, none}
use Rattle.pgr_numerals.proofs.numeral.read_long.Goals as goal

pub returns-in_err-value : goal.returns-in_err-value
returns-in_err-value c =
    c.from_residual.ensures ∙ sym (none _ _ _ _ c.loop-byte-test.true c.loop-byte.invariant (sym c.in_err-value.ensures))

pub loop-byte-preserved : goal.loop-byte-preserved
loop-byte-preserved c = more _ _ _ _ _ c.loop-byte-test.true c.loop-byte.invariant (sym c.in_ok-value.ensures)
