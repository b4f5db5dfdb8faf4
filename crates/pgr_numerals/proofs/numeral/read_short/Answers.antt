use Rattle.std.proofs.Common.{rules, ◌≡◌, arith, true, get_or}
use Rattle.pgr_numerals.specs.Numeral.{is_digit}
use Rattle.pgr_numerals.proofs.Digits.{digit_more, fits_more}
use Rattle.pgr_numerals.proofs.numeral.read_short.Goals as goal

pub overflow_mul-value : goal.overflow_mul-value
overflow_mul-value c =
    let digit : is_digit (get_or c.args.bytes.now c.loop-byte.byte-index 0) ≡ true = search rules in
    let fits = fits_more _ _ _ c.loop-byte-test.true c.requires c.loop-byte.invariant digit in
    omega arith

pub overflow_add-value : goal.overflow_add-value
overflow_add-value c =
    let digit : is_digit (get_or c.args.bytes.now c.loop-byte.byte-index 0) ≡ true = search rules in
    let fits = fits_more _ _ _ c.loop-byte-test.true c.requires c.loop-byte.invariant digit in
    omega arith

pub loop-byte-preserved : goal.loop-byte-preserved
loop-byte-preserved c =
    let digit : is_digit (get_or c.args.bytes.now c.loop-byte.byte-index 0) ≡ true = search rules in
    rw c.from.ensures (digit_more _ _ _ c.loop-byte-test.true c.loop-byte.invariant digit)
