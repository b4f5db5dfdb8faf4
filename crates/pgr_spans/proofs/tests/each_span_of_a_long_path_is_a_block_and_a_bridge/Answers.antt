-- The ends are few since the spans are.
use Rattle.std.proofs.Common.{arith}
use Rattle.pgr_spans.proofs.tests.each_span_of_a_long_path_is_a_block_and_a_bridge.Goals as goal

pub blocks-requires-clause-few : goal.blocks-requires-clause-few
blocks-requires-clause-few g c =
    rw c.as_slice-2.ensures.value
    (λ ends are.
    let twice = (rw c.as_slice.ensures.value at c.ends_are_few.ensures.twice) ends are in
    omega (arith, twice, c.in_ok-spans.ensures.few))
