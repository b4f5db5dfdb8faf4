use Rattle.std.proofs.Common.{◌≡◌, rules, arith}
use Rattle.std.proofs.lemmas.Int.{ints, to_z-of_z}
use Rattle.pgr_spans.proofs.TestCases.{rise_to_more}
use Rattle.pgr_spans.proofs.tests.long_path.Goals as goal

pub loop-i-preserved : goal.loop-i-preserved
loop-i-preserved c = rise_to_more c.loop-i.i c.loop-i.spans.items _ _ c.loop-i.invariant (grind (arith, ints, to_z-of_z)) c.in_ok-push.ensures.items
