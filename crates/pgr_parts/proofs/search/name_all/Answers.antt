use Rattle.std.proofs.Common.{refl, arith}
use Rattle.pgr_parts.proofs.Naming.{AreNamedUpTo-more, AreNamed-from_all}
use Rattle.pgr_parts.proofs.search.name_all.Goals as goal

pub loop-v-preserved : goal.loop-v-preserved
loop-v-preserved c =
    AreNamedUpTo-more _ _ _ _ _ _ c.loop-v.invariant c.loop-v-test.true refl (c.requires c.loop-v.v-index 0 c.loop-v-test.true)

pub returns : goal.returns
returns c = AreNamed-from_all _ _ _ _ _ c.loop-v.invariant (omega arith)
