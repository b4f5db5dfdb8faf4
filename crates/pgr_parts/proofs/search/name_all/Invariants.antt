use Rattle.pgr_parts.proofs.Naming.{AreNamedUpTo}
use Rattle.pgr_parts.proofs.search.name_all.Given as goal

abbrev pub invariant-loop-v : goal.invariant-loop-v
invariant-loop-v l = AreNamedUpTo l.members l.v-index l.name l.initial.standing l.standing
