use Rattle.std.proofs.Common.{rules}
use Rattle.pgr_parts.proofs.SpreadLemmas.{spreading_turns, spreading_ends, spreading_falls, waiting_below}
use Rattle.pgr_parts.proofs.spreading.spread.Goals as goal

pub name_one-requires-clause-vertex : goal.name_one-requires-clause-vertex
name_one-requires-clause-vertex c = waiting_below _ _ _ _ _ _ c.loop-v.invariant c.in-Some.ensures.items

pub loop-v-smaller : goal.loop-v-smaller
loop-v-smaller c = spreading_falls _ _ _ _ _ _ _ _ c.loop-v.invariant c.in-Some.ensures.items c.in_ok-name_one.ensures

pub loop-v-preserved : goal.loop-v-preserved
loop-v-preserved c =
    spreading_turns _ _ _ _ _ _ _ _ c.requires.within c.requires.back c.loop-v.invariant c.in-Some.ensures.items c.in_ok-name_one.ensures

pub returns-clause-spread : goal.returns-clause-spread
returns-clause-spread c = spreading_ends _ _ _ _ c.loop-v.invariant (search rules)
