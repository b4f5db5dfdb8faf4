use Rattle.std.proofs.Common.{◌≡◌, take}
use Rattle.pgr_turns.specs.Restrictions.{nonempty}
use Rattle.pgr_turns.proofs.turns.lists_of.Given as goal

-- the lists so far that aren't empty
abbrev pub invariant-loop-i : goal.invariant-loop-i
invariant-loop-i l = l.lists.items ≡ nonempty (take l.i l.restrictions)
