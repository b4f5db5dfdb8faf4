use Rattle.std.proofs.Common.{◌≡◌, ◌++◌, map, take}
use Rattle.pgr_turns.specs.States.{head_of}
use Rattle.pgr_turns.proofs.state.append_heads.Given as goal

-- the heads of the links so far
abbrev pub invariant-loop-link : goal.invariant-loop-link
invariant-loop-link g l = l.heads.items ≡ l.initial.heads.items ++ map head_of (take l.link-index l.link-items)
