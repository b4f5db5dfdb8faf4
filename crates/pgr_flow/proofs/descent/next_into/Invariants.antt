use Rattle.std.proofs.Common.{◌≡◌, slice_index}
use Rattle.pgr_flow.proofs.Descents.{NoneIsOpen}
use Rattle.pgr_flow.proofs.descent.next_into.Given as goal

-- no residual link from the level leads over an end that was passed
abbrev pub invariant-loop-place : goal.invariant-loop-place
invariant-loop-place l = record {
  same : l.next ≡ l.initial.next;
  none : NoneIsOpen l.arcs l.flows l.levels l.incidence.list.items l.level (slice_index l.initial.next l.at) l.place;
}
