use Rattle.std.proofs.Common.{◌≡◌, take}
use Rattle.std.specs.List.{filter}
use Rattle.pgr_contract.specs.Held.{tags_of}
use Rattle.pgr_contract.specs.Lists.{shown_from, tag_stays}
use Rattle.pgr_contract.proofs.shown.shortcuts_left.Given as goal

abbrev pub invariant-loop-event : goal.invariant-loop-event
invariant-loop-event l = l.shortcuts.items ≡ shown_from l.over 0 (filter (tag_stays l.rests) (tags_of l.directed (take l.event-index l.events)))
