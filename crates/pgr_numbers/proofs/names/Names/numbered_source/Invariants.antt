use Rattle.std.proofs.Common.{take}
use Rattle.pgr_numbers.specs.Names.{AreNumbered}
use Rattle.pgr_numbers.specs.Slots.{links_in}
use Rattle.pgr_numbers.proofs.names.Names.numbered_source.Given as goal

-- the links so far are numbered
abbrev pub invariant-loop-slot : goal.invariant-loop-slot
invariant-loop-slot g l = AreNumbered l.self (links_in (take l.slot (g.S.LinkSource.slots l.source))) l.numbered.items
