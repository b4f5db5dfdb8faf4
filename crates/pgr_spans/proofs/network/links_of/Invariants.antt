use Rattle.std.proofs.Common.{◌≡◌, map, take}
use Rattle.pgr_spans.specs.Network.{link_of}
use Rattle.pgr_spans.proofs.network.links_of.Given as goal

-- the spans so far have their links
abbrev pub invariant-loop-span : goal.invariant-loop-span
invariant-loop-span l = l.links.items ≡ map link_of (take l.span-index l.spans)
