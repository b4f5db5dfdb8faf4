-- The ends of each link are names, and one more link is numbered.
use Rattle.std.proofs.Common.{◌≡◌, ◌++◌, ◌∷◌, [], rules}
use Rattle.pgr_numbers.specs.Names.{IsNamed}
use Rattle.pgr_numbers.proofs.Slots.{links_in-next, links_in-skip, All-in_slot}
use Rattle.pgr_numbers.proofs.Turning.{AreNumbered-more}
use Rattle.pgr_numbers.proofs.names.Names.numbered_source.Goals as goal

pub loop-slot-preserved-in_default : goal.loop-slot-preserved-in_default
loop-slot-preserved-in_default g c = rw (links_in-skip _ _ c.in_default.ensures) c.loop-slot.invariant

pub numbered_link-next-requires : goal.numbered_link-next-requires
numbered_link-next-requires g c = All-in_slot (IsNamed c.args.self.now) (g.S.LinkSource.slots c.args.source.now) c.loop-slot.slot c.in-Some.link c.in-Some.ensures c.requires

pub loop-slot-preserved : goal.loop-slot-preserved
loop-slot-preserved g c =
    let items : c.push.new.self.items ≡ c.loop-slot.numbered.items ++ c.numbered_link-next.result ∷ [] = search rules in
    rw (links_in-next _ _ _ c.in-Some.ensures, items)
    (AreNumbered-more _ _ _ _ _ c.loop-slot.invariant c.numbered_link-next.ensures.same c.numbered_link-next.ensures.numbered)
