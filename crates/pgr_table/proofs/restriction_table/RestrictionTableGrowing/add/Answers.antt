use Rattle.std.proofs.lemmas.List.{length-map}
use Rattle.pgr_table.specs.Restrictions.{values_of_restriction}
use Rattle.pgr_table.proofs.RestrictionFacts.{AreRestrictions-push}
use Rattle.pgr_table.proofs.restriction_table.RestrictionTableGrowing.add.Goals as goal

pub invariant_of-self-2 : goal.invariant_of-self-2
invariant_of-self-2 c =
    let few = rw (← c.self.view_is, length-map c.self.inside.rows.items values_of_restriction) at c.requires.few in
    let elements = rw (← c.self.view_is) at c.requires.elements in
    rw (c.in_ok-push.ensures.items, c.take_list.ensures) (AreRestrictions-push c.self.inside.rows.items c.args.values.now.items c.self.invariant c.requires.row few elements)
