use Rattle.std.proofs.Common.{◌≡◌, ◌++◌, length, take, drop, ap, subst, arith, ◌∙◌, sym}
use Rattle.std.proofs.lemmas.Grind.{common_steps}
use Rattle.pgr_search.specs.Settled.{IsListed}
use Rattle.pgr_search.proofs.Listing.{none_listed}
use Rattle.pgr_search.proofs.settled.Settled.clear.Goals as goal

pub invariant_of-self : goal.invariant_of-self
invariant_of-self c =
    let labels = c.self.inside.labels.items in
    let after = c.forget.new.labels in
    let len : length after ≡ length labels = c.forget.auto.labels ∙ ap length c.as_mut_slice.ensures.value in
    let whole : take c.self.inside.labels.len (after ++ drop (length after) labels) ≡ after = grind (arith, common_steps, c.self.inside.labels.ok.0) in
    subst (λ xs. IsListed xs c.self.inside.order.items 0) (sym whole)
    (none_listed after c.self.inside.order.items (omega (arith, len, c.self.invariant.small)) (c.self.invariant.size ∙ sym len) c.forget.ensures)
