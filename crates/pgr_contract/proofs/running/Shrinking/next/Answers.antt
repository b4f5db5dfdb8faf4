use Rattle.std.proofs.Common.{refl, sym, subst}
use Rattle.pgr_contract.specs.declared.running.Shrinking.{Shrinking}
use Rattle.pgr_contract.specs.Candidates.{IsNextOf}
use Rattle.pgr_contract.specs.Running.{IsNextIn}
use Rattle.pgr_contract.proofs.running.Shrinking.next.Goals as goal

pub returns-in-DeadEnd : goal.returns-in-DeadEnd
returns-in-DeadEnd c =
    let old = c.args.self.now in
    let new : Shrinking = record old { dead_ends = c.next_of.new.candidates } in
    subst (λ m. IsNextIn m old new c.next_of.result) (sym c.in-DeadEnd.is)
    (refl, (λ links holds. subst (λ m. IsNextOf m links old.dead_ends c.next_of.new.candidates c.next_of.result) c.in-DeadEnd.is (c.next_of.ensures links holds)))

pub returns-in-Linear : goal.returns-in-Linear
returns-in-Linear c =
    let old = c.args.self.now in
    let new : Shrinking = record old { linears = c.next_of-in-Linear.new.candidates } in
    subst (λ m. IsNextIn m old new c.next_of-in-Linear.result) (sym c.in-Linear.is) (
      refl,
      (λ links holds. subst (λ m. IsNextOf m links old.linears c.next_of-in-Linear.new.candidates c.next_of-in-Linear.result) c.in-Linear.is
          (c.next_of-in-Linear.ensures links holds)),
    )
