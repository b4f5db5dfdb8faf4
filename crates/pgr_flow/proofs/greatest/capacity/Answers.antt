use Rattle.std.proofs.Common.{◌≤◌, arith, take, ℕ, List, [], ◌∷◌, Bool, true, false, cond}
use Rattle.std.specs.List.{sum_by}
use Rattle.std.proofs.lemmas.List.Sums.{sum_by-cons, sum_by_more_le}
use Rattle.pgr_walks.specs.declared.link.LinkOf.{LinkOf}
use Rattle.pgr_flow.specs.Cut.{capacity_of, leads_out, marked}
use Rattle.pgr_flow.specs.Residual.{no_arc}
use Rattle.pgr_flow.proofs.greatest.capacity.Goals as goal

picked : (b : Bool) (n : ℕ) → cond b n 0 ≤ n
picked true n = omega arith
picked false n = omega arith

capacity_of-le : (inside : ℕ → Bool) (arcs : List (LinkOf ℕ)) → capacity_of inside arcs ≤ sum_by (λ (a : LinkOf ℕ). a.cost) arcs
capacity_of-le inside [] = omega arith
capacity_of-le inside (a ∷ arcs) = omega (
  arith,
  picked (leads_out inside a) a.cost,
  capacity_of-le inside arcs,
  sum_by-cons (λ (x : LinkOf ℕ). cond (leads_out inside x) x.cost 0) a arcs,
  sum_by-cons (λ (x : LinkOf ℕ). x.cost) a arcs,
)

pub overflow_add-sum : goal.overflow_add-sum
overflow_add-sum c = omega (
  arith,
  c.requires.fits,
  c.loop-arc.invariant,
  capacity_of-le (marked c.args.side.now) (take c.loop-arc.arc-index c.args.arcs.now),
  sum_by_more_le (λ (a : LinkOf ℕ). a.cost) c.args.arcs.now c.loop-arc.arc-index no_arc c.loop-arc-test.true,
)
