-- A run keeps every distance between the vertices that are left.
use Rattle.std.proofs.Common.{◌≡◌, ℕ, ℤ, Bool, false, List, [], ◌∷◌, subst, arith}
use Rattle.std.specs.List.{Contains}
use Rattle.pgr_walks.specs.declared.link.LinkOf.{LinkOf}
use Rattle.pgr_walks.specs.Walk.{IsWalk, cost_of}
use Rattle.pgr_words.specs.declared.method.Method.{Method}
use Rattle.pgr_contract.specs.State.{State}
use Rattle.pgr_contract.specs.Run.{Takes, IsRun}
use Rattle.pgr_contract.specs.Given.{HaveOpposites}
use Rattle.pgr_contract.specs.Distances.{IsLeastCost, KeepsDistances}
use Rattle.pgr_contract.proofs.Bypass.{WalkWithin}
use Rattle.pgr_contract.proofs.StepKeeps.{Keeps, step_keeps}

-- a state keeps its own distances
keeps_itself : (directed : Bool) (S : State) → (directed ≡ false → HaveOpposites S.links) → Keeps directed S S
keeps_itself directed S opposites = record {
  onward = λ s t walk a b w. record { walk = walk; is_walk = w; within = omega arith };
  back = λ s t walk w. record { walk = walk; is_walk = w; within = omega arith };
  fewer = λ x h. h;
  opposites = opposites;
}

-- and what is kept of what is kept is
pub keeps_on : (directed : Bool) (S R T : State) → Keeps directed S R → Keeps directed R T → Keeps directed S T
keeps_on directed S R T first second = record {
  onward = λ s t walk a b w.
      let one = first.onward s t walk (second.fewer s a) (second.fewer t b) w in
      let two = second.onward s t one.walk a b one.is_walk in
      record { walk = two.walk; is_walk = two.is_walk; within = omega (arith, one.within, two.within) };
  back = λ s t walk w.
      let one = second.back s t walk w in
      let two = first.back s t one.walk one.is_walk in
      record { walk = two.walk; is_walk = two.is_walk; within = omega (arith, one.within, two.within) };
  fewer = λ x h. first.fewer x (second.fewer x h);
  opposites = second.opposites;
}

takes_keep : (directed : Bool) (method : Method) (forbidden taken : List ℤ) (S T : State) → (directed ≡ false → HaveOpposites S.links)
    → Takes directed method forbidden taken S T → Keeps directed S T
takes_keep directed method forbidden [] S T opposites same = subst (λ R. Keeps directed S R) same (keeps_itself directed S opposites)
takes_keep directed method forbidden (v ∷ more) S T opposites (next, (R, (step, rest))) =
    let first = step_keeps directed method v S R opposites step in
    keeps_on directed S R T first (takes_keep directed method forbidden more R T first.opposites rest)

-- a run keeps distances
pub run_keeps : (directed : Bool) (forbidden : List ℤ) (methods : List Method) (S T : State) → (directed ≡ false → HaveOpposites S.links) → IsRun directed forbidden methods S T
    → Keeps directed S T
run_keeps directed forbidden [] S T opposites same = subst (λ R. Keeps directed S R) same (keeps_itself directed S opposites)
run_keeps directed forbidden (method ∷ methods) S T opposites (R, (phase, rest)) =
    let first = takes_keep directed method forbidden phase.taken S R opposites phase.takes in
    keeps_on directed S R T first (run_keeps directed forbidden methods R T first.opposites rest)

-- least costs over the one set of links, where walks of no greater cost lead over each
pub carried : (Has Kept : LinkOf ℤ → Type 0) (s t : ℤ) (cost : ℕ) → ((walk : List (LinkOf ℤ)) → IsWalk Has s walk t → WalkWithin Kept s t (cost_of walk))
    → ((walk : List (LinkOf ℤ)) → IsWalk Kept s walk t → WalkWithin Has s t (cost_of walk)) → IsLeastCost Has s t cost → IsLeastCost Kept s t cost
carried Has Kept s t cost onward back least =
    let there = onward least.walk least.is_walk in
    let again = back there.walk there.is_walk in
    record {
      walk = there.walk;
      is_walk = there.is_walk;
      cost_is = omega (arith, there.within, again.within, least.least again.walk again.is_walk, least.cost_is);
      least = λ other w. (let over = back other w in omega (arith, over.within, least.least over.walk over.is_walk));
    }

-- so distances are kept
pub distances_kept : (directed : Bool) (S T : State) → Keeps directed S T → KeepsDistances (Contains T.vertices) (Contains S.links) (Contains T.links)
distances_kept directed S T kept = record {
  costs = λ s t cost a b. (
    carried (Contains S.links) (Contains T.links) s t cost (λ walk w. kept.onward s t walk a b w) (λ walk w. kept.back s t walk w),
    carried (Contains T.links) (Contains S.links) s t cost (λ walk w. kept.back s t walk w) (λ walk w. kept.onward s t walk a b w),
  );
  walks = λ s t a b. (
    (λ reaches. let w = kept.onward s t reaches.0 a b reaches.1 in (w.walk, w.is_walk)),
    (λ reaches. let w = kept.back s t reaches.0 reaches.1 in (w.walk, w.is_walk)),
  );
}
