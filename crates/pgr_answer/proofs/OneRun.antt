-- One run of a contraction: from one state it ends in one, since each step takes the least vertex that may go, and there is one way for it to go.
use Rattle.std.proofs.Common.{◌≡◌, ◌⊎◌, inl, inr, ℕ, ℤ, Bool, List, [], ◌∷◌, Option, Some, None, refl, sym, ap, subst, ◌∙◌, arith}
use Rattle.std.specs.Prelude.{Contains}
use Rattle.std.proofs.lemmas.Int.{ints}
use Rattle.pgr_walks.specs.declared.link.LinkOf.{LinkOf}
use Rattle.pgr_words.specs.declared.method.Method.{Method}
use Rattle.pgr_words.specs.declared.method.Method.TheVariants.{DeadEnd, Linear}
use Rattle.pgr_contract.specs.State.{State}
use Rattle.pgr_contract.specs.Steps.{HasOne, HasTwo, IsWayCost, IsLeastLink, after_dead_end, after_linear, IsStep}
use Rattle.pgr_contract.specs.Run.{MayGo, IsNext, Takes, IsRun}

-- one vertex is the next
one_next : (method : Method) (forbidden : List ℤ) (S : State) (v w : ℤ) → IsNext method forbidden S v → IsNext method forbidden S w → v ≡ w
one_next method forbidden S v w is also =
    let low = is.least w also.may in
    let high = also.least v is.may in
    omega (arith, ints, low, high)

-- one vertex is the only neighbour
one_neighbour : (Has : LinkOf ℤ → Type 0) (v u w : ℤ) → HasOne Has v u → HasOne Has v w → u ≡ w
one_neighbour Has v u w is also = also.only u is.neighbour

-- two vertices are the lesser and the greater neighbour
two_neighbours : (Has : LinkOf ℤ → Type 0) (v low high a b : ℤ) → HasTwo Has v low high → HasTwo Has v a b → (low ≡ a) × (high ≡ b)
two_neighbours Has v low high a b is also = by (also.only low is.first) (also.only high is.second)
  where
    by : (low ≡ a) ⊎ (low ≡ b) → (high ≡ a) ⊎ (high ≡ b) → (low ≡ a) × (high ≡ b)
    by (inl first) (inr second) = (first, second)
    by (inl first) (inl second) = let less = is.less in let more = also.less in absurd (omega (arith, ints, less, first, second))
    by (inr first) (inl second) = let less = is.less in let more = also.less in absurd (omega (arith, ints, less, more, first, second))
    by (inr first) (inr second) = let less = is.less in absurd (omega (arith, ints, less, first, second))

-- one cost is the least of the links from a vertex to another
one_least_link : (Has : LinkOf ℤ → Type 0) (a b : ℤ) (cost other : ℕ) → IsLeastLink Has a b cost → IsLeastLink Has a b other → cost ≡ other
one_least_link Has a b cost other is also =
    let low = is.least also.link also.has also.from also.to in
    let high = also.least is.link is.has is.from is.to in
    omega (arith, low, high, is.cost_is, also.cost_is)

-- one cost is that of a way, or none
one_way_cost : (Has : LinkOf ℤ → Type 0) (a v b : ℤ) (cost other : Option ℕ) → IsWayCost Has a v b cost → IsWayCost Has a v b other → cost ≡ other
one_way_cost Has a v b None None is also = refl
one_way_cost Has a v b None (Some n) is (into, (out, (first, (second, sum)))) =
    absurd (is ((first.link, (first.has, (first.from, first.to))), (second.link, (second.has, (second.from, second.to)))))
one_way_cost Has a v b (Some n) None (into, (out, (first, (second, sum)))) also =
    absurd (also ((first.link, (first.has, (first.from, first.to))), (second.link, (second.has, (second.from, second.to)))))
one_way_cost Has a v b (Some n) (Some m) (into, (out, (first, (second, sum)))) (into_too, (out_too, (first_too, (second_too, sum_too)))) =
    let x = one_least_link Has a v into into_too first first_too in
    let y = one_least_link Has v b out out_too second second_too in
    ap Some (omega (arith, x, y, sum, sum_too))

-- a step leads to one state
one_step : (directed : Bool) (method : Method) (v : ℤ) (S T U : State) → IsStep directed method v S T → IsStep directed method v S U → T ≡ U
one_step directed DeadEnd v S T U is also =
    is.after ∙ ap (λ u. after_dead_end v u S) (one_neighbour (Contains S.links) v is.neighbour also.neighbour is.one also.one) ∙ sym also.after
one_step directed Linear v S T U is also =
    let two = two_neighbours (Contains S.links) v is.low is.high also.low also.high is.two also.two in
    let there_at = subst (λ b. IsWayCost (Contains S.links) is.low v b is.there) two.1 is.there_is in
    let there_is = subst (λ a. IsWayCost (Contains S.links) a v also.high is.there) two.0 there_at in
    let back_at = subst (λ b. IsWayCost (Contains S.links) is.high v b is.back) two.0 is.back_is in
    let back_is = subst (λ a. IsWayCost (Contains S.links) a v also.low is.back) two.1 back_at in
    let there = one_way_cost (Contains S.links) also.low v also.high is.there also.there there_is also.there_is in
    let back = one_way_cost (Contains S.links) also.high v also.low is.back also.back back_is also.back_is in
    is.after
    ∙ ap (λ a. after_linear directed v a is.high is.there is.back S) two.0
    ∙ ap (λ b. after_linear directed v also.low b is.there is.back S) two.1
    ∙ ap (λ c. after_linear directed v also.low also.high c is.back S) there
    ∙ ap (λ c. after_linear directed v also.low also.high also.there c S) back
    ∙ sym also.after

-- steps until none may go lead to one state
one_end : (directed : Bool) (method : Method) (forbidden : List ℤ) (taken others : List ℤ) (S T U : State)
    → Takes directed method forbidden taken S T
    → Takes directed method forbidden others S U
    → ((x : ℤ) → ¬ MayGo method forbidden T x)
    → ((x : ℤ) → ¬ MayGo method forbidden U x)
    → T ≡ U
one_end directed method forbidden [] [] S T U is also none none_too = sym is ∙ also
one_end directed method forbidden [] (w ∷ others) S T U is (next, later) none none_too =
    absurd (none w (subst (λ R. MayGo method forbidden R w) is next.may))
one_end directed method forbidden (v ∷ taken) [] S T U (next, later) also none none_too =
    absurd (none_too v (subst (λ R. MayGo method forbidden R v) also next.may))
one_end directed method forbidden (v ∷ taken) (w ∷ others) S T U (next, (R, (step, rest))) (next_too, (Q, (step_too, rest_too))) none none_too =
    let same = one_next method forbidden S v w next next_too in
    let one = one_step directed method w S R Q (subst (λ x. IsStep directed method x S R) same step) step_too in
    one_end directed method forbidden taken others Q T U (subst (λ (P : State). Takes directed method forbidden taken P T) one rest) rest_too none none_too

-- a run ends in one state
pub one_run : (directed : Bool) (forbidden : List ℤ) (methods : List Method) (S T U : State) → IsRun directed forbidden methods S T
    → IsRun directed forbidden methods S U → T ≡ U
one_run directed forbidden [] S T U is also = sym is ∙ also
one_run directed forbidden (method ∷ methods) S T U (R, (phase, rest)) (Q, (phase_too, rest_too)) =
    let one = one_end directed method forbidden phase.taken phase_too.taken S R Q phase.takes phase_too.takes phase.none phase_too.none in
    one_run directed forbidden methods Q T U (subst (λ (P : State). IsRun directed forbidden methods P T) one rest) rest_too
