-- What is kept of each pair of vertices after a step, and how a vertex goes by what is kept.
use Rattle.std.proofs.Common.{◌≡◌, ◌≢◌, ◌⊎◌, inl, inr, ℕ, suc, ◌+◌, ◌<◌, take, get_or, ℤ, Bool, true, false, ◌||◌, cond, List, [], ◌∷◌, ◌++◌, length, Option, Some, None, refl, sym, subst, ◌∙◌, ap, arith}
use Rattle.std.specs.Prelude.{IsSome, ◌<ℤ◌, ◌≤ℤ◌}
use Rattle.std.specs.List.{Contains}
use Rattle.std.specs.BTreeMap.{BTreeMap}
use Rattle.std.proofs.lemmas.Int.{ints}
use Rattle.std.proofs.lemmas.List.{take_more}
use Rattle.pgr_walks.specs.declared.link.LinkOf.{LinkOf}
use Rattle.pgr_walks.specs.Reaches.{turned}
use Rattle.pgr_words.specs.declared.method.Method.{Method}
use Rattle.pgr_words.specs.declared.method.Method.TheVariants.{DeadEnd, Linear}
use Rattle.pgr_contract.specs.declared.event.Bypassed.{Bypassed}
use Rattle.pgr_contract.specs.declared.event.Event.TheVariants.{Pass}
use Rattle.pgr_contract.specs.Given.{HaveOpposites}
use Rattle.pgr_contract.specs.State.{State, left_of, without_links_at, link_of_made, links_of_made}
use Rattle.pgr_contract.specs.Steps.{IsNeighbour, HasOne, HasTwo, IsWay, IsWayCost, Qualifies, shortcuts_between, after_dead_end}
use Rattle.pgr_contract.specs.Ways.{at_pair, lesser, cost_sum, is_pair, least_link, way_of, way_at, kept_cost, lowered, forgotten, HoldsWays, IsNear}
use Rattle.pgr_contract.specs.Events.{IsPass, after}
use Rattle.pgr_contract.proofs.Ids.{same_id, less_apart}
use Rattle.pgr_contract.proofs.LeastLinks.{pair-hit, pair-miss, IsLeastOr, least_link-is, cost_sum-is}
use Rattle.pgr_contract.proofs.WayChanges.{AreBetween, noted_is, folded_ways, passed_ways, way_at-apart, way_at-same, kept-way_at, nothing_not}

-- the least cost over one link, and over two
pick_one : (l : LinkOf ℤ) (a b : ℤ) (x : Bool) → is_pair l.from l.to a b ≡ x → least_link (l ∷ []) a b ≡ lesser (cond x (Some l.cost) None) None
pick_one l a b x e = ap (λ t. lesser (cond t (Some l.cost) None) None) e

pick_two : (l m : LinkOf ℤ) (a b : ℤ) (x y : Bool) → is_pair l.from l.to a b ≡ x → is_pair m.from m.to a b ≡ y
    → least_link (l ∷ m ∷ []) a b ≡ lesser (cond x (Some l.cost) None) (lesser (cond y (Some m.cost) None) None)
pick_two l m a b x y e f =
    ap (λ t. lesser (cond t (Some l.cost) None) (lesser (cond (is_pair m.from m.to a b) (Some m.cost) None) None)) e
    ∙ ap (λ t. lesser (cond x (Some l.cost) None) (lesser (cond t (Some m.cost) None) None)) f

-- two links that lead there and back between two vertices
two_between : (l m : LinkOf ℤ) (from to : ℤ) → from ≢ to → l.from ≡ from → l.to ≡ to → m.from ≡ to → m.to ≡ from → AreBetween (l ∷ m ∷ []) from to (Some l.cost) (Some m.cost)
two_between l m from to apart l_from l_to m_from m_to = record {
  there_is = pick_two l m from to true false (pair-hit l.from l.to from to l_from l_to) (pair-miss m.from m.to from to (λ both. apart (sym both.0 ∙ m_from)));
  back_is = pick_two l m to from false true (pair-miss l.from l.to to from (λ both. apart (sym l_from ∙ both.0))) (pair-hit m.from m.to to from m_from m_to);
  others = λ a b not_there not_back. pick_two l m a b false false (pair-miss l.from l.to a b (λ both. not_there (sym l_from ∙ both.0, sym l_to ∙ both.1)))
      (pair-miss m.from m.to a b (λ both. not_back (sym m_from ∙ both.0, sym m_to ∙ both.1)));
}

-- what the links of new shortcuts add
between_made : (directed : Bool) (n : ℕ) (low high : ℤ) (there back : Option ℕ) (inside : List ℤ) → low ≢ high → (directed ≡ false → there ≡ back)
    → AreBetween (links_of_made directed n (shortcuts_between directed low high there back inside)) low high there back
between_made true n low high None None inside apart same = record { there_is = refl; back_is = refl; others = λ a b not_there not_back. refl }
between_made true n low high None (Some c) inside apart same =
    let l = link_of_made n (record { from = high; to = low; cost = c; inside = inside }) in
    record {
      there_is = pick_one l low high false (pair-miss high low low high (λ both. apart both.1));
      back_is = pick_one l high low true (pair-hit high low high low refl refl);
      others = λ a b not_there not_back. pick_one l a b false (pair-miss high low a b not_back);
    }
between_made true n low high (Some c) None inside apart same =
    let l = link_of_made n (record { from = low; to = high; cost = c; inside = inside }) in
    record {
      there_is = pick_one l low high true (pair-hit low high low high refl refl);
      back_is = pick_one l high low false (pair-miss low high high low (λ both. apart both.0));
      others = λ a b not_there not_back. pick_one l a b false (pair-miss low high a b not_there);
    }
between_made true n low high (Some c) (Some d) inside apart same =
    two_between (link_of_made n (record { from = low; to = high; cost = c; inside = inside }))
    (link_of_made (suc n) (record { from = high; to = low; cost = d; inside = inside })) low high apart refl refl refl refl
between_made false n low high None back inside apart same =
    let is : None ≡ back = same refl in
    subst (λ x. AreBetween [] low high None x) is (record { there_is = refl; back_is = refl; others = λ a b not_there not_back. refl })
between_made false n low high (Some c) back inside apart same =
    let is : Some c ≡ back = same refl in
    let l = link_of_made n (record { from = low; to = high; cost = c; inside = inside }) in
    subst (λ x. AreBetween (l ∷ turned l ∷ []) low high (Some c) x) is (two_between l (turned l) low high apart refl refl refl refl)

-- in the undirected graph the way back costs what the way there does
pub same_both_ways : (links : List (LinkOf ℤ)) (low v high : ℤ) (there back : Option ℕ) → HaveOpposites links → IsWayCost (Contains links) low v high there
    → IsWayCost (Contains links) high v low back → there ≡ back
same_both_ways links low v high None None opposites first second = refl
same_both_ways links low v high None (Some d) opposites first (i, (o, (into, (out, is)))) = absurd (first (
  (turned out.link, (opposites out.link out.has, (out.to, out.from))),
  (turned into.link, (opposites into.link into.has, (into.to, into.from))),
))
same_both_ways links low v high (Some c) None opposites (i, (o, (into, (out, is)))) second = absurd (second (
  (turned out.link, (opposites out.link out.has, (out.to, out.from))),
  (turned into.link, (opposites into.link into.has, (into.to, into.from))),
))
same_both_ways links low v high (Some c) (Some d) opposites (i, (o, (into, (out, is)))) (j, (p, (into', (out', is')))) =
    let first = into.least (turned out'.link) (opposites out'.link out'.has) out'.to out'.from in
    let second = out'.least (turned into.link) (opposites into.link into.has) into.to into.from in
    let third = out.least (turned into'.link) (opposites into'.link into'.has) into'.to into'.from in
    let fourth = into'.least (turned out.link) (opposites out.link out.has) out.to out.from in
    let same : c ≡ d = omega (arith, is, is', first, second, third, fourth, into.cost_is, out.cost_is, into'.cost_is, out'.cost_is) in
    ap (λ x. Some x) same

-- equal pairs stay equal
pub forgotten-like : (a b : ℤ) (kept other : ℤ → ℤ → Option (Option ℕ)) (p q : ℤ) → kept p q ≡ other p q → forgotten a b kept p q ≡ forgotten a b other p q
forgotten-like a b kept other p q same = ap (λ x. cond (is_pair a b p q || is_pair b a p q) None x) same

pub lowered-like : (a b : ℤ) (cost : Option ℕ) (kept other : ℤ → ℤ → Option (Option ℕ)) (p q : ℤ) → kept p q ≡ other p q → lowered a b cost kept p q ≡ lowered a b cost other p q
lowered-like a b cost kept other p q same = ap (λ x. cond (is_pair a b p q) (Some (lesser (kept_cost x) cost)) x) same

-- after a dead end
pub folded_holds : (S : State) (v u : ℤ) (old new : BTreeMap (ℤ × ℤ) (Option ℕ)) → HoldsWays S.links old → HasOne (Contains S.links) v u
    → ((p q : ℤ) → at_pair new p q ≡ forgotten v u (at_pair old) p q) → HoldsWays (after_dead_end v u S).links new
folded_holds S v u old new holds one changed a b =
    changed a b ∙ (forgotten-like v u (at_pair old) (way_at S.links) a b (holds a b) ∙ folded_ways S.links v u one a b)

-- after a linear vertex
pub passed_holds : (directed : Bool) (S : State) (passed : Bypassed) (old forgot once new : BTreeMap (ℤ × ℤ) (Option ℕ)) → (directed ≡ false → HaveOpposites S.links)
    → HoldsWays S.links old → IsPass S.links passed
    → ((p q : ℤ) → at_pair forgot p q ≡ forgotten passed.vertex passed.high (forgotten passed.vertex passed.low (at_pair old)) p q)
    → ((p q : ℤ) → at_pair once p q ≡ lowered passed.low passed.high passed.there (at_pair forgot) p q)
    → ((p q : ℤ) → at_pair new p q ≡ lowered passed.high passed.low passed.back (at_pair once) p q)
    → HoldsWays (after directed S (Pass passed)).links new
passed_holds directed S passed old forgot once new opposites holds pass forgets first second a b =
    let v = passed.vertex in
    let low = passed.low in
    let high = passed.high in
    let left = without_links_at v S.links in
    let apart = less_apart low high pass.two.less in
    let clear : (p q : ℤ) → at_pair forgot p q ≡ way_at left p q = λ p q.
    forgets p q ∙ (forgotten-like v high (forgotten v low (at_pair old)) (forgotten v low (way_at S.links)) p q
    (forgotten-like v low (at_pair old) (way_at S.links) p q (holds p q)) ∙ passed_ways S.links v low high pass.two p q) in
    let same : directed ≡ false → passed.there ≡ passed.back = λ undirected.
    same_both_ways S.links low v high passed.there passed.back (opposites undirected) pass.there_is pass.back_is in
    second a b
    ∙ (lowered-like high low passed.back (at_pair once) (lowered low high passed.there (way_at left)) a b
    (first a b ∙ lowered-like low high passed.there (at_pair forgot) (way_at left) a b (clear a b))
    ∙ noted_is left (links_of_made directed (length S.made) (shortcuts_between directed low high passed.there passed.back (left_of S v))) low high passed.there passed.back apart
    (between_made directed (length S.made) low high passed.there passed.back (left_of S v) apart same) pass.some a b)

-- vertices that share a link are those of which something is kept
pub near_kept : (links : List (LinkOf ℤ)) (v x : ℤ) → IsSome (way_at links v x) → IsNeighbour (Contains links) v x
near_kept links v x some = by (same_id x v) where
  found : (o p : Option ℕ) → x ≢ v → IsLeastOr (Contains links) v x o → IsLeastOr (Contains links) x v p → IsSome (way_of o p) → IsNeighbour (Contains links) v x
  found None None differs first second h = absurd (nothing_not h)
  found None (Some c) differs first second h = (differs, (second.link, (second.has, inr (second.from, second.to))))
  found (Some c) p differs first second h = (differs, (first.link, (first.has, inl (first.from, first.to))))

  by : (x ≡ v) ⊎ (x ≢ v) → IsNeighbour (Contains links) v x
  by (inl same) = absurd (nothing_not (subst IsSome (way_at-same links v x (sym same)) some))
  by (inr differs) = found (least_link links v x) (least_link links x v) differs (least_link-is links v x) (least_link-is links x v)
      (subst IsSome (way_at-apart links v x (λ e. differs (sym e))) some)

pub kept_near : (links : List (LinkOf ℤ)) (v x : ℤ) → IsNeighbour (Contains links) v x → IsSome (way_at links v x)
kept_near links v x (differs, (link, (has, either))) = by either where
  at : (o p : Option ℕ) → IsLeastOr (Contains links) v x o → IsLeastOr (Contains links) x v p → ((link.from ≡ v) × (link.to ≡ x)) ⊎ ((link.from ≡ x) × (link.to ≡ v))
      → IsSome (way_of o p)
  at None None first second (inl (from, to)) = absurd (first (link, (has, (from, to))))
  at None None first second (inr (from, to)) = absurd (second (link, (has, (from, to))))
  at None (Some c) first second e = refl
  at (Some c) p first second e = refl

  by : ((link.from ≡ v) × (link.to ≡ x)) ⊎ ((link.from ≡ x) × (link.to ≡ v)) → IsSome (way_at links v x)
  by e = subst IsSome (sym (way_at-apart links v x (λ f. differs (sym f))))
      (at (least_link links v x) (least_link links x v) (least_link-is links v x) (least_link-is links x v) e)

-- nothing is kept of a neighbour: there is none
none_some : (o : Option (Option ℕ)) → o ≡ None → IsSome o → ⊥
none_some None e h = nothing_not h
none_some (Some x) e h = cc

int_between : (x y : ℤ) → x ≤ℤ y → (x <ℤ y → ⊥) → y ≡ x
int_between x y le not = by (same_id y x) where
  by : (y ≡ x) ⊎ (y ≢ x) → y ≡ x
  by (inl same) = same
  by (inr differs) = absurd (not (omega (arith, ints)))

module _ (links : List (LinkOf ℤ)) (ways : BTreeMap (ℤ × ℤ) (Option ℕ)) (holds : HoldsWays links ways) (v : ℤ) where
  kept_of : (x : ℤ) → IsNeighbour (Contains links) v x → IsSome (at_pair ways v x)
  kept_of x near = subst IsSome (sym (holds v x)) (kept_near links v x near)

  near_of : (x : ℤ) → IsSome (at_pair ways v x) → IsNeighbour (Contains links) v x
  near_of x some = near_kept links v x (subst IsSome (holds v x) some)

  -- the costs that are kept are least costs
  pub cost_is : (a b : ℤ) → a ≢ b → IsLeastOr (Contains links) a b (kept_cost (at_pair ways a b))
  cost_is a b apart = subst (λ o. IsLeastOr (Contains links) a b o) (sym (ap kept_cost (holds a b) ∙ kept-way_at links a b apart)) (least_link-is links a b)

  -- with no neighbour it qualifies for no method
  pub alone_not : (method : Method) → IsNear ways (λ _. Unit {0}) v None → Qualifies method (Contains links) v → ⊥
  alone_not DeadEnd none (u, one) = none_some (at_pair ways v u) (none u tt) (kept_of u one.neighbour)
  alone_not Linear none (low, (high, (two, way))) = none_some (at_pair ways v low) (none low tt) (kept_of low two.first)

  -- the first neighbour, with none above it, is the one neighbour
  pub one_is : (u : ℤ) → IsNear ways (λ _. Unit {0}) v (Some u) → IsNear ways (λ z. u <ℤ z) v None → HasOne (Contains links) v u
  one_is u first none = record {
    neighbour = near_of u first.1.0;
    only = λ x near. int_between u x (first.1.1 x tt (kept_of x near)) (λ above. none_some (at_pair ways v x) (none x above) (kept_of x near));
  }

  -- with another above it there is not one alone
  pub one_not : (u w : ℤ) → IsNear ways (λ _. Unit {0}) v (Some u) → IsNear ways (λ z. u <ℤ z) v (Some w) → Qualifies DeadEnd (Contains links) v → ⊥
  one_not u w first next (x, one) =
      let a : u ≡ x = one.only u (near_of u first.1.0) in
      let b : w ≡ x = one.only w (near_of w next.1.0) in
      let less : u <ℤ w = next.0 in
      absurd (omega (arith, ints))

  -- the first two, with none above them, are the two neighbours
  pub two_are : (u w : ℤ) → IsNear ways (λ _. Unit {0}) v (Some u) → IsNear ways (λ z. u <ℤ z) v (Some w) → IsNear ways (λ z. w <ℤ z) v None → HasTwo (Contains links) v u w
  two_are u w first next none = record {
    less = next.0;
    first = near_of u first.1.0;
    second = near_of w next.1.0;
    only = λ x near. by x near (same_id x u);
  }
    where
      by : (x : ℤ) → IsNeighbour (Contains links) v x → (x ≡ u) ⊎ (x ≢ u) → (x ≡ u) ⊎ (x ≡ w)
      by x near (inl same) = inl same
      by x near (inr differs) =
          let least : u ≤ℤ x = first.1.1 x tt (kept_of x near) in
          let above : u <ℤ x = omega (arith, ints) in
          inr (int_between w x (next.1.1 x above (kept_of x near)) (λ far. none_some (at_pair ways v x) (none x far) (kept_of x near)))

  -- two neighbours of a vertex that has two are the two, in order
  pub two_same : (u w low high : ℤ) → u <ℤ w → IsNeighbour (Contains links) v u → IsNeighbour (Contains links) v w → HasTwo (Contains links) v low high → (u ≡ low) × (w ≡ high)
  two_same u w low high less near_u near_w two = by (two.only u near_u) (two.only w near_w) where
    by : (u ≡ low) ⊎ (u ≡ high) → (w ≡ low) ⊎ (w ≡ high) → (u ≡ low) × (w ≡ high)
    by (inl a) (inr b) = (a, b)
    by (inl a) (inl b) = absurd (omega (arith, ints))
    by (inr a) (inr b) = absurd (omega (arith, ints))
    by (inr a) (inl b) = let up : low <ℤ high = two.less in absurd (omega (arith, ints))

  -- with only one neighbour it has not two
  pub few_not : (u : ℤ) → IsNear ways (λ _. Unit {0}) v (Some u) → IsNear ways (λ z. u <ℤ z) v None → Qualifies Linear (Contains links) v → ⊥
  few_not u first none (low, (high, (two, way))) =
      let one = one_is u first none in
      let a : low ≡ u = one.only low two.first in
      let b : high ≡ u = one.only high two.second in
      let up : low <ℤ high = two.less in
      absurd (omega (arith, ints))

  -- with a third it has not two
  pub many_not : (u w x : ℤ) → IsNear ways (λ _. Unit {0}) v (Some u) → IsNear ways (λ z. u <ℤ z) v (Some w) → IsNear ways (λ z. w <ℤ z) v (Some x)
      → Qualifies Linear (Contains links) v → ⊥
  many_not u w x first next third (low, (high, (two, way))) =
      let same = two_same u w low high next.0 (near_of u first.1.0) (near_of w next.1.0) two in
      let more = two_same u x low high (let a : u <ℤ w = next.0 in let b : w <ℤ x = third.0 in omega (arith, ints)) (near_of u first.1.0) (near_of x third.1.0) two in
      let e : w ≡ x = same.1 ∙ sym more.1 in
      let b : w <ℤ x = third.0 in
      absurd (omega (arith, ints))

  -- with two neighbours and no way it doesn't qualify
  pub way_not : (u w : ℤ) → HasTwo (Contains links) v u w → IsWayCost (Contains links) u v w None → IsWayCost (Contains links) w v u None → Qualifies Linear (Contains links) v → ⊥
  way_not u w found no_there no_back (low, (high, (two, way))) =
      let same = two_same u w low high found.less found.first found.second two in
      elim way as (λ _. ⊥) [
        | inl there ↦ no_there (subst (λ x. IsWay (Contains links) u v x) (sym same.1) (subst (λ x. IsWay (Contains links) x v high) (sym same.0) there))
        | inr back ↦ no_back (subst (λ x. IsWay (Contains links) w v x) (sym same.0) (subst (λ x. IsWay (Contains links) x v low) (sym same.1) back))
      ]

-- what a way costs, by what is kept
pub pass_cost : (links : List (LinkOf ℤ)) (ways : BTreeMap (ℤ × ℤ) (Option ℕ)) → HoldsWays links ways → (a v b : ℤ) → a ≢ v → b ≢ v → (o p s : Option ℕ)
    → o ≡ kept_cost (at_pair ways a v)
    → p ≡ kept_cost (at_pair ways v b) → s ≡ cost_sum o p → IsWayCost (Contains links) a v b s
pass_cost links ways holds a v b a_v b_v o p s first second sum =
    subst (λ x. IsWayCost (Contains links) a v b x) (sym sum) (cost_sum-is (Contains links) a v b o p
    (subst (λ x. IsLeastOr (Contains links) a v x) (sym first) (cost_is links ways holds v a v a_v))
    (subst (λ x. IsLeastOr (Contains links) v b x) (sym second) (cost_is links ways holds v v b (λ e. b_v (sym e)))))

-- the two neighbours of a vertex are always the same two
pub two_same_of : (links : List (LinkOf ℤ)) (v low high other_low other_high : ℤ) → HasTwo (Contains links) v low high → HasTwo (Contains links) v other_low other_high
    → (low ≡ other_low) × (high ≡ other_high)
two_same_of links v low high other_low other_high two other = by (other.only low two.first) (other.only high two.second) where
  by : (low ≡ other_low) ⊎ (low ≡ other_high) → (high ≡ other_low) ⊎ (high ≡ other_high) → (low ≡ other_low) × (high ≡ other_high)
  by (inl a) (inr b) = (a, b)
  by (inl a) (inl b) = let up : low <ℤ high = two.less in absurd (omega (arith, ints))
  by (inr a) (inr b) = let up : low <ℤ high = two.less in absurd (omega (arith, ints))
  by (inr a) (inl b) = let up : low <ℤ high = two.less in let over : other_low <ℤ other_high = other.less in absurd (omega (arith, ints))

-- of one link more of a list
pub HoldsWays-take : (links : List (LinkOf ℤ)) (i : ℕ) (link : LinkOf ℤ) (ways : BTreeMap (ℤ × ℤ) (Option ℕ)) → i < length links
    → HoldsWays (take i links ++ get_or links i link ∷ []) ways → HoldsWays (take (i + 1) links) ways
HoldsWays-take links i link ways below holds = subst (λ ls. HoldsWays ls ways) (sym (take_more links i link below)) holds
