-- Low points: lowered along segments, and then from children to parents, they are the least numbers reached.
use Rattle.std.proofs.Common.{◌≡◌, ◌≢◌, ◌⊎◌, inl, inr, ⊎_elim, ℕ, zero, suc, ◌+◌, ◌<◌, ◌≤◌, min, List, length, get_or, take, Option, Some, None, refl, sym, subst, ◌∙◌, ap, arith}
use Rattle.std.specs.List.{Contains}
use Rattle.std.proofs.lemmas.Bool.{cases_eq, cases_lt}
use Rattle.std.proofs.lemmas.List.{get_or-set_same, get_or-set_other, length-set, take_more}
use Rattle.std.proofs.lemmas.List.Elements.{Contains-push_cases}
use Rattle.pgr_spans.specs.declared.segment.Segment.{Segment}
use Rattle.pgr_spans.specs.Forest.{parent_of, Climbs, IsAncestor, ParentsFall, AreReached, AreLowPoints}
use Rattle.pgr_spans.specs.Segment.{AreItself, ReachesNear, lowered, parent_lowered}
use Rattle.pgr_spans.proofs.Ancestors.{ancestor_itself, ancestor_above, ancestor_trans}

-- after the children from v on
pub record AreLowered (parents : List (Option ℕ)) (segments : List Segment) (v : ℕ) (lows : List ℕ) : Type 0 where
  pub are_reached : AreReached parents segments lows
  pub near : ReachesNear segments lows
  pub child : (w p : ℕ) → v ≤ w → parent_of parents w ≡ Some p → get_or lows p 0 ≤ get_or lows w 0

-- what is at the lowered place
lowered_here : (lows : List ℕ) (v low : ℕ) → v < length lows → get_or (lowered lows v low) v 0 ≡ min (get_or lows v 0) low
lowered_here lows v low inside = get_or-set_same lows v (min (get_or lows v 0) low) 0 inside

-- and at another
lowered_other : (lows : List ℕ) (v low u : ℕ) → u ≢ v → get_or (lowered lows v low) u 0 ≡ get_or lows u 0
lowered_other lows v low u differs = get_or-set_other lows v u (min (get_or lows v 0) low) 0 differs

-- nothing rises
pub lowered_le : (lows : List ℕ) (v low u : ℕ) → v < length lows → get_or (lowered lows v low) u 0 ≤ get_or lows u 0
lowered_le lows v low u inside = ⊎_elim
    (λ same. let here = lowered_here lows v low inside in let at = ap (λ i. get_or (lowered lows v low) i 0) same in let was = ap (λ i. get_or lows i 0) same in omega arith)
    (λ differs. let other = lowered_other lows v low u differs in omega arith)
    (cases_eq u v)

-- and the lowered place is low
pub lowered_low : (lows : List ℕ) (v low : ℕ) → v < length lows → get_or (lowered lows v low) v 0 ≤ low
lowered_low lows v low inside = let here = lowered_here lows v low inside in omega arith

-- lowered to what a segment from below leads to, each number is still reached
pub lowered_reached : (parents : List (Option ℕ)) (segments : List Segment) (lows : List ℕ) (v low : ℕ) → v < length parents → AreReached parents segments lows
    → (low < get_or lows v 0 → (segment : Segment) × Contains segments segment × (segment.near ≡ low) × IsAncestor parents v segment.far)
    → AreReached parents segments (lowered lows v low)
lowered_reached parents segments lows v low inside are leads = record {
  size = length-set lows v (min (get_or lows v 0) low) ∙ are.size;
  itself = λ u below. let le = lowered_le lows v low u within in let was = are.itself u below in omega arith;
  reached = λ u below. reached u below (cases_eq u v) (cases_lt low (get_or lows v 0)) (are.reached u below);
} where
  within : v < length lows
  within = let e = are.size in omega arith

  reached : (u : ℕ) → u < length parents → (u ≡ v) ⊎ (u ≡ v → ⊥) → (low < get_or lows v 0) ⊎ (get_or lows v 0 ≤ low)
      → (get_or lows u 0 ≡ u) ⊎ ((segment : Segment) × Contains segments segment × (segment.near ≡ get_or lows u 0) × IsAncestor parents u segment.far)
      → (get_or (lowered lows v low) u 0 ≡ u) ⊎ ((segment : Segment) × Contains segments segment × (segment.near ≡ get_or (lowered lows v low) u 0)
      × IsAncestor parents u segment.far)
  reached u below (inr differs) cases was =
      let P : ℕ → Type 0 = λ n. (n ≡ u) ⊎ ((segment : Segment) × Contains segments segment × (segment.near ≡ n) × IsAncestor parents u segment.far) in
      subst P (sym (lowered_other lows v low u differs)) was
  reached u below (inl same) (inr not) was =
      let P : ℕ → Type 0 = λ n. (n ≡ u) ⊎ ((segment : Segment) × Contains segments segment × (segment.near ≡ n) × IsAncestor parents u segment.far) in
      let here : get_or (lowered lows v low) v 0 ≡ min (get_or lows v 0) low = lowered_here lows v low within in
      let stays : get_or (lowered lows v low) v 0 ≡ get_or lows v 0 = omega arith in
      let at : get_or (lowered lows v low) u 0 ≡ get_or lows u 0 = ap (λ i. get_or (lowered lows v low) i 0) same ∙ (stays ∙ sym (ap (λ i. get_or lows i 0) same)) in
      subst P (sym at) was
  reached u below (inl same) (inl less) was =
      let (segment, has, near, under) = leads less in
      let here : get_or (lowered lows v low) v 0 ≡ min (get_or lows v 0) low = lowered_here lows v low within in
      let lower : get_or (lowered lows v low) v 0 ≡ low = omega arith in
      let at : get_or (lowered lows v low) u 0 ≡ low = ap (λ i. get_or (lowered lows v low) i 0) same ∙ lower in
      inr (segment, has, near ∙ sym at, subst (λ i. IsAncestor parents i segment.far) (sym same) under)

-- segments that reach their near ends still do
pub lowered_near : (segments : List Segment) (lows : List ℕ) (v low : ℕ) → v < length lows → ReachesNear segments lows → ReachesNear segments (lowered lows v low)
lowered_near segments lows v low inside near segment has =
    let le = lowered_le lows v low segment.far inside in
    let was = near segment has in
    omega arith

-- numbers at their own places are reached
pub itself_reached : (parents : List (Option ℕ)) (segments : List Segment) (lows : List ℕ) → AreItself (length lows) lows → length parents ≡ length lows
    → AreReached parents segments lows
itself_reached parents segments lows are same = record {
  size = sym same;
  itself = λ v below. let e = are.each v (omega arith) in omega arith;
  reached = λ v below. inl (are.each v (omega arith));
}

-- a segment lowers its far end
pub segment_reached : (parents : List (Option ℕ)) (segments : List Segment) (lows : List ℕ) (segment : Segment) → segment.far < length parents → Contains segments segment
    → AreReached parents segments lows → AreReached parents segments (lowered lows segment.far segment.near)
segment_reached parents segments lows segment inside has are =
    lowered_reached parents segments lows segment.far segment.near inside are (λ less. (segment, has, refl, ancestor_itself parents segment.far))

-- a child lowers its parent
pub child_lowered : (parents : List (Option ℕ)) (segments : List Segment) (v : ℕ) (lows : List ℕ) → ParentsFall parents → v < length parents
    → AreLowered parents segments (v + 1) lows → AreLowered parents segments v (parent_lowered lows (parent_of parents v) v)
child_lowered parents segments v lows falls inside are = by (parent_of parents v) refl where
  within : v < length lows
  within = let e = are.are_reached.size in omega arith

  by : (parent : Option ℕ) → parent_of parents v ≡ parent → AreLowered parents segments v (parent_lowered lows parent v)
  by None is = record {
    are_reached = are.are_reached;
    near = are.near;
    child = λ w p le parent. ⊎_elim
        (λ same. let none : parent_of parents w ≡ None = ap (parent_of parents) same ∙ is in let e : Some p ≡ None = sym parent ∙ none in absurd (cc))
        (λ differs. are.child w p (omega arith) parent)
        (cases_eq w v);
  }
  by (Some q) is = record {
    are_reached = lowered_reached parents segments lows q (get_or lows v 0) (omega (arith, q_below)) are.are_reached (λ less. leads less (are.are_reached.reached v inside));
    near = lowered_near segments lows q (get_or lows v 0) (omega (arith, q_below, within)) are.near;
    child = λ w p le parent. child w p le parent (cases_eq w v);
  } where
    q_below : q < v
    q_below = falls v q is

    q_within : q < length lows
    q_within = omega (arith, q_below, within)

    leads : get_or lows v 0 < get_or lows q 0 → (get_or lows v 0 ≡ v)
        ⊎ ((segment : Segment) × Contains segments segment × (segment.near ≡ get_or lows v 0) × IsAncestor parents v segment.far)
        → (segment : Segment) × Contains segments segment × (segment.near ≡ get_or lows v 0) × IsAncestor parents q segment.far
    leads less (inl itself) =
        let lower : get_or lows q 0 ≤ q = are.are_reached.itself q (omega (arith, q_below)) in
        absurd (omega (arith, q_below))
    leads less (inr (segment, has, near, under)) =
        (segment, has, near, ancestor_trans parents q v segment.far (ancestor_above parents q q v is (ancestor_itself parents q)) under)

    child : (w p : ℕ) → v ≤ w → parent_of parents w ≡ Some p → (w ≡ v) ⊎ (w ≡ v → ⊥) → get_or (lowered lows q (get_or lows v 0)) p 0 ≤ get_or (lowered lows q (get_or lows v 0)) w 0
    child w p le parent (inl same) =
        let one : Some p ≡ Some q = sym parent ∙ (ap (parent_of parents) same ∙ is) in
        let p_is : p ≡ q = cc in
        let low : get_or (lowered lows q (get_or lows v 0)) q 0 ≤ get_or lows v 0 = lowered_low lows q (get_or lows v 0) q_within in
        let low_p : get_or (lowered lows q (get_or lows v 0)) p 0 ≡ get_or (lowered lows q (get_or lows v 0)) q 0 = ap (λ i. get_or (lowered lows q (get_or lows v 0)) i 0) p_is in
        let stays : get_or (lowered lows q (get_or lows v 0)) w 0 ≡ get_or lows w 0 = lowered_other lows q (get_or lows v 0) w (λ e. absurd (omega (arith, q_below))) in
        let at : get_or lows w 0 ≡ get_or lows v 0 = ap (λ i. get_or lows i 0) same in
        omega arith
    child w p le parent (inr differs) =
        let low : get_or (lowered lows q (get_or lows v 0)) p 0 ≤ get_or lows p 0 = lowered_le lows q (get_or lows v 0) p q_within in
        let stays : get_or (lowered lows q (get_or lows v 0)) w 0 ≡ get_or lows w 0 = lowered_other lows q (get_or lows v 0) w (λ e. absurd (omega (arith, q_below))) in
        let was : get_or lows p 0 ≤ get_or lows w 0 = are.child w p (omega arith) parent in
        omega arith

-- up the tree numbers don't rise
climbs_low : (parents : List (Option ℕ)) (lows : List ℕ) → ((w p : ℕ) → 0 ≤ w → parent_of parents w ≡ Some p → get_or lows p 0 ≤ get_or lows w 0) → (steps a j : ℕ)
    → Climbs parents steps a j → get_or lows a 0 ≤ get_or lows j 0
climbs_low parents lows child zero a j same = let at = ap (λ i. get_or lows i 0) same in omega arith
climbs_low parents lows child (suc steps) a j (q, parent, climbs) =
    let above : get_or lows a 0 ≤ get_or lows q 0 = climbs_low parents lows child steps a q climbs in
    let below : get_or lows q 0 ≤ get_or lows j 0 = child j q (omega arith) parent in
    omega arith

-- after all children they are the low points
pub all_lowered : (parents : List (Option ℕ)) (segments : List Segment) (lows : List ℕ) → AreLowered parents segments 0 lows → AreLowPoints parents segments lows
all_lowered parents segments lows are = record {
  are_reached = are.are_reached;
  least = λ v segment has (steps, climbs).
      let above : get_or lows v 0 ≤ get_or lows segment.far 0 = climbs_low parents lows are.child steps v segment.far climbs in
      let near : get_or lows segment.far 0 ≤ segment.near = are.near segment has in
      omega arith;
}

-- one more segment reaches its near end
pub near_more : (segments : List Segment) (i : ℕ) (d : Segment) (lows : List ℕ) → i < length segments → (get_or segments i d).far < length lows
    → ReachesNear (take i segments) lows → ReachesNear (take (i + 1) segments) (lowered lows (get_or segments i d).far (get_or segments i d).near)
near_more segments i d lows inside below near segment has =
    ⊎_elim
    (λ old. lowered_near (take i segments) lows (get_or segments i d).far (get_or segments i d).near below near segment old)
    (λ same.
    let low = lowered_low lows (get_or segments i d).far (get_or segments i d).near below in
    subst (λ s. get_or (lowered lows (get_or segments i d).far (get_or segments i d).near) s.far 0 ≤ s.near) same low)
    (Contains-push_cases (take i segments) (get_or segments i d) segment (subst (λ xs. Contains xs segment) (take_more segments i d inside) has))
