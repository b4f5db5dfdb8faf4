-- Ancestors in a forest whose parents are less than their children.
use Rattle.std.proofs.Common.{◌≡◌, ◌≢◌, ℕ, zero, suc, ◌<◌, ◌≤◌, List, Option, Some, refl, sym, subst, ◌∙◌, arith}
use Rattle.std.proofs.lemmas.Option.{same_Some}
use Rattle.pgr_spans.specs.Forest.{parent_of, Climbs, IsAncestor, ParentsFall}

-- a vertex is its own ancestor
pub ancestor_itself : (parents : List (Option ℕ)) (a : ℕ) → IsAncestor parents a a
ancestor_itself parents a = (0, refl)

-- an ancestor of the parent is one of the child
pub ancestor_above : (parents : List (Option ℕ)) (a q j : ℕ) → parent_of parents j ≡ Some q → IsAncestor parents a q → IsAncestor parents a j
ancestor_above parents a q j parent (steps, climbs) = (suc steps, (q, parent, climbs))

module _ (parents : List (Option ℕ)) where
  climbs_trans : (steps a b j : ℕ) → IsAncestor parents a b → Climbs parents steps b j → IsAncestor parents a j
  climbs_trans zero a b j first second = subst (IsAncestor parents a) second first
  climbs_trans (suc steps) a b j first (q, parent, climbs) =
      ancestor_above parents a q j parent (climbs_trans steps a b q first climbs)

  pub ancestor_trans : (a b j : ℕ) → IsAncestor parents a b → IsAncestor parents b j → IsAncestor parents a j
  ancestor_trans a b j first (steps, climbs) = climbs_trans steps a b j first climbs

  -- an ancestor other than the vertex itself is one of its parent
  pub ancestor_of_parent : (a j : ℕ) → IsAncestor parents a j → a ≢ j → (q : ℕ) × (parent_of parents j ≡ Some q) × IsAncestor parents a q
  ancestor_of_parent a j (zero, same) differs = absurd (differs same)
  ancestor_of_parent a j (suc steps, (q, parent, climbs)) differs = (q, parent, (steps, climbs))

  module _ (falls : ParentsFall parents) where
    climbs_down : (steps a j : ℕ) → Climbs parents steps a j → a ≤ j
    climbs_down zero a j same = omega arith
    climbs_down (suc steps) a j (q, parent, climbs) =
        let below : a ≤ q = climbs_down steps a q climbs in
        let lower : q < j = falls j q parent in
        omega arith

    -- an ancestor is no greater
    pub ancestor_le : (a j : ℕ) → IsAncestor parents a j → a ≤ j
    ancestor_le a j (steps, climbs) = climbs_down steps a j climbs

    climbs_order : (steps a b j : ℕ) → Climbs parents steps a j → IsAncestor parents b j → a ≤ b → IsAncestor parents a b
    climbs_order zero a b j same second le =
        let lower : b ≤ j = ancestor_le b j second in
        let equal : b ≡ a = omega arith in
        (0, sym equal)
    climbs_order (suc steps) a b j first (zero, same) le = (suc steps, subst (λ i. Climbs parents (suc steps) a i) (sym same) first)
    climbs_order (suc steps) a b j (q, parent, climbs) (suc others, (p, other, second)) le =
        let one : q ≡ p = same_Some q p (sym parent ∙ other) in
        climbs_order steps a b q climbs (others, subst (Climbs parents others b) (sym one) second) le

    -- of two ancestors of a vertex the lesser is one of the greater
    pub ancestor_order : (a b j : ℕ) → IsAncestor parents a j → IsAncestor parents b j → a ≤ b → IsAncestor parents a b
    ancestor_order a b j (steps, climbs) second le = climbs_order steps a b j climbs second le
