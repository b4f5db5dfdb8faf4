-- Classes of an equivalence have the same name exactly where they are one class.
use Rattle.std.proofs.Common.{◌≡◌, ℕ, ◌<◌, ◌≤◌, ◌↔◌, inl, inr, List, [], ◌∷◌, get_or, refl, sym, subst, arith}
use Rattle.pgr_walks.specs.declared.link.LinkOf.{LinkOf}
use Rattle.pgr_walks.specs.Walk.{IsWalk}
use Rattle.pgr_walks.specs.Reaches.{Reaches, turned, BothWays}
use Rattle.pgr_parts.specs.Classes.{AreClassNames, Connected, StronglyConnected}
use Rattle.pgr_parts.proofs.Orders.{at_most}

module _ {V : Type 0} (Has : LinkOf V → Type 0) where
  walk_on : (u : V) (walk : List (LinkOf V)) (v w : V) → IsWalk Has u walk v → Reaches Has v w → Reaches Has u w
  walk_on u [] v w is on = subst (λ x. Reaches Has x w) (sym is) on
  walk_on u (link ∷ rest) v w is on = (let h = walk_on link.to rest v w is.2 on in (link ∷ h.0, (is.0, is.1, h.1)))

  -- one walk after another
  pub reaches_on : (u v w : V) → Reaches Has u v → Reaches Has v w → Reaches Has u w
  reaches_on u v w a b = walk_on u a.0 v w a.1 b

  -- links taken both ways, turned
  pub turned_both : (link : LinkOf V) → BothWays Has link → BothWays Has (turned link)
  turned_both link (inl has) = inr has
  turned_both link (inr has) = inl has

module _ {V : Type 0} (Has : LinkOf V → Type 0) where
  walk_back : (u : V) (walk : List (LinkOf V)) (v : V) → IsWalk (BothWays Has) u walk v → Connected Has v u
  walk_back u [] v is = ([], sym is)
  walk_back u (link ∷ rest) v is =
      reaches_on (BothWays Has) v link.to u (walk_back link.to rest v is.2) (turned link ∷ [], (turned_both Has link is.0, refl, is.1))

  -- links taken both ways lead back
  pub connected_back : (u v : V) → Connected Has u v → Connected Has v u
  connected_back u v h = walk_back u h.0 v h.1

-- the names of an equivalence
module _ (InClass : ℕ → ℕ → Type 0) (back : (u v : ℕ) → InClass u v → InClass v u) (on : (u v w : ℕ) → InClass u v → InClass v w → InClass u w) where
  pub same_name : (size : ℕ) (names : List ℕ) → AreClassNames InClass size names → (u v : ℕ) → u < size → v < size → (get_or names u 0 ≡ get_or names v 0) ↔ InClass u v
  same_name size names h u v below below' =
      let a = h.each u below in
      let b = h.each v below' in (
        (λ e. on u (get_or names u 0) v a.member (subst (λ x. InClass x v) (sym e) (back v (get_or names v 0) b.member))),
        (λ both.
            let le : get_or names u 0 ≤ get_or names v 0 = at_most _ _ (a.least (get_or names v 0) (on u v (get_or names v 0) both b.member)) in
            let ge : get_or names v 0 ≤ get_or names u 0 = at_most _ _ (b.least (get_or names u 0) (on v u (get_or names u 0) (back u v both) a.member)) in
            omega arith),
      )

pub strong_back : {V : Type 0} (Has : LinkOf V → Type 0) (u v : V) → StronglyConnected Has u v → StronglyConnected Has v u
strong_back Has u v h = (h.1, h.0)

pub strong_on : {V : Type 0} (Has : LinkOf V → Type 0) (u v w : V) → StronglyConnected Has u v → StronglyConnected Has v w → StronglyConnected Has u w
strong_on Has u v w a b = (reaches_on Has u v w a.0 b.0, reaches_on Has w v u b.1 a.1)

module _ {V : Type 0} where
  walk_over : (A B : LinkOf V → Type 0) → ((link : LinkOf V) → A link → B link) → (u : V) (walk : List (LinkOf V)) (v : V) → IsWalk A u walk v → IsWalk B u walk v
  walk_over A B each u [] v is = is
  walk_over A B each u (link ∷ rest) v is = (each link is.0, is.1, walk_over A B each link.to rest v is.2)

  only_way : (Has : LinkOf V → Type 0) → ((link : LinkOf V) → Has link → Has (turned link)) → (link : LinkOf V) → BothWays Has link → Has link
  only_way Has opposite link (inl has) = has
  only_way Has opposite link (inr has) = opposite (turned link) has

  -- where each link leads back, walks over the links taken both ways are walks
  pub connected_reaches : (Has : LinkOf V → Type 0) → ((link : LinkOf V) → Has link → Has (turned link)) → (u v : V) → Connected Has u v ↔ Reaches Has u v
  connected_reaches Has opposite u v =
      ((λ h. (h.0, walk_over (BothWays Has) Has (only_way Has opposite) u h.0 v h.1)), (λ h. (h.0, walk_over Has (BothWays Has) (λ link has. inl has) u h.0 v h.1)))
