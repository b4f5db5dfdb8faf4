-- The test of two links for equality, part by part, and by how they compare.
use Rattle.std.proofs.Common.{◌≡◌, ℕ, List, [], ◌∷◌, Bool, true, false, ◌&&◌, ◌||◌, eqb, refl, sym, subst}
use Rattle.std.specs.Ordering.{nat_cmp, int_eq, eq_by_cmp}
use Rattle.std.specs.Cmp.{Equal-is}
use Rattle.std.specs.List.{list_any}
use Rattle.std.proofs.lemmas.Bool.{eqb-true, eq-eqb}
use Rattle.std.proofs.lemmas.Cmp.{tied_itself, nat_cmp_total, int_cmp_total}
use Rattle.pgr_walks.specs.declared.link.LinkOf.{LinkOf}
use Rattle.pgr_walks.specs.Link.{link_cmp}
use Rattle.pgr_walks.specs.LinkOrders.{link_total, link_tie, nat_tie, int_tie, same_link}

-- tests that answer alike find alike
pub list_any_same : {X : Type 0} (p q : X → Bool) → ((x : X) → p x ≡ q x) → (xs : List X) → list_any p xs ≡ list_any q xs
list_any_same p q same [] = refl
list_any_same p q same (x ∷ xs) =
    let here = same x in
    let rest = list_any_same p q same xs in
    λ i. here i || rest i

-- whether two links have the same parts
abbrev pub is_link : LinkOf ℕ → LinkOf ℕ → Bool
is_link a b = eqb a.from b.from && (int_eq a.edge b.edge && (eqb a.cost b.cost && eqb a.to b.to))

both_true : (a b : Bool) → a && b ≡ true → (a ≡ true) × (b ≡ true)
both_true true b e = (refl, e)
both_true false b e = cc

alike : (a b : Bool) → (a ≡ true → b ≡ true) → (b ≡ true → a ≡ true) → a ≡ b
alike true b there back = sym (there refl)
alike false true there back = back refl
alike false false there back = refl

-- links with the same parts compare as equal, and no others
pub is_link_by_cmp : (a b : LinkOf ℕ) → is_link a b ≡ eq_by_cmp (link_cmp nat_cmp) b a
is_link_by_cmp a b = alike (is_link a b) (eq_by_cmp (link_cmp nat_cmp) b a) there back
  where
    there : is_link a b ≡ true → eq_by_cmp (link_cmp nat_cmp) b a ≡ true
    there e =
        let from = both_true (eqb a.from b.from) (int_eq a.edge b.edge && (eqb a.cost b.cost && eqb a.to b.to)) e in
        let edge = both_true (int_eq a.edge b.edge) (eqb a.cost b.cost && eqb a.to b.to) from.1 in
        let cost = both_true (eqb a.cost b.cost) (eqb a.to b.to) edge.1 in
        let same = same_link a b (eqb-true a.from b.from from.0) (int_tie a.edge b.edge ((Equal-is _).0 edge.0)) (eqb-true a.cost b.cost cost.0) (eqb-true a.to b.to cost.1) in
        subst (λ x. eq_by_cmp (link_cmp nat_cmp) b x ≡ true) (sym same) ((Equal-is _).1 (tied_itself (link_total nat_cmp nat_cmp_total) b))

    back : eq_by_cmp (link_cmp nat_cmp) b a ≡ true → is_link a b ≡ true
    back e =
        let same : b ≡ a = link_tie nat_cmp nat_tie b a ((Equal-is _).0 e) in
        subst (λ x. is_link x b ≡ true) same (itself b)
      where
        itself : (x : LinkOf ℕ) → is_link x x ≡ true
        itself x = rw (eq-eqb x.from x.from refl, eq-eqb x.cost x.cost refl, eq-eqb x.to x.to refl)
            (let edge : int_eq x.edge x.edge ≡ true = (Equal-is _).1 (tied_itself int_cmp_total x.edge) in rw edge refl)
