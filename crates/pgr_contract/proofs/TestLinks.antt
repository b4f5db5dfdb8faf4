-- Links that a test may give: found so by looking at one link after the other.
use Rattle.std.proofs.Common.{◌≡◌, ◌⊎◌, inl, inr, ℕ, ◌+◌, ◌*◌, ◌<◌, ◌≤◌, ℤ, pos, negsuc, Bool, true, false, cond, List, length, take, get_or, refl, sym, subst, ◌∙◌, arith}
use Rattle.std.specs.Prelude.{◌≤ℤ◌}
use Rattle.std.specs.List.{Contains}
use Rattle.std.proofs.lemmas.Int.{ints}
use Rattle.std.proofs.lemmas.List.{take_more}
use Rattle.std.specs.Bool.{Decides}
use Rattle.std.specs.List.{IsAnyAnswer}
use Rattle.std.specs.Ordering.{int_cmp, eq_by_cmp}
use Rattle.std.specs.Cmp.{Equal-is}
use Rattle.std.proofs.lemmas.Cmp.{int_cmp_total, eq_by_cmp_equiv}
use Rattle.std.proofs.lemmas.List.Elements.{Contains-push_cases, All-contains_itself, Contains-from_at, contains_decides}
use Rattle.pgr_walks.specs.Link.{link_cmp}
use Rattle.pgr_walks.specs.LinkOrders.{link_total, link_tie, int_tie}
use Rattle.std.proofs.lemmas.List.Sums.{sum_by-le}
use Rattle.pgr_walks.specs.declared.link.LinkOf.{LinkOf}
use Rattle.pgr_walks.specs.Graph.{greatest}
use Rattle.pgr_contract.specs.Weight.{weight, counted, counts}

-- each of the links so far has the property, and so has the next one
pub each_more : (P : LinkOf ℤ → Type 0) (links : List (LinkOf ℤ)) (i : ℕ) (d : LinkOf ℤ) → i < length links → ((link : LinkOf ℤ) → Contains (take i links) link → P link)
    → P (get_or links i d) → (link : LinkOf ℤ) → Contains (take (i + 1) links) link → P link
each_more P links i d below each next link h =
    by (Contains-push_cases (take i links) (get_or links i d) link (subst (λ ls. Contains ls link) (take_more links i d below) h))
  where
    by : Contains (take i links) link ⊎ (get_or links i d ≡ link) → P link
    by (inl before) = each link before
    by (inr last) = subst P last next

-- a number that isn't negative
pub no_negative : (z : ℤ) → pos 0 ≤ℤ z → (n : ℕ) × (z ≡ pos n)
no_negative (pos n) h = (n, refl)
no_negative (negsuc n) h = absurd (omega (arith, ints, h))

-- so many links of so small costs
pub weight-small : (directed : Bool) (links : List (LinkOf ℤ)) (most : ℕ) → ((link : LinkOf ℤ) → Contains links link → link.cost ≤ most)
    → weight directed links ≤ length links * most
weight-small directed links most small =
    sum_by-le (counted directed) most links (λ k d below. one (get_or links k d) (small (get_or links k d) (All-contains_itself links k d below)))
  where
    one : (link : LinkOf ℤ) → link.cost ≤ most → counted directed link ≤ most
    one link h = by (counts directed link) h where
      by : (b : Bool) → link.cost ≤ most → cond b link.cost 0 ≤ most
      by true few = few
      by false few = omega arith

-- links that are at most a million and cost at most a million each
pub weight-light : (directed : Bool) (links : List (LinkOf ℤ)) → length links ≤ 1000000 → ((link : LinkOf ℤ) → Contains links link → link.cost ≤ 1000000)
    → weight directed links ≤ greatest
weight-light directed links few small =
    let sum = weight-small directed links 1000000 small in
    let most : length links * 1000000 ≤ 1000000 * 1000000 = omega (arith, few) in
    omega (arith, sum, most)

-- what was looked for and found
module _ (same : LinkOf ℤ → LinkOf ℤ → Bool) (ties : (x y : LinkOf ℤ) → same x y ≡ eq_by_cmp (link_cmp int_cmp) x y) where
  same_decides : (x y : LinkOf ℤ) → Decides (same x y) (x ≡ y)
  same_decides x y = (
    (λ e. link_tie int_cmp int_tie x y ((Equal-is _).0 (sym (ties x y) ∙ e))),
    (λ e. subst (λ z. same x z ≡ true) e (ties x x ∙ (eq_by_cmp_equiv (link_total int_cmp int_cmp_total)).refl x)),
  )

  pub found_among : (links : List (LinkOf ℤ)) (x wanted : LinkOf ℤ) (r : Bool) → IsAnyAnswer (λ y t. same y x ≡ t) links r → r ≡ true → x ≡ wanted → Contains links wanted
  found_among links x wanted r cases is x_is =
      subst (Contains links) x_is (Contains-from_at links x ((contains_decides same same_decides links x r cases).0 is))
