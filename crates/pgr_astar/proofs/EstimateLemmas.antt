-- How great estimates are, and that they are 0 at their start.
use Rattle.std.proofs.Common.{◌≡◌, ℕ, zero, suc, ◌+◌, ◌*◌, ◌/◌, ◌-ℤ◌, ◌<◌, ◌≤◌, ◌^◌, ◌⊎◌, inl, inr, min, max, ℤ, List, [], ◌∷◌, ◌++◌, Option, Some, None, IsSome, All, length, get_or, refl, sym, ap, ◌∙◌, subst, arith, mul-le-mul}
use Rattle.std.specs.Int.RustNames.{unsigned_abs}
use Rattle.std.proofs.lemmas.Int.{ints}
use Rattle.std.proofs.Math.Nat.{div-le_self}
use Rattle.std.proofs.Math.Seq.{get_or-append_seam}
use Rattle.std.specs.Option.{IsSomeAnd}
use Rattle.std.proofs.lemmas.Bool.{cases_eq}
use Rattle.std.proofs.lemmas.Option.{same_Some}
use Rattle.std.proofs.lemmas.List.{length-append, get_or_append_left, get_or_default}
use Rattle.std.proofs.lemmas.List.Elements.{All-push}
use Rattle.pgr_words.specs.declared.estimate.Heuristic.{Heuristic}
use Rattle.pgr_words.specs.declared.estimate.Heuristic.TheVariants.{H0, H1, H2, H3, H4, H5}
use Rattle.pgr_words.specs.declared.estimate.Factor.{Factor}
use Rattle.pgr_table.specs.Edges.{IsCoordinate}
use Rattle.pgr_astar.specs.declared.point.Point.{Point}
use Rattle.pgr_table.specs.declared.row.EdgeRow.{EdgeRow}
use Rattle.pgr_numbers.specs.Names.{id_at}
use Rattle.pgr_astar.specs.Points.{IsInPlane, point_of}
use Rattle.pgr_astar.specs.Pointing.{ArePoints, AreEstimates}
use Rattle.pgr_astar.specs.Estimate.{apart, IsDistance, IsEstimateBetween, IsEstimate}

-- the square of a distance along an axis
pub square_bound : (d : ℕ) → d ≤ 2 * 10 ^ 15 → d * d ≤ 4 * 10 ^ 30
square_bound d h = let e : d * d ≤ (2 * 10 ^ 15) * (2 * 10 ^ 15) = mul-le-mul h h in e

-- two coordinates are at most this far apart
pub apart_bound : (a b : ℤ) → IsCoordinate a → IsCoordinate b → apart a b ≤ 2 * 10 ^ 15
apart_bound a b h k = omega (arith, ints)

-- a distance times a factor fits, and so does the quotient
pub product_bound : (d over : ℕ) → d ≤ 8 * 10 ^ 30 → over ≤ 1000000 → d * over ≤ 8 * 10 ^ 36
product_bound d over h k = let e : d * over ≤ (8 * 10 ^ 30) * 1000000 = mul-le-mul h k in e

pub quotient_bound : (p under : ℕ) → p ≤ 8 * 10 ^ 36 → p / under < 2 ^ 127
quotient_bound p under h = omega (arith, div-le_self p under)

-- no distance from a coordinate to itself
apart_itself : (a : ℤ) → apart a a ≡ 0
apart_itself a = omega (arith, ints)

root_of_none : (r : ℕ) → r * r ≤ 0 → r ≡ 0
root_of_none zero h = refl
root_of_none (suc r) h = absurd (omega (arith, square_some r))
  where
    square_some : (r : ℕ) → 1 ≤ suc r * suc r
    square_some r = mul-le-mul {n₁ = 1} {m₁ = 1} {n₂ = suc r} {m₂ = suc r} (omega arith) (omega arith)

no_distance : (heuristic : Heuristic) (d : ℕ) → IsDistance heuristic 0 0 d → d ≡ 0
no_distance H0 d e = e
no_distance H1 d e = e
no_distance H2 d e = e
no_distance H3 d e = e
no_distance H4 d e = root_of_none d e.0
no_distance H5 d e = e

none_over : (d over under : ℕ) → d ≡ 0 → d * over / under ≡ 0
none_over d over under e = let p : d * over ≤ 0 = (let q : d * over ≡ 0 * over = ap (λ n. n * over) e in omega (arith, q)) in omega (arith, div-le_self (d * over) under)

-- the estimate of the start itself
pub none_at_start : (heuristic : Heuristic) (factor : Factor) (point : Point) (e : ℕ) → IsEstimateBetween heuristic factor point point e → e ≡ 0
none_at_start heuristic factor point e between =
    let x = apart_itself point.x in
    let y = apart_itself point.y in
    let d : IsDistance heuristic 0 0 between.0 =
    subst (λ dx. IsDistance heuristic dx 0 between.0) x (subst (λ dy. IsDistance heuristic (apart point.x point.x) dy between.0) y between.1) in
    between.2 ∙ none_over between.0 factor.over factor.under (no_distance heuristic between.0 d)

-- so many points, from the first, have their estimates
pub record AreMade (heuristic : Heuristic) (factor : Factor) (from : Point) (points : List (Option Point)) (values : List ℕ) (n : ℕ) : Type 0 where
  pub size : length values ≡ n
  pub small : All (λ value. value < 2 ^ 127) values
  pub estimate : (v : ℕ) (to : Point) → v < n → get_or points v None ≡ Some to → IsEstimateBetween heuristic factor from to (get_or values v 0)

module _ (heuristic : Heuristic) (factor : Factor) (from : Point) (points : List (Option Point)) where
  pub none_made : AreMade heuristic factor from points [] 0
  none_made = record { size = refl; small = λ k d below. absurd (omega arith); estimate = λ v to below e. absurd (omega arith) }

  pub made_more : (values : List ℕ) (n value : ℕ) (to : Point) → AreMade heuristic factor from points values n → get_or points n None ≡ Some to
      → IsEstimateBetween heuristic factor from to value → value < 2 ^ 127 → AreMade heuristic factor from points (values ++ value ∷ []) (n + 1)
  made_more values n value to made is between small = record {
    size = omega (arith, length-append values (value ∷ []), made.size);
    small = All-push (λ value. value < 2 ^ 127) values value made.small small;
    estimate = λ v other below e. at v other e (cases_eq v n) (λ differs. omega arith);
  }
    where
      at : (v : ℕ) (other : Point) → get_or points v None ≡ Some other → (v ≡ n) ⊎ (v ≡ n → ⊥) → ((v ≡ n → ⊥) → v < n)
          → IsEstimateBetween heuristic factor from other (get_or (values ++ value ∷ []) v 0)
      at v other e (inl same) less =
          let last : get_or (values ++ value ∷ []) v 0 ≡ value = ap (λ k. get_or (values ++ value ∷ []) k 0) (same ∙ sym made.size) ∙ get_or-append_seam values value [] 0 in
          let point : to ≡ other = same_Some to other (sym is ∙ ap (λ k. get_or points k None) (sym same) ∙ e) in
          subst (λ x. IsEstimateBetween heuristic factor from other x) (sym last) (subst (λ p. IsEstimateBetween heuristic factor from p value) point between)
      at v other e (inr differs) less =
          let earlier = less differs in
          let kept : get_or (values ++ value ∷ []) v 0 ≡ get_or values v 0 = get_or_append_left values (value ∷ []) 0 v (omega (arith, earlier, made.size)) in
          subst (λ x. IsEstimateBetween heuristic factor from other x) (sym kept) (made.estimate v other earlier e)

h_of : IsSomeAnd {T = Point} None IsInPlane → ⊥
h_of h = h

-- a point that is there
point_is : (o : Option Point) → IsSomeAnd o IsInPlane → (point : Point) × (o ≡ Some point) × IsInPlane point
point_is None h = absurd (h_of h)
point_is (Some point) h = (point, refl, h)

pub is_there : (o : Option Point) → IsSomeAnd o IsInPlane → IsSome o
is_there o h = let p = point_is o h in subst (λ x. IsSome x) (sym p.1) refl

pub lies_in_plane : (o : Option Point) (point : Point) → o ≡ Some point → IsSomeAnd o IsInPlane → IsInPlane point
lies_in_plane o point e h = let p = point_is o h in subst IsInPlane (same_Some p.0 point (sym p.1 ∙ e)) p.2

-- points of names with their estimates from that of the start
module _ (rows : List EdgeRow) (names : List ℤ) (start : ℤ) (heuristic : Heuristic) (factor : Factor) (points : List (Option Point)) (values : List ℕ) (n : ℕ) (from : Point)
    (are : ArePoints rows names points) (n_below : n < length names) (n_is : id_at names n ≡ start) (from_is : get_or points n None ≡ Some from)
    (made : AreEstimates heuristic factor from points values) where
  start_is : point_of rows start ≡ Some from
  start_is = ap (point_of rows) (sym n_is) ∙ sym (are.point n n_below) ∙ from_is

  pub estimate_at : ((v : ℕ) → v < length names → IsSomeAnd (get_or points v None) IsInPlane) → (v : ℕ) → v < length names
      → IsEstimate rows start heuristic factor (id_at names v) (get_or values v 0)
  estimate_at all v below =
      let p = point_is (get_or points v None) (all v below) in
      record {
        from = from;
        to = p.0;
        from_is = start_is;
        to_is = sym (are.point v below) ∙ p.1;
        between = made.estimate v p.0 (omega (arith, below, are.size)) p.1;
      }

  pub zero_at : (v : ℕ) → v < length names → id_at names v ≡ start → get_or values v 0 ≡ 0
  zero_at v below is = none_at_start heuristic factor from (get_or values v 0)
      (made.estimate v from (omega (arith, below, are.size)) (are.point v below ∙ ap (point_of rows) is ∙ start_is))

-- what holds of the point of each number holds of each place of the list
pub each_in_plane : (names : List ℤ) (points : List (Option Point)) → length points ≡ length names → ((v : ℕ) → v < length names → IsSomeAnd (get_or points v None) IsInPlane)
    → All (λ point. IsSomeAnd point IsInPlane) points
each_in_plane names points size all k d below = subst (λ o. IsSomeAnd o IsInPlane) (get_or_default points k None d below) (all k (omega (arith, below, size)))
