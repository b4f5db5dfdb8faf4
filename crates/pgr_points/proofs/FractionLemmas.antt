-- Fractions compared by products across: an order of all points, along which offsets rise.
use Rattle.std.proofs.Common.{◌≡◌, ℕ, ◌*◌, ◌/◌, ◌<◌, ◌≤◌, max, refl, sym, ap, subst, ◌∙◌, arith, Ordering, Less, Equal, Greater}
use Rattle.std.specs.Ordering.{nat_cmp, MatchOrdering}
use Rattle.std.specs.Cmp.{IsTotalOrder, nat_cmp_is}
use Rattle.std.proofs.lemmas.Cmp.{ranked, int_cmp_total, nat_cmp_total, on_total, then_total}
use Rattle.std.proofs.lemmas.Nat.{le-div}
use Rattle.std.proofs.Math.Nat.{mul_comm, mul_assoc, mul-lt-mul_of_pos_left, mul-le-mul_left, mul-le-mul_right, le_of_mul-le-mul_right, div-mul-le_self, div-le_of_le-mul}
use Rattle.pgr_table.specs.declared.row.PointRow.{PointRow}
use Rattle.pgr_walks.specs.LinkOrders.{nat_tie}
use Rattle.pgr_points.specs.Places.{value_cmp, place_cmp}

-- the first and the last of three factors change places
swapped : (a b c : ℕ) → a * (b * c) ≡ c * (b * a)
swapped a b c = mul_comm a (b * c) ∙ (ap (λ n. n * a) (mul_comm b c) ∙ mul_assoc c b a)

module _ (k m n : ℕ) (some : 0 < k) where
  scaled_match : (r : Ordering) → MatchOrdering r (m < n) (m ≡ n) (n < m) → MatchOrdering r (k * m < k * n) (k * m ≡ k * n) (k * n < k * m)
  scaled_match Less h = mul-lt-mul_of_pos_left h some
  scaled_match Equal e = ap (λ x. k * x) e
  scaled_match Greater h = mul-lt-mul_of_pos_left h some

  -- numbers compare as the same multiples of them
  scaled : nat_cmp (k * m) (k * n) ≡ nat_cmp m n
  scaled = sym (nat_cmp_is (k * m) (k * n) (nat_cmp m n) (scaled_match (nat_cmp m n) (ranked m n (nat_cmp m n) refl)))

-- fractions a / x, b / y and c / z
module _ (a x b y c z : ℕ) (x_some : 0 < x) (y_some : 0 < y) (z_some : 0 < z) where
  less_chain : nat_cmp (a * y) (b * x) ≡ Less → nat_cmp (b * z) (c * y) ≡ Less → nat_cmp (a * z) (c * x) ≡ Less
  less_chain p q =
      let first : nat_cmp (z * (a * y)) (z * (b * x)) ≡ Less = scaled z (a * y) (b * x) z_some ∙ p in
      let second : nat_cmp (x * (b * z)) (x * (c * y)) ≡ Less = scaled x (b * z) (c * y) x_some ∙ q in
      let middle : nat_cmp (z * (b * x)) (x * (c * y)) ≡ Less = ap (λ n. nat_cmp n (x * (c * y))) (swapped z b x) ∙ second in
      let both : nat_cmp (z * (a * y)) (x * (c * y)) ≡ Less = nat_cmp_total.trans (z * (a * y)) (z * (b * x)) (x * (c * y)) first middle in
      let back : nat_cmp (y * (a * z)) (y * (c * x)) ≡ Less =
      ap (λ n. nat_cmp n (y * (c * x))) (swapped y a z) ∙ (ap (λ n. nat_cmp (z * (a * y)) n) (swapped y c x) ∙ both) in
      sym (scaled y (a * z) (c * x) y_some) ∙ back

  same_rank : nat_cmp (a * y) (b * x) ≡ Equal → nat_cmp (a * z) (c * x) ≡ nat_cmp (b * z) (c * y)
  same_rank p =
      let e : a * y ≡ b * x = nat_tie _ _ p in
      let left : y * (a * z) ≡ x * (b * z) = swapped y a z ∙ (ap (λ n. z * n) e ∙ swapped z b x) in
      let right : y * (c * x) ≡ x * (c * y) = swapped y c x in
      sym (scaled y (a * z) (c * x) y_some) ∙ (ap (λ n. nat_cmp n (y * (c * x))) left ∙ (ap (λ n. nat_cmp (x * (b * z)) n) right ∙ scaled x (b * z) (c * y) x_some))

one_at_least : (n : ℕ) → 0 < max n 1
one_at_least n = omega arith

value_total : IsTotalOrder value_cmp
value_total = record {
  antisymm = λ p q. nat_cmp_total.antisymm (p.over * max q.under 1) (q.over * max p.under 1);
  trans = λ p q r. less_chain p.over (max p.under 1) q.over (max q.under 1) r.over (max r.under 1) (one_at_least p.under) (one_at_least q.under) (one_at_least r.under);
  congr = λ p q r. same_rank p.over (max p.under 1) q.over (max q.under 1) r.over (max r.under 1) (one_at_least p.under) (one_at_least q.under) (one_at_least r.under);
}

-- the order of points by edge, value and id
pub place_total : IsTotalOrder place_cmp
place_total = then_total (on_total (λ (p : PointRow). p.edge_id) int_cmp_total) (then_total value_total (on_total (λ (p : PointRow). p.pid) int_cmp_total))

-- a fraction that is no greater, of the same number, rounded down, is no greater
pub offsets_rise : (cost a b d e : ℕ) → 0 < b → 0 < e → a * e ≤ d * b → cost * a / b ≤ cost * d / e
offsets_rise cost a b d e b_some e_some less =
    let x = cost * a / b in
    let down : x * b ≤ cost * a = div-mul-le_self (cost * a) b in
    let scaled_down : x * b * e ≤ cost * a * e = mul-le-mul_right e down in
    let scaled_less : cost * (a * e) ≤ cost * (d * b) = mul-le-mul_left cost less in
    let left : x * b * e ≡ x * e * b = mul_assoc x b e ∙ (ap (λ n. x * n) (mul_comm b e) ∙ sym (mul_assoc x e b)) in
    let middle : cost * a * e ≡ cost * (a * e) = mul_assoc cost a e in
    let right : cost * (d * b) ≡ cost * d * b = sym (mul_assoc cost d b) in
    let all : x * e * b ≤ cost * d * b = omega (arith, left, middle, right, scaled_down, scaled_less) in
    le-div x (cost * d) e e_some (le_of_mul-le-mul_right all b_some)

-- a part of a number, rounded down, is no greater than it
pub offset_within : (cost a b : ℕ) → a ≤ b → cost * a / b ≤ cost
offset_within cost a b less =
    let h : cost * a ≤ cost * b = mul-le-mul_left cost less in
    div-le_of_le-mul b (subst (λ n. cost * a ≤ n) (mul_comm cost b) h)
