-- Over four vertices there are few states.
use Rattle.std.proofs.Common.{◌≡◌, ℕ, ℤ, ◌+◌, ◌*◌, ◌<◌, ◌≤◌, ◌^◌, List, [], ◌∷◌, length, subst, arith}
use Rattle.std.specs.List.{range_with_len, sum_by}
use Rattle.std.proofs.lemmas.Nat.{mul-le}
use Rattle.std.proofs.lemmas.List.FromFn.{length-range_with_len}
use Rattle.std.proofs.lemmas.List.Sums.{length-filter, count_by-le-length, sum_by-cons}
use Rattle.pgr_walks.specs.declared.link.LinkOf.{LinkOf}
use Rattle.pgr_walks.specs.Walk.{cost_of}
use Rattle.pgr_walks.specs.Graph.{greatest}
use Rattle.pgr_turns.specs.Trie.{elements}
use Rattle.pgr_turns.specs.MostStates.{is_end, ends_of, most_states}

module _ (outs ins : ℕ → List (LinkOf ℕ)) where
  four_ends : (edge : ℤ) → length (ends_of 4 outs ins edge) ≤ 4
  four_ends edge =
      omega (arith, length-filter (is_end outs ins edge) (range_with_len 0 4), count_by-le-length (is_end outs ins edge) (range_with_len 0 4), length-range_with_len 0 4)

  four_for_each : (ids : List ℤ) → sum_by (λ edge. length (ends_of 4 outs ins edge)) ids ≤ 4 * length ids
  four_for_each [] = omega arith
  four_for_each (e ∷ ids) = omega (arith, sum_by-cons (λ edge. length (ends_of 4 outs ins edge)) e ids, four_ends e, four_for_each ids)

  four_for_all : (lists : List (List ℤ)) → sum_by (λ ids. sum_by (λ edge. length (ends_of 4 outs ins edge)) ids) lists ≤ 4 * elements lists
  four_for_all [] = omega arith
  four_for_all (ids ∷ lists) =
      omega (
        arith,
        sum_by-cons (λ (es : List ℤ). sum_by (λ edge. length (ends_of 4 outs ins edge)) es) ids lists,
        sum_by-cons (λ (es : List ℤ). length es) ids lists,
        four_for_each ids,
        four_for_all lists,
      )

  pub few_over_four : (count : ℕ) (lists : List (List ℤ)) → 4 ≡ count → elements lists ≤ 16 → most_states count outs ins lists < 2 ^ 32
  few_over_four count lists four few = subst (λ n. most_states n outs ins lists < 2 ^ 32) four (omega (arith, four_for_all lists, few))

pub small_sum : (links : List (LinkOf ℕ)) (lists : List (List ℤ)) → cost_of links ≤ 9 → elements lists ≤ 16 → cost_of links * (1 + elements lists) ≤ greatest
small_sum links lists cost few =
    let product : cost_of links * (1 + elements lists) ≤ 9 * 17 = mul-le (cost_of links) (1 + elements lists) 9 17 cost (omega (arith, few)) in
    omega (arith, product)
