-- Small cases of steps, computed.
use Rattle.std.proofs.Common.{◌≡◌, inl, inr, ℕ, ◌≤◌, ℤ, pos, negsuc, true, false, List, [], ◌∷◌, Some, None, refl, sym, ◌∙◌, arith}
use Rattle.std.specs.List.{Contains, AllByRecursion}
use Rattle.std.proofs.lemmas.List.Elements.{All-contains, All-from_recursion}
use Rattle.std.proofs.lemmas.Int.{ints}
use Rattle.pgr_walks.specs.declared.link.LinkOf.{LinkOf}
use Rattle.pgr_contract.specs.State.{State, first_state}
use Rattle.pgr_contract.specs.Steps.{IsNeighbour, IsWay, IsWayCost, Qualifies, after_dead_end, after_linear}
use Rattle.pgr_contract.specs.Run.{times_over}
use Rattle.pgr_contract.specs.Weight.{weight}
use Rattle.pgr_words.specs.declared.method.Method.TheVariants.{DeadEnd, Linear}

abbrev link : ℕ → ℕ → ℕ → ℕ → LinkOf ℤ
link from edge cost to = record { from = pos from; edge = pos edge; cost = cost; to = pos to }

-- 1 - 2 - 3 - 4 with costs 2, 3 and 4, each link both ways
abbrev row_of_four : List (LinkOf ℤ)
row_of_four = link 1 1 2 2 ∷ link 2 1 2 1 ∷ link 2 2 3 3 ∷ link 3 2 3 2 ∷ link 3 3 4 4 ∷ link 4 3 4 3 ∷ []

-- 2 goes: one shortcut between 1 and 3 costs 2 and 3, and holds 2
abbrev without_2 : State
without_2 = after_linear false (pos 2) (pos 1) (pos 3) (Some 5) (Some 5) (first_state row_of_four)

the_shortcut_holds_2 : without_2.made ≡ record { from = pos 1; to = pos 3; cost = 5; inside = pos 2 ∷ [] } ∷ []
the_shortcut_holds_2 = refl

it_stands_both_ways_with_edge_minus_1 : without_2.links ≡ link 3 3 4 4 ∷ link 4 3 4 3 ∷ record { from = pos 1; edge = negsuc 0; cost = 5; to = pos 3 }
    ∷ record { from = pos 3; edge = negsuc 0; cost = 5; to = pos 1 } ∷ []
it_stands_both_ways_with_edge_minus_1 = refl

-- then 3 goes: the shortcut over the shortcut holds 3, and what the links of 3 held
abbrev without_3 : State
without_3 = after_linear false (pos 3) (pos 1) (pos 4) (Some 9) (Some 9) without_2

a_shortcut_over_a_shortcut_holds_both : without_3.made ≡ record { from = pos 1; to = pos 3; cost = 5; inside = pos 2 ∷ [] }
    ∷ record { from = pos 1; to = pos 4; cost = 9; inside = pos 3 ∷ pos 2 ∷ pos 2 ∷ [] } ∷ []
a_shortcut_over_a_shortcut_holds_both = refl

-- no step raised the sum, in which each undirected edge counts once
the_sum_stays : (weight false row_of_four ≡ 9) × (weight false without_2.links ≡ 9) × (weight false without_3.links ≡ 9)
the_sum_stays = (refl, refl, refl)

-- then 1 goes as a dead end: 4 holds it, and what its links held
the_neighbour_gains_what_links_hold : (after_dead_end (pos 1) (pos 4) without_3).inside (pos 4) ≡ pos 1 ∷ pos 3 ∷ pos 2 ∷ pos 2 ∷ pos 3 ∷ pos 2 ∷ pos 2 ∷ []
the_neighbour_gains_what_links_hold = refl

-- in the directed graph the way from the lesser to the greater is the first shortcut, and both hold the same
the_way_from_the_lesser_comes_first : (after_linear true (pos 2) (pos 1) (pos 3) (Some 5) (Some 8) (first_state (link 1 1 2 2 ∷ []))).made
    ≡ record { from = pos 1; to = pos 3; cost = 5; inside = pos 2 ∷ [] } ∷ record { from = pos 3; to = pos 1; cost = 8; inside = pos 2 ∷ [] } ∷ []
the_way_from_the_lesser_comes_first = refl

a_way_back_alone_is_one_shortcut : (after_linear true (pos 2) (pos 1) (pos 3) None (Some 8) (first_state (link 3 1 4 2 ∷ link 2 2 4 1 ∷ []))).made
    ≡ record { from = pos 3; to = pos 1; cost = 8; inside = pos 2 ∷ [] } ∷ []
a_way_back_alone_is_one_shortcut = refl

-- the whole order is run over and over
the_order_is_repeated : times_over 2 (DeadEnd ∷ Linear ∷ []) ≡ DeadEnd ∷ Linear ∷ DeadEnd ∷ Linear ∷ []
the_order_is_repeated = refl

-- edges 1: 1 to 2 for 2, back for 3; 2: 2 to 3 for 4, back for 5; 3: 1 to 2 for 1
abbrev with_a_parallel : List (LinkOf ℤ)
with_a_parallel = link 1 1 2 2 ∷ link 1 3 1 2 ∷ link 2 1 3 1 ∷ link 2 2 4 3 ∷ link 3 2 5 2 ∷ []

each_of : (links : List (LinkOf ℤ)) (P : LinkOf ℤ → Type 0) → AllByRecursion P links → (l : LinkOf ℤ) → Contains links l → P l
each_of links P each l has = All-contains P links l (All-from_recursion P links each) has

-- of two parallel links the least counts
the_least_of_two_parallels : IsWayCost (Contains with_a_parallel) (pos 1) (pos 2) (pos 3) (Some 5)
the_least_of_two_parallels = (
  1,
  (
    4,
    (
      record {
        link = link 1 3 1 2;
        has = (1, omega arith, refl);
        from = refl;
        to = refl;
        cost_is = refl;
        least = λ other has from to. each_of with_a_parallel (λ l. l.from ≡ pos 1 → l.to ≡ pos 2 → 1 ≤ l.cost)
            ((λ f t. omega arith), ((λ f t. omega arith), ((λ f t. omega arith), ((λ f t. omega arith), ((λ f t. omega arith), tt))))) other has from to;
      },
      (
        record {
          link = link 2 2 4 3;
          has = (3, omega arith, refl);
          from = refl;
          to = refl;
          cost_is = refl;
          least = λ other has from to. each_of with_a_parallel (λ l. l.from ≡ pos 2 → l.to ≡ pos 3 → 4 ≤ l.cost) (
            (λ f t. absurd (omega (arith, ints))),
            ((λ f t. absurd (omega (arith, ints))), ((λ f t. absurd (omega (arith, ints))), ((λ f t. omega arith), ((λ f t. omega arith), tt)))),
          )
              other has from to;
        },
        refl,
      ),
    ),
  ),
)

-- a self loop makes no neighbour, so a vertex with nothing else is no dead end
a_loop_is_no_neighbour : (x : ℤ) → IsNeighbour (Contains (link 1 1 4 1 ∷ [])) (pos 1) x → ⊥
a_loop_is_no_neighbour x (differs, (l, (has, either))) =
    let ends = each_of (link 1 1 4 1 ∷ []) (λ l. (l.from ≡ pos 1) × (l.to ≡ pos 1)) ((refl, refl), tt) l has in
    elim either as (λ _. ⊥) [ inl out ↦ differs (sym out.1 ∙ ends.1) | inr into ↦ differs (sym into.0 ∙ ends.0) ]

an_isolated_vertex_stays : Qualifies DeadEnd (Contains (link 1 1 4 1 ∷ [])) (pos 1) → ⊥
an_isolated_vertex_stays (u, one) = a_loop_is_no_neighbour u one.neighbour

-- two links into a vertex are no way over it
two_links_in_are_no_way : (a b : ℤ) → IsWay (Contains (link 1 1 1 2 ∷ link 3 2 1 2 ∷ [])) a (pos 2) b → ⊥
two_links_in_are_no_way a b (into, (l, (has, (from, to)))) =
    each_of (link 1 1 1 2 ∷ link 3 2 1 2 ∷ []) (λ l. l.from ≡ pos 2 → ⊥) ((λ e. absurd (omega (arith, ints))), ((λ e. absurd (omega (arith, ints))), tt)) l has from
