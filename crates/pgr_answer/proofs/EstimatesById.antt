-- The first link by numbers that breaks an estimate is the first by ids, since a vertex has one estimate for a start.
use Rattle.std.proofs.Common.{◌≡◌, ◌≢◌, ℕ, zero, suc, ℤ, ◌+◌, ◌*◌, ◌/◌, ◌<◌, ◌≤◌, ◌⊎◌, inl, inr, Bool, List, length, refl, sym, ap, ◌∙◌, subst, arith}
use Rattle.std.specs.Prelude.{◌↔◌, All, Contains, replicate}
use Rattle.std.specs.declared.cmp.Ordering.TheVariants.{Less}
use Rattle.std.specs.Ordering.{int_cmp, nat_cmp, ordering_then}
use Rattle.std.proofs.lemmas.Option.{same_Some}
use Rattle.std.proofs.lemmas.Nat.{mul-le}
use Rattle.std.proofs.lemmas.List.Elements.{All-weaker, All-contains_itself}
use Rattle.pgr_walks.specs.declared.link.LinkOf.{LinkOf}
use Rattle.pgr_walks.specs.Link.{step_cmp, link_cmp}
use Rattle.pgr_walks.specs.Walk.{IsVertex}
use Rattle.pgr_table.specs.declared.row.EdgeRow.{EdgeRow}
use Rattle.pgr_graph.specs.declared.links.Direction.TheVariants.{Forward, Backward}
use Rattle.pgr_graph.specs.Links.{IsLinkOfRow, IsLinkOfTable}
use Rattle.pgr_words.specs.declared.estimate.Heuristic.{Heuristic}
use Rattle.pgr_words.specs.declared.estimate.Heuristic.TheVariants.{H0, H1, H2, H3, H4, H5}
use Rattle.pgr_words.specs.declared.estimate.Factor.{Factor}
use Rattle.pgr_numbers.specs.Names.{AreEnds, IsNumbered, id_at, named}
use Rattle.pgr_search.specs.Estimates.{IsConsistent}
use Rattle.pgr_astar.specs.Points.{IsNamedIn}
use Rattle.pgr_astar.specs.Estimate.{IsRoot, IsDistance, IsEstimateBetween, IsEstimate, apart}
use Rattle.pgr_astar.specs.Breaking.{value_at, Breaks, IsFirstBreaking}
use Rattle.pgr_answer.specs.Notes.{BreaksEstimate}
use Rattle.pgr_answer.proofs.ClassesById.{AreNamed}

-- links compare by numbers as by ids
pub links_order : (names : List ℤ) → ((m n : ℕ) → m < length names → n < length names → int_cmp (id_at names m) (id_at names n) ≡ nat_cmp m n)
    → (a b : LinkOf ℕ) → IsNumbered names a → IsNumbered names b → link_cmp int_cmp (named names a) (named names b) ≡ link_cmp nat_cmp a b
links_order names order a b a_ends b_ends =
    ap (λ first. ordering_then first (step_cmp int_cmp (named names a) (named names b))) (order a.from b.from a_ends.0 b_ends.0)
    ∙ ap (λ last. ordering_then (nat_cmp a.from b.from) (ordering_then (int_cmp a.edge b.edge) (ordering_then (nat_cmp a.cost b.cost) last))) (order a.to b.to a_ends.1 b_ends.1)

-- the estimate 0 of all vertices
pub zero_at : (values : List ℕ) (n v : ℕ) → values ≡ replicate n 0 → value_at values v ≡ 0
zero_at values n v is = ap (λ zeros. value_at zeros v) is ∙ at n v where
  at : (n v : ℕ) → value_at (replicate n 0) v ≡ 0
  at zero zero = refl
  at zero (suc v) = refl
  at (suc n) zero = refl
  at (suc n) (suc v) = at n v

-- is consistent
pub zero_consistent : (Has : LinkOf ℕ → Type 0) (values : List ℕ) (n : ℕ) → values ≡ replicate n 0 → IsConsistent Has (value_at values)
zero_consistent Has values n is link has = let none : value_at values link.to ≡ 0 = zero_at values n link.to is in omega (arith, none)

-- a row that gives a link names both its ends
ends_of_row : (directed : Bool) (row : EdgeRow) (link : LinkOf ℤ) → IsLinkOfRow directed row link
    → ((row.source ≡ link.from) ⊎ (row.target ≡ link.from)) × ((row.source ≡ link.to) ⊎ (row.target ≡ link.to))
ends_of_row directed row link (Forward, sense, is) = (inl (sym (ap (λ l. l.from) is)), inr (sym (ap (λ l. l.to) is)))
ends_of_row directed row link (Backward, sense, is) = (inr (sym (ap (λ l. l.from) is)), inl (sym (ap (λ l. l.to) is)))

-- both ends of a link of a table are named in it
ends_of_table : (rows : List EdgeRow) (directed : Bool) (link : LinkOf ℤ) → IsLinkOfTable rows directed link → IsNamedIn rows link.from × IsNamedIn rows link.to
ends_of_table rows directed link (k, row, within, is, of_row) =
    let ends = ends_of_row directed row link of_row in ((row, (k, within, is), ends.0), (row, (k, within, is), ends.1))

-- the ends of the links of a table are named in it
pub names_named : (rows : List EdgeRow) (directed : Bool) (links : List (LinkOf ℤ)) (names : List ℤ) → AreEnds links names
    → ((link : LinkOf ℤ) → Contains links link ↔ IsLinkOfTable rows directed link) → All (IsNamedIn rows) names
names_named rows directed links names ends exactly =
    All-weaker (Contains names) (IsNamedIn rows) (λ v there. by_vertex v ((ends.ends v).0 there)) names (All-contains_itself names) where
      by_vertex : (v : ℤ) → IsVertex (Contains links) v → IsNamedIn rows v
      by_vertex v (link, has, inl from) = subst (IsNamedIn rows) (sym from) (ends_of_table rows directed link ((exactly link).0 has)).0
      by_vertex v (link, has, inr to) = subst (IsNamedIn rows) (sym to) (ends_of_table rows directed link ((exactly link).0 has)).1

-- a root is at most another
root_at_most : (n a b : ℕ) → IsRoot n a → IsRoot n b → a < b → ⊥
root_at_most n a b is also less =
    let square : (a + 1) * (a + 1) ≤ b * b = mul-le (a + 1) (a + 1) b b (omega (arith, less)) (omega (arith, less)) in
    let low : b * b ≤ n = also.0 in
    let high : n < (a + 1) * (a + 1) = is.1 in
    omega (arith, square, low, high)

-- two roots of a number are the same
one_root : (n a b : ℕ) → IsRoot n a → IsRoot n b → a ≡ b
one_root n a b is also = omega (arith, root_at_most n a b is also, root_at_most n b a also is)

-- two distances by a heuristic are the same
one_distance : (heuristic : Heuristic) (dx dy a b : ℕ) → IsDistance heuristic dx dy a → IsDistance heuristic dx dy b → a ≡ b
one_distance H0 dx dy a b is also = is ∙ sym also
one_distance H1 dx dy a b is also = is ∙ sym also
one_distance H2 dx dy a b is also = is ∙ sym also
one_distance H3 dx dy a b is also = is ∙ sym also
one_distance H4 dx dy a b is also = one_root (dx * dx + dy * dy) a b is also
one_distance H5 dx dy a b is also = is ∙ sym also

module _ (rows : List EdgeRow) (heuristic : Heuristic) (factor : Factor) (start : ℤ) where
  -- two estimates of a vertex are the same
  one_estimate : (v : ℤ) (a b : ℕ) → IsEstimate rows start heuristic factor v a → IsEstimate rows start heuristic factor v b → a ≡ b
  one_estimate v a b is also =
      let from : also.from ≡ is.from = same_Some also.from is.from (sym also.from_is ∙ is.from_is) in
      let to : also.to ≡ is.to = same_Some also.to is.to (sym also.to_is ∙ is.to_is) in
      let between : IsEstimateBetween heuristic factor is.from is.to b =
      subst (λ p. IsEstimateBetween heuristic factor p is.to b) from (subst (λ p. IsEstimateBetween heuristic factor also.from p b) to also.between) in
      let distance = one_distance heuristic (apart is.from.x is.to.x) (apart is.from.y is.to.y) is.between.0 between.0 is.between.1 between.1 in
      is.between.2 ∙ ap (λ d. d * factor.over / factor.under) distance ∙ sym between.2

  module _ (names : List ℤ) (values : ℕ → ℕ) (are : (v : ℕ) → v < length names → IsEstimate rows start heuristic factor (id_at names v) (values v)) where
    -- a link by numbers that breaks the estimates breaks them by ids
    broken_there : (link : LinkOf ℕ) → IsNumbered names link → Breaks values link → BreaksEstimate rows heuristic factor start (named names link)
    broken_there link ends breaks =
        record { here = values link.from; there = values link.to; from_is = are link.from ends.0; to_is = are link.to ends.1; breaks = breaks }

    -- and the other way round
    broken_back : (link : LinkOf ℕ) → IsNumbered names link → BreaksEstimate rows heuristic factor start (named names link) → Breaks values link
    broken_back link ends is =
        let from : is.here ≡ values link.from = one_estimate (id_at names link.from) is.here (values link.from) is.from_is (are link.from ends.0) in
        let to : is.there ≡ values link.to = one_estimate (id_at names link.to) is.there (values link.to) is.to_is (are link.to ends.1) in
        let rises : is.here + link.cost < is.there = is.breaks in
        omega (arith, from, to, rises)

    module _ (Has : LinkOf ℕ → Type 0) (HasId : LinkOf ℤ → Type 0) (stand : AreNamed names Has HasId) where
      -- the first link that breaks the estimates is the first by ids
      pub first_by_ids : ((a b : LinkOf ℕ) → IsNumbered names a → IsNumbered names b → link_cmp int_cmp (named names a) (named names b) ≡ link_cmp nat_cmp a b)
          → (link : LinkOf ℕ) → IsFirstBreaking nat_cmp Has (Breaks values) link
          → IsFirstBreaking int_cmp HasId (BreaksEstimate rows heuristic factor start) (named names link)
      first_by_ids order link is = record {
        has = stand.to link is.has;
        broken = broken_there link (stand.ends link is.has) is.broken;
        first = λ other has broken differ.
            let back = stand.back other has in
            let number = back.0 in
            let ends = stand.ends number back.1.0 in
            let breaks = broken_back number ends (subst (BreaksEstimate rows heuristic factor start) (sym back.1.1) broken) in
            let apart : number ≢ link = λ same. differ (sym back.1.1 ∙ ap (named names) same) in
            subst (λ l. link_cmp int_cmp (named names link) l ≡ Less) back.1.1 (order link number (stand.ends link is.has) ends ∙ is.first number back.1.0 breaks apart);
      }

      -- where the estimates are consistent no link breaks them by ids
      pub none_by_ids : IsConsistent Has values → (link : LinkOf ℤ) → HasId link → BreaksEstimate rows heuristic factor start link → ⊥
      none_by_ids consistent link has broken =
          let back = stand.back link has in
          let number = back.0 in
          let breaks : values number.from + number.cost < values number.to =
          broken_back number (stand.ends number back.1.0) (subst (BreaksEstimate rows heuristic factor start) (sym back.1.1) broken) in
          let keeps : values number.to ≤ values number.from + number.cost = consistent number back.1.0 in
          omega (arith, breaks, keeps)
