-- There are no more states behind the vertices than the edges of the restrictions have ends.
use Rattle.std.proofs.Common.{◌≡◌, ◌≢◌, ℕ, ℤ, pos, zero, suc, ◌+◌, ◌<◌, ◌≤◌, true, List, [], ◌∷◌, ◌++◌, map, length, get_or, take, Option, refl, sym, ap, ◌∙◌, subst, arith}
use Rattle.std.specs.Prelude.{Contains, reverse}
use Rattle.std.specs.Ordering.{int_eq, is_eq}
use Rattle.std.specs.List.{list_any, range_with_len, sum_by}
use Rattle.std.proofs.lemmas.Cmp.{int_cmp_total, tied_itself}
use Rattle.std.proofs.lemmas.List.{length-map, length-append, take_more, reverse-append}
use Rattle.std.proofs.lemmas.List.Elements.{All-get_or}
use Rattle.std.proofs.lemmas.List.Folds.{list_any_at}
use Rattle.std.proofs.lemmas.List.FromFn.{get_or-range_with_len, length-range_with_len}
use Rattle.std.proofs.lemmas.List.Sums.{sum_by-cons}
use Rattle.std.proofs.lemmas.Bool.{or_right}
use Rattle.pgr_walks.specs.declared.link.LinkOf.{LinkOf}
use Rattle.pgr_walks.specs.Graph.{IsLinkOf}
use Rattle.pgr_walks.specs.ListGraphLaws.{filter_keeps}
use Rattle.pgr_walks.proofs.Repeats.{Among, Apart}
use Rattle.pgr_walks.proofs.Membership.{Among-left, Among-right, Among-map, Among-from_Contains, Contains-from_Among}
use Rattle.pgr_turns.specs.declared.state.State.{State}
use Rattle.pgr_turns.specs.declared.trie.Node.{Node}
use Rattle.pgr_turns.specs.declared.trie.Back.{Back}
use Rattle.pgr_turns.specs.Trie.{node_at, list_at, front_of, word, IsTrie, IsAutomaton}
use Rattle.pgr_turns.specs.States.{AreStates, IsHead, state_cmp}
use Rattle.pgr_turns.specs.MostStates.{is_end, ends_of, most_states}
use Rattle.pgr_turns.proofs.StateSteps.{state_total}
use Rattle.pgr_turns.proofs.Counting.{total_ones, sub_total, apart_map, apart_rising, among_from_map}

-- for each id of a list, with the place of the list and of the id behind it, the ends of its edge
abbrev pub tags_from : (ℤ → List ℕ) → ℕ → ℕ → List ℤ → List (ℕ × (ℕ × ℕ))
tags_from ends i k [] = []
tags_from ends i k (e ∷ es) = map (λ v. (i, (suc k, v))) (ends e) ++ tags_from ends i (suc k) es

-- the same for each list of several
abbrev pub tags_of : (ℤ → List ℕ) → ℕ → List (List ℤ) → List (ℕ × (ℕ × ℕ))
tags_of ends i [] = []
tags_of ends i (ids ∷ lists) = tags_from ends i 0 ids ++ tags_of ends (suc i) lists

length-tags_from : (ends : ℤ → List ℕ) (i k : ℕ) (ids : List ℤ) → length (tags_from ends i k ids) ≡ sum_by (λ e. length (ends e)) ids
length-tags_from ends i k [] = refl
length-tags_from ends i k (e ∷ es) =
    length-append (map (λ v. (i, (suc k, v))) (ends e)) (tags_from ends i (suc k) es) ∙ ap (λ n. n + length (tags_from ends i (suc k) es))
    (length-map (ends e) (λ v. (i, (suc k, v))))
    ∙ ap (λ n. length (ends e) + n) (length-tags_from ends i (suc k) es) ∙ sym (sum_by-cons (λ e. length (ends e)) e es)

length-tags_of : (ends : ℤ → List ℕ) (i : ℕ) (lists : List (List ℤ)) → length (tags_of ends i lists) ≡ sum_by (λ ids. sum_by (λ e. length (ends e)) ids) lists
length-tags_of ends i [] = refl
length-tags_of ends i (ids ∷ lists) =
    length-append (tags_from ends i 0 ids) (tags_of ends (suc i) lists) ∙ ap (λ n. n + length (tags_of ends (suc i) lists)) (length-tags_from ends i 0 ids)
    ∙ ap (λ n. sum_by (λ e. length (ends e)) ids + n) (length-tags_of ends (suc i) lists) ∙ sym (sum_by-cons (λ ids. sum_by (λ e. length (ends e)) ids) ids lists)

among_tags_from : (ends : ℤ → List ℕ) (i k n v : ℕ) (d : ℤ) (ids : List ℤ) → n < length ids → Among v (ends (get_or ids n d)) → Among (i, (suc (k + n), v)) (tags_from ends i k ids)
among_tags_from ends i k n v d [] inside h = absurd (omega arith)
among_tags_from ends i k zero v d (e ∷ es) inside h =
    let same : k + 0 ≡ k = omega arith in
    subst (λ m. Among {X = ℕ × (ℕ × ℕ)} (i, (suc m, v)) (tags_from ends i k (e ∷ es))) (sym same)
    (Among-left (i, (suc k, v)) (map (λ w. (i, (suc k, w))) (ends e)) (tags_from ends i (suc k) es) (Among-map (λ w. (i, (suc k, w))) (ends e) v h))
among_tags_from ends i k (suc n) v d (e ∷ es) inside h =
    let same : suc k + n ≡ k + suc n = omega arith in
    Among-right (i, (suc (k + suc n), v)) (map (λ w. (i, (suc k, w))) (ends e)) (tags_from ends i (suc k) es)
    (subst (λ m. Among {X = ℕ × (ℕ × ℕ)} (i, (suc m, v)) (tags_from ends i (suc k) es)) same (among_tags_from ends i (suc k) n v d es (omega arith) h))

among_tags_of : (ends : ℤ → List ℕ) (i j n v : ℕ) (d : ℤ) (lists : List (List ℤ)) → j < length lists → n < length (get_or lists j [])
    → Among v (ends (get_or (get_or lists j []) n d))
    → Among (i + j, (suc n, v)) (tags_of ends i lists)
among_tags_of ends i j n v d [] below inside h = absurd (omega arith)
among_tags_of ends i zero n v d (ids ∷ lists) below inside h =
    let same : i + 0 ≡ i = omega arith in
    let from_zero : 0 + n ≡ n = omega arith in
    let here : Among {X = ℕ × (ℕ × ℕ)} (i, (suc n, v)) (tags_from ends i 0 ids) =
    subst (λ m. Among {X = ℕ × (ℕ × ℕ)} (i, (suc m, v)) (tags_from ends i 0 ids)) from_zero (among_tags_from ends i 0 n v d ids inside h) in
    subst (λ m. Among {X = ℕ × (ℕ × ℕ)} (m, (suc n, v)) (tags_of ends i (ids ∷ lists))) (sym same)
    (Among-left (i, (suc n, v)) (tags_from ends i 0 ids) (tags_of ends (suc i) lists) here)
among_tags_of ends i (suc j) n v d (ids ∷ lists) below inside h =
    let same : suc i + j ≡ i + suc j = omega arith in
    Among-right (i + suc j, (suc n, v)) (tags_from ends i 0 ids) (tags_of ends (suc i) lists)
    (subst (λ m. Among {X = ℕ × (ℕ × ℕ)} (m, (suc n, v)) (tags_of ends (suc i) lists)) same (among_tags_of ends (suc i) j n v d lists (omega arith) inside h))

-- the last id of a front
last_of : (l : List ℤ) (n : ℕ) (e : ℤ) (rest : List ℤ) → n < length l → reverse (take (suc n) l) ≡ e ∷ rest → get_or l n (pos 0) ≡ e
last_of l n e rest inside is =
    let one_more : suc n ≡ n + 1 = omega arith in
    let step : take (suc n) l ≡ take n l ++ get_or l n (pos 0) ∷ [] = ap (λ m. take m l) one_more ∙ take_more l n (pos 0) inside in
    let back : reverse (take (suc n) l) ≡ get_or l n (pos 0) ∷ reverse (take n l) = ap reverse step ∙ reverse-append (take n l) (get_or l n (pos 0) ∷ []) in
    first (get_or l n (pos 0)) e (reverse (take n l)) rest (sym back ∙ is)
  where
    first : (x y : ℤ) (xs ys : List ℤ) → x ∷ xs ≡ y ∷ ys → x ≡ y
    first x y xs ys e = ap (λ (zs : List ℤ). get_or zs 0 (pos 0)) e

no_word : (l : List ℤ) (e : ℤ) (rest : List ℤ) → reverse (take 0 l) ≡ e ∷ rest → ⊥
no_word l e rest is = cc

-- the last id of a node's front, by its place
node_edge : (lists : List (List ℤ)) (nodes : List Node) (child : ℕ → ℤ → Option ℕ) → IsTrie lists nodes child → (x : ℕ) → x < length nodes → x ≢ 0
    → (n : ℕ) × (((node_at nodes x).len ≡ suc n) × (n < length (list_at lists (node_at nodes x).list))
    × (get_or (list_at lists (node_at nodes x).list) n (pos 0) ≡ (node_at nodes x).edge))
node_edge lists nodes child trie x below some =
    by (node_at nodes x).len refl
  where
    word_is : word lists nodes x ≡ (node_at nodes x).edge ∷ word lists nodes (node_at nodes x).parent
    word_is = (trie.children (node_at nodes x).parent x (node_at nodes x).edge (trie.parents x below some)).2

    by : (len : ℕ) → (node_at nodes x).len ≡ len
        → (n : ℕ) × (((node_at nodes x).len ≡ suc n) × (n < length (list_at lists (node_at nodes x).list))
        × (get_or (list_at lists (node_at nodes x).list) n (pos 0) ≡ (node_at nodes x).edge))
    by zero e = absurd (no_word (list_at lists (node_at nodes x).list) _ _ (ap (λ m. reverse (take m (list_at lists (node_at nodes x).list))) (sym e) ∙ word_is))
    by (suc n) e =
        let inside : n < length (list_at lists (node_at nodes x).list) = omega (arith, e, (trie.fronts x below some).1) in
        (n, (e, inside, last_of (list_at lists (node_at nodes x).list) n _ _ inside (ap (λ m. reverse (take m (list_at lists (node_at nodes x).list))) (sym e) ∙ word_is)))

-- an end of an edge
any_with : (edge : ℤ) (links : List (LinkOf ℕ)) (link : LinkOf ℕ) → Contains links link → link.edge ≡ edge → list_any (λ (l : LinkOf ℕ). int_eq l.edge edge) links ≡ true
any_with edge links link (k, inside, is) same =
    list_any_at (λ (l : LinkOf ℕ). int_eq l.edge edge) links k link inside
    (ap (λ (l : LinkOf ℕ). int_eq l.edge edge) is ∙ ap (λ e. int_eq e edge) same ∙ ap is_eq (tied_itself int_cmp_total edge))

in_range : (count v : ℕ) → v < count → Contains (range_with_len 0 count) v
in_range count v h = (v, omega (arith, length-range_with_len 0 count), get_or-range_with_len 0 count v v h ∙ omega arith)

head_is_end : (count : ℕ) (outs ins : ℕ → List (LinkOf ℕ)) (edge : ℤ) (v : ℕ) → IsHead (IsLinkOf count ins) edge v → Among v (ends_of count outs ins edge)
head_is_end count outs ins edge v (link, (has, same, to)) =
    let below : v < count = subst (λ u. u < count) to has.0 in
    let there : Contains (ins v) link = subst (λ u. Contains (ins u) link) to has.1 in
    Among-from_Contains v (ends_of count outs ins edge)
    (filter_keeps (is_end outs ins edge) (range_with_len 0 count) v (in_range count v below)
    (or_right (list_any (λ (l : LinkOf ℕ). int_eq l.edge edge) (outs v)) (list_any (λ (l : LinkOf ℕ). int_eq l.edge edge) (ins v)) (any_with edge (ins v) link there same)))

module _ (count : ℕ) (outs ins : ℕ → List (LinkOf ℕ)) (lists : List (List ℤ)) (nodes : List Node) (child : ℕ → ℤ → Option ℕ) (backs : List Back)
    (auto : IsAutomaton lists nodes child backs) (states : List State) (are : AreStates (IsLinkOf count ins) nodes backs (length nodes) states) where
  tag : State → ℕ × (ℕ × ℕ)
  tag state = ((node_at nodes state.node).list, ((node_at nodes state.node).len, state.vertex))

  node_good : (state : State) → Among state states → (state.node < length nodes) × (state.node ≢ 0)
  node_good state m =
      let at = Contains-from_Among state states m in
      let range = All-get_or (λ (s : State). (0 < s.node) × (s.node < length nodes)) states at.0 state at.1 are.nodes_are in
      subst (λ (s : State). (s.node < length nodes) × (s.node ≢ 0)) at.2 (range.1, λ z. absurd (omega (arith, z, range.0)))

  head_good : (state : State) → Among state states → IsHead (IsLinkOf count ins) (node_at nodes state.node).edge state.vertex
  head_good state m =
      let at = Contains-from_Among state states m in
      subst (λ (s : State). IsHead (IsLinkOf count ins) (node_at nodes s.node).edge s.vertex) at.2
      (All-get_or (λ (s : State). IsHead (IsLinkOf count ins) (node_at nodes s.node).edge s.vertex) states at.0 state at.1 are.heads_are)

  same_tag : (a b : State) → Among a states → Among b states → tag a ≡ tag b → a ≡ b
  unfolding tag
  same_tag a b at_a at_b same =
      let list : (node_at nodes a.node).list ≡ (node_at nodes b.node).list = ap (λ (t : ℕ × (ℕ × ℕ)). t.0) same in
      let len : (node_at nodes a.node).len ≡ (node_at nodes b.node).len = ap (λ (t : ℕ × (ℕ × ℕ)). t.1.0) same in
      let vertex : a.vertex ≡ b.vertex = ap (λ (t : ℕ × (ℕ × ℕ)). t.1.1) same in
      let words : word lists nodes a.node ≡ word lists nodes b.node =
      ap (λ i. front_of lists i (node_at nodes a.node).len) list ∙ ap (λ n. front_of lists (node_at nodes b.node).list n) len in
      let node : a.node ≡ b.node = auto.trie.one a.node b.node (node_good a at_a).0 (node_good b at_b).0 words in
      ap (λ n. record a { node = n }) node ∙ ap (λ v. record b { vertex = v }) vertex

  tag_among : (state : State) → Among state states → Among (tag state) (tags_of (ends_of count outs ins) 0 lists)
  unfolding tag
  tag_among state m =
      let good = node_good state m in
      let last = node_edge lists nodes child auto.trie state.node good.0 good.1 in
      let n = last.0 in
      let i = (node_at nodes state.node).list in
      let end : Among state.vertex (ends_of count outs ins (get_or (list_at lists i) n (pos 0))) =
      subst (λ e. Among state.vertex (ends_of count outs ins e)) (sym last.1.2) (head_is_end count outs ins (node_at nodes state.node).edge state.vertex (head_good state m)) in
      let there = among_tags_of (ends_of count outs ins) 0 i n state.vertex (pos 0) lists (auto.trie.fronts state.node good.0 good.1).0 last.1.1 end in
      let zero_is : 0 + i ≡ i = omega arith in
      subst (λ l. Among {X = ℕ × (ℕ × ℕ)} (i, (l, state.vertex)) (tags_of (ends_of count outs ins) 0 lists)) (sym last.1.0)
      (subst (λ j. Among {X = ℕ × (ℕ × ℕ)} (j, (suc n, state.vertex)) (tags_of (ends_of count outs ins) 0 lists)) zero_is there)

  pub states_few : count + length states ≤ most_states count outs ins lists
  states_few =
      let apart : Apart (map tag states) = apart_map tag states (apart_rising state_cmp state_total states are.rise) same_tag in
      let sum = sub_total (λ _. 1) (map tag states) (tags_of (ends_of count outs ins) 0 lists) apart
      (λ t m. let at = among_from_map tag t states m in subst (λ u. Among u (tags_of (ends_of count outs ins) 0 lists)) at.1.1 (tag_among at.0 at.1.0)) in
      omega (arith, sum, total_ones (map tag states), total_ones (tags_of (ends_of count outs ins) 0 lists), length-map states tag, length-tags_of (ends_of count outs ins) 0 lists)
