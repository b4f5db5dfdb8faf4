-- One table of driving distance at most is allowed.
use Rattle.std.proofs.Common.{◌≡◌, ◌⊎◌, inl, inr, ℕ, ℤ, suc, Bool, true, false, cond, List, [], ◌∷◌, map, refl, sym, ap, ◌∙◌, subst, arith, Ordering, Less, Equal, Greater}
use Rattle.std.specs.Prelude.{Any, Contains, filter}
use Rattle.std.specs.Ordering.{nat_cmp, int_cmp, ordering_then, ordering_reverse}
use Rattle.std.specs.Cmp.{IsTotalOrder}
use Rattle.std.proofs.lemmas.Cmp.{int_cmp_total, nat_cmp_total, on_total, then_total}
use Rattle.std.proofs.lemmas.List.Elements.{All-contains}
use Rattle.pgr_walks.specs.declared.link.LinkOf.{LinkOf}
use Rattle.pgr_walks.specs.declared.label.Label.{Label}
use Rattle.pgr_walks.specs.Label.{IsLeastLabelFrom, AtMost}
use Rattle.pgr_walks.specs.Link.{entry_cmp}
use Rattle.pgr_walks.specs.LinkOrders.{int_tie, nat_tie, then_tie, same_link, entry_total}
use Rattle.pgr_walks.proofs.LabelOrder.{AtMost-both}
use Rattle.pgr_rows.specs.declared.rows.Rows.{Rows}
use Rattle.pgr_rows.specs.declared.rows.Rows.TheVariants.{Reaches}
use Rattle.pgr_reach.specs.declared.reach.ReachedOf.{ReachedOf}
use Rattle.pgr_reach.specs.FromRoot.{IsTreeLink}
use Rattle.pgr_reach.specs.Within.{AreWithin, IsRowWithin, IsRootRow, IsTreeRow, row_cmp}
use Rattle.pgr_reach.specs.Equicost.{AreClosest, with_kept}
use Rattle.pgr_answer.specs.DrivingDistance.{Rooted, AreReaches, AreShown, IsReachTable, reach_table}
use Rattle.pgr_answer.proofs.SameElements.{rising_is_one}
use Rattle.pgr_answer.proofs.OneFlowTables.{same_test}

-- neither of two that compare before the other: they are equal
not_before : (cmp : LinkOf ℤ → LinkOf ℤ → Ordering) → IsTotalOrder cmp → (a b : LinkOf ℤ) → (cmp a b ≡ Less → ⊥) → (cmp b a ≡ Less → ⊥) → cmp a b ≡ Equal
not_before cmp total a b left right = by (cmp a b) refl
  where
    by : (o : Ordering) → cmp a b ≡ o → cmp a b ≡ Equal
    by Less e = absurd (left e)
    by Equal e = e
    by Greater e = absurd (right (total.antisymm b a ∙ ap ordering_reverse e))

-- the order of rows is total
row_total : IsTotalOrder (row_cmp int_cmp)
row_total = then_total (on_total (λ (row : ReachedOf ℤ). row.label.cost) nat_cmp_total) (on_total (λ (row : ReachedOf ℤ). row.node) int_cmp_total)

module _ (Has : LinkOf ℤ → Type 0) (root : ℤ) where
  one_label : (v : ℤ) (a b : Label) → IsLeastLabelFrom Has root v a → IsLeastLabelFrom Has root v b → a ≡ b
  one_label v a b is_a is_b =
      AtMost-both a b (subst (AtMost a) is_b.label_is (is_a.least is_b.walk is_b.is_walk)) (subst (AtMost b) is_a.label_is (is_b.least is_a.walk is_a.is_walk))

  -- one tree link
  one_tree : (v : ℤ) (a b : LinkOf ℤ) → IsTreeLink int_cmp Has root v a → IsTreeLink int_cmp Has root v b → a ≡ b
  one_tree v a b is_a is_b =
      let tied = not_before (entry_cmp int_cmp) (entry_total int_cmp int_cmp_total) a b
      (is_b.least a is_a.has is_a.leads is_a.tight) (is_a.least b is_b.has is_b.leads is_b.tight) in
      let first = then_tie (int_cmp a.edge b.edge) (ordering_then (nat_cmp a.cost b.cost) (int_cmp a.from b.from)) tied in
      let second = then_tie (nat_cmp a.cost b.cost) (int_cmp a.from b.from) first.1 in
      same_link a b (int_tie _ _ second.1) (int_tie _ _ first.0) (nat_tie _ _ second.0) (is_a.leads ∙ sym is_b.leads)

  same_row : (a b : ReachedOf ℤ) → a.node ≡ b.node → a.label ≡ b.label → a.pred ≡ b.pred → a.edge ≡ b.edge → a.cost ≡ b.cost → a ≡ b
  same_row a b node label pred edge cost = λ i. record { node = node i; label = label i; pred = pred i; edge = edge i; cost = cost i }

  -- one row of a vertex
  one_row : (limit : ℕ) (a b : ReachedOf ℤ) → IsRowWithin int_cmp Has root limit a → IsRowWithin int_cmp Has root limit b → a.node ≡ b.node → a ≡ b
  one_row limit a b is_a is_b node = by is_a.link is_b.link
    where
      label : a.label ≡ b.label
      label = one_label b.node a.label b.label (subst (λ v. IsLeastLabelFrom Has root v a.label) node is_a.label) is_b.label

      by : IsRootRow root a ⊎ IsTreeRow int_cmp Has root a → IsRootRow root b ⊎ IsTreeRow int_cmp Has root b → a ≡ b
      by (inl h) (inl k) = same_row a b node label (h.pred ∙ sym k.pred) (h.edge ∙ sym k.edge) (h.cost ∙ sym k.cost)
      by (inl h) (inr k) = absurd (k.node (sym node ∙ h.node))
      by (inr h) (inl k) = absurd (h.node (node ∙ k.node))
      by (inr h) (inr k) =
          let link = one_tree b.node h.link k.link (subst (λ v. IsTreeLink int_cmp Has root v h.link) node h.tree) k.tree in
          same_row a b node label (h.pred ∙ ap (λ (l : LinkOf ℤ). l.from) link ∙ sym k.pred) (h.edge ∙ ap (λ (l : LinkOf ℤ). l.edge) link ∙ sym k.edge)
          (h.cost ∙ ap (λ (l : LinkOf ℤ). l.cost) link ∙ sym k.cost)

  -- a row of the one list is one of the other
  stands : (limit : ℕ) (rows others : List (ReachedOf ℤ)) → AreWithin int_cmp Has root limit rows → AreWithin int_cmp Has root limit others
      → (row : ReachedOf ℤ) → Contains rows row → Contains others row
  stands limit rows others are also row has =
      let is : IsRowWithin int_cmp Has root limit row = All-contains (IsRowWithin int_cmp Has root limit) rows row are.each has in
      among is (also.every row.node row.label is.label is.within)
    where
      among : IsRowWithin int_cmp Has root limit row → Any (λ other. other.node ≡ row.node) others → Contains others row
      among is (k, other, inside, at, node) =
          let has_other : Contains others other = (k, inside, at) in
          subst (Contains others) (one_row limit other row (All-contains (IsRowWithin int_cmp Has root limit) others other also.each has_other) is node) has_other

  -- one list of rows
  pub one_within : (limit : ℕ) (rows others : List (ReachedOf ℤ)) → AreWithin int_cmp Has root limit rows → AreWithin int_cmp Has root limit others → rows ≡ others
  one_within limit rows others are also =
      rising_is_one (row_cmp int_cmp) row_total rows others are.rise also.rise (stands limit rows others are also) (stands limit others rows also are)

-- lists with the same roots, of which each root has one list, are the same
same_lists : (P : ℤ → List (ReachedOf ℤ) → Type 0) → ((root : ℤ) (rows others : List (ReachedOf ℤ)) → P root rows → P root others → rows ≡ others)
    → (lists others : List (Rooted ℤ))
    → map (λ (list : Rooted ℤ). list.0) lists ≡ map (λ (list : Rooted ℤ). list.0) others
    → ((list : Rooted ℤ) → Contains lists list → P list.0 list.1)
    → ((list : Rooted ℤ) → Contains others list → P list.0 list.1)
    → lists ≡ others
same_lists P one [] [] roots each also = refl
same_lists P one [] (b ∷ others) roots each also = absurd cc
same_lists P one (a ∷ lists) [] roots each also = absurd cc
same_lists P one (a ∷ lists) (b ∷ others) roots each also =
    let root : a.0 ≡ b.0 = cc in
    let later : map (λ (list : Rooted ℤ). list.0) lists ≡ map (λ (list : Rooted ℤ). list.0) others = cc in
    let rows = one b.0 a.1 b.1 (subst (λ r. P r a.1) root (each a (0, omega arith, refl))) (also b (0, omega arith, refl)) in
    let rest = same_lists P one lists others later (λ l (k, inside, is). each l (suc k, omega arith, is)) (λ l (k, inside, is). also l (suc k, omega arith, is)) in
    λ i. (root i, rows i) ∷ rest i

-- two tests that say the same of all rows keep the same
same_filter : (keeps other : ReachedOf ℤ → Bool) (rows : List (ReachedOf ℤ)) → ((row : ReachedOf ℤ) → Contains rows row → keeps row ≡ other row)
    → filter keeps rows ≡ filter other rows
same_filter keeps other [] same = refl
same_filter keeps other (row ∷ rows) same =
    by (keeps row) (other row) (same row (0, omega arith, refl)) (same_filter keeps other rows (λ r (k, inside, is). same r (suc k, omega arith, is)))
  where
    by : (a b : Bool) → a ≡ b → filter keeps rows ≡ filter other rows → cond a (row ∷ filter keeps rows) (filter keeps rows) ≡ cond b (row ∷ filter other rows) (filter other rows)
    by true true e rest = ap (λ l. row ∷ l) rest
    by false false e rest = rest
    by true false e rest = absurd cc
    by false true e rest = absurd cc

-- one choice of closest rows
one_closest : (lists shown others : List (Rooted ℤ)) → AreClosest int_cmp lists shown → AreClosest int_cmp lists others → shown ≡ others
one_closest lists shown others a b = a.lists ∙ same lists (λ list has. has) ∙ sym b.lists
  where
    same : (some : List (Rooted ℤ)) → ((list : Rooted ℤ) → Contains some list → Contains lists list) → map (with_kept a.keeps) some ≡ map (with_kept b.keeps) some
    same [] among = refl
    same (list ∷ some) among =
        let has = among list (0, omega arith, refl) in
        let rows = same_filter (a.keeps list.0) (b.keeps list.0) list.1 (λ row has_row.
        let of_a = a.exactly list.0 list.1 row has has_row in
        let of_b = b.exactly list.0 list.1 row has has_row in
        same_test (a.keeps list.0 row) (b.keeps list.0 row) (λ e. of_b.1 (of_a.0 e)) (λ e. of_a.1 (of_b.0 e))) in
        let rest = same some (λ l (k, inside, is). among l (suc k, omega arith, is)) in
        λ i. (list.0, rows i) ∷ rest i

-- one choice of rows that are shown
one_shown : (equicost : Bool) (lists shown others : List (Rooted ℤ)) → AreShown int_cmp equicost lists shown → AreShown int_cmp equicost lists others → shown ≡ others
one_shown true lists shown others a b = one_closest lists shown others a b
one_shown false lists shown others a b = a ∙ sym b

module _ (Has : LinkOf ℤ → Type 0) (starts : List ℤ) (distance : ℕ) where
  one_reaches : (lists others : List (Rooted ℤ)) → AreReaches Has starts distance lists → AreReaches Has starts distance others → lists ≡ others
  one_reaches lists others are also =
      same_lists (λ root rows. AreWithin int_cmp Has root distance rows) (λ root. one_within Has root distance) lists others
      (rising_is_one int_cmp int_cmp_total _ _ are.rise also.rise (λ id has. (also.roots id).1 ((are.roots id).0 has)) (λ id has. (are.roots id).1 ((also.roots id).0 has)))
      are.within also.within

  -- one table
  pub one_reach_table : (equicost : Bool) (rows other : Rows) → IsReachTable Has starts distance equicost rows → IsReachTable Has starts distance equicost other → rows ≡ other
  one_reach_table equicost rows other are also =
      let lists = one_reaches are.lists also.lists are.reaches also.reaches in
      let shown = one_shown equicost also.lists are.shown also.shown (subst (λ l. AreShown int_cmp equicost l are.shown) lists are.are_shown) also.are_shown in
      are.rows_are ∙ ap (λ s. Reaches (reach_table s)) shown ∙ sym also.rows_are
