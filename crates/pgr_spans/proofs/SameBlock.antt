-- Which spans are in one block, by low points: a span is in the block of the tree span of its top.
use Rattle.std.proofs.Common.{◌≡◌, ◌≢◌, ◌⊎◌, inl, inr, ⊎_elim, ℕ, zero, suc, ◌<◌, ◌≤◌, List, [], ◌∷◌, length, get_or, Option, Some, ℤ, refl, sym, subst, ◌∙◌, ap, arith}
use Rattle.std.specs.List.{Contains}
use Rattle.std.proofs.lemmas.Bool.{cases_lt}
use Rattle.std.proofs.lemmas.Option.{same_Some}
use Rattle.pgr_spans.specs.declared.span.Span.{Span}
use Rattle.pgr_spans.specs.Linked.{HasEnd, ShareAnEndBeside, LeadsOn}
use Rattle.pgr_spans.specs.Block.{LinkedOutside, InOneBlock}
use Rattle.pgr_spans.specs.Forest.{parent_of, Climbs, IsAncestor, IsForest, IsTop, rung_of}
use Rattle.pgr_spans.proofs.Outside.{outside_trans, outside_step, block_by_end, block_sym, block_trans}
use Rattle.pgr_spans.proofs.Ancestors.{ancestor_itself, ancestor_above, ancestor_trans, ancestor_of_parent, ancestor_le, ancestor_order}

-- the ends of a span have its two numbers
pub record HasNumber (number : ℤ → ℕ) (span : Span) (i : ℕ) : Type 0 where
  pub end : ℤ
  pub at : HasEnd span end
  pub is : number end ≡ i

pub near_end : (number : ℤ → ℕ) (s : Span) → HasNumber number s (rung_of number s).near
near_end number s = ⊎_elim
    (λ less. record { end = s.a; at = inl refl; is = omega arith })
    (λ more. record { end = s.b; at = inr refl; is = omega arith })
    (cases_lt (number s.a) (number s.b))

pub far_end : (number : ℤ → ℕ) (s : Span) → HasNumber number s (rung_of number s).far
far_end number s = ⊎_elim
    (λ less. record { end = s.b; at = inr refl; is = omega arith })
    (λ more. record { end = s.a; at = inl refl; is = omega arith })
    (cases_lt (number s.a) (number s.b))

pub end_number : (number : ℤ → ℕ) (s : Span) (y : ℤ) → HasEnd s y → (number y ≡ (rung_of number s).near) ⊎ (number y ≡ (rung_of number s).far)
end_number number s y (inl at) =
    let here = ap number at in
    ⊎_elim (λ less. inl (omega arith)) (λ more. inr (omega arith)) (cases_lt (number s.a) (number s.b))
end_number number s y (inr at) =
    let here = ap number at in
    ⊎_elim (λ less. inr (omega arith)) (λ more. inl (omega arith)) (cases_lt (number s.a) (number s.b))

pub near_le_far : (number : ℤ → ℕ) (s : Span) → (rung_of number s).near ≤ (rung_of number s).far
near_le_far number s = omega arith

module _ (spans : List Span) (number : ℤ → ℕ) (parents : List (Option ℕ)) (forest : IsForest spans number parents) where
  -- a span between a vertex and its parent
  pub record IsTreeSpan (j p : ℕ) (t : Span) : Type 0 where
    pub has : Contains spans t
    pub near : (rung_of number t).near ≡ p
    pub far : (rung_of number t).far ≡ j

  pub tree_span : (j p : ℕ) → parent_of parents j ≡ Some p → (t : Span) × IsTreeSpan j p t
  tree_span j p parent =
      let (t, has, rung) = forest.tree j p parent in
      (t, record { has = has; near = ap (λ r. r.near) rung; far = ap (λ r. r.far) rung })

  -- the number of an end stands for this end alone
  pub end_at : (e f : Span) (y : ℤ) (i : ℕ) → Contains spans e → Contains spans f → HasEnd e y → number y ≡ i → HasNumber number f i → HasEnd f y
  end_at e f y i e_has f_has y_end is found =
      subst (HasEnd f) (forest.one found.end y (f, f_has, found.at) (e, e_has, y_end) (found.is ∙ sym is)) found.at

  -- two spans with one number are linked outside each vertex of another
  linked_at : (x : ℤ) (e f : Span) (i : ℕ) → Contains spans e → Contains spans f → HasNumber number e i → HasNumber number f i → number x ≢ i → LinkedOutside spans x e f
  linked_at x e f i e_has f_has e_number f_number beside =
      outside_step spans x e f f_has (
        e_number.end,
        (λ same. beside (sym (ap number same) ∙ e_number.is)),
        e_number.at,
        end_at e f e_number.end i e_has f_has e_number.at
            e_number.is f_number,
      )

  -- down the tree from a to d without the number of x
  climb_down : (x : ℤ) (steps a d : ℕ) (e f : Span) → Climbs parents steps a d → ((i : ℕ) → a ≤ i → i ≤ d → number x ≢ i) → Contains spans e → Contains spans f
      → HasNumber number e a → HasNumber number f d → LinkedOutside spans x e f
  climb_down x zero a d e f same beside e_has f_has e_number f_number =
      linked_at x e f d e_has f_has (subst (HasNumber number e) same e_number) f_number (beside d (omega arith) (omega arith))
  climb_down x (suc steps) a d e f (q, parent, climbs) beside e_has f_has e_number f_number =
      let (t, is_tree) = tree_span d q parent in
      let lower : q < d = forest.falls d q parent in
      let above : a ≤ q = ancestor_le parents forest.falls a q (steps, climbs) in
      let t_near : HasNumber number t q = subst (HasNumber number t) is_tree.near (near_end number t) in
      let t_far : HasNumber number t d = subst (HasNumber number t) is_tree.far (far_end number t) in
      outside_trans spans x e t f
      (climb_down x steps a q e t climbs (λ i low high. beside i low (omega arith)) e_has is_tree.has e_number t_near)
      (linked_at x t f d is_tree.has f_has t_far f_number (beside d (omega arith) (omega arith)))

  pub down : (x : ℤ) (a d : ℕ) (e f : Span) → IsAncestor parents a d → ((i : ℕ) → a ≤ i → i ≤ d → number x ≢ i) → Contains spans e → Contains spans f → HasNumber number e a
      → HasNumber number f d → LinkedOutside spans x e f
  down x a d e f (steps, climbs) = climb_down x steps a d e f climbs

  -- a span is in the block of the tree span over its far end
  pub deep : (s t : Span) (p : ℕ) → Contains spans s → (rung_of number s).near ≢ (rung_of number s).far → parent_of parents (rung_of number s).far ≡ Some p
      → IsTreeSpan (rung_of number s).far p t → InOneBlock spans s t
  deep s t p s_has differ parent is_tree =
      let far = (rung_of number s).far in
      let near = (rung_of number s).near in
      let (q, parent_q, above) = ancestor_of_parent parents near far (forest.near s s_has) differ in
      let same : q ≡ p = same_Some q p (sym parent_q ∙ parent) in
      let lower : q < far = forest.falls far q parent_q in
      let y = far_end number s in
      let t_far : HasNumber number t far = subst (HasNumber number t) is_tree.far (far_end number t) in
      let t_near : HasNumber number t q = subst (HasNumber number t) (is_tree.near ∙ sym same) (near_end number t) in
      let y_is : number y.end ≡ far = y.is in
      block_by_end spans s t y.end is_tree.has y.at (end_at s t y.end far s_has is_tree.has y.at y.is t_far)
      (down y.end near q s t above (λ i low high. λ here. omega arith) s_has is_tree.has (near_end number s) t_near)

  -- so two spans with one far end are in one block
  pub same_far : (s t : Span) → Contains spans s → Contains spans t → (rung_of number s).near ≢ (rung_of number s).far → (rung_of number t).near ≢ (rung_of number t).far
      → (rung_of number s).far ≡ (rung_of number t).far → InOneBlock spans s t
  same_far s t s_has t_has s_differ t_differ same =
      let (p, parent, above) = ancestor_of_parent parents (rung_of number s).near (rung_of number s).far (forest.near s s_has) s_differ in
      let (u, is_tree) = tree_span (rung_of number s).far p parent in
      let t_tree : IsTreeSpan (rung_of number t).far p u = subst (λ j. IsTreeSpan j p u) same is_tree in
      let t_parent : parent_of parents (rung_of number t).far ≡ Some p = subst (λ j. parent_of parents j ≡ Some p) same parent in
      block_trans spans s u t (deep s u p s_has s_differ parent is_tree) (block_sym spans t u t_has (deep t u p t_has t_differ t_parent t_tree))

  module _ (lows tops : List ℕ) (low : (v : ℕ) → v < length parents
      → (get_or lows v 0 ≡ v) ⊎ ((span : Span) × Contains spans span × ((rung_of number span).near ≡ get_or lows v 0) × IsAncestor parents v (rung_of number span).far))
      (least : (v : ℕ) (span : Span) → Contains spans span → IsAncestor parents v (rung_of number span).far → get_or lows v 0 ≤ (rung_of number span).near)
      (top : (v : ℕ) → v < length parents → IsTop parents lows tops v) where
    -- a vertex whose low point is less than its parent: the tree spans over both are in one block
    pub same_as_parent : (v p : ℕ) (t : Span) → v < length parents → parent_of parents v ≡ Some p → IsTreeSpan v p t → get_or lows v 0 < p
        → (q : ℕ) × (parent_of parents p ≡ Some q) × (u : Span) × IsTreeSpan p q u × InOneBlock spans t u
    same_as_parent v p t inside parent is_tree lower = by (low v inside) where
      by : (get_or lows v 0 ≡ v) ⊎ ((span : Span) × Contains spans span × ((rung_of number span).near ≡ get_or lows v 0) × IsAncestor parents v (rung_of number span).far)
          → (q : ℕ) × (parent_of parents p ≡ Some q) × (u : Span) × IsTreeSpan p q u × InOneBlock spans t u
      by (inl itself) = let below : p < v = forest.falls v p parent in absurd (omega arith)
      by (inr (s, s_has, s_near, under)) =
          let near = (rung_of number s).near in
          let far = (rung_of number s).far in
          let below : p < v = forest.falls v p parent in
          let p_over : IsAncestor parents p far = ancestor_trans parents p v far (ancestor_above parents p p v parent (ancestor_itself parents p)) under in
          let near_over : IsAncestor parents near p = ancestor_order parents forest.falls near p far (forest.near s s_has) p_over (omega arith) in
          let (q, parent_q, above) = ancestor_of_parent parents near p near_over (λ same. omega arith) in
          let (u, u_tree) = tree_span p q parent_q in
          let lower_q : q < p = forest.falls p q parent_q in
          let t_near : HasNumber number t p = subst (HasNumber number t) is_tree.near (near_end number t) in
          let t_far : HasNumber number t v = subst (HasNumber number t) is_tree.far (far_end number t) in
          let u_far : HasNumber number u p = subst (HasNumber number u) u_tree.far (far_end number u) in
          let u_near : HasNumber number u q = subst (HasNumber number u) u_tree.near (near_end number u) in
          let y_is : number t_near.end ≡ p = t_near.is in
          let first = down t_near.end v far t s under (λ i low_i high_i. λ here. omega arith) is_tree.has s_has t_far (far_end number s) in
          let second = down t_near.end near q s u above (λ i low_i high_i. λ here. omega arith) s_has u_tree.has (near_end number s) u_near in (
            q,
            parent_q,
            u,
            u_tree,
            block_by_end spans t u t_near.end u_tree.has t_near.at (end_at t u t_near.end p is_tree.has u_tree.has t_near.at t_near.is u_far)
                (outside_trans spans t_near.end t s u first second),
          )

    -- what a top is: a vertex with a parent that its low point is not less than, and the block of the tree span over it
    pub record IsTopOf (s : Span) (k : ℕ) : Type 0 where
      pub parent : ℕ
      pub is_parent : parent_of parents k ≡ Some parent
      pub high : parent ≤ get_or lows k 0
      pub span : Span
      pub is_tree : IsTreeSpan k parent span
      pub in_block : InOneBlock spans s span

    -- up from a vertex to its top
    up : (fuel v p : ℕ) (t : Span) → v < fuel → v < length parents → parent_of parents v ≡ Some p → IsTreeSpan v p t → IsTopOf t (get_or tops v 0)
    up zero v p t less inside parent is_tree = absurd (omega arith)
    up (suc fuel) v p t less inside parent is_tree = by (top v inside)
        (λ q u lower parent_q u_tree. up fuel p q u lower (omega (arith, forest.falls v p parent)) parent_q u_tree) where
          by : IsTop parents lows tops v → ((q : ℕ) (u : Span) → p < fuel → parent_of parents p ≡ Some q → IsTreeSpan p q u → IsTopOf u (get_or tops p 0))
              → IsTopOf t (get_or tops v 0)
          by (inr (itself, high)) on = subst (IsTopOf t) (sym itself)
              (record { parent = p; is_parent = parent; high = high p parent; span = t; is_tree = is_tree; in_block = inl refl })
          by (inl (p', parent', lower, same)) on =
              let one : p' ≡ p = same_Some p' p (sym parent' ∙ parent) in
              let below : p < v = forest.falls v p parent in
              let (q, parent_q, u, u_tree, block) = same_as_parent v p t inside parent is_tree (omega arith) in
              let above = on q u (omega arith) parent_q u_tree in
              subst (IsTopOf t) (sym (same ∙ ap (λ i. get_or tops i 0) one))
              (record {
                parent = above.parent;
                is_parent = above.is_parent;
                high = above.high;
                span = above.span;
                is_tree = above.is_tree;
                in_block = block_trans spans t u above.span
                    block above.in_block;
              })

    -- each span that is no loop is in the block of the tree span over the top of its far end
    pub top_of_span : (s : Span) → Contains spans s → (rung_of number s).near ≢ (rung_of number s).far → IsTopOf s (get_or tops (rung_of number s).far 0)
    top_of_span s s_has differ =
        let far = (rung_of number s).far in
        let (p, parent, above) = ancestor_of_parent parents (rung_of number s).near far (forest.near s s_has) differ in
        let (t, is_tree) = tree_span far p parent in
        let over = up (suc far) far p t (omega arith) (forest.below s s_has) parent is_tree in
        record {
          parent = over.parent;
          is_parent = over.is_parent;
          high = over.high;
          span = over.span;
          is_tree = over.is_tree;
          in_block = block_trans spans s t over.span (deep s t p s_has differ parent is_tree) over.in_block;
        }

    -- below a vertex whose low point is not less than its parent nothing leads out but at the parent
    module _ (l p : ℕ) (t : Span) (parent : parent_of parents l ≡ Some p) (is_tree : IsTreeSpan l p t) (high : p ≤ get_or lows l 0) where
      gate : HasNumber number t p
      gate = subst (HasNumber number t) is_tree.near (near_end number t)

      -- an end of a span below, other than the gate, is below
      end_below : (e : Span) (y : ℤ) → Contains spans e → IsAncestor parents l (rung_of number e).far → HasEnd e y → y ≢ gate.end → IsAncestor parents l (number y)
      end_below e y e_has under y_end beside = by (end_number number e y y_end) (cases_lt (rung_of number e).near l) where
        by : (number y ≡ (rung_of number e).near) ⊎ (number y ≡ (rung_of number e).far) → ((rung_of number e).near < l) ⊎ (l ≤ (rung_of number e).near)
            → IsAncestor parents l (number y)
        by (inr at_far) cases = subst (IsAncestor parents l) (sym at_far) under
        by (inl at_near) (inr le) =
            subst (IsAncestor parents l) (sym at_near) (ancestor_order parents forest.falls l (rung_of number e).near (rung_of number e).far under (forest.near e e_has) le)
        by (inl at_near) (inl lt) =
            let over_l : IsAncestor parents (rung_of number e).near l = ancestor_order parents forest.falls (rung_of number e).near l (rung_of number e).far
            (forest.near e e_has) under (omega arith) in
            let (q, parent_q, above) = ancestor_of_parent parents (rung_of number e).near l over_l (λ same. omega arith) in
            let one : q ≡ p = same_Some q p (sym parent_q ∙ parent) in
            let low_near : (rung_of number e).near ≤ q = ancestor_le parents forest.falls (rung_of number e).near q above in
            let low_least : get_or lows l 0 ≤ (rung_of number e).near = least l e e_has under in
            let here : number y ≡ p = omega arith in
            absurd (beside (forest.one y gate.end (e, e_has, y_end) (t, is_tree.has, gate.at) (here ∙ sym gate.is)))

      -- so is a span that shares such an end
      share_below : (e f : Span) → Contains spans e → Contains spans f → IsAncestor parents l (rung_of number e).far → ShareAnEndBeside gate.end e f
          → IsAncestor parents l (rung_of number f).far
      share_below e f e_has f_has under (y, beside, y_e, y_f) =
          let at_y = end_below e y e_has under y_e beside in
          ⊎_elim
          (λ at_near. ancestor_trans parents l (rung_of number f).near (rung_of number f).far (subst (IsAncestor parents l) at_near at_y) (forest.near f f_has))
          (λ at_far. subst (IsAncestor parents l) at_far at_y)
          (end_number number f y y_f)

      stays_below : (e f : Span) (xs : List Span) → Contains spans e → IsAncestor parents l (rung_of number e).far → LeadsOn (Contains spans) (ShareAnEndBeside gate.end) e xs f
          → IsAncestor parents l (rung_of number f).far
      stays_below e f [] e_has under leads = subst (λ s. IsAncestor parents l (rung_of number s).far) leads under
      stays_below e f (next ∷ rest) e_has under (next_has, share, leads) =
          stays_below next f rest next_has (share_below e next e_has next_has under share) leads

      -- a span that is not below isn't in the block of the tree span
      pub not_below : (f : Span) → InOneBlock spans t f → IsAncestor parents l (rung_of number f).far
      not_below f block =
          let start : IsAncestor parents l (rung_of number t).far = subst (IsAncestor parents l) (sym is_tree.far) (ancestor_itself parents l) in
          ⊎_elim
          (λ same. subst (λ s. IsAncestor parents l (rung_of number s).far) same start)
          (λ linked. stays_below t f (linked gate.end).0 is_tree.has start (linked gate.end).1)
          block

    -- tree spans over two different tops are in two blocks
    tops_part : (k l pk pl : ℕ) (t u : Span) → k < l → parent_of parents l ≡ Some pl → IsTreeSpan k pk t → IsTreeSpan l pl u → pl ≤ get_or lows l 0 → InOneBlock spans u t → ⊥
    tops_part k l pk pl t u less parent t_tree u_tree high block =
        let under = not_below l pl u parent u_tree high t block in
        let le : l ≤ (rung_of number t).far = ancestor_le parents forest.falls l (rung_of number t).far under in
        let far : (rung_of number t).far ≡ k = t_tree.far in
        omega arith

    -- two spans, no loops, are in one block exactly where their far ends have one top
    pub block_by_top : (s t : Span) → Contains spans s → Contains spans t → (rung_of number s).near ≢ (rung_of number s).far → (rung_of number t).near ≢ (rung_of number t).far
        → get_or tops (rung_of number s).far 0 ≡ get_or tops (rung_of number t).far 0 → InOneBlock spans s t
    block_by_top s t s_has t_has s_differ t_differ same =
        let s_top = top_of_span s s_has s_differ in
        let t_top = top_of_span t t_has t_differ in
        let between : InOneBlock spans s_top.span t_top.span = ends s_top t_top in
        block_trans spans s s_top.span t s_top.in_block (block_trans spans s_top.span t_top.span t between (block_sym spans t t_top.span t_has t_top.in_block)) where
          ends : (s_top : IsTopOf s (get_or tops (rung_of number s).far 0)) (t_top : IsTopOf t (get_or tops (rung_of number t).far 0)) → InOneBlock spans s_top.span t_top.span
          ends s_top t_top =
              let s_near : (rung_of number s_top.span).near ≡ s_top.parent = s_top.is_tree.near in
              let s_far : (rung_of number s_top.span).far ≡ get_or tops (rung_of number s).far 0 = s_top.is_tree.far in
              let t_near : (rung_of number t_top.span).near ≡ t_top.parent = t_top.is_tree.near in
              let t_far : (rung_of number t_top.span).far ≡ get_or tops (rung_of number t).far 0 = t_top.is_tree.far in
              let s_lower : s_top.parent < get_or tops (rung_of number s).far 0 = forest.falls (get_or tops (rung_of number s).far 0) s_top.parent s_top.is_parent in
              let t_lower : t_top.parent < get_or tops (rung_of number t).far 0 = forest.falls (get_or tops (rung_of number t).far 0) t_top.parent t_top.is_parent in
              same_far s_top.span t_top.span s_top.is_tree.has t_top.is_tree.has (λ e. omega arith) (λ e. omega arith) (s_far ∙ (same ∙ sym t_far))

    pub top_by_block : (s t : Span) → Contains spans s → Contains spans t → (rung_of number s).near ≢ (rung_of number s).far → (rung_of number t).near ≢ (rung_of number t).far
        → InOneBlock spans s t → get_or tops (rung_of number s).far 0 ≡ get_or tops (rung_of number t).far 0
    top_by_block s t s_has t_has s_differ t_differ block =
        let s_top = top_of_span s s_has s_differ in
        let t_top = top_of_span t t_has t_differ in
        let k = get_or tops (rung_of number s).far 0 in
        let l = get_or tops (rung_of number t).far 0 in
        let between : InOneBlock spans s_top.span t_top.span = block_trans spans s_top.span s t_top.span (block_sym spans s s_top.span s_has s_top.in_block)
        (block_trans spans s t t_top.span block t_top.in_block) in
        ⊎_elim
        (λ less. absurd (tops_part k l s_top.parent t_top.parent s_top.span t_top.span less t_top.is_parent s_top.is_tree t_top.is_tree t_top.high
        (block_sym spans s_top.span t_top.span s_top.is_tree.has between)))
        (λ more. ⊎_elim (λ greater. absurd (tops_part l k t_top.parent s_top.parent t_top.span s_top.span greater s_top.is_parent t_top.is_tree s_top.is_tree s_top.high between))
        (λ le. omega arith) (cases_lt l k))
        (cases_lt k l)
