-- The rows of labelled vertices, once sorted, are those of the vertices within the limit.
use Rattle.std.proofs.Common.{◌≡◌, ◌≢◌, ◌⊎◌, inl, inr, ⊎_elim, ℕ, zero, suc, ◌+◌, ◌<◌, ◌≤◌, false, List, [], ◌∷◌, Option, Some, None, length, get_or, map, Contains, refl, sym, ap, ◌∙◌, subst, arith, Ordering, Less, Equal, Greater}
use Rattle.std.specs.Prelude.{◌↔◌, All, Any, IsSome}
use Rattle.std.specs.Ordering.{nat_cmp, int_cmp, ordering_then, ordering_reverse, is_lt, is_eq, eq_by_cmp}
use Rattle.std.specs.Cmp.{IsTotalOrder, Equal-is}
use Rattle.std.specs.List.{IsDistinct}
use Rattle.std.specs.List.Sorted.{IsSorted, IsPermutation}
use Rattle.std.proofs.lemmas.Cmp.{eq_by_cmp_equiv, ranked, nat_cmp_total, int_cmp_total, on_total, then_total, tied_itself}
use Rattle.std.proofs.lemmas.Bool.{cases_Bool}
use Rattle.std.proofs.lemmas.List.Sorted.{sorted_far, ranks_by, All-permutation, Contains-permutation}
use Rattle.std.proofs.lemmas.List.Elements.{All-contains}
use Rattle.std.proofs.lemmas.Map.Keys.{IsDistinct-from_apart, IsDistinct-IsPermutation, apart_from_distinct}
use Rattle.pgr_outside.specs.Lists.{IsStrictlyRising}
use Rattle.pgr_outside.proofs.Lists.{Contains-map, Contains-one}
use Rattle.pgr_walks.specs.declared.link.LinkOf.{LinkOf}
use Rattle.pgr_walks.specs.declared.label.Label.{Label}
use Rattle.pgr_walks.specs.Link.{step_cmp, entry_cmp}
use Rattle.pgr_walks.specs.LinkOrders.{entry_total}
use Rattle.pgr_walks.specs.Walk.{IsWalk}
use Rattle.pgr_walks.specs.Label.{AtMost, LeadsTo, IsLabel, IsLeastLabel, IsLabelFrom, IsLeastLabelFrom, label_of, beyond}
use Rattle.pgr_walks.specs.Graph.{IsLinkOf, IsLawful}
use Rattle.pgr_walks.specs.Reversed.{turned}
use Rattle.pgr_walks.proofs.LabelOrder.{AtMost-both}
use Rattle.pgr_walks.proofs.Rising.{less_by_rest}
use Rattle.pgr_search.specs.FinalLabels.{label_at, HoldsLabelsUpTo, KeepsLimit}
use Rattle.pgr_search.specs.Tight.{IsTight, IsLeastTight}
use Rattle.pgr_reach.specs.declared.reach.ReachedOf.{ReachedOf}
use Rattle.pgr_reach.specs.FromRoot.{IsTightFrom, IsTreeLink}
use Rattle.pgr_reach.specs.Within.{AreWithin, IsRowWithin, IsRootRow, IsTreeRow, row_cmp}
use Rattle.pgr_reach.specs.LabelRows.{IsLabelRow, IsLinkRow, HasLeastTight, HasNoTight, AreRowsBelow}
use Rattle.pgr_reach.proofs.LabelRowLemmas.{All-follows}

-- a label is not beyond itself
not_beyond : (a : Label) (link : LinkOf ℕ) → AtMost (beyond a link) a → ⊥
not_beyond a link (inl h) = omega arith
not_beyond a link (inr h) = omega (arith, h.0, h.1)

one_label : (Has : LinkOf ℕ → Type 0) (root v : ℕ) (a b : Label) → IsLeastLabelFrom Has root v a → IsLeastLabelFrom Has root v b → a ≡ b
one_label Has root v a b is_a is_b =
    AtMost-both a b (subst (AtMost a) is_b.label_is (is_a.least is_b.walk is_b.is_walk)) (subst (AtMost b) is_a.label_is (is_b.least is_a.walk is_a.is_walk))

-- what stands among turned links is the turned image of a link
among_turned : (links : List (LinkOf ℕ)) (link : LinkOf ℕ) → Contains (map turned links) link → Contains links (turned link)
among_turned [] link (k, inside, is) = absurd (omega arith)
among_turned (x ∷ links) link (zero, inside, is) = (0, omega arith, ap turned is)
among_turned (x ∷ links) link (suc k, inside, is) = let later = among_turned links link (k, omega arith, is) in (suc later.0, omega (arith, later.1), later.2)

some_there : (o : Option Label) (label : Label) → o ≡ Some label → IsSome o
some_there o label e = subst IsSome (sym e) refl

same_some : (a b : Label) (o : Option Label) → o ≡ Some a → o ≡ Some b → a ≡ b
same_some a b o e f = cc

row_total : IsTotalOrder (row_cmp nat_cmp)
row_total = then_total (on_total (λ (row : ReachedOf ℕ). row.label.cost) nat_cmp_total) (on_total (λ (row : ReachedOf ℕ). row.node) nat_cmp_total)

apart_nodes : (a b : ReachedOf ℕ) → nat_cmp a.node b.node ≡ Less → eq_by_cmp (row_cmp nat_cmp) a b ≡ false
apart_nodes a b e = by (nat_cmp a.label.cost b.label.cost)
  where
    by : (o : Ordering) → is_eq (ordering_then o (nat_cmp a.node b.node)) ≡ false
    by Less = refl
    by Equal = ap is_eq e
    by Greater = refl

-- rows of different vertices, once sorted, rise strictly
rows_rise : (rows sorted : List (ReachedOf ℕ)) → IsStrictlyRising (λ a b. nat_cmp a.node b.node) rows → IsPermutation rows sorted → IsSorted (row_cmp nat_cmp) sorted
    → IsStrictlyRising (row_cmp nat_cmp) sorted
rows_rise rows sorted rise moved in_order i j d before inside =
    let distinct = IsDistinct-from_apart (eq_by_cmp (row_cmp nat_cmp)) rows (λ i j d before inside. apart_nodes (get_or rows i d) (get_or rows j d) (rise i j d before inside)) in
    let differ = IsDistinct-IsPermutation (eq_by_cmp (row_cmp nat_cmp)) (eq_by_cmp_equiv row_total).symm rows sorted moved distinct in
    less_by_rest (row_cmp nat_cmp (get_or sorted i d) (get_or sorted j d)) (row_cmp nat_cmp (get_or sorted j d) (get_or sorted i d))
    (row_total.antisymm (get_or sorted i d) (get_or sorted j d)) (apart_from_distinct (eq_by_cmp (row_cmp nat_cmp)) sorted i j d differ before inside)
    (sorted_far (λ x y. is_lt (row_cmp nat_cmp x y)) (ranks_by row_total (λ x. x)) sorted in_order i j d (omega arith) inside)

-- what some row has is had by some row after a permutation
Any-permutation : {X : Type 0} (P : X → Type 0) (xs ys : List X) → IsPermutation xs ys → Any P xs → Any P ys
Any-permutation P xs ys moved (k, x, within, is, holds) = let there = Contains-permutation xs ys x moved (k, within, is) in (there.0, x, there.1, there.2, holds)

module _ (size : ℕ) (outs ins : ℕ → List (LinkOf ℕ)) (lawful : IsLawful size outs ins) (root limit : ℕ) (root_below : root < size)
    (back_outs : ℕ → List (LinkOf ℕ)) (Back : LinkOf ℕ → Type 0) (labels : List (Option Label))
    (outs_are : (v : ℕ) → back_outs v ≡ map turned (ins v))
    (labels_are : (v : ℕ) (label : Option Label) → IsLabel Back (root ∷ []) v label ↔ IsLabelFrom (IsLinkOf size ins) root v label)
    (back_size : ℕ) (same_size : back_size ≡ size)
    (up_to : HoldsLabelsUpTo back_size Back (root ∷ []) labels)
    (keeps : KeepsLimit back_size Back (root ∷ []) limit labels)
    (some_tight : (v : ℕ) → IsSome (label_at labels v) → Contains (root ∷ []) v ⊎ ((link : LinkOf ℕ) × (Contains (back_outs v) link × IsTight labels link)))
    (no_tight : (v : ℕ) (link : LinkOf ℕ) → Contains (root ∷ []) v → link.from ≡ v → IsTight labels link → ⊥) where
  abbrev Has : LinkOf ℕ → Type 0
  Has = IsLinkOf size ins

  -- a label that is held is the least from the root
  held : (v : ℕ) (label : Label) → label_at labels v ≡ Some label → IsLeastLabelFrom Has root v label
  held v label e = (labels_are v (Some label)).0 (up_to.final.least v label e)

  -- a link out of a vertex in the graph turned round is a link into it, turned
  link_into : (v : ℕ) (link : LinkOf ℕ) → Contains (back_outs v) link → Contains (ins v) (turned link)
  link_into v link has = among_turned (ins v) link (subst (λ ls. Contains ls link) (outs_are v) has)

  has_link : (v : ℕ) → v < size → (link : LinkOf ℕ) → Contains (back_outs v) link → Has (turned link) × ((turned link).to ≡ v)
  has_link v below link has =
      let among = link_into v link has in
      let is_v : link.from ≡ v = ((lawful.at v below).in_ends (turned link) among).0 in
      ((omega (arith, is_v, below), subst (λ w. Contains (ins w) (turned link)) (sym is_v) among), is_v)

  -- a tight link out of a vertex in the graph turned round ends a least walk to it
  tight_from : (link : LinkOf ℕ) → IsTight labels link → IsTightFrom Has root (turned link)
  tight_from link tight = record {
    before = tight.there;
    start = held link.to tight.there tight.there_is;
    end = held link.from (beyond tight.there link) (tight.here_is ∙ ap Some tight.one_more);
  }

  -- and one that ends a least walk to a labelled vertex is tight
  tight_back : (v : ℕ) (here : Label) → v < size → label_at labels v ≡ Some here → (link : LinkOf ℕ) → Has link → link.to ≡ v → IsTightFrom Has root link
      → IsTight labels (turned link)
  tight_back v here below here_is link has leads tight = by (label_at labels link.from) refl
    where
      here_from : here ≡ beyond tight.before link
      here_from = one_label Has root v here (beyond tight.before link) (held v here here_is) (subst (λ w. IsLeastLabelFrom Has root w (beyond tight.before link)) leads tight.end)

      from_below : link.from < size
      from_below = ((lawful.at link.to has.0).in_ends link has.1).1

      by : (o : Option Label) → label_at labels link.from ≡ o → IsTight labels (turned link)
      by None e =
          let least : IsLeastLabel Back (root ∷ []) link.from tight.before = (labels_are link.from (Some tight.before)).1 tight.start in
          let below_it : AtMost here (label_of least.walk) = up_to.others link.from least.walk (omega (arith, from_below, same_size)) e least.leads v here here_is in
          absurd (not_beyond tight.before link (subst (AtMost (beyond tight.before link)) least.label_is (subst (λ l. AtMost l (label_of least.walk)) here_from below_it)))
      by (Some there) e = record {
        here = here;
        there = there;
        here_is = subst (λ w. label_at labels w ≡ Some here) (sym leads) here_is;
        there_is = e;
        one_more = here_from ∙ ap (λ l. beyond l link) (one_label Has root link.from tight.before there tight.start (held link.from there e));
      }

  -- the first tight link is the tree link
  tree_link : (row : ReachedOf ℕ) → row.node < size → label_at labels row.node ≡ Some row.label → (has : HasLeastTight (back_outs row.node) labels row)
      → IsTreeLink nat_cmp Has root row.node (turned has.link)
  tree_link row below label_is has = record {
    has = (has_link row.node below has.link has.least.among).0;
    leads = (has_link row.node below has.link has.least.among).1;
    tight = tight_from has.link has.least.tight;
    least = none_less;
  }
    where
      none_less : (other : LinkOf ℕ) → Has other → other.to ≡ row.node → IsTightFrom Has root other → entry_cmp nat_cmp other (turned has.link) ≢ Less
      none_less other has_other leads tight is_less =
          let among : Contains (back_outs row.node) (turned other) =
          subst (λ ls. Contains ls (turned other)) (sym (outs_are row.node)) (Contains-map turned (ins row.node) other (subst (λ w. Contains (ins w) other) leads has_other.1)) in
          let differ : turned other ≢ has.link = λ e. differ_by (entry_cmp nat_cmp other (turned has.link)) is_less
          (ap (λ l. entry_cmp nat_cmp (turned l) (turned has.link)) e ∙ tied_itself (entry_total nat_cmp nat_cmp_total) (turned has.link)) in
          both_less (entry_cmp nat_cmp other (turned has.link)) (entry_cmp nat_cmp (turned has.link) other)
          ((entry_total nat_cmp nat_cmp_total).antisymm other (turned has.link)) is_less
          (has.least.least (turned other) among (tight_back row.node row.label below label_is other has_other leads tight) differ)
        where
          differ_by : (o : Ordering) → o ≡ Less → o ≡ Equal → ⊥
          differ_by o e f = cc

          both_less : (o p : Ordering) → o ≡ ordering_reverse p → o ≡ Less → p ≡ Less → ⊥
          both_less o Less r e f = cc
          both_less o Equal r e f = cc
          both_less o Greater r e f = cc

  -- one row
  row_within : (row : ReachedOf ℕ) → IsLabelRow back_outs labels root back_size row → IsRowWithin nat_cmp Has root limit row
  row_within row is = record {
    label = held row.node row.label is.label;
    within = keeps.within row.node row.label is.label;
    link = ⊎_elim in_tree at_root is.link;
  }
    where
      in_tree : HasLeastTight (back_outs row.node) labels row → IsRootRow root row ⊎ IsTreeRow nat_cmp Has root row
      in_tree has = inr (record {
        node = λ e. no_tight row.node has.link (0, omega arith, sym e) has.from has.least.tight;
        link = turned has.link;
        tree = tree_link row (omega (arith, is.below, same_size)) is.label has;
        pred = has.pred;
        edge = has.edge;
        cost = has.cost;
      })

      at_root : HasNoTight (back_outs row.node) labels root row → IsRootRow root row ⊎ IsTreeRow nat_cmp Has root row
      at_root none = inl (record {
        node = ⊎_elim (Contains-one root row.node)
            (λ tight. absurd (none.none tight.0 tight.1.0 tight.1.1)) (some_tight row.node (some_there (label_at labels row.node) row.label is.label));
        pred = none.pred;
        edge = none.edge;
        cost = none.cost;
      })

  -- a walk from the root ends below the size
  end_below : (s : ℕ) (walk : List (LinkOf ℕ)) (v : ℕ) → s < size → IsWalk Has s walk v → v < size
  end_below s [] v below is_walk = subst (λ w. w < size) is_walk below
  end_below s (link ∷ rest) v below is_walk = end_below link.to rest v is_walk.0.0 is_walk.2

  -- a vertex within the limit has a label
  label_within : (v : ℕ) (label : Label) → IsLeastLabelFrom Has root v label → label.cost ≤ limit → (here : Label) × (label_at labels v ≡ Some here)
  label_within v label least within = by (label_at labels v) refl
    where
      by : (o : Option Label) → label_at labels v ≡ o → (here : Label) × (label_at labels v ≡ Some here)
      by None e =
          let back : IsLeastLabel Back (root ∷ []) v label = (labels_are v (Some label)).1 least in
          let cost = ap (λ l. l.cost) back.label_is in
          let past = keeps.beyond_it v back.walk (omega (arith, end_below root least.walk v root_below least.is_walk, same_size)) e back.leads in
          absurd (omega (arith, past, cost, within))
      by (Some here) e = (here, e)

  -- all rows
  pub rows_within : (rows sorted : List (ReachedOf ℕ)) → AreRowsBelow back_outs labels root back_size rows → IsPermutation rows sorted → IsSorted (row_cmp nat_cmp) sorted
      → AreWithin nat_cmp Has root limit sorted
  rows_within rows sorted are moved in_order = record {
    each = All-permutation (IsRowWithin nat_cmp Has root limit) rows sorted moved (All-follows _ _ rows row_within are.each);
    every = λ v label least within.
        let here = label_within v label least within in
        Any-permutation (λ row. row.node ≡ v) rows sorted moved (are.every v here.0 (omega (arith, end_below root least.walk v root_below least.is_walk, same_size)) here.1);
    rise = rows_rise rows sorted are.rise moved in_order;
  }
