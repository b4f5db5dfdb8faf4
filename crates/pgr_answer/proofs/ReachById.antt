-- The rows of reached vertices by number are those by id.
use Rattle.std.proofs.Common.{◌≡◌, inl, inr, ⊎_elim, ℕ, ◌<◌, List, [], ◌∷◌, map, length, get_or, refl, sym, ap, ◌∙◌, subst, rules, arith, Ordering, Less}
use Rattle.std.proofs.lemmas.Grind.{common_steps}
use Rattle.std.specs.Prelude.{ℤ, Contains, All, Any}
use Rattle.std.specs.Ordering.{nat_cmp, int_cmp, ordering_then}
use Rattle.std.specs.Prelude.{pos}
use Rattle.std.proofs.lemmas.List.{get_or-map, length-map}
use Rattle.std.proofs.lemmas.List.Elements.{All-contains, All-map, All-nil, All-cons, All-head, All-tail}
use Rattle.pgr_outside.specs.Lists.{IsStrictlyRising}
use Rattle.pgr_outside.proofs.Lists.{Contains-map, Contains-from_map}
use Rattle.pgr_walks.specs.declared.link.LinkOf.{LinkOf}
use Rattle.pgr_walks.specs.declared.label.Label.{Label}
use Rattle.pgr_walks.specs.Walk.{IsWalk, cost_of, hops_of}
use Rattle.pgr_walks.specs.Label.{IsLeastLabelFrom, AtMost, label_of, beyond}
use Rattle.pgr_walks.specs.Link.{entry_cmp}
use Rattle.pgr_numbers.specs.Names.{AreEnds, AreNumbered, IsNumbered, id_at, named}
use Rattle.pgr_numbers.specs.Numbering.{IsNumberedWalk}
use Rattle.pgr_route.proofs.TightWalks.{label_same}
use Rattle.pgr_reach.specs.declared.reach.ReachedOf.{ReachedOf}
use Rattle.pgr_reach.specs.FromRoot.{IsTightFrom, IsTreeLink}
use Rattle.pgr_reach.specs.Within.{AreWithin, IsRowWithin, row_cmp}
use Rattle.pgr_answer.specs.Rooted.{named_row, IsRowBelow}
use Rattle.pgr_answer.proofs.AnswersAlong.{Any-map}

-- what has some of a list follows from what each of it has
Any-follows : {X : Type 0} (P Q : X → Type 0) (xs : List X) → ((x : X) → P x → Q x) → Any P xs → Any Q xs
Any-follows P Q xs follows (k, x, within, is, holds) = (k, x, within, is, follows x holds)

pub All-follows : {X : Type 0} (P Q : X → Type 0) (xs : List X) → ((x : X) → P x → Q x) → All P xs → All Q xs
All-follows P Q [] follows all = All-nil Q
All-follows P Q (x ∷ xs) follows all = All-cons Q x xs (follows x (All-head P x xs all)) (All-follows P Q xs follows (All-tail P x xs all))

-- mapped elements rise in an order that the map keeps
pub mapped_rise : {X Y : Type 0} (cmp : X → X → Ordering) (next : Y → Y → Ordering) (f : X → Y) (e : X) (xs : List X)
    → ((a b : X) → Contains xs a → Contains xs b → next (f a) (f b) ≡ cmp a b) → IsStrictlyRising cmp xs → IsStrictlyRising next (map f xs)
mapped_rise {X = X} cmp next f e xs kept rise i j d before inside =
    let j_in : j < length xs = omega (arith, inside, length-map xs f) in
    let i_in : i < length xs = omega (arith, before, j_in) in
    ap (λ a. next a (get_or (map f xs) j d)) (get_or-map f xs i e d i_in)
    ∙ (ap (λ b. next (f (get_or xs i e)) b) (get_or-map f xs j e d j_in)
    ∙ (kept (get_or xs i e) (get_or xs j e) (i, i_in, same_default xs i e i_in) (j, j_in, same_default xs j e j_in) ∙ rise i j e before j_in))
  where
    same_default : (xs : List X) (k : ℕ) (e : X) → k < length xs → get_or xs k (get_or xs k e) ≡ get_or xs k e
    same_default xs k e inside = search (rules, arith, common_steps)

module _ (names : List ℤ) (links : List (LinkOf ℤ)) (numbers : List (LinkOf ℕ))
    (ends : AreEnds links names)
    (numbered : AreNumbered names links numbers)
    (walk_named : (s t : ℕ) (walk : List (LinkOf ℕ)) → AreNumbered names links numbers → IsWalk (Contains numbers) s walk t
    → IsWalk (Contains links) (id_at names s) (map (named names) walk) (id_at names t))
    (walk_numbered : (s t : ℕ) (walk : List (LinkOf ℤ)) → AreNumbered names links numbers → s < length names → t < length names
    → IsWalk (Contains links) (id_at names s) walk (id_at names t) → (w : List (LinkOf ℕ)) × IsNumberedWalk names numbers s t walk w)
    (cost_kept : (walk : List (LinkOf ℕ)) → cost_of (map (named names) walk) ≡ cost_of walk)
    (hops_kept : (walk : List (LinkOf ℕ)) → hops_of (map (named names) walk) ≡ hops_of walk)
    (order_kept : (m n : ℕ) → IsStrictlyRising int_cmp names → m < length names → n < length names → int_cmp (id_at names m) (id_at names n) ≡ nat_cmp m n)
    (one_number : (m n : ℕ) → IsStrictlyRising int_cmp names → m < length names → n < length names → id_at names m ≡ id_at names n → m ≡ n) where
  label_kept : (walk : List (LinkOf ℕ)) → label_of (map (named names) walk) ≡ label_of walk
  label_kept walk = label_same _ _ (cost_kept walk) (hops_kept walk)

  -- a walk ends at a number of a name where it begins at one
  ends_at_name : (s : ℕ) (walk : List (LinkOf ℕ)) (t : ℕ) → s < length names → IsWalk (Contains numbers) s walk t → t < length names
  ends_at_name s [] t below is_walk = subst (λ v. v < length names) is_walk below
  ends_at_name s (link ∷ rest) t below is_walk = ends_at_name link.to rest t (All-contains (IsNumbered names) numbers link numbered.ends is_walk.0).1 is_walk.2

  -- labels by number are labels by id
  label_named : (root v : ℕ) (label : Label) → root < length names → IsLeastLabelFrom (Contains numbers) root v label
      → IsLeastLabelFrom (Contains links) (id_at names root) (id_at names v) label
  label_named root v label below least = record {
    walk = map (named names) least.walk;
    is_walk = walk_named root v least.walk numbered least.is_walk;
    label_is = label_kept least.walk ∙ least.label_is;
    least = λ other is_walk.
        let found = walk_numbered root v other numbered below (ends_at_name root least.walk v below least.is_walk) is_walk in
        subst (AtMost label) (sym (label_kept found.0) ∙ ap label_of found.1.same) (least.least found.0 found.1.is_walk);
  }

  label_numbered : (root v : ℕ) (label : Label) → root < length names → v < length names → IsLeastLabelFrom (Contains links) (id_at names root) (id_at names v) label
      → IsLeastLabelFrom (Contains numbers) root v label
  label_numbered root v label below v_below least =
      let found = walk_numbered root v least.walk numbered below v_below least.is_walk in
      record {
        walk = found.0;
        is_walk = found.1.is_walk;
        label_is = sym (label_kept found.0) ∙ ap label_of found.1.same ∙ least.label_is;
        least = λ other is_walk. subst (AtMost label) (label_kept other) (least.least (map (named names) other) (walk_named root v other numbered is_walk));
      }

  -- a named link is one of the numbered ones
  link_named : (link : LinkOf ℕ) → Contains numbers link → Contains links (named names link)
  link_named link has = subst (λ ls. Contains ls (named names link)) numbered.same (Contains-map (named names) numbers link has)

  link_numbered : (link : LinkOf ℤ) → Contains links link → (number : LinkOf ℕ) × (Contains numbers number × (named names number ≡ link))
  link_numbered link has =
      let found = Contains-from_map (named names) numbers link (subst (λ ls. Contains ls link) (sym numbered.same) has) in
      (found.0, (found.1, sym found.2))

  -- the order of links into a vertex
  entry_kept : (a b : LinkOf ℕ) → IsNumbered names a → IsNumbered names b → entry_cmp int_cmp (named names a) (named names b) ≡ entry_cmp nat_cmp a b
  entry_kept a b in_a in_b = ap (λ o. ordering_then (int_cmp a.edge b.edge) (ordering_then (nat_cmp a.cost b.cost) o)) (order_kept a.from b.from numbered.rise in_a.0 in_b.0)

  module _ (root : ℕ) (below : root < length names) where
    tight_named : (link : LinkOf ℕ) → IsTightFrom (Contains numbers) root link → IsTightFrom (Contains links) (id_at names root) (named names link)
    tight_named link tight = record {
      before = tight.before;
      start = label_named root link.from tight.before below tight.start;
      end = label_named root link.to (beyond tight.before link) below tight.end;
    }

    tight_numbered : (link : LinkOf ℕ) → IsNumbered names link → IsTightFrom (Contains links) (id_at names root) (named names link) → IsTightFrom (Contains numbers) root link
    tight_numbered link is_numbered tight = record {
      before = tight.before;
      start = label_numbered root link.from tight.before below is_numbered.0 tight.start;
      end = label_numbered root link.to (beyond tight.before link) below is_numbered.1 tight.end;
    }

    -- tree links by number are tree links by id
    tree_named : (v : ℕ) (link : LinkOf ℕ) → IsTreeLink nat_cmp (Contains numbers) root v link
        → IsTreeLink int_cmp (Contains links) (id_at names root) (id_at names v) (named names link)
    tree_named v link tree = record {
      has = link_named link tree.has;
      leads = ap (id_at names) tree.leads;
      tight = tight_named link tree.tight;
      least = λ other has leads tight less. among other (link_numbered other has) leads tight less;
    }
      where
        in_link : IsNumbered names link
        in_link = All-contains (IsNumbered names) numbers link numbered.ends tree.has

        among : (other : LinkOf ℤ) → (number : LinkOf ℕ) × (Contains numbers number × (named names number ≡ other)) → other.to ≡ id_at names v
            → IsTightFrom (Contains links) (id_at names root) other → entry_cmp int_cmp other (named names link) ≡ Less → ⊥
        among other (number, (has, is)) leads tight less =
            let in_number : IsNumbered names number = All-contains (IsNumbered names) numbers number numbered.ends has in
            let to_v : number.to ≡ v = one_number number.to v numbered.rise in_number.1 (subst (λ x. x < length names) tree.leads in_link.1) (ap (λ l. l.to) is ∙ leads) in
            let tight' = tight_numbered number in_number (subst (IsTightFrom (Contains links) (id_at names root)) (sym is) tight) in
            tree.least number has to_v tight' (sym (entry_kept number link in_number in_link) ∙ ap (λ l. entry_cmp int_cmp l (named names link)) is ∙ less)

    -- one row
    row_named : (limit : ℕ) (row : ReachedOf ℕ) → IsRowWithin nat_cmp (Contains numbers) root limit row
        → IsRowWithin int_cmp (Contains links) (id_at names root) limit (named_row names row)
    row_named limit row is = record {
      label = label_named root row.node row.label below is.label;
      within = is.within;
      link = ⊎_elim
          (λ at_root. inl (record { node = ap (id_at names) at_root.node; pred = ap (id_at names) at_root.pred; edge = at_root.edge; cost = at_root.cost }))
          (λ in_tree. inr (record {
            node = λ e. in_tree.node (one_number row.node root numbered.rise (ends_at_name root is.label.walk row.node below is.label.is_walk) below e);
            link = named names in_tree.link;
            tree = tree_named row.node in_tree.link in_tree.tree;
            pred = ap (id_at names) in_tree.pred;
            edge = in_tree.edge;
            cost = in_tree.cost;
          }))
          is.link;
    }

    -- all rows
    pub within_by_ids : (limit : ℕ) (rows : List (ReachedOf ℕ)) → AreWithin nat_cmp (Contains numbers) root limit rows
        → AreWithin int_cmp (Contains links) (id_at names root) limit (map (named_row names) rows)
    within_by_ids limit rows are = record {
      each = All-map (IsRowWithin int_cmp (Contains links) (id_at names root) limit) (named_row names) rows (All-follows _ _ rows (row_named limit) are.each);
      every = λ v label least within.
          let number = name_of v least in
          let least' : IsLeastLabelFrom (Contains links) (id_at names root) (id_at names number.0) label =
          subst (λ x. IsLeastLabelFrom (Contains links) (id_at names root) x label) (sym number.1.1) least in
          Any-map (λ row. row.node ≡ v) (named_row names) rows
          (Any-follows _ _ rows (λ row is. ap (id_at names) is ∙ number.1.1) (are.every number.0 label (label_numbered root number.0 label below number.1.0 least') within));
      rise = mapped_rise (row_cmp nat_cmp) (row_cmp int_cmp) (named_row names) no_row rows kept are.rise;
    }
      where
        no_row : ReachedOf ℕ
        no_row = record { node = 0; label = record { cost = 0; hops = 0 }; pred = 0; edge = pos 0; cost = 0 }

        row_below : (row : ReachedOf ℕ) → Contains rows row → row.node < length names
        row_below row has = let is : IsRowWithin nat_cmp (Contains numbers) root limit row =
            All-contains (IsRowWithin nat_cmp (Contains numbers) root limit) rows row are.each has in
            ends_at_name root is.label.walk row.node below is.label.is_walk

        kept : (a b : ReachedOf ℕ) → Contains rows a → Contains rows b → row_cmp int_cmp (named_row names a) (named_row names b) ≡ row_cmp nat_cmp a b
        kept a b in_a in_b = ap (ordering_then (nat_cmp a.label.cost b.label.cost)) (order_kept a.node b.node numbered.rise (row_below a in_a) (row_below b in_b))

        at_place : (v : ℤ) → Contains names v → (number : ℕ) × ((number < length names) × (id_at names number ≡ v))
        at_place v (k, inside, is) = (k, (inside, search (rules, arith, common_steps)))

        end_of : (s : ℤ) (walk : List (LinkOf ℤ)) (v : ℤ) → Contains names s → IsWalk (Contains links) s walk v → Contains names v
        end_of s [] v has is_walk = subst (Contains names) is_walk has
        end_of s (link ∷ rest) v has is_walk = end_of link.to rest v ((ends.ends link.to).1 (link, is_walk.0, inr refl)) is_walk.2

        name_of : (v : ℤ) → {label : Label} → IsLeastLabelFrom (Contains links) (id_at names root) v label → (number : ℕ) × ((number < length names) × (id_at names number ≡ v))
        name_of v least = at_place v (end_of (id_at names root) least.walk v (root, below, search (rules, arith, common_steps)) least.is_walk)

    -- the vertices of all rows are numbers of names
    pub rows_below : (limit : ℕ) (rows : List (ReachedOf ℕ)) → AreWithin nat_cmp (Contains numbers) root limit rows → (row : ReachedOf ℕ) → Contains rows row
        → IsRowBelow (length names) row
    rows_below limit rows are row has =
        let is : IsRowWithin nat_cmp (Contains numbers) root limit row = All-contains (IsRowWithin nat_cmp (Contains numbers) root limit) rows row are.each has in (
          ends_at_name root is.label.walk row.node below is.label.is_walk,
          ⊎_elim
              (λ at_root. subst (λ n. n < length names) (sym at_root.pred) below)
              (λ in_tree. subst (λ n. n < length names) (sym in_tree.pred) (All-contains (IsNumbered names) numbers in_tree.link numbered.ends in_tree.tree.has).0)
              is.link,
        )
