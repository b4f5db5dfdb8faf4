-- The longest front after an edge, found by going from a front to shorter ones.
use Rattle.std.proofs.Common.{◌≡◌, ◌≢◌, ◌⊎◌, inl, inr, ℕ, ℤ, zero, suc, ◌+◌, ◌<◌, ◌≤◌, Bool, true, false, ◌||◌, eqb, List, [], ◌∷◌, ◌++◌, Option, Some, None, length, take, set, get_or, refl, sym, ap, ◌∙◌, subst, arith, ⊎_elim}
use Rattle.std.specs.Prelude.{reverse, Contains}
use Rattle.std.specs.List.{All, list_any}
use Rattle.std.proofs.lemmas.Bool.{cases_lt, cases_eq, eqb-true, eq-eqb, or_left, or_right}
use Rattle.std.proofs.lemmas.List.Elements.{All-push, Contains-push, Contains-append_left, Contains-get_or}
use Rattle.std.proofs.lemmas.List.{length-reverse, length-take-le, get_or_default, get_or-set_same, get_or-set_other, nil_from_length}
use Rattle.pgr_turns.specs.declared.trie.Node.{Node}
use Rattle.pgr_turns.specs.declared.trie.Back.{Back}
use Rattle.pgr_turns.specs.Fronts.{Begins, IsFront, Completes, IsLongest}
use Rattle.pgr_turns.specs.Trie.{node_at, list_at, word, IsTrie, IsComplete, IsShorter, IsBack, IsMarking, AreMarks, AreLasts, AreOrdered, AreBacksUpTo, AreBacksBefore, back_at}
use Rattle.pgr_turns.proofs.FrontLemmas.{Begins-self, Begins-trans, Begins-length, Begins-whole, Begins-first, Begins-later, Begins-more, front_before, front_whole, completes_edges}
use Rattle.pgr_turns.proofs.TrieSteps.{word_root}

-- each front that an edge after the start ends is one that it ends after the front that was come to
pub record Follows (rs : List (List ℤ)) (e : ℤ) (start at : List ℤ) : Type 0 where
  pub begins : Begins at start
  pub all : (ids : List ℤ) → IsFront rs (e ∷ ids) → Begins ids start → Begins ids at

pub follows_self : (rs : List (List ℤ)) (e : ℤ) (start : List ℤ) → Follows rs e start start
follows_self rs e start = record { begins = Begins-self start; all = λ ids f b. b }

pub follows_more : (rs : List (List ℤ)) (e : ℤ) (start at shorter : List ℤ) → Follows rs e start at → (IsFront rs (e ∷ at) → ⊥) → IsShorter rs at shorter
    → Follows rs e start shorter
follows_more rs e start at shorter follows none is = record {
  begins = Begins-trans shorter at start is.begins follows.begins;
  all = λ ids f b. by ids f (follows.all ids f b) (cases_lt (length ids) (length at));
}
  where
    by : (ids : List ℤ) → IsFront rs (e ∷ ids) → Begins ids at → (length ids < length at) ⊎ (length at ≤ length ids) → Begins ids shorter
    by ids f b (inl less) = is.longest ids (front_before rs e ids f) b less
    by ids f b (inr more) = absurd (none (subst (λ (xs : List ℤ). IsFront rs (e ∷ xs)) (Begins-whole ids at b more) f))

pub follows_found : (rs : List (List ℤ)) (e : ℤ) (start at : List ℤ) → Follows rs e start at → IsLongest rs (e ∷ start) (e ∷ at)
follows_found rs e start at follows = record { begins = Begins-more e e at start refl follows.begins; longest = λ other f b. by other f b }
  where
    by : (other : List ℤ) → IsFront rs other → Begins other (e ∷ start) → Begins other (e ∷ at)
    by [] f b = refl
    by (x ∷ xs) f b =
        let first = Begins-first x e xs start b in
        Begins-more x e xs at first (follows.all xs (subst (λ y. IsFront rs (y ∷ xs)) first f) (Begins-later x e xs start b))

pub follows_none : (rs : List (List ℤ)) (e : ℤ) (start at : List ℤ) → at ≡ [] → Follows rs e start at → (IsFront rs (e ∷ at) → ⊥) → IsLongest rs (e ∷ start) []
follows_none rs e start at empty follows none = record { begins = refl; longest = λ other f b. by other f b }
  where
    nothing : (xs : List ℤ) → Begins xs [] → xs ≡ []
    nothing [] b = refl
    nothing (x ∷ xs) b = cc

    by : (other : List ℤ) → IsFront rs other → Begins other (e ∷ start) → Begins other []
    by [] f b = refl
    by (x ∷ xs) f b =
        let first = Begins-first x e xs start b in
        let f' = subst (λ y. IsFront rs (y ∷ xs)) first f in
        let within = subst (λ (ys : List ℤ). Begins xs ys) empty (follows.all xs f' (Begins-later x e xs start b)) in
        absurd (none (subst (λ (ys : List ℤ). IsFront rs (e ∷ ys)) (nothing xs within ∙ sym empty) f'))

-- the longest front after an edge, from the front shorter than a front, is the longest that is shorter than the front with the edge
pub shorter_more : (rs : List (List ℤ)) (e : ℤ) (w s z : List ℤ) → IsShorter rs w s → IsLongest rs (e ∷ s) z → IsShorter rs (e ∷ w) z
shorter_more rs e w s z is after = record {
  begins = Begins-trans z (e ∷ s) (e ∷ w) after.begins (Begins-more e e s w refl is.begins);
  less = omega (arith, Begins-length z (e ∷ s) after.begins, is.less);
  longest = λ front f b less. by front f b less;
}
  where
    by : (front : List ℤ) → IsFront rs front → Begins front (e ∷ w) → length front < length (e ∷ w) → Begins front z
    by [] f b less = refl
    by (x ∷ xs) f b less =
        let rest = is.longest xs (front_before rs x xs f) (Begins-later x e xs w b) (omega arith) in
        after.longest (x ∷ xs) f (Begins-more x e xs s (Begins-first x e xs w b) rest)

-- of one id the front without ids is
pub shorter_one : (rs : List (List ℤ)) (e : ℤ) (w s : List ℤ) → w ≡ [] → s ≡ [] → IsShorter rs (e ∷ w) s
shorter_one rs e w s no_w no_s = subst (λ (xs : List ℤ). IsShorter rs (e ∷ w) xs) (sym no_s) (record {
  begins = refl;
  less = omega arith;
  longest = λ front f b less. by front (omega (arith, ap length no_w));
})
  where
    by : (front : List ℤ) → length front ≤ 0 → Begins front []
    by [] h = refl
    by (x ∷ xs) h = absurd (omega arith)

-- the length of a node's front
pub word_length : (lists : List (List ℤ)) (nodes : List Node) (child : ℕ → ℤ → Option ℕ) → IsTrie lists nodes child → (x : ℕ) → x < length nodes
    → length (word lists nodes x) ≡ (node_at nodes x).len
word_length lists nodes child trie zero h = ap length (word_root lists nodes child trie) ∙ sym trie.root
word_length lists nodes child trie (suc x) h =
    let node = node_at nodes (suc x) in
    length-reverse (take node.len (list_at lists node.list)) ∙ length-take-le node.len (list_at lists node.list) (trie.fronts (suc x) h (λ e. absurd (omega arith))).1

-- what is kept of the first node
pub root_back : (lists : List (List ℤ)) (nodes : List Node) (x : ℕ) → x ≡ 0 → word lists nodes x ≡ [] → IsBack lists nodes x (record { shorter = 0; forbids = false })
root_back lists nodes x first empty = record {
  shorter = λ some. absurd (some first);
  done = λ done. absurd (done.some (back_empty done.ids (nothing (reverse done.ids) (subst (λ (ys : List ℤ). Begins (reverse done.ids) ys) empty done.begins))));
  only = λ e not. cc;
}
  where
    nothing : (xs : List ℤ) → Begins xs [] → length xs ≡ 0
    nothing [] b = refl
    nothing (x ∷ xs) b = cc

    back_empty : (xs : List ℤ) → length (reverse xs) ≡ 0 → xs ≡ []
    back_empty xs h = nil_from_length xs (sym (length-reverse xs) ∙ h)

-- what is kept of another, from its mark and from what is kept of the shorter one
pub more_back : (lists : List (List ℤ)) (nodes : List Node) (child : ℕ → ℤ → Option ℕ) (marks : List Bool) (x shorter : ℕ) (back : Back) → IsTrie lists nodes child
    → IsMarking lists nodes marks
    → x < length nodes → x ≢ 0 → shorter < length nodes → IsShorter lists (word lists nodes x) (word lists nodes shorter) → IsBack lists nodes shorter back
    → IsBack lists nodes x (record { shorter = shorter; forbids = get_or marks x false || back.forbids })
more_back lists nodes child marks x shorter back trie marking below some inside is shorter_back = record {
  shorter = λ _. (inside, is);
  done = λ done. done_by done (cases_lt (length (reverse done.ids)) (length (word lists nodes x)));
  only = λ h not. only_by (get_or marks x false) back.forbids refl refl h not;
}
  where
    done_by : (done : Completes lists (word lists nodes x)) → (length (reverse done.ids) < length (word lists nodes x)) ⊎ (length (word lists nodes x) ≤ length (reverse done.ids))
        → (get_or marks x false || back.forbids) ≡ true
    done_by done (inl less) = or_right (get_or marks x false) back.forbids (shorter_back.done (record {
      ids = done.ids;
      among = done.among;
      some = done.some;
      begins = is.longest (reverse done.ids) (front_whole lists done.ids done.among) done.begins less;
    }))
    done_by done (inr more) = or_left (get_or marks x false) back.forbids
        (marking.whole x done.ids below done.among (sym (Begins-whole (reverse done.ids) (word lists nodes x) done.begins more)))

    not_empty : (w : List ℤ) → length w ≢ 0 → (of : List ℤ) → w ≡ reverse of → of ≢ []
    not_empty w long of e none = long (ap length e ∙ ap (λ (ys : List ℤ). length (reverse ys)) none)

    long : length (word lists nodes x) ≢ 0
    long h = absurd (omega (arith, is.less))

    only_by : (a b : Bool) → get_or marks x false ≡ a → back.forbids ≡ b → (get_or marks x false || back.forbids) ≡ true → (Completes lists (word lists nodes x) → ⊥) → ⊥
    only_by true b ha hb h not =
        let whole = marking.only x below ha in
        not (record {
          ids = whole.0;
          among = whole.1.0;
          some = not_empty (word lists nodes x) long whole.0 whole.1.1;
          begins = subst (λ (ys : List ℤ). Begins (reverse whole.0) ys) (sym whole.1.1) (Begins-self (reverse whole.0));
        })
    only_by false true ha hb h not = shorter_back.only hb (λ done. not (completes_edges lists (word lists nodes x) (word lists nodes shorter) is.begins done))
    only_by false false ha hb h not = absurd (no (sym (ap (λ a. a || back.forbids) ha ∙ hb) ∙ h))
      where
        no : false ≡ true → ⊥
        no e = cc

module _ (lists : List (List ℤ)) (nodes : List Node) (child : ℕ → ℤ → Option ℕ) (trie : IsTrie lists nodes child) (complete : IsComplete lists nodes child) (e : ℤ) (at : ℕ) where
  -- a child of the front that was come to is the longest front
  pub after_found : (here next : ℕ) → Follows lists e (word lists nodes at) (word lists nodes here) → child here e ≡ Some next
      → (next < length nodes) × IsLongest lists (e ∷ word lists nodes at) (word lists nodes next)
  after_found here next follows is =
      let c = trie.children here next e is in
      (c.1, subst (λ (w : List ℤ). IsLongest lists (e ∷ word lists nodes at) w) (sym c.2) (follows_found lists e (word lists nodes at) (word lists nodes here) follows))

  -- without a child of the first front it is the first front
  pub after_none : (here : ℕ) → here ≡ 0 → Follows lists e (word lists nodes at) (word lists nodes here) → child here e ≡ None
      → IsLongest lists (e ∷ word lists nodes at) (word lists nodes 0)
  after_none here first follows none =
      let empty : word lists nodes 0 ≡ [] = word_root lists nodes child trie in
      let follows' = subst (λ x. Follows lists e (word lists nodes at) (word lists nodes x)) first follows in
      let none' = subst (λ x. child x e ≡ None) first none in
      subst (λ (w : List ℤ). IsLongest lists (e ∷ word lists nodes at) w) (sym empty)
      (follows_none lists e (word lists nodes at) (word lists nodes 0) empty follows' (λ f. complete 0 e trie.some f none'))

  -- without a child of another front it goes on at the shorter one
  pub after_more : (here : ℕ) (back : Back) → here < length nodes → here ≢ 0 → Follows lists e (word lists nodes at) (word lists nodes here) → child here e ≡ None
      → IsBack lists nodes here back
      → (back.shorter < length nodes) × Follows lists e (word lists nodes at) (word lists nodes back.shorter) × ((node_at nodes back.shorter).len < (node_at nodes here).len)
  after_more here back below some follows none is =
      let shorter = is.shorter some in
      let less : length (word lists nodes back.shorter) < length (word lists nodes here) = shorter.1.less in (
        shorter.0,
        follows_more lists e (word lists nodes at) (word lists nodes here) (word lists nodes back.shorter) follows (λ f. complete here e below f none) shorter.1,
        omega (arith, less, word_length lists nodes child trie back.shorter shorter.0, word_length lists nodes child trie here below),
      )

-- the shorter front has less ids
pub shorter_less : (lists : List (List ℤ)) (nodes : List Node) (child : ℕ → ℤ → Option ℕ) → IsTrie lists nodes child → (x shorter : ℕ) → x < length nodes → shorter < length nodes
    → IsShorter lists (word lists nodes x) (word lists nodes shorter) → (node_at nodes shorter).len < (node_at nodes x).len
shorter_less lists nodes child trie x shorter below inside is =
    let less : length (word lists nodes shorter) < length (word lists nodes x) = is.less in
    omega (arith, less, word_length lists nodes child trie shorter inside, word_length lists nodes child trie x below)

-- a node but the first is its parent's front with one id more
pub parent_is : (lists : List (List ℤ)) (nodes : List Node) (child : ℕ → ℤ → Option ℕ) → IsTrie lists nodes child → (x : ℕ) → x < length nodes → x ≢ 0
    → ((node_at nodes x).parent < length nodes) × (word lists nodes x ≡ (node_at nodes x).edge ∷ word lists nodes (node_at nodes x).parent)
    × ((node_at nodes (node_at nodes x).parent).len < (node_at nodes x).len)
parent_is lists nodes child trie x below some =
    let c = trie.children (node_at nodes x).parent x (node_at nodes x).edge (trie.parents x below some) in
    (c.0, c.2, omega (arith, ap length c.2, word_length lists nodes child trie x below, word_length lists nodes child trie (node_at nodes x).parent c.0))

-- what is kept of nodes up to one is so up to one whose front is shorter
pub up_to_less : (lists : List (List ℤ)) (nodes : List Node) (backs : List Back) (x y : ℕ) → (node_at nodes y).len < (node_at nodes x).len → AreBacksUpTo lists nodes x backs
    → AreBacksUpTo lists nodes y backs
up_to_less lists nodes backs x y less h z below at_most = h z below (omega arith)

-- one node more in the order
pub order_all : (nodes : List Node) (order : List (ℕ × ℕ)) (x : ℕ) → x < length nodes → All (λ entry. (entry.1 < length nodes) × (entry.0 ≡ (node_at nodes entry.1).len)) order
    → All (λ entry. (entry.1 < length nodes) × (entry.0 ≡ (node_at nodes entry.1).len)) (order ++ ((node_at nodes x).len, x) ∷ [])
order_all nodes order x below h = All-push (λ entry. (entry.1 < length nodes) × (entry.0 ≡ (node_at nodes entry.1).len)) order ((node_at nodes x).len, x) h (below, refl)

pub order_each : (nodes : List Node) (order : List (ℕ × ℕ)) (x : ℕ) → ((y : ℕ) → y < x → Contains order ((node_at nodes y).len, y))
    → (y : ℕ) → y < x + 1 → Contains (order ++ ((node_at nodes x).len, x) ∷ []) ((node_at nodes y).len, y)
order_each nodes order x h y inside = by (cases_lt y x)
  where
    by : (y < x) ⊎ (x ≤ y) → Contains (order ++ ((node_at nodes x).len, x) ∷ []) ((node_at nodes y).len, y)
    by (inl before) = Contains-append_left order (((node_at nodes x).len, x) ∷ []) ((node_at nodes y).len, y) (h y before)
    by (inr after) =
        let same : x ≡ y = omega arith in
        subst (λ z. Contains (order ++ ((node_at nodes x).len, x) ∷ []) ((node_at nodes z).len, z)) same (Contains-push order ((node_at nodes x).len, x))

-- a node whose front is shorter stands before another
pub stands_before : (nodes : List Node) (order : List (ℕ × ℕ)) → AreOrdered nodes order → (j : ℕ) (d : ℕ × ℕ) → j < length order → (y : ℕ) → y < length nodes
    → (node_at nodes y).len < (node_at nodes (get_or order j d).1).len → (k : ℕ) × ((k < j) × ((get_or order k d).1 ≡ y))
stands_before nodes order are j d inside y below less = by (are.each y below)
  where
    by : Contains order ((node_at nodes y).len, y) → (k : ℕ) × ((k < j) × ((get_or order k d).1 ≡ y))
    by (k, k_inside, is) =
        let at : get_or order k d ≡ ((node_at nodes y).len, y) = get_or_default order k d ((node_at nodes y).len, y) k_inside ∙ is in
        (k, (⊎_elim (λ before. before) (λ after. absurd (later k k_inside at after)) (cases_lt k j), ap (λ (p : ℕ × ℕ). p.1) at))
      where
        later : (k : ℕ) → k < length order → get_or order k d ≡ ((node_at nodes y).len, y) → j ≤ k → ⊥
        later k k_inside at after =
            let lens : (get_or order j d).0 ≤ (get_or order k d).0 = are.in_order j k d after k_inside in
            let len_j = (are.nodes_are j d inside).1 in
            let len_k : (get_or order k d).0 ≡ (node_at nodes y).len = ap (λ (p : ℕ × ℕ). p.0) at in
            omega (arith, lens, len_j, len_k, less)

-- a number that stands in a list is found there
any_at : (xs : List ℕ) (i x : ℕ) → i < length xs → get_or xs i 0 ≡ x → list_any (λ last. eqb last x) xs ≡ true
any_at [] i x h e = absurd (omega arith)
any_at (y ∷ ys) zero x h e = ap (λ b. b || list_any (λ last. eqb last x) ys) (eq-eqb y x e)
any_at (y ∷ ys) (suc i) x h e = or_right (eqb y x) (list_any (λ last. eqb last x) ys) (any_at ys i x (omega arith) e)

-- and one that is found there stands in it
at_any_more : (b : Bool) (y x : ℕ) (ys : List ℕ) → eqb y x ≡ b → (b || list_any (λ last. eqb last x) ys) ≡ true
    → (list_any (λ last. eqb last x) ys ≡ true → (i : ℕ) × ((i < length ys) × (get_or ys i 0 ≡ x))) → (i : ℕ) × ((i < length (y ∷ ys)) × (get_or (y ∷ ys) i 0 ≡ x))
at_any_more true y x ys e h rest = (0, (omega arith, eqb-true y x e))
at_any_more false y x ys e h rest = let r = rest h in (suc r.0, (omega (arith, r.1.0), r.1.1))

at_any : (xs : List ℕ) (x : ℕ) → list_any (λ last. eqb last x) xs ≡ true → (i : ℕ) × ((i < length xs) × (get_or xs i 0 ≡ x))
at_any [] x h = cc
at_any (y ∷ ys) x h = at_any_more (eqb y x) y x ys refl h (at_any ys x)

-- the marks of the whole restrictions
pub marking_from : (lists : List (List ℤ)) (nodes : List Node) (child : ℕ → ℤ → Option ℕ) (lasts : List ℕ) (marks : List Bool) → IsTrie lists nodes child
    → length marks ≡ length nodes
    → AreLasts lists nodes (length lists) lasts → AreMarks lasts marks → IsMarking lists nodes marks
marking_from lists nodes child lasts marks trie size lasts_are marks_are = record {
  size_is = size;
  whole = λ x of below among same.
      let i = among.0 in
      let last = get_or lasts i 0 in
      let of_is : list_at lists i ≡ of = get_or_default lists i [] of among.1 ∙ among.2 in
      let words : word lists nodes last ≡ word lists nodes x = lasts_are.words i among.1 ∙ ap reverse of_is ∙ sym same in
      let is : last ≡ x = trie.one last x (lasts_are.below i among.1) below words in
      marks_are x ∙ any_at lasts i x (omega (arith, among.1, lasts_are.size_is)) is;
  only = λ x below marked.
      let at = at_any lasts x (sym (marks_are x) ∙ marked) in
      let inside : at.0 < length lists = omega (arith, at.1.0, lasts_are.size_is) in
      (list_at lists at.0, (Contains-get_or lists at.0 [] inside, ap (word lists nodes) (sym at.1.1) ∙ lasts_are.words at.0 inside));
}

module _ (lists : List (List ℤ)) (nodes : List Node) (order : List (ℕ × ℕ)) (ordered : AreOrdered nodes order) where
  -- what is kept of one node more
  pub backs_more : (backs : List Back) (j x : ℕ) (back : Back) → ((d : ℕ × ℕ) → (get_or order j d).1 ≡ x) → x < length backs → IsBack lists nodes x back
      → ((k : ℕ) (d : ℕ × ℕ) → k < j → IsBack lists nodes (get_or order k d).1 (back_at backs (get_or order k d).1))
      → (k : ℕ) (d : ℕ × ℕ) → k < j + 1 → IsBack lists nodes (get_or order k d).1 (back_at (set backs x back) (get_or order k d).1)
  backs_more backs j x back at below is h k d inside = by (cases_eq (get_or order k d).1 x)
    where
      by : ((get_or order k d).1 ≡ x) ⊎ ((get_or order k d).1 ≢ x) → IsBack lists nodes (get_or order k d).1 (back_at (set backs x back) (get_or order k d).1)
      by (inl same) =
          subst (λ y. IsBack lists nodes y (back_at (set backs x back) y)) (sym same)
          (subst (λ b. IsBack lists nodes x b) (sym (get_or-set_same backs x back (record { shorter = 0; forbids = false }) below)) is)
      by (inr other) =
          let before : k < j = ⊎_elim (λ less. less) (λ more. let same : k ≡ j = omega arith in absurd (other (ap (λ i. (get_or order i d).1) same ∙ at d))) (cases_lt k j) in
          subst (λ b. IsBack lists nodes (get_or order k d).1 b) (sym (get_or-set_other backs x (get_or order k d).1 back (record { shorter = 0; forbids = false }) other))
          (h k d before)

  -- what is kept of the nodes whose fronts are shorter stands before
  pub backs_before : (backs : List Back) (j x : ℕ) → ((d : ℕ × ℕ) → (get_or order j d).1 ≡ x) → j < length order
      → ((k : ℕ) (d : ℕ × ℕ) → k < j → IsBack lists nodes (get_or order k d).1 (back_at backs (get_or order k d).1)) → AreBacksBefore lists nodes x backs
  backs_before backs j x at inside h y below less =
      let found = stands_before nodes order ordered j (0, 0) inside y below (subst (λ z. (node_at nodes y).len < (node_at nodes z).len) (sym (at (0, 0))) less) in
      subst (λ z. IsBack lists nodes z (back_at backs z)) found.1.1 (h found.0 (0, 0) found.1.0)

  -- and at last of all nodes
  pub backs_all : (backs : List Back) → ((k : ℕ) (d : ℕ × ℕ) → k < length order → IsBack lists nodes (get_or order k d).1 (back_at backs (get_or order k d).1))
      → (x : ℕ) → x < length nodes → IsBack lists nodes x (back_at backs x)
  backs_all backs h x below =
      let there = ordered.each x below in
      subst (λ z. IsBack lists nodes z (back_at backs z)) (ap (λ (p : ℕ × ℕ). p.1) there.2) (h there.0 ((node_at nodes x).len, x) there.1)
