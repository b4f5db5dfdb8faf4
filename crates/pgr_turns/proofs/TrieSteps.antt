-- One node more, and nodes that stay.
use Rattle.std.proofs.Common.{◌≡◌, ◌≢◌, ◌⊎◌, inl, inr, ℕ, ℤ, pos, zero, suc, ◌+◌, ◌^◌, ◌<◌, ◌≤◌, Bool, true, false, List, [], ◌∷◌, ◌++◌, Option, Some, None, length, take, get_or, refl, sym, ap, ◌∙◌, subst, arith, Ordering, Less, Equal, Greater}
use Rattle.std.specs.Prelude.{reverse}
use Rattle.std.specs.Ordering.{nat_cmp, int_cmp, is_eq}
use Rattle.std.proofs.lemmas.Bool.{cases_lt}
use Rattle.std.proofs.lemmas.List.{take_more, take_at, reverse-append, reverse-reverse, length-reverse, length-append, get_or_append_left, get_or_push, length_push, get_or_default}
use Rattle.std.proofs.lemmas.Option.{same_Some}
use Rattle.pgr_walks.specs.LinkOrders.{int_tie, nat_tie, then_tie}
use Rattle.pgr_turns.specs.declared.trie.Node.{Node}
use Rattle.pgr_turns.specs.Fronts.{IsFront}
use Rattle.pgr_turns.specs.Trie.{key_cmp, node_at, list_at, front_of, word, IsTrie, IsComplete, HasWord, HasFronts, AreLasts, Keeps}

-- a front with one id more
pub front_more : (l : List ℤ) (k : ℕ) (d : ℤ) → k < length l → reverse (take (k + 1) l) ≡ get_or l k d ∷ reverse (take k l)
front_more l k d h = ap reverse (take_more l k d h) ∙ reverse-append (take k l) (get_or l k d ∷ [])

-- keys that compare as equal are the same
same_key : (a b : ℕ) (e f : ℤ) → is_eq (key_cmp (a, e) (b, f)) ≡ true → (a ≡ b) × (e ≡ f)
same_key a b e f h =
    let tied = then_tie (nat_cmp a b) (int_cmp e f) (at (key_cmp (a, e) (b, f)) h) in
    (nat_tie _ _ tied.0, int_tie _ _ tied.1)
  where
    at : (o : Ordering) → is_eq o ≡ true → o ≡ Equal
    at Less h = cc
    at Equal h = refl
    at Greater h = cc

none_some : {X : Type 0} (o : Option X) (x : X) → o ≡ None → o ≡ Some x → ⊥
none_some o x e f = let g = sym e ∙ f in absurd (no g)
  where
    no : None ≡ Some x → ⊥
    no g = cc

pub keeps_refl : (nodes : List Node) → Keeps nodes nodes
keeps_refl nodes = record { longer = omega arith; same = λ x h. refl }

pub keeps_trans : (a b c : List Node) → Keeps a b → Keeps b c → Keeps a c
keeps_trans a b c p q = record { longer = omega (arith, p.longer, q.longer); same = λ x h. q.same x (omega (arith, p.longer)) ∙ p.same x h }

pub keeps_push : (nodes : List Node) (node : Node) → Keeps nodes (nodes ++ node ∷ [])
keeps_push nodes node = record {
  longer = omega (arith, length_push nodes node);
  same = λ x h. get_or_append_left nodes (node ∷ []) (record { list = 0; len = 0; parent = 0; edge = pos 0 }) x h;
}

-- what is kept has its front
pub word_kept : (lists : List (List ℤ)) (old new : List Node) → Keeps old new → (x : ℕ) → x < length old → word lists new x ≡ word lists old x
word_kept lists old new keeps x h = ap (λ (node : Node). front_of lists node.list node.len) (keeps.same x h)

pub has_kept : (lists : List (List ℤ)) (old new : List Node) (ids : List ℤ) → Keeps old new → HasWord lists old ids → HasWord lists new ids
has_kept lists old new ids keeps has = (has.0, omega (arith, has.1, keeps.longer), word_kept lists old new keeps has.0 has.1 ∙ has.2)

pub lasts_kept : (lists : List (List ℤ)) (old new : List Node) (count : ℕ) (lasts : List ℕ) → Keeps old new → AreLasts lists old count lasts → AreLasts lists new count lasts
lasts_kept lists old new count lasts keeps h = record {
  size_is = h.size_is;
  below = λ i inside. omega (arith, h.below i inside, keeps.longer);
  words = λ i inside. word_kept lists old new keeps (get_or lasts i 0) (h.below i inside) ∙ h.words i inside;
}

pub lasts_more : (lists : List (List ℤ)) (nodes : List Node) (count : ℕ) (lasts : List ℕ) (last : ℕ) → AreLasts lists nodes count lasts → last < length nodes
    → word lists nodes last ≡ reverse (list_at lists count) → AreLasts lists nodes (count + 1) (lasts ++ last ∷ [])
lasts_more lists nodes count lasts last h below is = record {
  size_is = length_push lasts last ∙ ap (λ n. n + 1) h.size_is;
  below = λ i inside. at_below i (cases_lt i count) inside;
  words = λ i inside. at_word i (cases_lt i count) inside;
}
  where
    at_below : (i : ℕ) → (i < count) ⊎ (count ≤ i) → i < count + 1 → get_or (lasts ++ last ∷ []) i 0 < length nodes
    at_below i (inl before) inside = subst (λ n. n < length nodes) (sym (get_or_append_left lasts (last ∷ []) 0 i (omega (arith, h.size_is)))) (h.below i before)
    at_below i (inr after) inside = subst (λ n. n < length nodes) (sym (get_or_push lasts last 0 i (omega (arith, h.size_is)))) below

    at_word : (i : ℕ) → (i < count) ⊎ (count ≤ i) → i < count + 1 → word lists nodes (get_or (lasts ++ last ∷ []) i 0) ≡ reverse (list_at lists i)
    at_word i (inl before) inside = ap (word lists nodes) (get_or_append_left lasts (last ∷ []) 0 i (omega (arith, h.size_is))) ∙ h.words i before
    at_word i (inr after) inside =
        let same : count ≡ i = omega arith in
        ap (word lists nodes) (get_or_push lasts last 0 i (omega (arith, h.size_is))) ∙ is ∙ ap (λ n. reverse (list_at lists n)) same

-- the first node has no id
pub word_root : (lists : List (List ℤ)) (nodes : List Node) (child : ℕ → ℤ → Option ℕ) → IsTrie lists nodes child → word lists nodes 0 ≡ []
word_root lists nodes child trie = ap (λ len. front_of lists (node_at nodes 0).list len) trie.root

module _ (lists : List (List ℤ)) (nodes : List Node) (child more : ℕ → ℤ → Option ℕ) (list len at : ℕ) (edge : ℤ) (trie : IsTrie lists nodes child)
    (room : length nodes + 1 < 2 ^ 32)
    (inside : list < length lists) (short : len < length (list_at lists list)) (below : at < length nodes) (is : word lists nodes at ≡ front_of lists list len)
    (edge_is : edge ≡ get_or (list_at lists list) len (pos 0)) (none : child at edge ≡ None) (hit : more at edge ≡ Some (length nodes))
    (others : (a : ℕ) (e : ℤ) → is_eq (key_cmp (at, edge) (a, e)) ≡ false → more a e ≡ child a e) where
  new_node : Node
  new_node = record { list = list; len = len + 1; parent = at; edge = edge }

  grown : List Node
  unfolding new_node
  grown = nodes ++ new_node ∷ []

  size_grown : length grown ≡ length nodes + 1
  unfolding grown
  size_grown = length_push nodes new_node

  at_last : node_at grown (length nodes) ≡ record { list = list; len = len + 1; parent = at; edge = edge }
  unfolding grown new_node
  at_last = get_or_push nodes new_node (record { list = 0; len = 0; parent = 0; edge = pos 0 }) (length nodes) refl

  keeps_grown : Keeps nodes grown
  unfolding grown
  keeps_grown = keeps_push nodes new_node

  word_last : word lists grown (length nodes) ≡ edge ∷ word lists nodes at
  word_last =
      ap (λ (node : Node). front_of lists node.list node.len) at_last ∙ front_more (list_at lists list) len (pos 0) short
      ∙ ap (λ e. e ∷ front_of lists list len) (sym edge_is) ∙ ap (λ w. edge ∷ w) (sym is)

  -- the new front isn't that of a node
  new_word : (x : ℕ) → x < length nodes → word lists nodes x ≡ edge ∷ word lists nodes at → ⊥
  new_word zero h e = let g = sym (word_root lists nodes child trie) ∙ e in absurd (no g)
    where
      no : [] ≡ edge ∷ word lists nodes at → ⊥
      no g = cc
  new_word (suc x) h e =
      let p = trie.parents (suc x) h (λ z. absurd (omega arith)) in
      let c = trie.children (node_at nodes (suc x)).parent (suc x) (node_at nodes (suc x)).edge p in
      let same : (node_at nodes (suc x)).edge ∷ word lists nodes (node_at nodes (suc x)).parent ≡ edge ∷ word lists nodes at = sym c.2 ∙ e in
      let edges : (node_at nodes (suc x)).edge ≡ edge = cc in
      let words : word lists nodes (node_at nodes (suc x)).parent ≡ word lists nodes at = cc in
      let ats = trie.one (node_at nodes (suc x)).parent at c.0 below words in
      none_some (child at edge) (suc x) none (subst (λ a. child a edge ≡ Some (suc x)) ats (subst (λ f. child (node_at nodes (suc x)).parent f ≡ Some (suc x)) edges p))

  kept_child : (a x : ℕ) (e : ℤ) → child a e ≡ Some x → more a e ≡ Some x
  kept_child a x e h = by (is_eq (key_cmp (at, edge) (a, e))) refl
    where
      by : (b : Bool) → is_eq (key_cmp (at, edge) (a, e)) ≡ b → more a e ≡ Some x
      by true q =
          let same = same_key at a edge e q in
          absurd (none_some (child a e) x (subst (λ f. child a f ≡ None) same.1 (subst (λ b. child b edge ≡ None) same.0 none)) h)
      by false q = others a e q ∙ h

  grown_is : IsTrie lists grown more
  grown_is = record {
    some = omega (arith, size_grown);
    small = omega (arith, size_grown);
    root = ap (λ (node : Node). node.len) (keeps_grown.same 0 trie.some) ∙ trie.root;
    fronts = λ x h some. fronts x (cases_lt x (length nodes)) h some;
    children = λ a x e h. children a x e (is_eq (key_cmp (at, edge) (a, e))) refl h;
    parents = λ x h some. parents x (cases_lt x (length nodes)) h some;
    one = λ x y hx hy e. one x y (cases_lt x (length nodes)) (cases_lt y (length nodes)) hx hy e;
  }
    where
      is_last : (x : ℕ) → length nodes ≤ x → x < length grown → length nodes ≡ x
      is_last x after h = omega (arith, size_grown)

      fronts : (x : ℕ) → (x < length nodes) ⊎ (length nodes ≤ x) → x < length grown → x ≢ 0
          → ((node_at grown x).list < length lists) × ((node_at grown x).len ≤ length (list_at lists (node_at grown x).list))
      fronts x (inl before) h some =
          subst (λ (node : Node). (node.list < length lists) × (node.len ≤ length (list_at lists node.list))) (sym (keeps_grown.same x before)) (trie.fronts x before some)
      fronts x (inr after) h some =
          let P : Node → Type 0 = λ node. (node.list < length lists) × (node.len ≤ length (list_at lists node.list)) in
          subst (λ y. P (node_at grown y)) (is_last x after h) (subst P (sym at_last) (inside, omega arith))

      children : (a x : ℕ) (e : ℤ) (b : Bool) → is_eq (key_cmp (at, edge) (a, e)) ≡ b → more a e ≡ Some x
          → (a < length grown) × (x < length grown) × (word lists grown x ≡ e ∷ word lists grown a)
      children a x e true q h =
          let same = same_key at a edge e q in
          let there : more a e ≡ Some (length nodes) = subst (λ f. more a f ≡ Some (length nodes)) same.1 (subst (λ b. more b edge ≡ Some (length nodes)) same.0 hit) in
          let last : length nodes ≡ x = same_Some (length nodes) x (sym there ∙ h) in
          let a_below : a < length nodes = subst (λ b. b < length nodes) same.0 below in (
            omega (arith, size_grown),
            omega (arith, size_grown),
            ap (word lists grown) (sym last) ∙ word_last ∙ ap (λ f. f ∷ word lists nodes at) same.1
                ∙ ap (λ b. e ∷ word lists nodes b) same.0 ∙ ap (λ w. e ∷ w) (sym (word_kept lists nodes grown keeps_grown a a_below)),
          )
      children a x e false q h =
          let c = trie.children a x e (sym (others a e q) ∙ h) in (
            omega (arith, size_grown, c.0),
            omega (arith, size_grown, c.1),
            word_kept lists nodes grown keeps_grown x c.1 ∙ c.2
                ∙ ap (λ w. e ∷ w) (sym (word_kept lists nodes grown keeps_grown a c.0)),
          )

      parents : (x : ℕ) → (x < length nodes) ⊎ (length nodes ≤ x) → x < length grown → x ≢ 0 → more (node_at grown x).parent (node_at grown x).edge ≡ Some x
      parents x (inl before) h some =
          subst (λ (node : Node). more node.parent node.edge ≡ Some x) (sym (keeps_grown.same x before))
          (kept_child (node_at nodes x).parent x (node_at nodes x).edge (trie.parents x before some))
      parents x (inr after) h some =
          subst (λ y. more (node_at grown y).parent (node_at grown y).edge ≡ Some y) (is_last x after h)
          (subst (λ (node : Node). more node.parent node.edge ≡ Some (length nodes)) (sym at_last) hit)

      one : (x y : ℕ) → (x < length nodes) ⊎ (length nodes ≤ x) → (y < length nodes) ⊎ (length nodes ≤ y) → x < length grown → y < length grown
          → word lists grown x ≡ word lists grown y → x ≡ y
      one x y (inl bx) (inl by) hx hy e = trie.one x y bx by (sym (word_kept lists nodes grown keeps_grown x bx) ∙ e ∙ word_kept lists nodes grown keeps_grown y by)
      one x y (inl bx) (inr ay) hx hy e =
          absurd (new_word x bx (sym (word_kept lists nodes grown keeps_grown x bx) ∙ e ∙ ap (word lists grown) (sym (is_last y ay hy)) ∙ word_last))
      one x y (inr ax) (inl by) hx hy e =
          absurd (new_word y by (sym (word_kept lists nodes grown keeps_grown y by) ∙ sym e ∙ ap (word lists grown) (sym (is_last x ax hx)) ∙ word_last))
      one x y (inr ax) (inr ay) hx hy e = sym (is_last x ax hx) ∙ is_last y ay hy

  -- with the new node the nodes are fronts, each once
  pub grown_trie : IsTrie lists (nodes ++ record { list = list; len = len + 1; parent = at; edge = edge } ∷ []) more
  unfolding grown new_node
  grown_trie = grown_is

-- the new node is that of the front
pub grown_at : (lists : List (List ℤ)) (nodes : List Node) (node : Node) → word lists (nodes ++ node ∷ []) (length nodes) ≡ front_of lists node.list node.len
grown_at lists nodes node =
    ap (λ (n : Node). front_of lists n.list n.len) (get_or_push nodes node (record { list = 0; len = 0; parent = 0; edge = pos 0 }) (length nodes) refl)

-- a front of a restriction is that of some first ids
front_length : (r rest ids : List ℤ) → reverse r ≡ rest ++ ids → ids ≡ reverse (take (length ids) r)
front_length r rest ids whole =
    let back : r ≡ reverse ids ++ reverse rest = sym (reverse-reverse r) ∙ ap reverse whole ∙ reverse-append rest ids in
    let taken : take (length ids) r ≡ reverse ids = ap (take (length ids)) back ∙ take_at (reverse ids) (reverse rest) (length ids) (length-reverse ids) in
    sym (reverse-reverse ids) ∙ ap reverse (sym taken)

front_short : (r rest ids : List ℤ) → reverse r ≡ rest ++ ids → length ids ≤ length r
front_short r rest ids whole = omega (arith, length-reverse r, ap length whole, length-append rest ids)

-- where every first ids of a restriction are the front of a node, every front is
pub front_is_word : (lists : List (List ℤ)) (nodes : List Node) → ((i : ℕ) → i < length lists → HasFronts lists nodes i (length (list_at lists i))) → (ids : List ℤ)
    → IsFront lists ids → HasWord lists nodes ids
front_is_word lists nodes all ids front =
    let i = front.among.0 in
    let r_is : list_at lists i ≡ front.of = get_or_default lists i [] front.of front.among.1 ∙ front.among.2 in
    let whole : reverse (list_at lists i) ≡ front.rest ++ ids = ap reverse r_is ∙ front.whole in
    let there = all i front.among.1 (length ids) (front_short (list_at lists i) front.rest ids whole) in
    (there.0, there.1, there.2 ∙ sym (front_length (list_at lists i) front.rest ids whole))

-- and a front with one id more than that of a node is that of a child
pub complete_from : (lists : List (List ℤ)) (nodes : List Node) (child : ℕ → ℤ → Option ℕ) → IsTrie lists nodes child
    → ((i : ℕ) → i < length lists → HasFronts lists nodes i (length (list_at lists i))) → IsComplete lists nodes child
complete_from lists nodes child trie all a e below front none = by there.0 there.1 there.2
  where
    there : HasWord lists nodes (e ∷ word lists nodes a)
    there = front_is_word lists nodes all (e ∷ word lists nodes a) front

    by : (x : ℕ) → x < length nodes → word lists nodes x ≡ e ∷ word lists nodes a → ⊥
    by zero h same = let g = sym (word_root lists nodes child trie) ∙ same in absurd (no g)
      where
        no : [] ≡ e ∷ word lists nodes a → ⊥
        no g = cc
    by (suc x) h same =
        let p = trie.parents (suc x) h (λ z. absurd (omega arith)) in
        let c = trie.children (node_at nodes (suc x)).parent (suc x) (node_at nodes (suc x)).edge p in
        let both : (node_at nodes (suc x)).edge ∷ word lists nodes (node_at nodes (suc x)).parent ≡ e ∷ word lists nodes a = sym c.2 ∙ same in
        let edges : (node_at nodes (suc x)).edge ≡ e = cc in
        let words : word lists nodes (node_at nodes (suc x)).parent ≡ word lists nodes a = cc in
        let ats = trie.one (node_at nodes (suc x)).parent a c.0 below words in
        none_some (child a e) (suc x) none (subst (λ b. child b e ≡ Some (suc x)) ats (subst (λ f. child (node_at nodes (suc x)).parent f ≡ Some (suc x)) edges p))

-- the first node alone
pub bare_trie : (lists : List (List ℤ)) (child : ℕ → ℤ → Option ℕ) → ((a : ℕ) (e : ℤ) → child a e ≡ None)
    → IsTrie lists (record { list = 0; len = 0; parent = 0; edge = pos 0 } ∷ []) child
bare_trie lists child none = record {
  some = omega arith;
  small = omega arith;
  root = refl;
  fronts = λ x h some. absurd (some (omega arith));
  children = λ a x e h. absurd (none_some (child a e) x (none a e) h);
  parents = λ x h some. absurd (some (omega arith));
  one = λ x y hx hy e. omega arith;
}

-- the fronts up to one id more
pub fronts_more : (lists : List (List ℤ)) (old new : List Node) (i len x : ℕ) → HasFronts lists old i len → Keeps old new → x < length new
    → word lists new x ≡ front_of lists i (len + 1)
    → HasFronts lists new i (len + 1)
fronts_more lists old new i len x h keeps below is k at_most = by (cases_lt k (len + 1))
  where
    by : (k < len + 1) ⊎ (len + 1 ≤ k) → HasWord lists new (front_of lists i k)
    by (inl less) = has_kept lists old new (front_of lists i k) keeps (h k (omega arith))
    by (inr more) = let same : len + 1 ≡ k = omega arith in (x, below, is ∙ ap (front_of lists i) same)

pub fronts_kept : (lists : List (List ℤ)) (old new : List Node) (i len : ℕ) → HasFronts lists old i len → Keeps old new → HasFronts lists new i len
fronts_kept lists old new i len h keeps k at_most = has_kept lists old new (front_of lists i k) keeps (h k at_most)

-- the fronts of one restriction more
pub all_fronts_more : (lists : List (List ℤ)) (old new : List Node) (n : ℕ) → ((i : ℕ) → i < n → HasFronts lists old i (length (list_at lists i))) → Keeps old new
    → HasFronts lists new n (length (list_at lists n)) → (i : ℕ) → i < n + 1 → HasFronts lists new i (length (list_at lists i))
all_fronts_more lists old new n h keeps last i inside = by (cases_lt i n)
  where
    by : (i < n) ⊎ (n ≤ i) → HasFronts lists new i (length (list_at lists i))
    by (inl less) = fronts_kept lists old new i (length (list_at lists i)) (h i less) keeps
    by (inr more) = let same : n ≡ i = omega arith in subst (λ j. HasFronts lists new j (length (list_at lists j))) same last
