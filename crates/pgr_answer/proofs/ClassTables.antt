-- The names of the classes of all vertices, as a table of the classes.
use Rattle.std.proofs.Common.{◌≡◌, ◌≢◌, ◌↔◌, inl, inr, ⊎_elim, ℕ, ◌+◌, ◌-◌, ◌<◌, ◌≤◌, ℤ, pos, false, List, [], ◌∷◌, ◌++◌, map, length, get_or, take, refl, sym, ap, subst, ◌∙◌, arith, Ordering, Less, Equal, Greater}
use Rattle.std.specs.Prelude.{All, Any, Contains}
use Rattle.std.specs.Cmp.{IsTotalOrder, Equal-is}
use Rattle.std.specs.List.Sorted.{IsSorted, IsPermutation}
use Rattle.std.specs.Ordering.{int_cmp, nat_cmp, eq_by_cmp, ordering_then, is_gt}
use Rattle.std.proofs.lemmas.Bool.{cases_Bool, cases_eq}
use Rattle.std.proofs.lemmas.Cmp.{nat_cmp_total, on_total, then_total}
use Rattle.std.proofs.lemmas.Map.Keys.{le_from_not_gt}
use Rattle.std.proofs.lemmas.List.{take_more, length-append, length-map, length-take-le, get_or-map, get_or_default, get_or_append_left, get_or-append_right, map-append}
use Rattle.std.proofs.lemmas.List.Elements.{All-map, All-contains, Contains-get_or}
use Rattle.std.proofs.lemmas.List.Sorted.{All-permutation, Contains-permutation}
use Rattle.pgr_outside.specs.Lists.{IsStrictlyRising}
use Rattle.pgr_outside.proofs.Lists.{Contains-map, Contains-from_map}
use Rattle.pgr_walks.specs.declared.link.LinkOf.{LinkOf}
use Rattle.pgr_walks.specs.Walk.{IsVertex}
use Rattle.pgr_walks.specs.Graph.{IsLinkOf}
use Rattle.pgr_walks.specs.LinkOrders.{nat_tie, then_tie}
use Rattle.pgr_numbers.specs.Names.{AreEnds, AreNumbered, IsNumbered, id_at, named}
use Rattle.pgr_numbers.specs.Numbering.{HasExactly}
use Rattle.pgr_parts.specs.Classes.{Connected, StronglyConnected, IsClassName, AreClassNames}
use Rattle.pgr_rows.specs.declared.rows.PartRow.{PartRow}
use Rattle.pgr_answer.specs.declared.components.NumberedMember.{NumberedMember}
use Rattle.pgr_rows.specs.declared.rows.Rows.TheVariants.{Parts}
use Rattle.pgr_answer.specs.Components.{Member, member_cmp, AreMembers, part_rows, IsPartTable}
use Rattle.pgr_answer.proofs.NetworkLemmas.{IsNetwork}
use Rattle.pgr_answer.specs.Members.{numbered_cmp, member_at, AreByVertex, AreByClass, IsMemberAmong, by_ids}
use Rattle.pgr_answer.proofs.FoundLemmas.{rises_sorted}
use Rattle.pgr_answer.proofs.ClassesById.{AreNamed, connected_named, strong_named}

-- the next vertex is put behind those before it
pub by_vertex_more : (classes : List ℕ) (i : ℕ) (old new : List NumberedMember) → AreByVertex classes i old → new ≡ old ++ member_at classes i ∷ []
    → AreByVertex classes (i + 1) new
by_vertex_more classes i old new are new_is = subst (AreByVertex classes (i + 1)) (sym new_is) (record {
  size_is = omega (arith, length-append old (member_at classes i ∷ []), are.size_is);
  each = λ v d below. ⊎_elim (λ last. at_end v d last) (λ other. front v d (omega (arith, other))) (cases_eq v i);
})
  where
    front : (v : ℕ) (d : NumberedMember) → v < i → get_or (old ++ member_at classes i ∷ []) v d ≡ member_at classes v
    front v d before = get_or_append_left old (member_at classes i ∷ []) d v (omega (arith, are.size_is)) ∙ are.each v d before

    at_end : (v : ℕ) (d : NumberedMember) → v ≡ i → get_or (old ++ member_at classes i ∷ []) v d ≡ member_at classes v
    at_end v d last =
        let here : v ≡ length old = last ∙ sym are.size_is in
        let none : v - length old ≡ 0 = omega (arith, here) in
        get_or-append_right old (member_at classes i ∷ []) (length old) v d refl (omega (arith, here))
        ∙ ap (λ n. get_or (member_at classes i ∷ []) n d) none
        ∙ ap (member_at classes) (sym last)

-- the order of members is total
numbered_total : IsTotalOrder numbered_cmp
numbered_total = then_total (on_total (λ (m : NumberedMember). m.component) nat_cmp_total) (on_total (λ (m : NumberedMember). m.node) nat_cmp_total)

-- members of different vertices don't compare as equal
apart : (a b : NumberedMember) → a.node ≢ b.node → eq_by_cmp numbered_cmp a b ≡ false
apart a b differ = ⊎_elim (λ e. absurd (differ (nat_tie a.node b.node (then_tie (nat_cmp a.component b.component) (nat_cmp a.node b.node) ((Equal-is _).0 e)).1))) (λ e. e)
    (cases_Bool (eq_by_cmp numbered_cmp a b))

-- a sort by class keeps the members, and they rise
pub sorted_by_class : (classes : List ℕ) (size : ℕ) (members sorted : List NumberedMember) → size ≡ length classes → AreByVertex classes size members → IsPermutation members sorted
    → IsSorted numbered_cmp sorted → AreByClass classes sorted
sorted_by_class classes size members sorted size_is are moved in_order = record {
  below = All-permutation (λ (m : NumberedMember). m.node < length classes) members sorted moved
      (λ v d inside. subst (λ (m : NumberedMember). m.node < length classes) (sym (placed v d inside)) (omega (arith, size_is, are.size_is)));
  classed = All-permutation (λ (m : NumberedMember). m.component ≡ get_or classes m.node 0) members sorted moved
      (λ v d inside. subst (λ (m : NumberedMember). m.component ≡ get_or classes m.node 0) (sym (placed v d inside)) refl);
  every = λ v below. Contains-permutation members sorted (member_at classes v) moved
      (v, omega (arith, size_is, are.size_is), are.each v (member_at classes v) (omega (arith, size_is)));
  rise = rises_sorted numbered_cmp numbered_total members sorted
      (λ i j d before inside. apart (get_or members i d) (get_or members j d)
      (λ same. absurd (omega (arith, sym (node_at i d (omega arith)) ∙ same ∙ node_at j d inside)))) moved in_order;
}
  where
    placed : (v : ℕ) (d : NumberedMember) → v < length members → get_or members v d ≡ member_at classes v
    placed v d inside = are.each v d (omega (arith, are.size_is))

    node_at : (v : ℕ) (d : NumberedMember) → v < length members → (get_or members v d).node ≡ v
    node_at v d inside = ap (λ (m : NumberedMember). m.node) (placed v d inside)

-- both numbers of each member are numbers of names where the classes' names are
pub members_among : (classes : List ℕ) (size : ℕ) (members : List NumberedMember) → length classes ≡ size → All (λ class. class < size) classes → AreByClass classes members
    → All (IsMemberAmong size) members
members_among classes size members size_is among are k d inside =
    let m = get_or members k d in
    let below : m.node < length classes = are.below k d inside in (
      subst (λ c. c < size) (sym (are.classed k d inside)) (among m.node 0 below),
      subst (λ n. m.node < n) size_is below,
    )

-- the rows of one more member
pub part_rows-push : (n : ℕ) (members : List Member) (m : Member)
    → part_rows n (members ++ m ∷ []) ≡ part_rows n members ++ record { seq = n + length members; component = m.component; node = m.node } ∷ []
part_rows-push n [] m = ap (λ (k : ℕ). record { seq = k; component = m.component; node = m.node } ∷ []) (omega arith)
part_rows-push n (first ∷ members) m =
    ap (λ rows. record { seq = n; component = first.component; node = first.node } ∷ rows) (part_rows-push (n + 1) members m
    ∙ ap (λ (k : ℕ). part_rows (n + 1) members ++ record { seq = k; component = m.component; node = m.node } ∷ []) (omega arith))

-- the row of the next member is put behind the rows so far
pub rows_more : (names : List ℤ) (members : List NumberedMember) (i : ℕ) (d : NumberedMember) (old new : List PartRow) (component node : ℤ)
    → i < length members
    → component ≡ id_at names (get_or members i d).component
    → node ≡ id_at names (get_or members i d).node
    → old ≡ part_rows 1 (map (by_ids names) (take i members))
    → new ≡ old ++ record { seq = i + 1; component = component; node = node } ∷ []
    → new ≡ part_rows 1 (map (by_ids names) (take (i + 1) members))
rows_more names members i d old new component node inside component_is node_is so_far new_is =
    let m = get_or members i d in
    let row : PartRow = record { seq = i + 1; component = component; node = node } in
    let front = map (by_ids names) (take i members) in
    let count : i + 1 ≡ 1 + length front = omega (arith, length-map (take i members) (by_ids names), length-take-le i members (omega arith)) in
    let row_is : row ≡ record { seq = 1 + length front; component = id_at names m.component; node = id_at names m.node } =
    (λ j. record { seq = count j; component = component_is j; node = node_is j }) in
    new_is
    ∙ ap (λ (rows : List PartRow). rows ++ row ∷ []) so_far
    ∙ ap (λ (r : PartRow). part_rows 1 front ++ r ∷ []) row_is
    ∙ sym (part_rows-push 1 front (by_ids names m))
    ∙ ap (part_rows 1) (sym (map-append (by_ids names) (take i members) (m ∷ [])))
    ∙ ap (λ ms. part_rows 1 (map (by_ids names) ms)) (sym (take_more members i d inside))

-- the name of a class is no greater than its vertices
name_below : (InClass : ℕ → ℕ → Type 0) → ((v : ℕ) → InClass v v) → (size : ℕ) (classes : List ℕ) → AreClassNames InClass size classes → All (λ class. class < size) classes
name_below InClass itself size classes are v d inside =
    let here : v < size = omega (arith, are.size_is) in
    let least = (are.each v here).least v (itself v) in
    let low : get_or classes v 0 ≤ v = le_from_not_gt (get_or classes v 0) v (not_greater (nat_cmp (get_or classes v 0) v) least) in
    subst (λ c. c < size) (get_or_default classes v 0 d inside) (omega (arith, low, here))
  where
    not_greater : (o : Ordering) → o ≢ Greater → is_gt o ≡ false
    not_greater Less differ = refl
    not_greater Equal differ = refl
    not_greater Greater differ = absurd (differ refl)

-- the names of connected classes, and of strong ones, are vertices
pub connected_below : (Has : LinkOf ℕ → Type 0) (size : ℕ) (classes : List ℕ) → AreClassNames (Connected Has) size classes → All (λ class. class < size) classes
connected_below Has = name_below (Connected Has) (λ v. ([], refl))

pub strong_below : (Has : LinkOf ℕ → Type 0) (size : ℕ) (classes : List ℕ) → AreClassNames (StronglyConnected Has) size classes → All (λ class. class < size) classes
strong_below Has = name_below (StronglyConnected Has) (λ v. (([], refl), ([], refl)))

-- what is seen by a function rises where it keeps the order of the elements
rises_seen : {X Y : Type 0} (cmp : X → X → Ordering) (cmp_seen : Y → Y → Ordering) (f : X → Y) (xs : List X)
    → ((a b : X) → Contains xs a → Contains xs b → cmp_seen (f a) (f b) ≡ cmp a b) → IsStrictlyRising cmp xs → IsStrictlyRising cmp_seen (map f xs)
rises_seen {X} cmp cmp_seen f [] keeps rise i j y before inside = absurd (omega arith)
rises_seen {X} cmp cmp_seen f (first ∷ rest) keeps rise i j y before inside =
    let xs = first ∷ rest in
    let a = get_or xs i first in
    let b = get_or xs j first in
    let within : j < length xs = omega (arith, length-map xs f) in
    ap (λ s. cmp_seen s (get_or (map f xs) j y)) (get_or-map f xs i first y (omega (arith, within)))
    ∙ ap (cmp_seen (f a)) (get_or-map f xs j first y within)
    ∙ keeps a b (Contains-get_or xs i first (omega (arith, within))) (Contains-get_or xs j first within)
    ∙ rise i j first before within

-- the links of a graph of numbered links stand for those of a table
pub links_named : (names : List ℤ) (links : List (LinkOf ℤ)) (numbers : List (LinkOf ℕ)) (size : ℕ) (ins : ℕ → List (LinkOf ℕ)) (Has : LinkOf ℤ → Type 0)
    → AreNumbered names links numbers → HasExactly size ins numbers → ((link : LinkOf ℤ) → Contains links link ↔ Has link) → AreNamed names (IsLinkOf size ins) Has
links_named names links numbers size ins Has are exactly listed = record {
  to = λ link has. (listed (named names link)).0 (subst (λ ls. Contains ls (named names link)) are.same (Contains-map (named names) numbers link ((exactly link).0 has)));
  ends = λ link has. All-contains (IsNumbered names) numbers link are.ends ((exactly link).0 has);
  back = λ link has.
      let n = Contains-from_map (named names) numbers link (subst (λ ls. Contains ls link) (sym are.same) ((listed link).1 has)) in
      (n.0, ((exactly n.0).1 n.1, sym n.2));
}

-- the ends of the links of a table are names
pub ends_named : (names : List ℤ) (links : List (LinkOf ℤ)) (Has : LinkOf ℤ → Type 0) → AreEnds links names → ((link : LinkOf ℤ) → Contains links link ↔ Has link)
    → (link : LinkOf ℤ) → Has link → Contains names link.from × Contains names link.to
ends_named names links Has are listed link has =
    let here = (listed link).1 has in
    ((are.ends link.from).1 (link, here, inl refl), (are.ends link.to).1 (link, here, inr refl))

module _ (names : List ℤ) (links : List (LinkOf ℤ)) (Has : LinkOf ℤ → Type 0) (are_ends : AreEnds links names) (listed : (link : LinkOf ℤ) → Contains links link ↔ Has link)
    (order : (m n : ℕ) → IsStrictlyRising int_cmp names → m < length names → n < length names → int_cmp (id_at names m) (id_at names n) ≡ nat_cmp m n) where
  -- a name is a vertex
  is_vertex : (id : ℤ) → Contains names id → IsVertex Has id
  is_vertex id there = let v = (are_ends.ends id).0 there in (v.0, (listed v.0).0 v.1, v.2)

  -- a vertex is a name
  is_name : (id : ℤ) → IsVertex Has id → Contains names id
  is_name id v = (are_ends.ends id).1 (v.0, (listed v.0).1 v.1, v.2)

  -- members by number are the members by id, where the names of the classes are
  pub members_named : (InNumbers : ℕ → ℕ → Type 0) (InIds : ℤ → ℤ → Type 0) (size : ℕ) (classes : List ℕ) (members : List NumberedMember)
      → ((v name : ℕ) → v < length names → name < length names → IsClassName nat_cmp InNumbers v name → IsClassName int_cmp InIds (id_at names v) (id_at names name))
      → size ≡ length names
      → AreClassNames InNumbers size classes
      → All (λ class. class < size) classes
      → AreByClass classes members
      → AreMembers Has InIds (map (by_ids names) members)
  members_named InNumbers InIds size classes members by_id size_is are below by_class = record {
    vertices = All-map (λ (m : Member). IsVertex Has m.node) (by_ids names) members
        (λ k d inside. is_vertex (id_at names (get_or members k d).node) (Contains-get_or names (get_or members k d).node (pos 0) (among k d inside).1));
    named = All-map (λ (m : Member). IsClassName int_cmp InIds m.node m.component) (by_ids names) members named_at;
    every = some;
    rise = rises_seen numbered_cmp member_cmp (by_ids names) members keeps by_class.rise;
  }
    where
      among : All (IsMemberAmong (length names)) members
      among = members_among classes (length names) members (are.size_is ∙ size_is) (subst (λ n. All (λ class. class < n) classes) size_is below) by_class

      named_at : All (λ m. IsClassName int_cmp InIds (id_at names m.node) (id_at names m.component)) members
      named_at k d inside =
          let m = get_or members k d in
          let by_number : IsClassName nat_cmp InNumbers m.node m.component = subst (IsClassName nat_cmp InNumbers m.node) (sym (by_class.classed k d inside))
          (are.each m.node (omega (arith, (among k d inside).1, size_is))) in
          by_id m.node m.component (among k d inside).1 (among k d inside).0 by_number

      some : (v : ℤ) → IsVertex Has v → Any (λ m. m.node ≡ v) (map (by_ids names) members)
      some v vertex =
          let n = is_name v vertex in
          let m = member_at classes n.0 in
          let there = Contains-map (by_ids names) members m (by_class.every n.0 (omega (arith, n.1, are.size_is, size_is))) in
          (there.0, by_ids names m, there.1, there.2, get_or_default names n.0 (pos 0) v n.1 ∙ n.2)

      keeps : (a b : NumberedMember) → Contains members a → Contains members b → member_cmp (by_ids names a) (by_ids names b) ≡ numbered_cmp a b
      keeps a b a_in b_in =
          let a_low = All-contains (IsMemberAmong (length names)) members a among a_in in
          let b_low = All-contains (IsMemberAmong (length names)) members b among b_in in
          ap (λ o. ordering_then o (int_cmp (id_at names a.node) (id_at names b.node))) (order a.component b.component are_ends.rise a_low.0 b_low.0)
          ∙ ap (ordering_then (nat_cmp a.component b.component)) (order a.node b.node are_ends.rise a_low.1 b_low.1)

module _ (links : List (LinkOf ℤ)) (names : List ℤ) (size : ℕ) (ins : ℕ → List (LinkOf ℕ)) (network : IsNetwork links names size ins)
    (Has : LinkOf ℤ → Type 0) (listed : (link : LinkOf ℤ) → Contains links link ↔ Has link)
    (order : (m n : ℕ) → IsStrictlyRising int_cmp names → m < length names → n < length names → int_cmp (id_at names m) (id_at names n) ≡ nat_cmp m n)
    (one : (m n : ℕ) → IsStrictlyRising int_cmp names → m < length names → n < length names → id_at names m ≡ id_at names n → m ≡ n)
    (classes : List ℕ) (members : List NumberedMember) (by_class : AreByClass classes members)
    (rows : List PartRow) (rows_are : rows ≡ part_rows 1 (map (by_ids names) members)) where
  -- the links between numbers stand for those of the set
  stand : AreNamed names (IsLinkOf size ins) Has
  stand = links_named names links network.numbers size ins Has network.numbered network.exactly listed

  -- the table of classes, where the names of classes by number stand for those by id
  table : (InNumbers : ℕ → ℕ → Type 0) (InIds : ℤ → ℤ → Type 0)
      → ((v name : ℕ) → v < length names → name < length names → IsClassName nat_cmp InNumbers v name → IsClassName int_cmp InIds (id_at names v) (id_at names name))
      → AreClassNames InNumbers size classes → All (λ class. class < size) classes → IsPartTable Has InIds (Parts rows)
  table InNumbers InIds by_id are below = (
    map (by_ids names) members,
    members_named names links Has network.ends listed order InNumbers InIds size classes members by_id network.size_is are below by_class,
    ap Parts rows_are,
  )

  pub connected_table : AreClassNames (Connected (IsLinkOf size ins)) size classes → IsPartTable Has (Connected Has) (Parts rows)
  connected_table are = table (Connected (IsLinkOf size ins)) (Connected Has)
      (connected_named names network.ends.rise order one (IsLinkOf size ins) Has stand (ends_named names links Has network.ends listed)) are
      (connected_below (IsLinkOf size ins) size classes are)

  pub strong_table : AreClassNames (StronglyConnected (IsLinkOf size ins)) size classes → IsPartTable Has (StronglyConnected Has) (Parts rows)
  strong_table are = table (StronglyConnected (IsLinkOf size ins)) (StronglyConnected Has)
      (strong_named names network.ends.rise order one (IsLinkOf size ins) Has stand (ends_named names links Has network.ends listed)) are
      (strong_below (IsLinkOf size ins) size classes are)
