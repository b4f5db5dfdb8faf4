-- What is found for pairs of numbers grows by a pair at a time, and once sorted it rises by start and then by end.
use Rattle.std.proofs.Common.{◌≡◌, ◌≢◌, ℕ, zero, suc, ℤ, ◌+◌, ◌-◌, ◌<◌, ⊎_elim, true, false, List, [], ◌∷◌, ◌++◌, length, map, get_or, take, refl, sym, ap, subst, ◌∙◌, arith, append_assoc, append-nil, Ordering, Less, Equal, Greater}
use Rattle.std.specs.Prelude.{All, Any, Contains}
use Rattle.std.specs.List.{AllPairs, IsDistinct}
use Rattle.std.specs.List.Sorted.{IsSorted, IsPermutation}
use Rattle.std.specs.Ordering.{nat_cmp, eq_by_cmp, ordering_then, is_lt}
use Rattle.std.specs.Cmp.{IsTotalOrder, Equal-is}
use Rattle.std.proofs.lemmas.Bool.{cases_Bool}
use Rattle.std.proofs.lemmas.Cmp.{nat_cmp_total, on_total, then_total, eq_by_cmp_equiv}
use Rattle.std.proofs.lemmas.List.{take_more, length-append, length-map, get_or-map, get_or_append_left, get_or-append_right}
use Rattle.std.proofs.lemmas.List.Elements.{All-nil, All-push, All-weaker, All-map, Contains-append_left, Contains-push, Contains-push_cases}
use Rattle.std.proofs.lemmas.List.Quantifiers.{Any-push, all_pairs_push}
use Rattle.std.proofs.lemmas.List.Sorted.{All-permutation, Contains-permutation, sorted_far, ranks_by}
use Rattle.std.proofs.lemmas.Map.Keys.{IsDistinct-from_apart, IsDistinct-IsPermutation, apart_from_distinct}
use Rattle.pgr_outside.specs.Lists.{IsStrictlyRising}
use Rattle.pgr_outside.proofs.Lists.{Any-append_left}
use Rattle.pgr_walks.specs.declared.link.LinkOf.{LinkOf}
use Rattle.pgr_walks.proofs.Rising.{less_by_rest}
use Rattle.pgr_numbers.specs.Names.{id_at}
use Rattle.pgr_answer.specs.declared.pair.Pair.{Pair}
use Rattle.pgr_answer.specs.declared.found.Found.{Found}
use Rattle.pgr_answer.specs.Gathering.{pair_cmp}
use Rattle.pgr_answer.specs.Finding.{IsPairAmong, HaveEnd, pair_of, found_cmp, AreFoundBy, RisesBy, RisesByPair, ExtendsInOrder, ExtendsBy}
use Rattle.pgr_answer.proofs.PairLemmas.{same_pair}

-- what rises, rises in its front
pub rises_front : {X : Type 0} (cmp : X → X → Ordering) (xs ys : List X) → IsStrictlyRising cmp (xs ++ ys) → IsStrictlyRising cmp xs
rises_front cmp xs ys rise i j d before inside =
    ap (λ a. cmp a (get_or xs j d)) (sym (get_or_append_left xs ys d i (omega arith)))
    ∙ ap (cmp (get_or (xs ++ ys) i d)) (sym (get_or_append_left xs ys d j inside))
    ∙ rise i j d before (omega (arith, length-append xs ys))

-- in a list that rises, what is in front comes before the last
before_last : {X : Type 0} (cmp : X → X → Ordering) (xs : List X) (y x : X) → IsStrictlyRising cmp (xs ++ y ∷ []) → Contains xs x → cmp x y ≡ Less
before_last cmp xs y x rise (k, within, is) =
    let front : get_or (xs ++ y ∷ []) k x ≡ x = get_or_append_left xs (y ∷ []) x k within ∙ is in
    let none : length xs - length xs ≡ 0 = omega arith in
    let last : get_or (xs ++ y ∷ []) (length xs) x ≡ y = get_or-append_right xs (y ∷ []) (length xs) (length xs) x refl (omega arith) ∙ ap (λ n. get_or (y ∷ []) n x) none in
    ap (λ a. cmp a y) (sym front) ∙ ap (cmp (get_or (xs ++ y ∷ []) k x)) (sym last) ∙ rise k (length xs) x within (omega (arith, length-append xs (y ∷ [])))

module _ {Shown : Type 0} (cmp : Pair → Pair → Ordering) (Leads : ℤ → ℤ → List (LinkOf ℤ) → Type 0) (Shows : ℤ → ℤ → Shown → Type 0) (names : List ℤ) where
  -- what is found for pairs, where one more is done
  weaker : (done : List Pair) (pair : Pair) (found : List (Found Shown)) → All (λ f. Contains done (pair_of f)) found → All (λ f. Contains (done ++ pair ∷ []) (pair_of f)) found
  weaker done pair found asked = All-weaker (λ f. Contains done (pair_of f)) (λ f. Contains (done ++ pair ∷ []) (pair_of f))
      (λ f there. Contains-append_left done (pair ∷ []) (pair_of f) there) found asked

  -- something is found for one more pair
  pub extends_some_by : (start end : ℕ) (kept : Shown) (old new : List (Found Shown)) → Shows (id_at names start) (id_at names end) kept
      → new ≡ old ++ record { start = start; end = end; kept = kept } ∷ []
      → ExtendsInOrder cmp Leads Shows names (record { end = end; start = start } ∷ []) old new
  extends_some_by start end kept old new shows new_is done rise (are, by_pair) =
      let pair : Pair = record { end = end; start = start } in
      let this : Found Shown = record { start = start; end = end; kept = kept } in
      let found : AreFoundBy Leads Shows names (done ++ pair ∷ []) (old ++ this ∷ []) = record {
        asked = All-push (λ f. Contains (done ++ pair ∷ []) (pair_of f)) old this (weaker done pair old are.asked) (Contains-push done pair);
        shows = All-push (λ f. Shows (id_at names f.start) (id_at names f.end) f.kept) old this are.shows shows;
        every = λ other walk there is_walk. ⊎_elim
            (λ before. Any-append_left (λ f. pair_of f ≡ other) old (this ∷ []) (are.every other walk before is_walk))
            (λ same. Any-push (λ f. pair_of f ≡ other) old this same)
            (Contains-push_cases done pair other there);
      } in
      let rises : RisesBy cmp (old ++ this ∷ []) = all_pairs_push (λ f g. cmp (pair_of f) (pair_of g) ≡ Less) old this by_pair
      (λ k d below. before_last cmp done pair (pair_of (get_or old k d)) rise (are.asked k d below)) in
      subst (λ found. AreFoundBy Leads Shows names (done ++ pair ∷ []) found × RisesBy cmp found) (sym new_is) (found, rises)

  -- nothing is found for one more pair, which has no walk
  pub extends_none_by : (pair : Pair) (found : List (Found Shown)) → ((walk : List (LinkOf ℤ)) → Leads (id_at names pair.start) (id_at names pair.end) walk → ⊥)
      → ExtendsInOrder cmp Leads Shows names (pair ∷ []) found found
  extends_none_by pair found none done rise (are, by_pair) = (
    record {
      asked = weaker done pair found are.asked;
      shows = are.shows;
      every = λ other walk there is_walk. ⊎_elim
          (λ before. are.every other walk before is_walk)
          (λ same. absurd (none walk (subst (λ (p : Pair). Leads (id_at names p.start) (id_at names p.end) walk) (sym same) is_walk)))
          (Contains-push_cases done pair other there);
    },
    by_pair,
  )

  -- no more pairs
  pub extends_nothing_by : (found : List (Found Shown)) → ExtendsInOrder cmp Leads Shows names [] found found
  extends_nothing_by found done rise base = subst (λ pairs. AreFoundBy Leads Shows names pairs found × RisesBy cmp found) (sym (append-nil done)) base

  -- more pairs, and then others
  pub extends_both_by : (more others : List Pair) (old middle new : List (Found Shown)) → ExtendsInOrder cmp Leads Shows names more old middle
      → ExtendsInOrder cmp Leads Shows names others middle new
      → ExtendsInOrder cmp Leads Shows names (more ++ others) old new
  extends_both_by more others old middle new first second done rise base =
      let order = append_assoc done more others in
      let rises : IsStrictlyRising cmp ((done ++ more) ++ others) = subst (IsStrictlyRising cmp) (sym order) rise in
      subst (λ pairs. AreFoundBy Leads Shows names pairs new × RisesBy cmp new) order (second (done ++ more) rises (first done (rises_front cmp (done ++ more) others rises) base))

  -- one pair more of a group
  pub extends_more_by : (group : List Pair) (i : ℕ) (d pair : Pair) (old middle new : List (Found Shown)) → i < length group → pair ≡ get_or group i d
      → ExtendsInOrder cmp Leads Shows names (take i group) old middle → ExtendsInOrder cmp Leads Shows names (pair ∷ []) middle new
      → ExtendsInOrder cmp Leads Shows names (take (i + 1) group) old new
  extends_more_by group i d pair old middle new inside is first second =
      let longer = take_more group i d inside ∙ ap (λ p. take i group ++ p ∷ []) (sym is) in
      subst (λ pairs. ExtendsInOrder cmp Leads Shows names pairs old new) (sym longer) (extends_both_by (take i group) (pair ∷ []) old middle new first second)

module _ {Shown : Type 0} (Leads : ℤ → ℤ → List (LinkOf ℤ) → Type 0) (Shows : ℤ → ℤ → Shown → Type 0) (names : List ℤ) where
  -- the same by end, and then by start
  pub extends_some : (start end : ℕ) (kept : Shown) (old new : List (Found Shown)) → Shows (id_at names start) (id_at names end) kept
      → new ≡ old ++ record { start = start; end = end; kept = kept } ∷ []
      → ExtendsBy Leads Shows names (record { end = end; start = start } ∷ []) old new
  extends_some = extends_some_by pair_cmp Leads Shows names

  pub extends_none : (pair : Pair) (found : List (Found Shown)) → ((walk : List (LinkOf ℤ)) → Leads (id_at names pair.start) (id_at names pair.end) walk → ⊥)
      → ExtendsBy Leads Shows names (pair ∷ []) found found
  extends_none = extends_none_by pair_cmp Leads Shows names

  pub extends_more : (group : List Pair) (i : ℕ) (d pair : Pair) (old middle new : List (Found Shown)) → i < length group → pair ≡ get_or group i d
      → ExtendsBy Leads Shows names (take i group) old middle → ExtendsBy Leads Shows names (pair ∷ []) middle new → ExtendsBy Leads Shows names (take (i + 1) group) old new
  extends_more = extends_more_by pair_cmp Leads Shows names

  -- nothing is found for no pairs
  pub none_found : AreFoundBy Leads Shows names [] []
  none_found = record {
    asked = All-nil (λ f. Contains [] (pair_of f));
    shows = All-nil
        (λ f. Shows (id_at names f.start) (id_at names f.end) f.kept);
    every = λ pair walk there is_walk. absurd (omega (arith, there.1));
  }

  -- what is found, in another order
  pub found_moved : (pairs : List Pair) (found sorted : List (Found Shown)) → IsPermutation found sorted → AreFoundBy Leads Shows names pairs found
      → AreFoundBy Leads Shows names pairs sorted
  found_moved pairs found sorted moved are = record {
    asked = All-permutation (λ f. Contains pairs (pair_of f)) found sorted moved are.asked;
    shows = All-permutation (λ f. Shows (id_at names f.start) (id_at names f.end) f.kept) found sorted moved are.shows;
    every = λ pair walk there is_walk. any_moved (λ f. pair_of f ≡ pair) (are.every pair walk there is_walk);
  } where
    any_moved : (P : Found Shown → Type 0) → Any P found → Any P sorted
    any_moved P h = let k = Contains-permutation found sorted h.1 moved (h.0, h.2, h.3) in (k.0, h.1, k.1, k.2, h.4)

-- what is sorted rises strictly where no two of it compared as equal before
pub rises_sorted : {X : Type 0} (cmp : X → X → Ordering) → IsTotalOrder cmp → (xs sorted : List X) → AllPairs (λ x y. eq_by_cmp cmp x y ≡ false) xs → IsPermutation xs sorted
    → IsSorted cmp sorted → IsStrictlyRising cmp sorted
rises_sorted cmp total xs sorted differ moved in_order i j d before inside =
    let distinct : IsDistinct (eq_by_cmp cmp) xs = IsDistinct-from_apart (eq_by_cmp cmp) xs differ in
    let still = IsDistinct-IsPermutation (eq_by_cmp cmp) (eq_by_cmp_equiv total).symm xs sorted moved distinct in
    less_by_rest _ (cmp (get_or sorted j d) (get_or sorted i d)) (total.antisymm (get_or sorted i d) (get_or sorted j d))
    (apart_from_distinct (eq_by_cmp cmp) sorted i j d still before inside)
    (sorted_far (λ x y. is_lt (cmp x y)) (ranks_by total (λ x. x)) sorted in_order i j d (omega arith) inside)

module _ {Shown : Type 0} where
  -- the order of what is found is total
  pub found_total : IsTotalOrder (found_cmp {Shown = Shown})
  found_total = then_total (on_total (λ (f : Found Shown). f.start) nat_cmp_total) (on_total (λ (f : Found Shown). f.end) nat_cmp_total)

  -- pairs of which one comes before the other don't compare as equal, in either order
  pub apart : (a b : Found Shown) → pair_cmp (pair_of a) (pair_of b) ≡ Less → eq_by_cmp found_cmp a b ≡ false
  apart a b less = ⊎_elim (λ e. absurd (not_equal e)) (λ e. e) (cases_Bool (eq_by_cmp found_cmp a b)) where
    tied : pair_cmp (pair_of a) (pair_of b) ≡ ordering_then (nat_cmp a.end b.end) (nat_cmp a.start b.start)
    tied = refl

    both : (o p : Ordering) → ordering_then o p ≡ Equal → ordering_then p o ≡ Equal
    both Less p e = absurd cc
    both Equal Less e = absurd cc
    both Equal Equal e = refl
    both Equal Greater e = absurd cc
    both Greater p e = absurd cc

    not_equal : eq_by_cmp found_cmp a b ≡ true → ⊥
    not_equal e = let same = both (nat_cmp a.start b.start) (nat_cmp a.end b.end) ((Equal-is _).0 e) in absurd cc

  -- what rises by its pairs rises by start and then by end once it is sorted so
  pub found_rises : (found sorted : List (Found Shown)) → RisesByPair found → IsPermutation found sorted → IsSorted found_cmp sorted → IsStrictlyRising found_cmp sorted
  found_rises found sorted by_pair moved in_order =
      rises_sorted found_cmp found_total found sorted (λ i j d before inside. apart (get_or found i d) (get_or found j d) (by_pair i j d before inside)) moved in_order

-- of pairs with one end, each is that end with its start
pub one_end_pair : (group : List Pair) → HaveEnd group → (i : ℕ) (d : Pair) → i < length group
    → ◌≡◌ {A = Pair} (record { end = (get_or group 0 d).end; start = (get_or group i d).start }) (get_or group i d)
one_end_pair group one_end zero d inside = refl
one_end_pair group one_end (suc i) d inside = same_pair _ (get_or group (suc i) d) refl (one_end 0 (suc i) d (omega arith) inside)

-- of pairs with one start, each is that start with its end
pub one_start_pair : (group : List Pair) (s : ℕ) → All (λ pair. pair.start ≡ s) group → (i : ℕ) (d : Pair) → i < length group
    → ◌≡◌ {A = Pair} (record { end = (get_or group i d).end; start = s }) (get_or group i d)
one_start_pair group s one_start i d inside = same_pair _ (get_or group i d) (sym (one_start i d inside)) refl

-- of pairs among some vertices with one start, this is among them
pub start_below : (group : List Pair) (s size i : ℕ) → All (IsPairAmong size) group → All (λ pair. pair.start ≡ s) group → i < length group → s < size
start_below group s size i among one_start inside =
    let none : Pair = record { end = 0; start = 0 } in
    subst (λ n. n < size) (one_start i none inside) (among i none inside).0

-- and no end is this
pub start_differs : (group : List Pair) (s size i : ℕ) (d : Pair) → All (IsPairAmong size) group → All (λ pair. pair.start ≡ s) group → i < length group
    → s ≢ (get_or group i d).end
start_differs group s size i d among one_start inside same = (among i d inside).2 (one_start i d inside ∙ same)

-- where none are left, all pairs are done
pub all_done : (pairs done rest : List Pair) → pairs ≡ done ++ rest → length rest ≡ 0 → done ≡ pairs
all_done pairs done [] order none = sym (order ∙ append-nil done)
all_done pairs done (pair ∷ rest) order none = absurd (omega arith)

-- the starts of pairs among some vertices are vertices
pub starts_among : (size : ℕ) (pairs : List Pair) → All (IsPairAmong size) pairs → All (λ w. w < size) (map (λ (pair : Pair). pair.start) pairs)
starts_among size pairs all = All-map (λ w. w < size) (λ (pair : Pair). pair.start) pairs (All-weaker (IsPairAmong size) (λ pair. pair.start < size) (λ pair is. is.0) pairs all)

-- the start of a pair of a list is among their starts
pub start_among : (pairs : List Pair) (i : ℕ) (d : Pair) → i < length pairs → Contains (map (λ (pair : Pair). pair.start) pairs) (get_or pairs i d).start
start_among pairs i d inside = (i, omega (arith, length-map pairs (λ (pair : Pair). pair.start)), get_or-map (λ (pair : Pair). pair.start) pairs i d _ inside)
