-- A list of pairs of numbers grows by the pairs that are asked for, and once sorted and without repeats it rises.
use Rattle.std.proofs.Common.{Ordering, Equal, ◌≡◌, ◌≢◌, ℕ, ◌+◌, ◌<◌, ◌⊎◌, ◌↔◌, inl, inr, ⊎_elim, ℤ, pos, List, [], ◌∷◌, ◌++◌, length, get_or, take, Some, slice_get, sym, ap, subst, ◌∙◌, arith, Bool, true, nat_eq, ◌&&◌, rules}
use Rattle.std.specs.List.{Contains, dedup}
use Rattle.std.specs.Cmp.{IsTotalOrder, IsEquivalence, Equal-is}
use Rattle.std.specs.Cmp.Rules.{comparing}
use Rattle.std.specs.List.Sorted.{IsSorted, IsPermutation, IsStrictlySortedBy}
use Rattle.std.specs.Ordering.{nat_cmp, eq_by_cmp}
use Rattle.std.proofs.lemmas.Cmp.{nat_cmp_total, on_total, then_total, eq_by_cmp_equiv}
use Rattle.std.proofs.lemmas.List.{take_more}
use Rattle.std.proofs.lemmas.Option.{get_or_from_slice_get, slice_get_within}
use Rattle.std.proofs.lemmas.List.Elements.{Contains-append_left, Contains-push, Contains-push_cases, Contains-get_or}
use Rattle.std.proofs.lemmas.List.Sorted.{Contains-permutation, IsPermutation-sym}
use Rattle.std.proofs.lemmas.List.Kept.{Contains-dedup, Contains-from_dedup, IsStrictlySortedBy-dedup}
use Rattle.std.proofs.lemmas.Map.Keys.{Less-from_sorted}
use Rattle.pgr_outside.specs.Lists.{IsStrictlyRising}
use Rattle.pgr_walks.specs.LinkOrders.{nat_tie, then_tie}
use Rattle.pgr_table.specs.declared.row.PairRow.{PairRow}
use Rattle.pgr_numbers.specs.Names.{id_at}
use Rattle.pgr_answer.specs.declared.pair.Pair.{Pair}
use Rattle.pgr_answer.specs.Pairs.{IsAsked}
use Rattle.pgr_answer.specs.Gathering.{pair_cmp, AreNumbersOf, GainsNumber, IsNumberedPair, Gains, IsThisPair, IsPairTo, IsPairOfLists, IsPairOfRows, IsPairOfIds}

-- pairs with the same parts are the same
pub same_pair : (p q : Pair) → p.start ≡ q.start → p.end ≡ q.end → p ≡ q
same_pair p q start end = λ i. record { end = end i; start = start i }

-- a pair that is put behind the others is added
pub gains_pair : (start end : ℕ) (old new : List Pair) → start ≢ end → new ≡ old ++ record { end = end; start = start } ∷ [] → Gains (IsThisPair start end) old new
gains_pair start end old new differ new_is =
    let this : Pair = record { end = end; start = start } in
    record {
      exactly = λ pair. (
        λ h. ⊎_elim inl (λ e. inr (ap (λ (p : Pair). p.start) (sym e), ap (λ (p : Pair). p.end) (sym e), subst (λ (p : Pair). p.start ≢ p.end) e differ))
            (Contains-push_cases old this pair (subst (λ pairs. Contains pairs pair) new_is h)),
        λ h. subst (λ pairs. Contains pairs pair) (sym new_is)
            (⊎_elim (Contains-append_left old (this ∷ []) pair) (λ k. subst (Contains (old ++ this ∷ [])) (same_pair this pair (sym k.0) (sym k.1)) (Contains-push old this)) h),
      );
    }

-- nothing is added where no pair is to be
pub gains_nothing : (IsAdded : Pair → Type 0) (pairs : List Pair) → ((pair : Pair) → IsAdded pair → ⊥) → Gains IsAdded pairs pairs
gains_nothing IsAdded pairs none = record { exactly = λ pair. (inl, ⊎_elim (λ h. h) (λ h. absurd (none pair h))) }

-- a pair of equal numbers isn't added
pub gains_not : (start end : ℕ) (pairs : List Pair) → start ≡ end → Gains (IsThisPair start end) pairs pairs
gains_not start end pairs same = gains_nothing (IsThisPair start end) pairs (λ pair this. this.2 (this.0 ∙ same ∙ sym this.1))

-- two steps add what either of them adds
pub gains_both : (First Second Both : Pair → Type 0) (old middle new : List Pair) → Gains First old middle → Gains Second middle new
    → ((pair : Pair) → Both pair ↔ (First pair ⊎ Second pair)) → Gains Both old new
gains_both First Second Both old middle new first second either =
    record {
      exactly = λ pair. let a = first.exactly pair in let b = second.exactly pair in let k = either pair in (
        λ h. ⊎_elim (λ m. ⊎_elim inl (λ l. inr (k.1 (inl l))) (a.0 m)) (λ l. inr (k.1 (inr l))) (b.0 h),
        ⊎_elim (λ h. b.1 (inl (a.1 (inl h)))) (λ h. ⊎_elim (λ l. b.1 (inl (a.1 (inr l)))) (λ l. b.1 (inr l)) (k.0 h)),
      );
    }

-- a list with one element more contains that element beside the others
pub take_cases : {X : Type 0} (xs : List X) (i : ℕ) (d x : X) → i < length xs → Contains (take (i + 1) xs) x ↔ (Contains (take i xs) x ⊎ (x ≡ get_or xs i d))
take_cases {X} xs i d x inside =
    let P : List X → Type 0 = λ ys. Contains ys x in
    let longer : take (i + 1) xs ≡ take i xs ++ get_or xs i d ∷ [] = take_more xs i d inside in (
      λ h. ⊎_elim inl (λ e. inr (sym e)) (Contains-push_cases (take i xs) (get_or xs i d) x (subst P longer h)),
      λ h. subst P (sym longer) (⊎_elim (Contains-append_left (take i xs) (get_or xs i d ∷ []) x) (λ e. rw e (Contains-push (take i xs) (get_or xs i d))) h),
    )

-- an empty list contains nothing
none_in : {X : Type 0} (xs : List X) (x : X) → xs ≡ [] → Contains xs x → ⊥
none_in xs x none h = let no = subst (λ ys. Contains ys x) none h in absurd (omega (arith, no.1))

-- one start more, for one end
pub gains_start : (starts : List ℕ) (i start end : ℕ) (old middle new : List Pair) → i < length starts → start ≡ get_or starts i 0
    → Gains (IsPairTo (take i starts) end) old middle → Gains (IsThisPair start end) middle new → Gains (IsPairTo (take (i + 1) starts) end) old new
gains_start starts i start end old middle new inside start_is so_far more =
    gains_both _ _ _ old middle new so_far more (λ pair. let k = take_cases starts i 0 pair.start inside in (
      λ h. ⊎_elim (λ l. inl (l, h.1, h.2)) (λ l. inr (l ∙ sym start_is, h.1, h.2)) (k.0 h.0),
      ⊎_elim (λ h. (k.1 (inl h.0), h.1, h.2)) (λ h. (k.1 (inr (h.0 ∙ start_is)), h.1, h.2)),
    ))

-- one end more, with all starts
pub gains_end : (starts ends : List ℕ) (i end : ℕ) (old middle new : List Pair) → i < length ends → end ≡ get_or ends i 0
    → Gains (IsPairOfLists starts (take i ends)) old middle → Gains (IsPairTo starts end) middle new → Gains (IsPairOfLists starts (take (i + 1) ends)) old new
gains_end starts ends i end old middle new inside end_is so_far more =
    gains_both _ _ _ old middle new so_far more (λ pair. let k = take_cases ends i 0 pair.end inside in (
      λ h. ⊎_elim (λ l. inl (h.0, l, h.2)) (λ l. inr (h.0, l ∙ sym end_is, h.2)) (k.0 h.1),
      ⊎_elim (λ h. (h.0, k.1 (inl h.1), h.2)) (λ h. (h.0, k.1 (inr (h.1 ∙ end_is)), h.2)),
    ))

-- one id more
pub numbers_more : (names ids : List ℤ) (i : ℕ) (d : ℤ) (old new : List ℕ) → i < length ids → AreNumbersOf names (take i ids) old → GainsNumber names (get_or ids i d) old new
    → AreNumbersOf names (take (i + 1) ids) new
numbers_more names ids i d old new inside so_far more n =
    let k = take_cases ids i d (id_at names n) inside in
    let m = more n in
    let s = so_far n in (
      λ h. ⊎_elim (λ l. let a = s.0 l in (a.0, k.1 (inl a.1))) (λ l. (l.0, k.1 (inr l.1))) (m.0 h),
      λ h. ⊎_elim (λ l. m.1 (inl (s.1 (h.0, l)))) (λ e. m.1 (inr (h.0, e))) (k.0 h.1),
    )

-- what is added is as well said otherwise
gains_same : (IsAdded Also : Pair → Type 0) (old new : List Pair) → Gains IsAdded old new → ((pair : Pair) → IsAdded pair ↔ Also pair) → Gains Also old new
gains_same IsAdded Also old new gains same = record {
  exactly = λ pair. let k = gains.exactly pair in let e = same pair in (λ h. ⊎_elim inl (λ l. inr (e.0 l)) (k.0 h), ⊎_elim (λ h. k.1 (inl h)) (λ h. k.1 (inr (e.1 h))));
}

-- one row more
pub gains_row : (names : List ℤ) (rows : List PairRow) (i : ℕ) (row : PairRow) (old middle new : List Pair) → slice_get rows i ≡ Some row
    → Gains (IsPairOfRows names (take i rows)) old middle → Gains (IsPairOfIds names row.source row.target) middle new → Gains (IsPairOfRows names (take (i + 1) rows)) old new
gains_row names rows i row old middle new here so_far more =
    let row_is : get_or rows i row ≡ row = get_or_from_slice_get rows i row row here in
    gains_both _ _ _ old middle new so_far more (λ pair.
    let this : PairRow = record { source = id_at names pair.start; target = id_at names pair.end } in
    let k = take_cases rows i row this (slice_get_within rows i row here) in (
      λ h. ⊎_elim (λ l. inl (h.0, h.1, h.2, l)) (λ l. let same : this ≡ row = l
          ∙ row_is in inr (h.0, h.1, h.2, ap (λ (r : PairRow). r.source) same, ap (λ (r : PairRow). r.target) same)) (k.0 h.3),
      ⊎_elim (λ h. (h.0, h.1, h.2, k.1 (inl h.3))) (λ h. let same : this ≡ row = (λ j. record { source = h.3 j; target = h.4 j }) in
          (h.0, h.1, h.2, k.1 (inr (same ∙ sym row_is)))),
    ))

module _ (names : List ℤ) (one : (m n : ℕ) → m < length names → n < length names → id_at names m ≡ id_at names n → m ≡ n) where
  -- the number of an id is put behind the others
  pub gains_number : (id : ℤ) (number : ℕ) (old new : List ℕ) → number < length names → id_at names number ≡ id → new ≡ old ++ number ∷ [] → GainsNumber names id old new
  gains_number id number old new below at new_is n = (
    λ h. ⊎_elim inl (λ e. inr (subst (λ m. m < length names) e below, ap (id_at names) (sym e) ∙ at)) (Contains-push_cases old number n (subst (λ ns. Contains ns n) new_is h)),
    λ h. subst (λ ns. Contains ns n) (sym new_is) (⊎_elim (Contains-append_left old (number ∷ []) n)
        (λ l. subst (Contains (old ++ number ∷ [])) (one number n below l.0 (at ∙ sym l.1)) (Contains-push old number)) h),
  )

  -- an id that is no name has no number
  pub gains_no_number : (id : ℤ) (numbers : List ℕ) → (Contains names id → ⊥) → GainsNumber names id numbers numbers
  gains_no_number id numbers absent n = (inl, ⊎_elim (λ h. h) (λ l. absurd (absent (subst (Contains names) l.1 (Contains-get_or names n (pos 0) l.0)))))

  -- the pair of two numbers is that of their ids
  pub gains_ids : (start end : ℕ) (start_id end_id : ℤ) (old new : List Pair) → start < length names → id_at names start ≡ start_id → end < length names → id_at names end ≡ end_id
      → Gains (IsThisPair start end) old new → Gains (IsPairOfIds names start_id end_id) old new
  gains_ids start end start_id end_id old new start_below start_at end_below end_at gains =
      gains_same _ _ old new gains (λ pair. (
        λ h. (
          subst (λ m. m < length names) (sym h.0) start_below,
          subst (λ m. m < length names) (sym h.1) end_below,
          h.2,
          ap (id_at names) h.0
              ∙ start_at,
          ap (id_at names) h.1 ∙ end_at,
        ),
        λ h. (one pair.start start h.0 start_below (h.3 ∙ sym start_at), one pair.end end h.1 end_below (h.4 ∙ sym end_at), h.2),
      ))

  -- no pair is added where one of the ids is no name
  pub gains_no_ids : (start_id end_id : ℤ) (pairs : List Pair) → (Contains names start_id → Contains names end_id → ⊥) → Gains (IsPairOfIds names start_id end_id) pairs pairs
  gains_no_ids start_id end_id pairs absent =
      gains_nothing _ pairs (λ pair h. absent (subst (Contains names) h.3 (Contains-get_or names pair.start (pos 0) h.0))
      (subst (Contains names) h.4 (Contains-get_or names pair.end (pos 0) h.1)))

-- the pairs of the lists and those of the rows are the pairs that are asked for
pub gained_is_asked : (names : List ℤ) (starts ends : List ℤ) (rows : List PairRow) (first last : List ℕ) (old middle new : List Pair)
    → old ≡ []
    → AreNumbersOf names starts first → AreNumbersOf names ends last
    → Gains (IsPairOfLists first last) old middle → Gains (IsPairOfRows names rows) middle new
    → (pair : Pair) → Contains new pair ↔ IsNumberedPair names (IsAsked starts ends rows) pair
gained_is_asked names starts ends rows first last old middle new none firsts lasts of_lists of_rows pair =
    let a = of_lists.exactly pair in
    let b = of_rows.exactly pair in
    let s = firsts pair.start in
    let e = lasts pair.end in (
      λ h. ⊎_elim
          (λ m. ⊎_elim (λ l. absurd (none_in old pair none l)) (λ l. let k = s.0 l.0 in let j = e.0 l.1 in (k.0, j.0, l.2, inl (k.1, j.1))) (a.0 m))
          (λ l. (l.0, l.1, l.2, inr l.3)) (b.0 h),
      λ h. ⊎_elim (λ l. b.1 (inl (a.1 (inr (s.1 (h.0, l.0), e.1 (h.1, l.1), h.2))))) (λ l. b.1 (inr (h.0, h.1, h.2, l))) h.3,
    )

-- the order of pairs is total
pub pair_total : IsTotalOrder pair_cmp
pair_total = then_total (on_total (λ (p : Pair). p.end) nat_cmp_total) (on_total (λ (p : Pair). p.start) nat_cmp_total)

-- pairs that compare as equal are the same
pub pair_tie : (p q : Pair) → pair_cmp p q ≡ Equal → p ≡ q
pair_tie p q e = let both = then_tie (nat_cmp p.end q.end) (nat_cmp p.start q.start) e in same_pair p q (nat_tie p.start q.start both.1) (nat_tie p.end q.end both.0)

-- pairs are the same where both their parts are
abbrev same_parts : Pair → Pair → Bool
same_parts p q = nat_eq p.end q.end && nat_eq p.start q.start

pub parts_tie : (p q : Pair) → same_parts p q ≡ eq_by_cmp pair_cmp p q
parts_tie p q = search (comparing, rules)

-- numbers are the same where they compare as equal
pub numbers_tie : (x y : ℕ) → nat_eq x y ≡ eq_by_cmp nat_cmp x y
numbers_tie x y = search (comparing, rules)

module _ {X : Type 0} (cmp : X → X → Ordering) (total : IsTotalOrder cmp) (tie : (x y : X) → cmp x y ≡ Equal → x ≡ y)
    (same : X → X → Bool) (ties : (x y : X) → same x y ≡ eq_by_cmp cmp x y) where
  same_is_equality : (x y : X) → same x y ≡ true → x ≡ y
  same_is_equality x y e = tie x y ((Equal-is _).0 (sym (ties x y) ∙ e))

  same_equivalence : IsEquivalence same
  same_equivalence = let e = eq_by_cmp_equiv total in record {
    refl = λ x. ties x x ∙ e.refl x;
    symm = λ x y. ties x y ∙ (e.symm x y ∙ sym (ties y x));
    congr = λ x y z h. ties x z ∙ (e.congr x y z (sym (ties x y) ∙ h) ∙ sym (ties y z));
  }

  -- a sort and a `dedup` keep the elements
  pub once_kept : (P : X → Type 0) (xs sorted last : List X) → ((x : X) → Contains xs x ↔ P x) → IsPermutation xs sorted → last ≡ dedup same sorted
      → (x : X) → Contains last x ↔ P x
  once_kept P xs sorted last are moved last_is x = (
    λ h. (are x).0 (Contains-permutation sorted xs x (IsPermutation-sym xs sorted moved)
        (Contains-from_dedup same sorted x (subst (λ ys. Contains ys x) last_is h))),
    λ h. subst (λ ys. Contains ys x) (sym last_is) (Contains-dedup same_equivalence same_is_equality sorted x
        (Contains-permutation xs sorted x moved ((are x).1 h))),
  )

  -- and leave them rising
  pub once_rise : (sorted last : List X) → IsSorted cmp sorted → last ≡ dedup same sorted → IsStrictlyRising cmp last
  once_rise sorted last in_order last_is i j d before inside =
      Less-from_sorted cmp last i j d (subst (IsStrictlySortedBy cmp) (sym last_is) (IsStrictlySortedBy-dedup total ties sorted in_order)) before inside
