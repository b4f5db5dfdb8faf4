-- Pairs by their starts: behind those of one start stand those of later ones.
use Rattle.std.proofs.Common.{◌≡◌, ◌≢◌, ◌↔◌, ℕ, ℤ, zero, suc, ◌+◌, ◌<◌, ◌≤◌, ◌⊎◌, ⊎_elim, inl, inr, List, [], ◌∷◌, ◌++◌, length, get_or, drop, refl, sym, ap, ◌∙◌, subst, arith, add-one, drop-cons, Ordering, Less, Equal, Greater}
use Rattle.std.specs.Prelude.{All, Contains}
use Rattle.std.specs.Ordering.{nat_cmp, ordering_then}
use Rattle.std.proofs.lemmas.Bool.{cases_lt}
use Rattle.std.proofs.lemmas.Cmp.{ranked}
use Rattle.std.proofs.lemmas.List.{get_or-drop, length-drop}
use Rattle.std.specs.Cmp.{IsTotalOrder}
use Rattle.std.specs.List.Sorted.{IsSorted, IsPermutation}
use Rattle.std.proofs.lemmas.Cmp.{nat_cmp_total, on_total, then_total}
use Rattle.std.proofs.lemmas.List.Elements.{All-weaker, All-contains_itself}
use Rattle.std.proofs.lemmas.List.Sorted.{Contains-permutation, IsPermutation-sym}
use Rattle.pgr_outside.specs.Lists.{IsStrictlyRising}
use Rattle.pgr_numbers.specs.Names.{id_at}
use Rattle.pgr_answer.specs.declared.pair.Pair.{Pair}
use Rattle.pgr_answer.specs.declared.found.Found.{Found}
use Rattle.pgr_answer.specs.Gathering.{pair_cmp, IsNumberedPair}
use Rattle.pgr_answer.specs.Finding.{start_cmp}
use Rattle.pgr_answer.specs.Noting.{IsNumberedStart}
use Rattle.pgr_answer.proofs.FoundLemmas.{rises_sorted, apart}

-- what rises, rises behind its front
pub rises_back : {X : Type 0} (cmp : X → X → Ordering) (xs ys : List X) → IsStrictlyRising cmp (xs ++ ys) → IsStrictlyRising cmp ys
rises_back cmp [] ys rise = rise
rises_back cmp (x ∷ xs) ys rise = rises_back cmp xs ys (λ i j d before inside. rise (suc i) (suc j) d (omega (arith, before)) (omega (arith, inside)))

-- the first of two that rise by start and then by end doesn't start later
starts_no_later : (p q : Pair) → start_cmp p q ≡ Less → p.start ≤ q.start
starts_no_later p q less = by (nat_cmp p.start q.start) refl less where
  by : (o : Ordering) → nat_cmp p.start q.start ≡ o → ordering_then o (nat_cmp p.end q.end) ≡ Less → p.start ≤ q.start
  by Less e l = let before : p.start < q.start = ranked p.start q.start Less (sym e) in omega (arith, before)
  by Equal e l = let same : p.start ≡ q.start = ranked p.start q.start Equal (sym e) in omega (arith, same)
  by Greater e l = absurd cc

module _ (starts : List ℕ) (rise : IsStrictlyRising nat_cmp starts) (i s : ℕ) (inside : i < length starts) (is_s : s ≡ get_or starts i 0) where
  -- the next start, or one behind it
  here_or_later : (n : ℕ) → Contains (drop i starts) n → (n ≡ s) ⊎ Contains (drop (i + 1) starts) n
  here_or_later n there = by (subst (λ xs. Contains xs n) split there) where
    split : drop i starts ≡ get_or starts i 0 ∷ drop (i + 1) starts
    split = drop-cons starts i 0 inside ∙ ap (λ k. get_or starts i 0 ∷ drop k starts) (sym (add-one i))

    by : Contains (get_or starts i 0 ∷ drop (i + 1) starts) n → (n ≡ s) ⊎ Contains (drop (i + 1) starts) n
    by (zero, within, is) = inl (sym is ∙ sym is_s)
    by (suc k, within, is) = inr (k, omega (arith, within), is)

  -- what is behind it is greater
  later_greater : (n : ℕ) → Contains (drop (i + 1) starts) n → s < n
  later_greater n (k, within, is) =
      let at : get_or starts ((i + 1) + k) n ≡ n = sym (get_or-drop (i + 1) starts k n) ∙ is in
      let long : (i + 1) + length (drop (i + 1) starts) ≡ length starts = omega (arith, inside, length-drop (i + 1) starts) in
      let less : nat_cmp (get_or starts i n) (get_or starts ((i + 1) + k) n) ≡ Less = rise i ((i + 1) + k) n (omega arith) (omega (arith, within, long)) in
      let first : get_or starts i n ≡ s = same_default starts i n inside ∙ sym is_s in
      ranked s n Less (sym (ap (λ m. nat_cmp m n) (sym first) ∙ ap (nat_cmp (get_or starts i n)) (sym at) ∙ less))
    where
      same_default : (xs : List ℕ) (i n : ℕ) → i < length xs → get_or xs i n ≡ get_or xs i 0
      same_default [] i n within = absurd (omega (arith, within))
      same_default (x ∷ xs) zero n within = refl
      same_default (x ∷ xs) (suc i) n within = same_default xs i n (omega (arith, within))

  -- behind the pairs of the start stand pairs of later ones
  pub later_starts : (rest : List Pair) (count : ℕ) → IsStrictlyRising start_cmp rest → All (λ pair. Contains (drop i starts) pair.start) rest
      → count ≤ length rest
      → ((d : Pair) → count < length rest → (get_or rest count d).start ≢ s)
      → All (λ pair. Contains (drop (i + 1) starts) pair.start) (drop count rest)
  later_starts rest count by_start started short beyond k d within =
      let long : count + length (drop count rest) ≡ length rest = omega (arith, short, length-drop count rest) in
      let inside_rest : count + k < length rest = omega (arith, within, long) in
      let at : get_or (drop count rest) k d ≡ get_or rest (count + k) d = get_or-drop count rest k d in
      subst (λ (pair : Pair). Contains (drop (i + 1) starts) pair.start) (sym at)
      (⊎_elim (λ same. absurd (not_here (count + k) d inside_rest (omega arith) same)) (λ later. later)
      (here_or_later (get_or rest (count + k) d).start (started (count + k) d inside_rest)))
    where
      before_or_here : (m n : ℕ) → m ≤ n → (m < n) ⊎ (m ≡ n)
      before_or_here m n le = ⊎_elim inl (λ back. inr (omega (arith, le, back))) (cases_lt m n)

      first_later : (d : Pair) → count < length rest → s < (get_or rest count d).start
      first_later d below = later_greater (get_or rest count d).start
          (⊎_elim (λ same. absurd (beyond d below same)) (λ later. later) (here_or_later (get_or rest count d).start (started count d below)))

      not_here : (j : ℕ) (d : Pair) → j < length rest → count ≤ j → (get_or rest j d).start ≡ s → ⊥
      not_here j d below from same = ⊎_elim
          (λ (before : count < j).
          let first = first_later d (omega (arith, before, below)) in
          let no_later = starts_no_later (get_or rest count d) (get_or rest j d) (by_start count j d before below) in
          omega (arith, first, no_later, same))
          (λ (here : count ≡ j). beyond d (omega (arith, here, below)) (ap (λ n. (get_or rest n d).start) here ∙ same))
          (before_or_here count j from)

-- where no start is left, no pair is
pub none_left : (starts : List ℕ) (i : ℕ) → length starts ≤ i → (rest : List Pair) → All (λ pair. Contains (drop i starts) pair.start) rest → length rest ≡ 0
none_left starts i past [] started = refl
none_left starts i past (pair ∷ rest) started =
    let there : Contains (drop i starts) pair.start = started 0 pair (omega arith) in
    absurd (omega (arith, there.1, past, length-drop i starts))

-- what is said of the elements of a list holds of them in another order
pub pairs_moved : (P : Pair → Type 0) (pairs sorted : List Pair) → ((pair : Pair) → Contains pairs pair ↔ P pair) → IsPermutation pairs sorted
    → (pair : Pair) → Contains sorted pair ↔ P pair
pairs_moved P pairs sorted are moved pair = (
  λ there. (are pair).0 (Contains-permutation sorted pairs pair (IsPermutation-sym pairs sorted moved) there),
  λ holds. Contains-permutation pairs sorted pair moved ((are pair).1 holds),
)

-- something that is found for a pair
abbrev at_pair : Pair → Found (Unit {0})
at_pair pair = record { start = pair.start; end = pair.end; kept = tt }

-- pairs that rise rise by start once they are sorted so
pub pairs_by_start : (pairs sorted : List Pair) → IsStrictlyRising pair_cmp pairs → IsPermutation pairs sorted → IsSorted start_cmp sorted → IsStrictlyRising start_cmp sorted
pairs_by_start pairs sorted rise moved in_order =
    rises_sorted start_cmp start_total pairs sorted
    (λ i j d before inside. apart (at_pair (get_or pairs i d)) (at_pair (get_or pairs j d)) (rise i j d before inside)) moved in_order
  where
    start_total : IsTotalOrder start_cmp
    start_total = then_total (on_total (λ (pair : Pair). pair.start) nat_cmp_total) (on_total (λ (pair : Pair). pair.end) nat_cmp_total)

-- the starts of asked pairs are asked for
pub starts_of_pairs : (names : List ℤ) (Asked : ℤ → ℤ → Type 0) (starts : List ℕ) (pairs : List Pair)
    → ((n : ℕ) → Contains starts n ↔ IsNumberedStart names Asked n) → ((pair : Pair) → Contains pairs pair ↔ IsNumberedPair names Asked pair)
    → All (λ pair. Contains starts pair.start) pairs
starts_of_pairs names Asked starts pairs are_starts are_pairs =
    All-weaker (Contains pairs) (λ pair. Contains starts pair.start)
    (λ pair there. let is = (are_pairs pair).0 there in (are_starts pair.start).1 (is.0, (id_at names pair.end, is.3))) pairs (All-contains_itself pairs)

-- starts that are asked for are numbers of names
pub starts_below : (names : List ℤ) (Asked : ℤ → ℤ → Type 0) (starts : List ℕ) → ((n : ℕ) → Contains starts n ↔ IsNumberedStart names Asked n)
    → All (λ n. n < length names) starts
starts_below names Asked starts are =
    All-weaker (Contains starts) (λ n. n < length names) (λ n there. ((are n).0 there).0) starts (All-contains_itself starts)
