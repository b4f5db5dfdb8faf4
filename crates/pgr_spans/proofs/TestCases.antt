-- Spans written out rise where each edge is less than those behind it; so do spans that are put behind each other in the order of their edges.
use Rattle.std.proofs.Common.{◌≡◌, ℕ, ◌+◌, ℤ, pos, ◌≤ℤ◌, List, [], ◌∷◌, ◌++◌, length, sym, subst, arith, Less}
use Rattle.std.specs.Cmp.{int_cmp_is}
use Rattle.std.specs.List.{All, AllByRecursion}
use Rattle.std.specs.Ordering.{int_cmp}
use Rattle.std.proofs.lemmas.Int.{ints}
use Rattle.std.proofs.lemmas.List.{length_push}
use Rattle.std.proofs.lemmas.List.Elements.{All-push, All-weaker, All-from_recursion}
use Rattle.std.proofs.lemmas.List.Quantifiers.{all_pairs_push}
use Rattle.std.proofs.lemmas.List.Kept.{AllPairs-cons}
use Rattle.pgr_spans.specs.declared.span.Span.{Span}
use Rattle.pgr_spans.specs.Lists.{HaveRisingEdges}

-- each edge is less than those behind it
abbrev pub AreInOrder : List Span → Type 0
AreInOrder [] = Unit {0}
AreInOrder (s ∷ rest) = AllByRecursion (λ t. int_cmp s.edge t.edge ≡ Less) rest × AreInOrder rest

pub rising : (spans : List Span) → AreInOrder spans → HaveRisingEdges spans
rising [] order = λ i j d before inside. absurd (omega arith)
rising (s ∷ rest) order =
    AllPairs-cons (λ x y. int_cmp x.edge y.edge ≡ Less) s rest (All-from_recursion (λ t. int_cmp s.edge t.edge ≡ Less) rest order.0) (rising rest order.1)

-- so many spans, whose edges rise and are none greater than this number
pub record RiseTo (count : ℕ) (spans : List Span) : Type 0 where
  pub rise : HaveRisingEdges spans
  pub below : All (λ span. span.edge ≤ℤ pos count) spans
  pub count_is : length spans ≡ count

pub rise_to_more : (count : ℕ) (old new : List Span) (span : Span) → RiseTo count old → span.edge ≡ pos (count + 1) → new ≡ old ++ span ∷ [] → RiseTo (count + 1) new
rise_to_more count old new span are edge new_is = subst (RiseTo (count + 1)) (sym new_is) (record {
  rise = all_pairs_push (λ x y. int_cmp x.edge y.edge ≡ Less) old span are.rise
      (λ k d inside. let low = are.below k d inside in sym (int_cmp_is _ span.edge Less (omega (arith, ints, low, edge))));
  below = All-push (λ s. s.edge ≤ℤ pos (count + 1)) old span
      (All-weaker (λ s. s.edge ≤ℤ pos count) (λ s. s.edge ≤ℤ pos (count + 1)) (λ s low. omega (arith, ints, low)) old are.below) (omega (arith, ints, edge));
  count_is = omega (arith, length_push old span, are.count_is);
})
