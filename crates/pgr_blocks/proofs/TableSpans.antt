-- The spans of the rows read so far, and of a table: once sorted their edges rise strictly, since no id stands twice.
use Rattle.std.proofs.Common.{◌≡◌, ◌≢◌, ◌⊎◌, inl, inr, ⊎_elim, ◌↔◌, ℕ, ◌+◌, ◌<◌, ◌≤◌, List, [], ◌∷◌, ◌++◌, length, take, map, get_or, Bool, false, Some, option_map, slice_get, sym, ap, subst, ◌∙◌, arith, Ordering, Less, Equal, Greater}
use Rattle.std.specs.List.{Any, Contains, AllPairs, IsDistinct}
use Rattle.std.specs.List.Sorted.{IsSorted, IsPermutation}
use Rattle.std.specs.Cmp.{IsTotalOrder, signed_Decides}
use Rattle.std.specs.Ordering.{int_cmp, int_eq, ordering_then, ordering_reverse, is_lt, is_eq}
use Rattle.std.proofs.lemmas.Bool.{cases_Bool, both_ways}
use Rattle.std.proofs.lemmas.Cmp.{int_cmp_total, int_eq_equiv, on_total, then_total}
use Rattle.std.proofs.lemmas.List.{take_more, take_all, length-map, length-take-le, get_or-take}
use Rattle.std.proofs.lemmas.Option.{get_or_from_slice_get, slice_get_within, slice_get-get_or, slice_get-map}
use Rattle.std.proofs.lemmas.List.Elements.{Contains-get_or, Contains-append_left, Contains-push, Contains-push_cases}
use Rattle.std.proofs.lemmas.List.Quantifiers.{all_pairs_push, Any-push}
use Rattle.std.proofs.lemmas.List.Sorted.{sorted_far, ranks_by, Contains-permutation, IsPermutation-sym}
use Rattle.std.proofs.lemmas.Map.Keys.{IsDistinct-from_apart, IsDistinct-IsPermutation, apart_from_distinct}
use Rattle.pgr_outside.proofs.Lists.{Any-append_left, Any-push_cases, take_one_more}
use Rattle.pgr_outside.specs.Lists.{IsWithoutRepeats}
use Rattle.pgr_table.specs.declared.row.EdgeRow.{EdgeRow}
use Rattle.pgr_spans.specs.declared.span.Span.{Span}
use Rattle.pgr_spans.specs.Lists.{HaveRisingEdges}
use Rattle.pgr_blocks.specs.Spans.{HasDirection, IsSpanOfTable, span_of, AreSpansOf}

-- exactly the spans of the rows, no two of one edge, in any order
pub record AreSpansOfRows (rows : List EdgeRow) (spans : List Span) : Type 0 where
  pub distinct : AllPairs (λ s t. s.edge ≢ t.edge) spans
  pub each : (span : Span) → Contains spans span ↔ IsSpanOfTable rows span

-- no rows have no spans
pub no_spans : (rows : List EdgeRow) → AreSpansOfRows (take 0 rows) []
no_spans rows = record {
  each = λ span. (λ h. absurd (omega (arith, h.1)), λ h. absurd (omega (arith, h.2)));
  distinct = λ i j d before inside. absurd (omega arith);
}

module _ (rows : List EdgeRow) (i : ℕ) (row : EdgeRow) (here : slice_get rows i ≡ Some row) where
  -- a row without a direction adds none
  pub spans_without : (spans : List Span) → (HasDirection row → ⊥) → AreSpansOfRows (take i rows) spans → AreSpansOfRows (take (i + 1) rows) spans
  spans_without spans none are = record {
    each = λ span.
        let P : EdgeRow → Type 0 = λ r. HasDirection r × (span_of r ≡ span) in
        let e = take_one_more rows i row here in (
          λ h. subst (Any P) (sym e) (Any-append_left P (take i rows) (row ∷ []) ((are.each span).0 h)),
          λ h. ⊎_elim (λ before. (are.each span).1 before) (λ last. absurd (none last.0)) (Any-push_cases P (take i rows) row (subst (Any P) e h)),
        );
    distinct = are.distinct;
  }

  -- a row with one adds its span, whose edge no earlier row has
  pub spans_more : (old new : List Span) → IsWithoutRepeats (map (λ r. r.id) rows) → HasDirection row → new ≡ old ++ span_of row ∷ []
      → AreSpansOfRows (take i rows) old → AreSpansOfRows (take (i + 1) rows) new
  spans_more old new ids has new_is are = subst (AreSpansOfRows (take (i + 1) rows)) (sym new_is) (record {
    each = λ span.
        let P : EdgeRow → Type 0 = λ r. HasDirection r × (span_of r ≡ span) in
        let e = take_one_more rows i row here in (
          λ h. subst (Any P) (sym e) (⊎_elim (λ before. Any-append_left P (take i rows) (row ∷ []) ((are.each span).0 before))
              (λ last. Any-push P (take i rows) row (has, last)) (Contains-push_cases old (span_of row) span h)),
          λ h. ⊎_elim (λ before. Contains-append_left old (span_of row ∷ []) span ((are.each span).1 before))
              (λ last. subst (Contains (old ++ span_of row ∷ [])) last.1 (Contains-push old (span_of row)))
              (Any-push_cases P (take i rows) row (subst (Any P) e h)),
        );
    distinct = all_pairs_push (λ s t. s.edge ≢ t.edge) old (span_of row) are.distinct (λ k d inside same.
        ids_differ (get_or old k d) same ((are.each (get_or old k d)).0 (Contains-get_or old k d inside)));
  })
    where
      ids_differ : (span : Span) → span.edge ≡ row.id → IsSpanOfTable (take i rows) span → ⊥
      ids_differ span same (k, r, inside, at, both) =
          let within : i < length rows = slice_get_within rows i row here in
          let before : k < i = omega (arith, inside, length-take-le i rows (omega arith)) in
          let there : slice_get rows k ≡ Some r =
          slice_get-get_or rows k r (omega arith) ∙ ap Some (sym (get_or-take i rows k r before) ∙ at) in
          let id : r.id ≡ row.id = ap (λ (s : Span). s.edge) both.1 ∙ same in
          ids k i before (omega (arith, length-map rows (λ (r : EdgeRow). r.id)))
          (slice_get-map (λ (r : EdgeRow). r.id) rows k ∙ ap (option_map (λ (r : EdgeRow). r.id)) there ∙ ap Some id
          ∙ sym (slice_get-map (λ (r : EdgeRow). r.id) rows i ∙ ap (option_map (λ (r : EdgeRow). r.id)) here))

-- the order of spans: by edge, then by the ends
abbrev pub span_cmp : Span → Span → Ordering
span_cmp s t = ordering_then (int_cmp s.edge t.edge) (ordering_then (int_cmp s.a t.a) (int_cmp s.b t.b))

span_total : IsTotalOrder span_cmp
span_total = then_total (on_total (λ (s : Span). s.edge) int_cmp_total)
    (then_total (on_total (λ (s : Span). s.a) int_cmp_total) (on_total (λ (s : Span). s.b) int_cmp_total))

-- of two different edges in order the first is less
less_edge : (o p q : Ordering) → o ≡ ordering_reverse p → (o ≡ Equal → ⊥) → is_lt (ordering_then p q) ≡ false → o ≡ Less
less_edge o Greater q e differ later = e
less_edge o Equal q e differ later = absurd (differ e)
less_edge o Less q e differ later = cc

-- sorted, spans of which no two have one edge rise by edge
edges_rise : (spans sorted : List Span) → AllPairs (λ s t. s.edge ≢ t.edge) spans → IsPermutation spans sorted → IsSorted span_cmp sorted → HaveRisingEdges sorted
edges_rise spans sorted differ moved in_order i j d before inside =
    let same : Span → Span → Bool = λ s t. int_eq s.edge t.edge in
    let apart : IsDistinct same spans =
    IsDistinct-from_apart same spans (λ m n x m_before n_inside. other (get_or spans m x) (get_or spans n x) (differ m n x m_before n_inside)) in
    let distinct : IsDistinct same sorted = IsDistinct-IsPermutation same (λ s t. int_eq_equiv.symm s.edge t.edge) spans sorted moved apart in
    let first = get_or sorted i d in
    let second = get_or sorted j d in
    less_edge (int_cmp first.edge second.edge) (int_cmp second.edge first.edge) (ordering_then (int_cmp second.a first.a) (int_cmp second.b first.b))
    (int_cmp_total.antisymm first.edge second.edge)
    (λ equal. both_ways (int_eq first.edge second.edge) (apart_from_distinct same sorted i j d distinct before inside) (ap is_eq equal))
    (sorted_far (λ x y. is_lt (span_cmp x y)) (ranks_by span_total (λ x. x)) sorted in_order i j d (omega arith) inside)
  where
    other : (s t : Span) → s.edge ≢ t.edge → int_eq s.edge t.edge ≡ false
    other s t apart = ⊎_elim (λ e. absurd (apart ((signed_Decides s.edge t.edge).0 e))) (λ e. e) (cases_Bool (int_eq s.edge t.edge))

-- a sort leaves the spans of the rows, rising by edge
pub sorted_spans : (rows : List EdgeRow) (i : ℕ) (spans sorted : List Span) → length rows ≤ i → AreSpansOfRows (take i rows) spans
    → IsPermutation spans sorted → IsSorted span_cmp sorted → AreSpansOf rows sorted
sorted_spans rows i spans sorted past so_far moved in_order =
    let are = subst (λ rs. AreSpansOfRows rs spans) (take_all i rows past) so_far in
    record {
      rise = edges_rise spans sorted are.distinct moved in_order;
      each = λ span. (
        λ h. (are.each span).0 (Contains-permutation sorted spans span (IsPermutation-sym spans sorted moved) h),
        λ h. Contains-permutation spans sorted span moved ((are.each span).1 h),
      );
    }
