-- The numbers of the starts with an end and of the sources of the rows are those of the names from which pairs are asked for.
use Rattle.std.proofs.Common.{◌≡◌, ℕ, ℤ, pos, false, ◌+◌, ◌<◌, ⊎_elim, inl, inr, List, [], ◌∷◌, length, get_or, take, Some, slice_get, refl, sym, ap, ◌∙◌, arith}
use Rattle.std.specs.Prelude.{◌↔◌, ◌==◌, Contains}
use Rattle.std.proofs.lemmas.Option.{get_or_from_slice_get, slice_get_within}
use Rattle.std.proofs.lemmas.List.Elements.{Contains-get_or}
use Rattle.pgr_table.specs.declared.row.PairRow.{PairRow}
use Rattle.pgr_numbers.specs.Names.{id_at}
use Rattle.pgr_answer.specs.Pairs.{IsAsked}
use Rattle.pgr_answer.specs.Gathering.{AreNumbersOf, GainsNumber}
use Rattle.pgr_answer.specs.Noting.{IsNumberedStart, HaveAnEnd, GainsSources}
use Rattle.pgr_answer.proofs.PairLemmas.{take_cases}

-- where there is an end, each start has one
pub all_listed : (starts ends : List ℤ) → 0 < length ends → HaveAnEnd starts ends starts
all_listed starts ends some id = (λ h. (h, (get_or ends 0 (pos 0), Contains-get_or ends 0 (pos 0) some)), λ h. h.0)

-- a list that isn't empty has an element
pub some_end : (ends : List ℤ) → (length ends == 0) ≡ false → 0 < length ends
some_end [] e = absurd cc
some_end (end ∷ ends) e = omega arith

-- no rows have no sources
pub no_sources : (names : List ℤ) (numbers : List ℕ) → GainsSources names [] numbers numbers
no_sources names numbers n = (inl, ⊎_elim (λ h. h) (λ h. absurd (omega (arith, h.1.1.1))))

-- rows are the same where their parts are
same_row : (a b : PairRow) → a.source ≡ b.source → a.target ≡ b.target → a ≡ b
same_row a b source target = λ i. record { source = source i; target = target i }

-- one row more
pub gains_source : (names : List ℤ) (rows : List PairRow) (i : ℕ) (row : PairRow) (old middle new : List ℕ) → slice_get rows i ≡ Some row
    → GainsSources names (take i rows) old middle → GainsNumber names row.source middle new → GainsSources names (take (i + 1) rows) old new
gains_source names rows i row old middle new here so_far more n =
    let row_is : get_or rows i row ≡ row = get_or_from_slice_get rows i row row here in
    let within = slice_get_within rows i row here in
    let s = so_far n in
    let m = more n in
    let this = λ (end : ℤ). take_cases rows i row (record { source = id_at names n; target = end }) within in (
      λ h. ⊎_elim
          (λ before. ⊎_elim inl (λ l. inr (l.0, (l.1.0, (this l.1.0).1 (inl l.1.1)))) (s.0 before))
          (λ l. inr (l.0, (row.target, (this row.target).1 (inr (same_row (record { source = id_at names n; target = row.target }) row l.1 refl ∙ sym row_is)))))
          (m.0 h),
      λ h. ⊎_elim
          (λ l. m.1 (inl (s.1 (inl l))))
          (λ l. ⊎_elim (λ before. m.1 (inl (s.1 (inr (l.0, (l.1.0, before)))))) (λ is. m.1 (inr (l.0, ap (λ (r : PairRow). r.source) (is ∙ row_is)))) ((this l.1.0).0 l.1.1))
          h,
    )

-- the numbers of the starts with an end, and of the sources
pub starts_asked : (names starts ends : List ℤ) (rows : List PairRow) (listed : List ℤ) (first new : List ℕ) → HaveAnEnd starts ends listed → AreNumbersOf names listed first
    → GainsSources names rows first new → (n : ℕ) → Contains new n ↔ IsNumberedStart names (IsAsked starts ends rows) n
starts_asked names starts ends rows listed first new have are gains n =
    let a = are n in
    let g = gains n in
    let e = have (id_at names n) in (
      λ h. ⊎_elim
          (λ f. let k = a.0 f in let l = e.0 k.1 in (k.0, (l.1.0, inl (l.0, l.1.1))))
          (λ l. (l.0, (l.1.0, inr l.1.1)))
          (g.0 h),
      λ h. ⊎_elim
          (λ both. g.1 (inl (a.1 (h.0, e.1 (both.0, (h.1.0, both.1))))))
          (λ row. g.1 (inr (h.0, (h.1.0, row))))
          h.1.1,
    )
