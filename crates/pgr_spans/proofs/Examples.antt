-- Small cases of blocks, articulation points and bridges, computed over the definitions.
use Rattle.std.proofs.Common.{◌≡◌, ◌≢◌, ◌⊎◌, inl, inr, ⊎_elim, ℕ, zero, suc, ◌<◌, ℤ, pos, List, [], ◌∷◌, refl, sym, subst, ◌∙◌, ap, arith}
use Rattle.std.specs.List.{Contains}
use Rattle.std.proofs.lemmas.Int.{ints}
use Rattle.pgr_spans.specs.declared.span.Span.{Span}
use Rattle.pgr_spans.specs.Linked.{HasEnd, ShareAnEndBeside, LeadsOn}
use Rattle.pgr_spans.specs.Block.{InOneBlock, IsBlockName}
use Rattle.pgr_spans.specs.ArticulationPoint.{IsArticulationPoint}
use Rattle.pgr_spans.specs.Bridge.{IsBridge}
use Rattle.pgr_spans.proofs.Outside.{cases_id}

abbrev span : ℕ → ℕ → ℕ → Span
span edge a b = record { edge = pos edge; a = pos a; b = pos b }

-- what is in a list of one or of two
in_one : (s x : Span) → Contains (s ∷ []) x → s ≡ x
in_one s x (zero, inside, is) = is
in_one s x (suc k, inside, is) = absurd (omega arith)

in_two : (s t x : Span) → Contains (s ∷ t ∷ []) x → (s ≡ x) ⊎ (t ≡ x)
in_two s t x (zero, inside, is) = inl is
in_two s t x (suc zero, inside, is) = inr is
in_two s t x (suc (suc k), inside, is) = absurd (omega arith)

-- different ids
apart : (m n : ℕ) → m < n → pos m ≢ pos n
apart m n less same = omega (arith, ints, same)

-- a self loop names its own block, and is no bridge
a_loop_names_its_block : IsBlockName (span 1 5 5 ∷ []) (span 1 5 5) (pos 1)
a_loop_names_its_block = record {
  member = (span 1 5 5, (0, omega arith, refl), inl refl, refl);
  least = λ other has block. let is = ap (λ s. s.edge) (in_one (span 1 5 5) other has) in omega (arith, ints, is);
}

a_loop_is_no_bridge : IsBridge (span 1 5 5 ∷ []) (span 1 5 5) → ⊥
a_loop_is_no_bridge bridge = bridge.0 refl

-- a single span is a bridge
one_span_is_a_bridge : IsBridge (span 1 5 6 ∷ []) (span 1 5 6)
one_span_is_a_bridge = (apart 5 6 (omega arith), λ joins. joins.has.1 (sym (in_one (span 1 5 6) joins.first joins.has.0)))

-- parallel spans are in one block, whatever the vertex, and no bridges
parallel_spans_are_in_one_block : InOneBlock (span 1 5 6 ∷ span 2 6 5 ∷ []) (span 1 5 6) (span 2 6 5)
parallel_spans_are_in_one_block = inr (λ x. ⊎_elim
    (λ at_five. (span 2 6 5 ∷ [], ((1, omega arith, refl), (pos 6, (λ same. apart 5 6 (omega arith) (sym at_five ∙ sym same)), inr refl, inl refl), refl)))
    (λ beside. (span 2 6 5 ∷ [], ((1, omega arith, refl), (pos 5, (λ same. beside (sym same)), inl refl, inr refl), refl)))
    (cases_id x (pos 5)))

a_parallel_span_is_no_bridge : IsBridge (span 1 5 6 ∷ span 2 6 5 ∷ []) (span 1 5 6) → ⊥
a_parallel_span_is_no_bridge bridge = bridge.1 (record {
  first = span 2 6 5;
  rest = [];
  last = span 2 6 5;
  has = ((1, omega arith, refl), λ same. apart 1 2 (omega arith) (sym (ap (λ s. s.edge) same)));
  from = inr refl;
  leads = refl;
  to = inl refl;
})

-- of two spans at one vertex it is a point, and they are in two blocks
the_middle_is_a_point : IsArticulationPoint (span 1 5 6 ∷ span 2 6 7 ∷ []) (pos 6)
the_middle_is_a_point = (
  pos 5,
  pos 7,
  apart 5 7 (omega arith),
  apart 5 6 (omega arith),
  (λ same. apart 6 7 (omega arith) (sym same)),
  record {
    first = span 1 5 6;
    rest = span 2 6 7 ∷ [];
    last = span 2 6 7;
    has = (0, omega arith, refl);
    from = inl refl;
    leads =
        ((1, omega arith, refl), (pos 6, inr refl, inl refl), refl);
    to = inr refl;
  },
  λ joins. joins.has.1 (⊎_elim
      (λ is. subst (λ s. HasEnd s (pos 6)) is (inr refl))
      (λ is. subst (λ s. HasEnd s (pos 6)) is (inl refl))
      (in_two (span 1 5 6) (span 2 6 7) joins.first joins.has.0)),
)

-- outside the middle nothing leads on from the first span
stays_first : (rest : List Span) (e : Span) → span 1 5 6 ≡ e → LeadsOn (Contains (span 1 5 6 ∷ span 2 6 7 ∷ [])) (ShareAnEndBeside (pos 6)) e rest (span 2 6 7) → ⊥
stays_first [] e is leads = apart 1 2 (omega arith) (ap (λ s. s.edge) (is ∙ leads))
stays_first (next ∷ rest) e is (has, (y, beside, y_e, y_next), leads) = ⊎_elim
    (λ first. stays_first rest next first leads)
    (λ second. shares (subst (λ s. HasEnd s y) (sym is) y_e) (subst (λ s. HasEnd s y) (sym second) y_next))
    (in_two (span 1 5 6) (span 2 6 7) next has) where
      shares : HasEnd (span 1 5 6) y → HasEnd (span 2 6 7) y → ⊥
      shares (inl five) (inl six) = beside six
      shares (inl five) (inr seven) = apart 5 7 (omega arith) (sym five ∙ seven)
      shares (inr six) other = beside six

they_are_in_two_blocks : InOneBlock (span 1 5 6 ∷ span 2 6 7 ∷ []) (span 1 5 6) (span 2 6 7) → ⊥
they_are_in_two_blocks (inl same) = apart 1 2 (omega arith) (ap (λ s. s.edge) same)
they_are_in_two_blocks (inr linked) = let outside = linked (pos 6) in stays_first outside.0 (span 1 5 6) refl outside.1

-- two spans of a triangle are in one block: outside the end that they share the third leads round
a_triangle_is_one_block : InOneBlock (span 1 5 6 ∷ span 2 6 7 ∷ span 3 7 5 ∷ []) (span 1 5 6) (span 2 6 7)
a_triangle_is_one_block = inr (λ x. ⊎_elim
    (λ at_six. (
      span 3 7 5 ∷ span 2 6 7 ∷ [],
      (
        (2, omega arith, refl),
        (pos 5, (λ same. apart 5 6 (omega arith) (same ∙ at_six)), inl refl, inr refl),
        ((1, omega arith, refl), (pos 7, (λ same. apart 6 7 (omega arith) (sym at_six ∙ sym same)), inl refl, inr refl), refl),
      ),
    ))
    (λ beside. (span 2 6 7 ∷ [], ((1, omega arith, refl), (pos 6, (λ same. beside (sym same)), inr refl, inl refl), refl)))
    (cases_id x (pos 6)))

-- two spans without a common end are bridges, and no vertex is parted
two_parts_have_two_blocks : InOneBlock (span 1 5 6 ∷ span 2 7 8 ∷ []) (span 1 5 6) (span 2 7 8) → ⊥
two_parts_have_two_blocks (inl same) = apart 1 2 (omega arith) (ap (λ s. s.edge) same)
two_parts_have_two_blocks (inr linked) = let outside = linked (pos 9) in stays_in_part outside.0 (span 1 5 6) refl outside.1 where
  stays_in_part : (rest : List Span) (e : Span) → span 1 5 6 ≡ e → LeadsOn (Contains (span 1 5 6 ∷ span 2 7 8 ∷ [])) (ShareAnEndBeside (pos 9)) e rest (span 2 7 8) → ⊥
  stays_in_part [] e is leads = apart 1 2 (omega arith) (ap (λ s. s.edge) (is ∙ leads))
  stays_in_part (next ∷ rest) e is (has, (y, beside, y_e, y_next), leads) = ⊎_elim
      (λ first. stays_in_part rest next first leads)
      (λ second. shares y (subst (λ s. HasEnd s y) (sym is) y_e) (subst (λ s. HasEnd s y) (sym second) y_next))
      (in_two (span 1 5 6) (span 2 7 8) next has) where
        shares : (z : ℤ) → HasEnd (span 1 5 6) z → HasEnd (span 2 7 8) z → ⊥
        shares z (inl five) (inl seven) = apart 5 7 (omega arith) (sym five ∙ seven)
        shares z (inl five) (inr eight) = apart 5 8 (omega arith) (sym five ∙ eight)
        shares z (inr six) (inl seven) = apart 6 7 (omega arith) (sym six ∙ seven)
        shares z (inr six) (inr eight) = apart 6 8 (omega arith) (sym six ∙ eight)
