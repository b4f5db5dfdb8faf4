-- What was found under the tops of far ends is the name of a block, and whether a span is alone in it.
use Rattle.std.proofs.Common.{◌≡◌, ◌≢◌, ◌↔◌, ◌⊎◌, inl, inr, ⊎_elim, ℕ, zero, suc, ◌<◌, ◌≤◌, Bool, true, false, cond, eqb, List, [], ◌∷◌, length, get_or, Option, Some, None, ℤ, ◌≤ℤ◌, refl, sym, subst, ◌∙◌, ap, arith, Less, Equal}
use Rattle.std.specs.Bool.{MatchBool}
use Rattle.std.specs.List.{Contains, AllPairs, flat_map}
use Rattle.std.specs.Ordering.{int_cmp}
use Rattle.std.proofs.lemmas.Bool.{cases_lt, eqb-false, ne_eqb, eq-eqb}
use Rattle.std.proofs.lemmas.List.{get_or_default}
use Rattle.std.proofs.lemmas.Int.{ints}
use Rattle.std.proofs.lemmas.Cmp.{int_cmp_total, tied_itself}
use Rattle.pgr_numbers.specs.Names.{id_at}
use Rattle.pgr_spans.specs.declared.span.Span.{Span}
use Rattle.pgr_spans.specs.declared.classed.Classed.{Classed}
use Rattle.pgr_spans.specs.declared.segment.Segment.{Segment}
use Rattle.pgr_spans.specs.declared.member.Member.{Member}
use Rattle.pgr_spans.specs.declared.seen.Entry.{Entry}
use Rattle.pgr_spans.specs.declared.seen.Seen.{Seen}
use Rattle.pgr_spans.specs.Block.{InOneBlock, IsBlockName}
use Rattle.pgr_spans.specs.Lists.{HaveRisingEdges, AreClasses}
use Rattle.pgr_spans.specs.Forest.{IsAncestor, IsForest, rung_of}
use Rattle.pgr_spans.specs.Seen.{IsUnderKey, IsKnown}
use Rattle.pgr_spans.specs.Member.{entry_of, member_of, member_seen, AreFound}
use Rattle.pgr_spans.proofs.Outside.{cases_id, block_sym, block_trans, loop_alone}
use Rattle.pgr_spans.proofs.SameBlock.{block_by_top, top_by_block}
use Rattle.pgr_spans.proofs.Numbering.{IsSegmentOf}
use Rattle.pgr_outside.proofs.Lists.{Contains-map, Contains-from_map, Contains-flat_map, Contains-from_flat_map}

-- two spans of one edge are one
pub one_span : (spans : List Span) → HaveRisingEdges spans → (s t : Span) → Contains spans s → Contains spans t → s.edge ≡ t.edge → s ≡ t
one_span spans rise s t (i, i_inside, i_is) (j, j_inside, j_is) same = by (cases_lt i j) (cases_lt j i) where
  clash : (e f : Span) (m n : ℕ) → m < n → n < length spans → get_or spans m e ≡ e → get_or spans n f ≡ f → e.edge ≡ f.edge → ⊥
  clash e f m n before inside m_is n_is equal =
      let m_at : get_or spans m f ≡ e = get_or_default spans m f e (omega arith) ∙ m_is in
      let less : int_cmp (get_or spans m f).edge (get_or spans n f).edge ≡ Less = rise m n f before inside in
      let left = ap (λ x. x.edge) m_at ∙ equal in
      let right = ap (λ x. x.edge) n_is in
      let tied : int_cmp (get_or spans m f).edge (get_or spans n f).edge ≡ Equal = ap (λ x. int_cmp x (get_or spans n f).edge) left
      ∙ (ap (int_cmp f.edge) right ∙ tied_itself int_cmp_total f.edge) in
      cc

  by : (i < j) ⊎ (j ≤ i) → (j < i) ⊎ (i ≤ j) → s ≡ t
  by (inl before) other = absurd (clash s t i j before j_inside i_is j_is same)
  by (inr le) (inl before) = absurd (clash t s j i before i_inside j_is i_is (sym same))
  by (inr le) (inr other) =
      let at : i ≡ j = omega arith in
      sym i_is ∙ (ap (λ n. get_or spans n s) at ∙ (get_or_default spans j s t j_inside ∙ j_is))

-- names of blocks are the same exactly where the spans are in one block
module _ (spans : List Span) (rise : HaveRisingEdges spans) where
  pub block_by_name : (s t : Span) (name : ℤ) → Contains spans t → IsBlockName spans s name → IsBlockName spans t name → InOneBlock spans s t
  block_by_name s t name t_has s_name t_name =
      let (u, u_has, s_u, u_is) = s_name.member in
      let (w, w_has, t_w, w_is) = t_name.member in
      let one = one_span spans rise u w u_has w_has (u_is ∙ sym w_is) in
      block_trans spans s u t s_u (block_sym spans t u t_has (subst (InOneBlock spans t) (sym one) t_w))

  pub name_by_block : (s t : Span) (m n : ℤ) → Contains spans s → Contains spans t → IsBlockName spans s m → IsBlockName spans t n → InOneBlock spans s t → m ≡ n
  name_by_block s t m n s_has t_has s_name t_name block =
      let (u, u_has, s_u, u_is) = s_name.member in
      let (w, w_has, t_w, w_is) = t_name.member in
      let first : m ≤ℤ n = subst (λ z. m ≤ℤ z) w_is (s_name.least w w_has (block_trans spans s t w block t_w)) in
      let second : n ≤ℤ m = subst (λ z. n ≤ℤ z) u_is (t_name.least u u_has (block_trans spans t s u (block_sym spans s t s_has block) s_u)) in
      omega (arith, ints, first, second)

  -- classes of two spans have one component exactly where the spans are in one block
  pub one_component : (classes : List Classed) → AreClasses spans classes → (s t : Span) (c d : Classed) → Contains spans s → Contains spans t
      → Contains classes c → Contains classes d → c.edge ≡ s.edge → d.edge ≡ t.edge → (c.component ≡ d.component) ↔ InOneBlock spans s t
  one_component classes are s t c d s_has t_has c_has d_has c_edge d_edge =
      let (u, u_has, c_u, u_name) = (are.each c).0 c_has in
      let (w, w_has, d_w, w_name) = (are.each d).0 d_has in
      let s_name = subst (λ x. IsBlockName spans x c.component) (one_span spans rise u s u_has s_has (sym c_u ∙ c_edge)) u_name in
      let t_name = subst (λ x. IsBlockName spans x d.component) (one_span spans rise w t w_has t_has (sym d_w ∙ d_edge)) w_name in (
        λ same. block_by_name s t d.component t_has (subst (IsBlockName spans s) same s_name) t_name,
        λ block. name_by_block s t c.component d.component s_has t_has s_name t_name block,
      )

-- a span as a member: its edge and places, the name of its block, and whether it is alone in it
pub record IsMemberOf (spans : List Span) (names : List ℤ) (span : Span) (member : Member) : Type 0 where
  pub edge : member.edge ≡ span.edge
  pub from : id_at names member.from ≡ span.a
  pub to : id_at names member.to ≡ span.b
  pub from_below : member.from < length names
  pub to_below : member.to < length names
  pub name : IsBlockName spans span member.component
  pub alone : MatchBool member.alone ((other : Span) → Contains spans other → other ≢ span → InOneBlock spans span other → ⊥)
      ((other : Span) × Contains spans other × (other ≢ span) × InOneBlock spans span other)

module _ (spans : List Span) (rise : HaveRisingEdges spans) (names : List ℤ) (number : ℤ → ℕ) (parents : List (Option ℕ)) (forest : IsForest spans number parents)
    (segments : List Segment) (of_span : (s : Span) → Contains spans s → (segment : Segment) × Contains segments segment × IsSegmentOf names number s segment)
    (of_segment : (segment : Segment) → Contains segments segment → (s : Span) × Contains spans s × IsSegmentOf names number s segment) (members : List Member)
    (are : AreFound parents segments members) where
  low : (v : ℕ) → v < length parents → (get_or are.lows v 0 ≡ v)
      ⊎ ((span : Span) × Contains spans span × ((rung_of number span).near ≡ get_or are.lows v 0) × IsAncestor parents v (rung_of number span).far)
  low v inside = ⊎_elim
      (λ itself. inl itself)
      (λ (segment, has, near, under).
      let (s, s_has, is) = of_segment segment has in
      inr (s, s_has, sym is.near ∙ near, subst (IsAncestor parents v) is.far under))
      (are.are_lows.are_reached.reached v inside)

  least : (v : ℕ) (span : Span) → Contains spans span → IsAncestor parents v (rung_of number span).far → get_or are.lows v 0 ≤ (rung_of number span).near
  least v span has under =
      let (segment, segment_has, is) = of_span span has in
      subst (λ n. get_or are.lows v 0 ≤ n) is.near (are.are_lows.least v segment segment_has (subst (IsAncestor parents v) (sym is.far) under))

  -- a span whose ends differ has two numbers
  numbers_differ : (s : Span) → Contains spans s → s.a ≢ s.b → (rung_of number s).near ≢ (rung_of number s).far
  numbers_differ s has differ same =
      differ (forest.one s.a s.b (s, has, inl refl) (s, has, inr refl) (omega arith))

  -- and a loop one
  numbers_same : (s : Span) → s.a ≡ s.b → (rung_of number s).near ≡ (rung_of number s).far
  numbers_same s loop = let e = ap number loop in omega arith

  ends_by_numbers : (s : Span) → (rung_of number s).near ≢ (rung_of number s).far → s.a ≢ s.b
  ends_by_numbers s differ loop = differ (numbers_same s loop)

  -- the edge of a span whose ends differ stands under the top of its far end
  under_has : (s : Span) (segment : Segment) → IsSegmentOf names number s segment → Contains segments segment → (rung_of number s).near ≢ (rung_of number s).far
      → IsUnderKey (flat_map (entry_of are.tops) segments) (get_or are.tops (rung_of number s).far 0) s.edge
  under_has s segment is has differ =
      let apart : eqb segment.near segment.far ≡ false = ne_eqb segment.near segment.far (λ same. differ (sym is.near ∙ (same ∙ is.far))) in
      let entry : Entry = record { key = get_or are.tops segment.far 0; value = segment.edge } in
      let among : Contains (entry_of are.tops segment) entry = subst (λ b. Contains (cond b [] (entry ∷ [])) entry) (sym apart) (0, omega arith, refl) in
      let there : IsUnderKey (flat_map (entry_of are.tops) segments) (get_or are.tops segment.far 0) segment.edge = Contains-flat_map
      (entry_of are.tops) segments segment entry has among in
      subst (λ e. IsUnderKey (flat_map (entry_of are.tops) segments) (get_or are.tops (rung_of number s).far 0) e) is.edge
      (subst (λ far. IsUnderKey (flat_map (entry_of are.tops) segments) (get_or are.tops far 0) segment.edge) is.far there)

  -- what stands under a key is the edge of such a span
  record StandsFor (key : ℕ) (value : ℤ) : Type 0 where
    span : Span
    has : Contains spans span
    differ : (rung_of number span).near ≢ (rung_of number span).far
    top : get_or are.tops (rung_of number span).far 0 ≡ key
    edge : span.edge ≡ value

  stands_for : (key : ℕ) (value : ℤ) → IsUnderKey (flat_map (entry_of are.tops) segments) key value → StandsFor key value
  stands_for key value there =
      let entry : Entry = record { key = key; value = value } in
      let (segment, segment_has, among) = Contains-from_flat_map (entry_of are.tops) segments entry there in
      let (s, s_has, is) = of_segment segment segment_has in
      by segment s s_has is (eqb segment.near segment.far) refl among where
        by : (segment : Segment) (s : Span) → Contains spans s → IsSegmentOf names number s segment → (b : Bool) → eqb segment.near segment.far ≡ b
            → Contains {X = Entry} (cond b [] (record { key = get_or are.tops segment.far 0; value = segment.edge } ∷ [])) (record { key = key; value = value })
            → StandsFor key value
        by segment s s_has is true e (k, inside, at) = absurd (omega arith)
        by segment s s_has is false e (zero, inside, at) = record {
          span = s;
          has = s_has;
          differ = λ same. eqb-false segment.near segment.far e (is.near ∙ (same ∙ sym is.far));
          top = ap (λ n. get_or are.tops n 0) (sym is.far) ∙ ap (λ x. x.key) at;
          edge = sym is.edge ∙ ap (λ x. x.value) at;
        }
        by segment s s_has is false e (suc k, inside, at) = absurd (omega arith)

  -- a loop is alone
  loop_member : (s : Span) (segment : Segment) → Contains spans s → IsSegmentOf names number s segment → s.a ≡ s.b → IsMemberOf spans names s (member_seen segment None)
  loop_member s segment has is loop = record {
    edge = is.edge;
    from = is.from;
    to = is.to;
    from_below = is.from_below;
    to_below = is.to_below;
    name = record {
      member = (s, has, inl refl, sym is.edge);
      least = λ other other_has block.
          let same : segment.edge ≡ other.edge = is.edge ∙ ap (λ x. x.edge) (loop_alone spans s other loop block) in
          omega (arith, ints, same);
    };
    alone = λ other other_has differs block. differs (sym (loop_alone spans s other loop block));
  }

  module _ (ordered : AllPairs (λ e f. e.value ≤ℤ f.value) (flat_map (entry_of are.tops) segments)) where
    -- a span whose ends differ, by what is known under its top
    seen_member : (s : Span) (segment : Segment) → Contains spans s → Contains segments segment → IsSegmentOf names number s segment → s.a ≢ s.b → (known : Option Seen)
        → IsKnown (flat_map (entry_of are.tops) segments) (get_or are.tops (rung_of number s).far 0) known → IsMemberOf spans names s (member_seen segment known)
    seen_member s segment has segment_has is differ None none =
        absurd (none s.edge (under_has s segment is segment_has (numbers_differ s has differ)))
    seen_member s segment has segment_has is differ (Some seen) known = record {
      edge = is.edge;
      from = is.from;
      to = is.to;
      from_below = is.from_below;
      to_below = is.to_below;
      name = record {
        member = (let first = stands_for (get_or are.tops (rung_of number s).far 0) seen.first
            known.first in (first.span, first.has, in_block first.span first.has first.differ first.top, first.edge));
        least = λ other other_has block. known.least ordered other.edge (under other other_has block);
      };
      alone = alone seen.same known.others;
    } where
      s_differ : (rung_of number s).near ≢ (rung_of number s).far
      s_differ = numbers_differ s has differ

      in_block : (t : Span) → Contains spans t → (rung_of number t).near ≢ (rung_of number t).far
          → get_or are.tops (rung_of number t).far 0 ≡ get_or are.tops (rung_of number s).far 0 → InOneBlock spans s t
      in_block t t_has t_differ top =
          block_by_top spans number parents forest are.lows are.tops low least are.are_tops.each s t has t_has s_differ t_differ (sym top)

      under : (t : Span) → Contains spans t → InOneBlock spans s t → IsUnderKey (flat_map (entry_of are.tops) segments) (get_or are.tops (rung_of number s).far 0) t.edge
      under t t_has block =
          let (t_segment, t_segment_has, t_is) = of_span t t_has in
          let t_differ : t.a ≢ t.b = (λ loop. differ (subst (λ x. x.a ≡ x.b) (loop_alone spans t s loop (block_sym spans s t has block)) loop)) in
          let top = top_by_block spans number parents forest are.lows are.tops low least are.are_tops.each s t has t_has s_differ (numbers_differ t t_has t_differ) block in
          subst (λ key. IsUnderKey (flat_map (entry_of are.tops) segments) key t.edge) (sym top) (under_has t t_segment t_is t_segment_has (numbers_differ t t_has t_differ))

      alone : (same : Bool) → MatchBool same ((value : ℤ) → IsUnderKey (flat_map (entry_of are.tops) segments) (get_or are.tops (rung_of number s).far 0) value
          → value ≡ seen.first) ((value : ℤ) × IsUnderKey (flat_map (entry_of are.tops) segments) (get_or are.tops (rung_of number s).far 0) value × (value ≢ seen.first))
          → MatchBool same ((other : Span) → Contains spans other → other ≢ s → InOneBlock spans s other → ⊥)
          ((other : Span) × Contains spans other × (other ≢ s) × InOneBlock spans s other)
      alone true all = λ other other_has differs block.
          differs (one_span spans rise other s other_has has (all other.edge (under other other_has block) ∙ sym (all s.edge (under s has (inl refl)))))
      alone false (value, there, not) =
          let first = stands_for (get_or are.tops (rung_of number s).far 0) seen.first known.first in
          let second = stands_for (get_or are.tops (rung_of number s).far 0) value there in
          ⊎_elim
          (λ is_first. (second.span, second.has, (λ same. not (sym second.edge ∙ (ap (λ x. x.edge) same ∙ is_first))), in_block second.span second.has second.differ second.top))
          (λ not_first. (first.span, first.has, (λ same. not_first (ap (λ x. x.edge) (sym same) ∙ first.edge)), in_block first.span first.has first.differ first.top))
          (cases_id s.edge seen.first)

    -- the member of a segment is that of its span
    segment_member : (s : Span) (segment : Segment) → Contains spans s → Contains segments segment → IsSegmentOf names number s segment
        → IsMemberOf spans names s (member_of are.tops are.found segment)
    segment_member s segment has segment_has is = by (cases_id s.a s.b) where
      by : (s.a ≡ s.b) ⊎ (s.a ≢ s.b) → IsMemberOf spans names s (member_of are.tops are.found segment)
      by (inl loop) =
          let same : eqb segment.near segment.far ≡ true = eq-eqb segment.near segment.far (is.near ∙ (numbers_same s loop ∙ sym is.far)) in
          subst (λ b. IsMemberOf spans names s (member_seen segment (cond b None (get_or are.found (get_or are.tops segment.far 0) None)))) (sym same)
          (loop_member s segment has is loop)
      by (inr differ) =
          let apart : eqb segment.near segment.far ≡ false = ne_eqb segment.near segment.far (λ same. numbers_differ s has differ (sym is.near ∙ (same ∙ is.far))) in
          let far_below : (rung_of number s).far < length parents = forest.below s has in
          let top_le : get_or are.tops (rung_of number s).far 0 ≤ (rung_of number s).far = are.are_tops.no_greater (rung_of number s).far far_below in
          let known = are.are_found.each (get_or are.tops (rung_of number s).far 0) (omega arith) in
          let member = seen_member s segment has segment_has is differ (get_or are.found (get_or are.tops (rung_of number s).far 0) None) known in
          subst (λ b. IsMemberOf spans names s (member_seen segment (cond b None (get_or are.found (get_or are.tops segment.far 0) None)))) (sym apart)
          (subst (λ far. IsMemberOf spans names s (member_seen segment (get_or are.found (get_or are.tops far 0) None))) (sym is.far) member)

    pub member_of_span : (s : Span) → Contains spans s → (member : Member) × Contains members member × IsMemberOf spans names s member
    member_of_span s has =
        let (segment, segment_has, is) = of_span s has in (
          member_of are.tops are.found segment,
          subst (λ ms. Contains ms (member_of are.tops are.found segment)) (sym are.members_are) (Contains-map (member_of are.tops are.found) segments segment segment_has),
          segment_member s segment has segment_has is,
        )

    pub span_of_member : (member : Member) → Contains members member → (s : Span) × Contains spans s × IsMemberOf spans names s member
    span_of_member member has =
        let (segment, segment_has, same) = Contains-from_map (member_of are.tops are.found) segments member (subst (λ ms. Contains ms member) are.members_are has) in
        let (s, s_has, is) = of_segment segment segment_has in
        (s, s_has, subst (IsMemberOf spans names s) (sym same) (segment_member s segment s_has segment_has is))
