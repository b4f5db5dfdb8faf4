-- The spans over the numbers that a search into the depth gave: a forest of which each span is near.
use Rattle.std.proofs.Common.{◌≡◌, ◌⊎◌, inl, inr, ⊎_elim, ℕ, zero, suc, ◌<◌, ◌≤◌, min, max, Bool, true, false, cond, List, [], ◌∷◌, length, get_or, map, Option, Some, unwrap_or, ℤ, pos, refl, sym, subst, ◌∙◌, ap, arith, Less, Equal}
use Rattle.std.specs.List.{Contains}
use Rattle.std.specs.Ordering.{int_eq, int_cmp}
use Rattle.std.specs.Cmp.{signed_Decides}
use Rattle.std.proofs.lemmas.Bool.{cases_lt, both_ways}
use Rattle.std.proofs.lemmas.Cmp.{int_cmp_total, tied_itself}
use Rattle.std.proofs.lemmas.List.Elements.{All-contains, Contains-get_or}
use Rattle.pgr_outside.specs.Lists.{IsStrictlyRising}
use Rattle.pgr_walks.specs.declared.link.LinkOf.{LinkOf}
use Rattle.pgr_numbers.specs.Names.{AreNumbered, IsNumbered, id_at, named}
use Rattle.pgr_spans.specs.declared.span.Span.{Span}
use Rattle.pgr_spans.specs.declared.arrow.Arrow.{Arrow}
use Rattle.pgr_spans.specs.declared.segment.Segment.{Segment}
use Rattle.pgr_spans.specs.Linked.{HasEnd, IsEndOf}
use Rattle.pgr_spans.specs.Forest.{IsAncestor, IsForest, Rung, rung_of}
use Rattle.pgr_spans.specs.Exploring.{number_at, AreRelated, AreLinked, IsDepthFirst}
use Rattle.pgr_spans.specs.Network.{link_of, AreArrows}
use Rattle.pgr_spans.specs.Segment.{number_of, segment_by}
use Rattle.pgr_spans.proofs.Ancestors.{ancestor_le}
use Rattle.pgr_outside.proofs.Lists.{Contains-map, Contains-from_map}

-- the place of an id in a list
abbrev pub place_of : List ℤ → ℤ → ℕ
place_of [] y = 0
place_of (x ∷ xs) y = cond (int_eq x y) 0 (suc (place_of xs y))

place_is : (names : List ℤ) (y : ℤ) → Contains names y → (place_of names y < length names) × (get_or names (place_of names y) (pos 0) ≡ y)
place_is [] y (k, inside, is) = absurd (omega arith)
place_is (x ∷ xs) y (k, inside, is) = by (int_eq x y) refl k inside is (λ n below at. place_is xs y (n, below, at)) where
  by : (b : Bool) → int_eq x y ≡ b → (n : ℕ) → n < length (x ∷ xs) → get_or (x ∷ xs) n y ≡ y
      → ((n : ℕ) → n < length xs → get_or xs n y ≡ y → (place_of xs y < length xs) × (get_or xs (place_of xs y) (pos 0) ≡ y))
      → (place_of (x ∷ xs) y < length (x ∷ xs)) × (get_or (x ∷ xs) (place_of (x ∷ xs) y) (pos 0) ≡ y)
  by true e n below at on =
      subst (λ b. (cond b 0 (suc (place_of xs y)) < length (x ∷ xs)) × (get_or (x ∷ xs) (cond b 0 (suc (place_of xs y))) (pos 0) ≡ y)) (sym e)
      (omega arith, (signed_Decides x y).0 e)
  by false e zero below at on = absurd (both_ways (int_eq x y) e ((signed_Decides x y).1 at))
  by false e (suc n) below at on =
      let found = on n (omega arith) at in
      subst (λ b. (cond b 0 (suc (place_of xs y)) < length (x ∷ xs)) × (get_or (x ∷ xs) (cond b 0 (suc (place_of xs y))) (pos 0) ≡ y)) (sym e) (omega (arith, found.0), found.1)

-- in a list that rises an id has one place
pub one_place : (names : List ℤ) (m n : ℕ) → IsStrictlyRising int_cmp names → m < length names → n < length names → id_at names m ≡ id_at names n → m ≡ n
one_place names m n rise m_below n_below same = by (cases_lt m n) (cases_lt n m) where
  clash : (i j : ℕ) → i < j → j < length names → id_at names i ≡ id_at names j → ⊥
  clash i j before inside equal =
      let less : int_cmp (id_at names i) (id_at names j) ≡ Less = rise i j (pos 0) before inside in
      let tied : int_cmp (id_at names i) (id_at names j) ≡ Equal = ap (λ id. int_cmp id (id_at names j)) equal ∙ tied_itself int_cmp_total (id_at names j) in
      cc

  by : (m < n) ⊎ (n ≤ m) → (n < m) ⊎ (m ≤ n) → m ≡ n
  by (inl before) other = absurd (clash m n before n_below same)
  by (inr le) (inl before) = absurd (clash n m before m_below (sym same))
  by (inr le) (inr other) = omega arith

place_at : (names : List ℤ) (n : ℕ) → IsStrictlyRising int_cmp names → n < length names → place_of names (id_at names n) ≡ n
place_at names n rise below =
    let found = place_is names (id_at names n) (Contains-get_or names n (pos 0) below) in
    one_place names (place_of names (id_at names n)) n rise found.0 below found.1

-- the number of an id
abbrev pub numbering : List ℤ → List (Option ℕ) → ℤ → ℕ
numbering names numbers y = number_of numbers (place_of names y)

-- the segment of a span: its edge, the places of its ends, and their numbers
pub record IsSegmentOf (names : List ℤ) (number : ℤ → ℕ) (span : Span) (segment : Segment) : Type 0 where
  pub edge : segment.edge ≡ span.edge
  pub from : id_at names segment.from ≡ span.a
  pub to : id_at names segment.to ≡ span.b
  pub from_below : segment.from < length names
  pub to_below : segment.to < length names
  pub near : segment.near ≡ (rung_of number span).near
  pub far : segment.far ≡ (rung_of number span).far

-- two numbers as a rung
same_rung : (rung : Rung) (near far : ℕ) → rung.near ≡ near → rung.far ≡ far → rung ≡ record { near = near; far = far }
same_rung rung near far near_is far_is =
    ap (λ n. record rung { near = n }) near_is ∙ ap (λ n. record rung { near = near; far = n }) far_is

module _ (spans : List Span) (names : List ℤ) (links : List (LinkOf ℕ)) (arrows : List Arrow) (numbers parents : List (Option ℕ))
    (numbered : AreNumbered names (map link_of spans) links) (both : AreArrows (length names) links arrows) (search : IsDepthFirst (length names) arrows numbers parents) where
  -- the link of a span
  link_of_span : (s : Span) → Contains spans s → (link : LinkOf ℕ) × Contains links link × (link_of s ≡ named names link)
  link_of_span s has =
      Contains-from_map (named names) links (link_of s) (subst (λ ls. Contains ls (link_of s)) (sym numbered.same) (Contains-map link_of spans s has))

  -- and the span of a link
  span_of_link : (link : LinkOf ℕ) → Contains links link → (s : Span) × Contains spans s × (named names link ≡ link_of s)
  span_of_link link has =
      Contains-from_map link_of spans (named names link) (subst (λ ls. Contains ls (named names link)) numbered.same (Contains-map (named names) links link has))

  number_from : (s : Span) (link : LinkOf ℕ) → Contains links link → named names link ≡ link_of s → numbering names numbers s.a ≡ number_of numbers link.from
  number_from s link has same =
      let ends : IsNumbered names link = All-contains (IsNumbered names) links link numbered.ends has in
      let id : id_at names link.from ≡ s.a = ap (λ l. l.from) same in
      ap (number_of numbers) (ap (place_of names) (sym id) ∙ place_at names link.from numbered.rise ends.0)

  number_to : (s : Span) (link : LinkOf ℕ) → Contains links link → named names link ≡ link_of s → numbering names numbers s.b ≡ number_of numbers link.to
  number_to s link has same =
      let ends : IsNumbered names link = All-contains (IsNumbered names) links link numbered.ends has in
      let id : id_at names link.to ≡ s.b = ap (λ l. l.to) same in
      ap (number_of numbers) (ap (place_of names) (sym id) ∙ place_at names link.to numbered.rise ends.1)

  link_is_segment : (s : Span) (link : LinkOf ℕ) → Contains links link → named names link ≡ link_of s → IsSegmentOf names (numbering names numbers) s (segment_by numbers link)
  link_is_segment s link has same =
      let ends : IsNumbered names link = All-contains (IsNumbered names) links link numbered.ends has in
      let a = number_from s link has same in
      let b = number_to s link has same in
      record {
        edge = ap (λ l. l.edge) same;
        from = ap (λ l. l.from) same;
        to = ap (λ l. l.to) same;
        from_below = ends.0;
        to_below = ends.1;
        near = ap (λ n. min n (number_of numbers link.to)) (sym a) ∙ ap (λ n. min (numbering names numbers s.a) n) (sym b);
        far = ap (λ n. max n (number_of numbers link.to)) (sym a) ∙ ap (λ n. max (numbering names numbers s.a) n) (sym b);
      }

  pub segment_of_span : (s : Span) → Contains spans s → (segment : Segment) × Contains (map (segment_by numbers) links) segment
      × IsSegmentOf names (numbering names numbers) s segment
  segment_of_span s has =
      let (link, link_has, same) = link_of_span s has in
      (segment_by numbers link, Contains-map (segment_by numbers) links link link_has, link_is_segment s link link_has (sym same))

  pub span_of_segment : (segment : Segment) → Contains (map (segment_by numbers) links) segment
      → (s : Span) × Contains spans s × IsSegmentOf names (numbering names numbers) s segment
  span_of_segment segment has =
      let (link, link_has, is) = Contains-from_map (segment_by numbers) links segment has in
      let (s, s_has, same) = span_of_link link link_has in
      (s, s_has, subst (IsSegmentOf names (numbering names numbers) s) (sym is) (link_is_segment s link link_has same))

  -- the place and the number of an end of a span
  record EndPlace (y : ℤ) : Type 0 where
    place : ℕ
    number : ℕ
    id : id_at names place ≡ y
    is_number : number_at numbers place ≡ Some number
    numbering_is : numbering names numbers y ≡ number

  place_of_end : (y : ℤ) (v : ℕ) → v < length names → id_at names v ≡ y → EndPlace y
  place_of_end y v below id =
      let (i, is) = search.all v below in
      record {
        place = v;
        number = i;
        id = id;
        is_number = is;
        numbering_is = ap (number_of numbers) (ap (place_of names) (sym id) ∙ place_at names v numbered.rise below) ∙ ap (λ o. unwrap_or o 0) is;
      }

  end_place : (y : ℤ) → IsEndOf spans y → EndPlace y
  end_place y (s, has, end) =
      let (segment, segment_has, is) = segment_of_span s has in
      ⊎_elim
      (λ at. place_of_end y segment.from is.from_below (is.from ∙ sym at))
      (λ at. place_of_end y segment.to is.to_below (is.to ∙ sym at))
      end

  number_below : (s : Span) (y : ℤ) → Contains spans s → HasEnd s y → numbering names numbers y < length parents
  number_below s y has end =
      let at = end_place y (s, has, end) in
      subst (λ n. n < length parents) (sym at.numbering_is) (search.numbering.below at.place at.number at.is_number)

  -- where two ends of a link are related, so are the numbers of its span
  near_of : (s : Span) (i j : ℕ) → numbering names numbers s.a ≡ i → numbering names numbers s.b ≡ j → AreRelated parents i j
      → IsAncestor parents (rung_of (numbering names numbers) s).near (rung_of (numbering names numbers) s).far
  near_of s i j a b (inl up) =
      let le : i ≤ j = ancestor_le parents search.numbering.falls i j up in
      let near : min (numbering names numbers s.a) (numbering names numbers s.b) ≡ i = omega arith in
      let far : max (numbering names numbers s.a) (numbering names numbers s.b) ≡ j = omega arith in
      subst (λ n. IsAncestor parents n (rung_of (numbering names numbers) s).far) (sym near) (subst (IsAncestor parents i) (sym far) up)
  near_of s i j a b (inr down) =
      let le : j ≤ i = ancestor_le parents search.numbering.falls j i down in
      let near : min (numbering names numbers s.a) (numbering names numbers s.b) ≡ j = omega arith in
      let far : max (numbering names numbers s.a) (numbering names numbers s.b) ≡ i = omega arith in
      subst (λ n. IsAncestor parents n (rung_of (numbering names numbers) s).far) (sym near) (subst (IsAncestor parents j) (sym far) down)

  -- an arrow between two numbers is a span between them
  rung_between : (p j : ℕ) → p < j → AreLinked arrows numbers p j → (s : Span) × Contains spans s × (rung_of (numbering names numbers) s ≡ record { near = p; far = j })
  rung_between p j less (v, w, v_is, w_is, arrow) =
      let (link, link_has, cases) = both.only v w arrow in
      let (s, s_has, same) = span_of_link link link_has in
      let a = number_from s link link_has same in
      let b = number_to s link link_has same in
      let p_is : number_of numbers v ≡ p = ap (λ o. unwrap_or o 0) v_is in
      let j_is : number_of numbers w ≡ j = ap (λ o. unwrap_or o 0) w_is in (
        s,
        s_has,
        ⊎_elim
            (λ (from, to).
            let a_is : numbering names numbers s.a ≡ p = a ∙ (ap (number_of numbers) from ∙ p_is) in
            let b_is : numbering names numbers s.b ≡ j = b ∙ (ap (number_of numbers) to ∙ j_is) in
            same_rung (rung_of (numbering names numbers) s) p j (omega arith) (omega arith))
            (λ (from, to).
            let a_is : numbering names numbers s.a ≡ j = a ∙ (ap (number_of numbers) from ∙ j_is) in
            let b_is : numbering names numbers s.b ≡ p = b ∙ (ap (number_of numbers) to ∙ p_is) in
            same_rung (rung_of (numbering names numbers) s) p j (omega arith) (omega arith))
            cases,
      )

  -- the numbers and parents are a forest
  pub is_forest : IsForest spans (numbering names numbers) parents
  is_forest = record {
    one = λ y z y_end z_end same.
        let at = end_place y y_end in
        let to = end_place z z_end in
        let number : at.number ≡ to.number = sym at.numbering_is ∙ (same ∙ to.numbering_is) in
        let place : at.place ≡ to.place = search.numbering.one at.place to.place to.number (subst (λ i. number_at numbers at.place ≡ Some i) number at.is_number) to.is_number in
        sym at.id ∙ (ap (id_at names) place ∙ to.id);
    below = λ s has.
        let a = number_below s s.a has (inl refl) in
        let b = number_below s s.b has (inr refl) in
        omega arith;
    falls = search.numbering.falls;
    tree = λ j p parent. rung_between p j (search.numbering.falls j p parent) (search.numbering.tree j p parent);
    near = λ s has.
        let (link, link_has, same) = link_of_span s has in
        let ends : IsNumbered names link = All-contains (IsNumbered names) links link numbered.ends link_has in
        let (i, i_is) = search.all link.from ends.0 in
        let (j, j_is) = search.all link.to ends.1 in
        near_of s i j (number_from s link link_has (sym same) ∙ ap (λ o. unwrap_or o 0) i_is) (number_to s link link_has (sym same) ∙ ap (λ o. unwrap_or o 0) j_is)
        (search.near link.from link.to i j i_is j_is (both.along link link_has));
  }
