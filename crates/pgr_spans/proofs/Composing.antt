-- From the network of spans to their members, step by step.
use Rattle.std.proofs.Common.{◌≡◌, ℕ, zero, suc, ◌<◌, ◌≤◌, Bool, true, false, cond, eqb, List, [], ◌∷◌, length, get_or, map, Option, Some, None, unwrap_or, ℤ, ◌≤ℤ◌, refl, sym, subst, ◌∙◌, ap, arith, Less, IsSome}
use Rattle.std.specs.List.{All, Contains, AllPairs, flat_map}
use Rattle.std.specs.List.Sorted.{IsPermutation, IsSorted}
use Rattle.std.specs.Ordering.{int_cmp}
use Rattle.std.proofs.lemmas.Cmp.{int_ranked}
use Rattle.std.proofs.lemmas.Int.{ints}
use Rattle.std.proofs.lemmas.List.{get_or-map, length-map}
use Rattle.std.proofs.lemmas.List.Elements.{Contains-get_or}
use Rattle.pgr_walks.specs.declared.link.LinkOf.{LinkOf}
use Rattle.pgr_numbers.specs.Names.{AreNumbered, named}
use Rattle.pgr_spans.specs.declared.span.Span.{Span}
use Rattle.pgr_spans.specs.declared.arrow.Arrow.{Arrow}
use Rattle.pgr_spans.specs.declared.segment.Segment.{Segment}
use Rattle.pgr_spans.specs.declared.member.Member.{Member}
use Rattle.pgr_spans.specs.declared.classed.Classed.{Classed}
use Rattle.pgr_spans.specs.declared.seen.Entry.{Entry}
use Rattle.pgr_spans.specs.declared.seen.Seen.{Seen}
use Rattle.pgr_spans.specs.Lists.{HaveRisingEdges, AreClasses, ArePoints, AreBridges, classed_cmp}
use Rattle.pgr_spans.specs.Exploring.{IsDepthFirst}
use Rattle.pgr_spans.specs.Network.{link_of, AreArrows}
use Rattle.pgr_spans.specs.Segment.{number_of, segment_by, IsSegmentBelow}
use Rattle.pgr_spans.specs.Seen.{AreSeen}
use Rattle.pgr_spans.specs.Member.{entry_of, member_seen, member_of, AreFound, classed_of, bridge_of, corners_of, ArePointsAt}
use Rattle.pgr_outside.proofs.Lists.{Contains-from_flat_map}
use Rattle.pgr_spans.proofs.Lists.{AllPairs-map, AllPairs-from_map, AllPairs-flat_map}
use Rattle.pgr_spans.proofs.Numbering.{numbering, is_forest, segment_of_span, span_of_segment}
use Rattle.pgr_spans.proofs.Membership.{IsMemberOf, member_of_span, span_of_member}
use Rattle.pgr_spans.proofs.Answering.{are_classes, are_bridges, are_points}

-- images of images
map_through : {X Y Z : Type 0} (f : Y → Z) (g : X → Y) (h : X → Z) → ((x : X) → f (g x) ≡ h x) → (xs : List X) → map f (map g xs) ≡ map h xs
map_through f g h same [] = refl
map_through f g h same (x ∷ xs) =
    ap (λ z. z ∷ map f (map g xs)) (same x) ∙ ap (λ zs. h x ∷ zs) (map_through f g h same xs)

-- a lesser id is no greater
less_le : (x y : ℤ) → int_cmp x y ≡ Less → x ≤ℤ y
less_le x y less = let below = int_ranked x y Less (sym less) in omega (arith, ints, below)

-- a member has the edge of its segment
member_edge : (segment : Segment) (seen : Option Seen) → (member_seen segment seen).edge ≡ segment.edge
member_edge segment None = refl
member_edge segment (Some seen) = refl

module _ (size : ℕ) (arrows : List Arrow) (numbers parents : List (Option ℕ)) (search : IsDepthFirst size arrows numbers parents) where
  -- each vertex has a number
  pub all_numbered : (v : ℕ) → v < length numbers → IsSome (get_or numbers v None)
  all_numbered v inside =
      let (i, is) = search.all v (let e = search.numbering.size_is in omega arith) in
      subst IsSome (sym is) refl

  -- there are at most as many numbers as vertices
  pub parents_few : length parents ≤ size
  parents_few = let counted = search.numbering.counted in omega arith

  -- the number of a vertex is below their count
  number_below : (v : ℕ) → v < size → number_of numbers v < length parents
  number_below v inside =
      let (i, is) = search.all v inside in
      subst (λ n. n < length parents) (sym (ap (λ o. unwrap_or o 0) is)) (search.numbering.below v i is)

  module _ (names : List ℤ) (named_links : List (LinkOf ℤ)) (links : List (LinkOf ℕ)) (numbered : AreNumbered names named_links links) (size_is : size ≡ length names) where
    pub links_inside : All (λ link. (link.from < length numbers) × (link.to < length numbers)) links
    links_inside k d inside =
        let ends = numbered.ends k d inside in
        let same = search.numbering.size_is in
        (omega (arith, ends.0), omega (arith, ends.1))

    pub segments_below : All (IsSegmentBelow (length parents)) (map (segment_by numbers) links)
    segments_below k d inside =
        let within : k < length links = omega (arith, length-map links (segment_by numbers)) in
        let link = get_or links k (record { from = 0; edge = d.edge; cost = 0; to = 0 }) in
        let is : get_or (map (segment_by numbers) links) k d ≡ segment_by numbers link = get_or-map (segment_by numbers) links k
        (record { from = 0; edge = d.edge; cost = 0; to = 0 }) d within in
        let ends = numbered.ends k (record { from = 0; edge = d.edge; cost = 0; to = 0 }) within in
        let from = number_below link.from (omega (arith, ends.0)) in
        let to = number_below link.to (omega (arith, ends.1)) in
        subst (IsSegmentBelow (length parents)) (sym is) (omega arith, omega (arith, from, to))

module _ (spans : List Span) (rise : HaveRisingEdges spans) (names : List ℤ) (links : List (LinkOf ℕ)) (arrows : List Arrow) (numbers parents : List (Option ℕ))
    (numbered : AreNumbered names (map link_of spans) links) (both : AreArrows (length names) links arrows) (search : IsDepthFirst (length names) arrows numbers parents)
    (members : List Member) (are : AreFound parents (map (segment_by numbers) links) members) where
  -- the edges of the segments are those of the spans
  segment_edges : map (λ g. g.edge) (map (segment_by numbers) links) ≡ map (λ s. s.edge) spans
  segment_edges =
      map_through (λ (g : Segment). g.edge) (segment_by numbers) (λ l. l.edge) (λ l. refl) links
      ∙ (sym (map_through (λ (l : LinkOf ℤ). l.edge) (named names) (λ l. l.edge) (λ l. refl) links)
      ∙ (ap (map (λ l. l.edge)) numbered.same
      ∙ map_through (λ (l : LinkOf ℤ). l.edge) link_of (λ s. s.edge) (λ s. refl) spans))

  edges_rise : AllPairs (λ x y. int_cmp x y ≡ Less) (map (λ s. s.edge) spans)
  edges_rise = AllPairs-map (λ x y. int_cmp x y ≡ Less) (λ (s : Span). s.edge) spans rise

  segments_rise : AllPairs (λ g h. int_cmp g.edge h.edge ≡ Less) (map (segment_by numbers) links)
  segments_rise =
      AllPairs-from_map (λ x y. int_cmp x y ≡ Less) (λ (g : Segment). g.edge) (map (segment_by numbers) links)
      (subst (AllPairs (λ x y. int_cmp x y ≡ Less)) (sym segment_edges) edges_rise)

  members_rise : AllPairs (λ m n. int_cmp m.edge n.edge ≡ Less) members
  members_rise =
      let edges : map (λ m. m.edge) members ≡ map (λ g. g.edge) (map (segment_by numbers) links) = ap (map (λ m. m.edge)) are.members_are
      ∙ map_through (λ (m : Member). m.edge) (member_of are.tops are.found) (λ g. g.edge)
      (λ g. member_edge g (cond (eqb g.near g.far) None (get_or are.found (get_or are.tops g.far 0) None))) (map (segment_by numbers) links) in
      AllPairs-from_map (λ x y. int_cmp x y ≡ Less) (λ (m : Member). m.edge) members (subst (AllPairs (λ x y. int_cmp x y ≡ Less)) (sym (edges ∙ segment_edges)) edges_rise)

  -- what a segment gives the entries
  entry_value : (g : Segment) (entry : Entry) → Contains (entry_of are.tops g) entry → entry.value ≡ g.edge
  entry_value g entry has = by (eqb g.near g.far) has where
    by : (b : Bool) → Contains {X = Entry} (cond b [] (record { key = get_or are.tops g.far 0; value = g.edge } ∷ [])) entry → entry.value ≡ g.edge
    by true (k, inside, is) = absurd (omega arith)
    by false (zero, inside, is) = sym (ap (λ e. e.value) is)
    by false (suc k, inside, is) = absurd (omega arith)

  entry_once : (g : Segment) → AllPairs {X = Entry} (λ e f. e.value ≤ℤ f.value) (entry_of are.tops g)
  entry_once g = by (eqb g.near g.far) where
    by : (b : Bool) → AllPairs {X = Entry} (λ e f. e.value ≤ℤ f.value) (cond b [] (record { key = get_or are.tops g.far 0; value = g.edge } ∷ []))
    by true i j d before inside = absurd (omega arith)
    by false i j d before inside = absurd (omega arith)

  entries_rise : AllPairs (λ e f. e.value ≤ℤ f.value) (flat_map (entry_of are.tops) (map (segment_by numbers) links))
  entries_rise =
      AllPairs-flat_map (λ g h. int_cmp g.edge h.edge ≡ Less) (λ e f. e.value ≤ℤ f.value) (entry_of are.tops) entry_once
      (λ g h e f less e_in f_in. subst (λ z. z ≤ℤ f.value) (sym (entry_value g e e_in)) (subst (λ z. g.edge ≤ℤ z) (sym (entry_value h f f_in)) (less_le g.edge h.edge less)))
      (map (segment_by numbers) links)
      segments_rise

  of_span : (s : Span) → Contains spans s → (member : Member) × Contains members member × IsMemberOf spans names s member
  of_span =
      member_of_span spans rise names (numbering names numbers) parents (is_forest spans names links arrows numbers parents numbered both search) (map (segment_by numbers) links)
      (segment_of_span spans names links arrows numbers parents numbered both search)
      (span_of_segment spans names links arrows numbers parents numbered both search) members are entries_rise

  of_member : (member : Member) → Contains members member → (s : Span) × Contains spans s × IsMemberOf spans names s member
  of_member =
      span_of_member spans rise names (numbering names numbers) parents (is_forest spans names links arrows numbers parents numbered both search) (map (segment_by numbers) links)
      (segment_of_span spans names links arrows numbers parents numbered both search)
      (span_of_segment spans names links arrows numbers parents numbered both search) members are entries_rise

  pub classes_are : (classes : List Classed) → IsPermutation (map classed_of members) classes → IsSorted classed_cmp classes → AreClasses spans classes
  classes_are = are_classes spans rise names numbered.rise members members_rise of_span of_member

  pub bridges_are : (bridges : List ℤ) → bridges ≡ flat_map bridge_of members → AreBridges spans bridges
  bridges_are bridges is =
      subst (AreBridges spans) (sym is) (are_bridges spans rise names numbered.rise members members_rise of_span of_member)

  pub points_are : (corners : List Entry) (found : List (Option Seen)) (points : List ℤ) → corners ≡ flat_map corners_of members → AreSeen (length names) corners found
      → ArePointsAt names found points → ArePoints spans points
  points_are corners found points is seen at_places =
      are_points spans rise names numbered.rise members members_rise of_span of_member found (subst (λ es. AreSeen (length names) es found) is seen) points at_places

  -- the keys of the corners are places
  pub corners_inside : (corners : List Entry) → corners ≡ flat_map corners_of members → All (λ entry. entry.key < length names) corners
  corners_inside corners is k d inside =
      let there : Contains (flat_map corners_of members) (get_or corners k d) = subst (λ es. Contains es (get_or corners k d)) is (Contains-get_or corners k d inside) in
      let (m, m_has, among) = Contains-from_flat_map corners_of members (get_or corners k d) there in
      let (s, s_has, m_is) = of_member m m_has in
      by m (get_or corners k d) m_is.from_below m_is.to_below (eqb m.from m.to) among where
        by : (m : Member) (entry : Entry) → m.from < length names → m.to < length names → (b : Bool)
            → Contains (cond b [] (record { key = m.from; value = m.component } ∷ record { key = m.to; value = m.component } ∷ [])) entry → entry.key < length names
        by m entry from to true (n, within, at) = absurd (omega arith)
        by m entry from to false (zero, within, at) = subst (λ v. v < length names) (ap (λ e. e.key) at) from
        by m entry from to false (suc zero, within, at) = subst (λ v. v < length names) (ap (λ e. e.key) at) to
        by m entry from to false (suc (suc n), within, at) = absurd (omega arith)

-- what was found for spans: their numbering, the search over it, and their members
pub record AreComposed (spans : List Span) (names : List ℤ) (links : List (LinkOf ℕ)) (arrows : List Arrow) (numbers parents : List (Option ℕ))
    (members : List Member) : Type 0 where
  pub numbered : AreNumbered names (map link_of spans) links
  pub both : AreArrows (length names) links arrows
  pub search : IsDepthFirst (length names) arrows numbers parents
  pub are : AreFound parents (map (segment_by numbers) links) members

-- it from what each step says of the lists that it is given
pub composed : (spans : List Span) (names : List ℤ) (links given_links : List (LinkOf ℕ)) (arrows given_arrows : List Arrow)
    (numbers given_numbers parents given_parents : List (Option ℕ)) (segments given_segments : List Segment) (members : List Member) (size : ℕ)
    → AreNumbered names (map link_of spans) links → AreArrows (length names) links arrows → IsDepthFirst size given_arrows numbers parents
    → segments ≡ map (segment_by given_numbers) given_links → AreFound given_parents given_segments members → size ≡ length names → given_arrows ≡ arrows → given_links ≡ links
    → given_numbers ≡ numbers → given_parents ≡ parents → given_segments ≡ segments → AreComposed spans names links arrows numbers parents members
composed spans names links given_links arrows given_arrows numbers given_numbers parents given_parents segments given_segments members size numbered both search segments_are are
    size_is arrows_is links_is numbers_is parents_is segments_is = record {
      numbered = numbered;
      both = both;
      search = subst (λ n. IsDepthFirst n arrows numbers parents) size_is (subst (λ xs. IsDepthFirst size xs numbers parents) arrows_is search);
      are =
          let given : given_segments ≡ map (segment_by numbers) links = segments_is
          ∙ (segments_are ∙ (ap (λ ns. map (segment_by ns) given_links) numbers_is ∙ ap (map (segment_by numbers)) links_is)) in
          subst (λ gs. AreFound parents gs members) given (subst (λ ps. AreFound ps given_segments members) parents_is are);
    }

-- the segments are below the count of numbers
pub composed_below : (names : List ℤ) (named_links : List (LinkOf ℤ)) (links given_links : List (LinkOf ℕ)) (arrows : List Arrow)
    (numbers given_numbers parents given_parents : List (Option ℕ)) (segments given_segments : List Segment) (size : ℕ) → AreNumbered names named_links links
    → IsDepthFirst size arrows numbers parents → segments ≡ map (segment_by given_numbers) given_links → size ≡ length names → given_links ≡ links → given_numbers ≡ numbers
    → given_parents ≡ parents → given_segments ≡ segments → All (IsSegmentBelow (length given_parents)) given_segments
composed_below names named_links links given_links arrows numbers given_numbers parents given_parents segments given_segments size numbered search segments_are size_is links_is
    numbers_is parents_is segments_is =
    let given : given_segments ≡ map (segment_by numbers) links = segments_is
    ∙ (segments_are ∙ (ap (λ ns. map (segment_by ns) given_links) numbers_is ∙ ap (map (segment_by numbers)) links_is)) in
    subst (λ gs. All (IsSegmentBelow (length given_parents)) gs) (sym given)
    (subst (λ ps. All (IsSegmentBelow (length ps)) (map (segment_by numbers) links)) (sym parents_is)
    (segments_below size arrows numbers parents search names named_links links numbered size_is))
