-- The routes of a class and the walks of the graph without its front and its taboo links: each is the other behind the front.
use Rattle.std.proofs.Common.{◌≡◌, ◌≢◌, ℕ, zero, suc, ◌+◌, ◌<◌, ◌≤◌, ◌==◌, Bool, true, false, not, cond, List, [], ◌∷◌, ◌++◌, length, take, map, get_or, eqb, refl, sym, ap, subst, ◌∙◌, arith, add-zero, ◌↔◌}
use Rattle.std.specs.Prelude.{Contains, All, slice_index_or}
use Rattle.std.specs.Ordering.{nat_cmp}
use Rattle.std.proofs.lemmas.Bool.{both_ways, not-true, not_from_false, eqb-true, false_from_ne_true, eq-eqb}
use Rattle.std.proofs.lemmas.List.{append-nil, length-append, get_or-append-add}
use Rattle.std.proofs.lemmas.List.Elements.{All-nil, All-cons, All-head, All-tail, All-contains, All-weaker}
use Rattle.pgr_walks.specs.declared.link.LinkOf.{LinkOf}
use Rattle.pgr_walks.specs.Walk.{IsWalk, IsWithoutRepeats, IsLooplessRoute, vertices_of, cost_of}
use Rattle.pgr_walks.specs.RouteOrder.{Precedes, IsLeast}
use Rattle.pgr_walks.specs.Without.{IsSpared, IsMarked}
use Rattle.pgr_walks.specs.Label.{LeadsTo}
use Rattle.pgr_walks.specs.ListGraph.{holds}
use Rattle.pgr_walks.specs.ListGraphLaws.{holds_from_Contains, Contains-from_holds}
use Rattle.pgr_ksp.specs.Classes.{goes_on, among, starts, MarksStarts, IsMember, IsLeastOfClass}
use Rattle.pgr_ksp.proofs.Alike.{Apart, AreApart, apart_from, apart_to, apart_split, apart_join, vertices-append, walk-append, walk-behind, or_false}
use Rattle.pgr_ksp.proofs.Prefixes.{goes_split, goes_join, front_cmp}

-- a front that comes to no vertex twice, the vertices before its end marked, and taboo links that leave its end
pub record IsFront (Has : LinkOf ℕ → Type 0) (s t v : ℕ) (gone : List Bool) (front taboo : List (LinkOf ℕ)) : Type 0 where
  pub differ : s ≢ t
  pub walk : IsWalk Has s front v
  pub apart : IsWithoutRepeats (vertices_of s front)
  pub inner : v ≢ t
  pub marks : MarksStarts gone front
  pub leave : All (λ link. link.from ≡ v) taboo

-- a walk over spared links from the end of a front
pub record IsTail (Has : LinkOf ℕ → Type 0) (t v : ℕ) (gone : List Bool) (taboo tail : List (LinkOf ℕ)) : Type 0 where
  pub walk : IsWalk Has v tail t
  pub spared : All (IsSpared gone taboo) tail

module _ (Has : LinkOf ℕ → Type 0) (s t v : ℕ) (gone : List Bool) (front taboo : List (LinkOf ℕ)) (is_front : IsFront Has s t v gone front taboo) where
  -- the front's vertices, its end at last
  front_apart : AreApart (starts front) (v ∷ [])
  front_apart =
      let P : List ℕ → Type 0 = Apart in
      let whole : Apart (vertices_of s front) = apart_from (vertices_of s front) is_front.apart in
      let same : vertices_of s front ≡ starts front ++ v ∷ [] = ap (vertices_of s) (sym (append-nil front)) ∙ vertices-append Has s v front [] is_front.walk in
      apart_split (starts front) (v ∷ []) (subst P same whole)

  -- a walk from a vertex other than the front's end that comes to none of its vertices: each link is spared
  spared_rest : (u : ℕ) (tail : List (LinkOf ℕ)) → IsWalk Has u tail t → ((w : ℕ) → among (starts front) w ≡ true → among (vertices_of u tail) w ≡ false)
      → among (vertices_of u tail) v ≡ false
      → All (IsSpared gone taboo) tail
  spared_rest u [] w clear away = All-nil (IsSpared gone taboo)
  spared_rest u (link ∷ tail) w clear away =
      let P = IsSpared gone taboo in
      let other = or_false (eqb v u) (among (vertices_of link.to tail) v) away in
      All-cons P link tail (record {
        from_stays = λ marked. both_ways (among (vertices_of u (link ∷ tail)) link.from) (clear link.from (sym (is_front.marks link.from) ∙ marked))
            (ap (λ b. cond b true (among (vertices_of link.to tail) link.from)) (eq-eqb link.from u w.1));
        to_stays = λ marked. both_ways (among (vertices_of link.to tail) link.to)
            ((or_false (eqb link.to u) (among (vertices_of link.to tail) link.to) (clear link.to (sym (is_front.marks link.to) ∙ marked))).1)
            (ap (λ b. cond b true (among (map (λ (l : LinkOf ℕ). l.to) tail) link.to)) (eq-eqb link.to link.to refl));
        allowed = λ taken. both_ways (eqb v u) other.0 (eq-eqb v u (sym (All-contains (λ l. l.from ≡ v) taboo link is_front.leave taken) ∙ w.1));
      }) (spared_rest link.to tail w.2 (λ x e. (or_false (eqb x u) (among (vertices_of link.to tail) x) (clear x e)).1) other.1)

  -- so is each link of a walk from the front's end that begins with no taboo link and comes to no vertex twice
  spared_first : (tail : List (LinkOf ℕ)) → IsWalk Has v tail t → ((w : ℕ) → among (starts front) w ≡ true → among (vertices_of v tail) w ≡ false) → Apart (vertices_of v tail)
      → goes_on [] taboo tail ≡ true → All (IsSpared gone taboo) tail
  spared_first [] w clear a free = All-nil (IsSpared gone taboo)
  spared_first (link ∷ tail) w clear a free =
      let P = IsSpared gone taboo in
      All-cons P link tail (record {
        from_stays = λ marked. both_ways (among (vertices_of v (link ∷ tail)) link.from) (clear link.from (sym (is_front.marks link.from) ∙ marked))
            (ap (λ b. cond b true (among (vertices_of link.to tail) link.from)) (eq-eqb link.from v w.1));
        to_stays = λ marked. both_ways (among (vertices_of link.to tail) link.to)
            ((or_false (eqb link.to v) (among (vertices_of link.to tail) link.to) (clear link.to (sym (is_front.marks link.to) ∙ marked))).1)
            (ap (λ b. cond b true (among (map (λ (l : LinkOf ℕ). l.to) tail) link.to)) (eq-eqb link.to link.to refl));
        allowed = λ taken. both_ways (holds taboo link) (not-true (holds taboo link) free) (holds_from_Contains taboo link taken);
      }) (spared_rest link.to tail w.2 (λ x e. (or_false (eqb x v) (among (vertices_of link.to tail) x) (clear x e)).1) a.0)

  -- a route of the class is the front with a tail behind it
  pub member_tail : (route : List (LinkOf ℕ)) → IsMember Has s t front taboo route → (tail : List (LinkOf ℕ)) × (route ≡ front ++ tail) × IsTail Has t v gone taboo tail
  member_tail route member =
      let parts = goes_split front taboo route member.goes in
      let P : List (LinkOf ℕ) → Type 0 = λ links. IsLooplessRoute Has s links t in
      let whole : IsLooplessRoute Has s (front ++ parts.0) t = subst P parts.1 member.is_route in
      let walk = walk-behind Has s v t front parts.0 is_front.walk whole.is_walk in
      let split = apart_split (starts front) (vertices_of v parts.0) (subst Apart (vertices-append Has s v front parts.0 is_front.walk)
      (apart_from (vertices_of s (front ++ parts.0)) whole.loopless)) in
      (parts.0, parts.1, record { walk = walk; spared = spared_first parts.0 walk split.none_common split.right parts.2 })

  -- spared links lead to no vertex of the front before its end
  tos_clear : (tail : List (LinkOf ℕ)) (w : ℕ) → All (IsSpared gone taboo) tail → among (map (λ (l : LinkOf ℕ). l.to) tail) w ≡ true → among (starts front) w ≡ true → ⊥
  tos_clear [] w all e f = cc
  tos_clear (link ∷ tail) w all e f = by (eqb w link.to) refl e (λ g. tos_clear tail w (All-tail (IsSpared gone taboo) link tail all) g f)
    where
      by : (b : Bool) → eqb w link.to ≡ b → cond b true (among (map (λ (l : LinkOf ℕ). l.to) tail) w) ≡ true → (among (map (λ (l : LinkOf ℕ). l.to) tail) w ≡ true → ⊥) → ⊥
      by true same e rest = (All-head (IsSpared gone taboo) link tail all).to_stays (is_front.marks link.to ∙ (ap (among (starts front)) (sym (eqb-true w link.to same)) ∙ f))
      by false same e rest = rest e

  -- the front with a tail behind it that comes to no vertex twice is a route of the class
  pub tail_member : (tail : List (LinkOf ℕ)) → IsTail Has t v gone taboo tail → IsWithoutRepeats (vertices_of v tail) → IsMember Has s t front taboo (front ++ tail)
  tail_member tail is_tail once =
      let clear : AreApart (starts front) (vertices_of v tail) = record {
        left = front_apart.left;
        right = apart_from (vertices_of v tail) once;
        none_common = λ w e. false_from_ne_true (among (vertices_of v tail) w) (λ f. by w e (eqb w v) refl f);
      } in
      record {
        is_route = record {
          is_walk = walk-append Has s v t front tail is_front.walk is_tail.walk;
          ends_differ = is_front.differ;
          loopless = apart_to (vertices_of s (front ++ tail)) (subst Apart (sym (vertices-append Has s v front tail is_front.walk))
              (apart_join (starts front) (vertices_of v tail) clear));
        };
        goes = goes_join front taboo tail (begins tail is_tail.spared);
      }
    where
      begins : (links : List (LinkOf ℕ)) → All (IsSpared gone taboo) links → goes_on [] taboo links ≡ true
      begins [] all = refl
      begins (link ∷ links) all = not_from_false (holds taboo link) (false_from_ne_true (holds taboo link)
          (λ e. (All-head (IsSpared gone taboo) link links all).allowed (Contains-from_holds taboo link e)))

      by : (w : ℕ) → among (starts front) w ≡ true → (b : Bool) → eqb w v ≡ b → cond b true (among (map (λ (l : LinkOf ℕ). l.to) tail) w) ≡ true → ⊥
      by w e true same f = both_ways (eqb w v) ((or_false (eqb w v) false (front_apart.none_common w e)).0) same
      by w e false same f = tos_clear tail w is_tail.spared f e

  -- the front with the least tail behind it is the least route of the class
  pub least_of_class : (tail : List (LinkOf ℕ)) → IsLeast nat_cmp (IsTail Has t v gone taboo) tail → IsWithoutRepeats (vertices_of v tail)
      → IsLeast nat_cmp (IsMember Has s t front taboo) (front ++ tail)
  least_of_class tail least once = record {
    belongs = tail_member tail least.belongs once;
    precedes = λ other member differ.
        let behind = member_tail other member in
        let P : List (LinkOf ℕ) → Type 0 = λ links. Precedes nat_cmp (front ++ tail) links in
        subst P (sym behind.1) (front_cmp front tail behind.0 ∙ least.precedes behind.0 behind.2 (λ same. differ (behind.1 ∙ ap (λ links. front ++ links) same)));
  }

  -- without a tail it has no route
  pub none_of_class : ((tail : List (LinkOf ℕ)) → IsTail Has t v gone taboo tail → ⊥) → (route : List (LinkOf ℕ)) → IsMember Has s t front taboo route → ⊥
  none_of_class none route member = let behind = member_tail route member in none behind.0 behind.2

  -- a tail has a link
  pub tail_has_link : (tail : List (LinkOf ℕ)) → IsTail Has t v gone taboo tail → 0 < length tail
  tail_has_link [] tail = absurd (is_front.inner tail.walk)
  tail_has_link (link ∷ rest) tail = omega arith

  -- where the tail begins
  behind_front : (tail : List (LinkOf ℕ)) (d : LinkOf ℕ) → IsWalk Has v tail t → (get_or (front ++ tail) (length front) d).from ≡ v
  behind_front [] d w = absurd (is_front.inner w)
  behind_front (link ∷ rest) d w = ap (λ (l : LinkOf ℕ). l.from) (ap (λ n. get_or (front ++ link ∷ rest) n d) (sym (add-zero (length front))) ∙ get_or-append-add front
      (link ∷ rest) 0 d) ∙ w.1

  front_taken : (xs ys : List (LinkOf ℕ)) → take (length xs) (xs ++ ys) ≡ xs
  front_taken [] ys = refl
  front_taken (x ∷ xs) ys = ap (λ rest. x ∷ rest) (front_taken xs ys)

  module _ (Left : LinkOf ℕ → Type 0) (walks : (tail : List (LinkOf ℕ)) → IsWalk Left v tail t ↔ (IsWalk Has v tail t × All (IsSpared gone taboo) tail)) where
    target_is : (u : ℕ) → Contains (t ∷ []) u → u ≡ t
    target_is u has = at has.0 has.1 has.2
      where
        at : (k : ℕ) → k < 1 → slice_index_or (t ∷ []) k u ≡ u → u ≡ t
        at zero h e = sym e
        at (suc k) h e = absurd (omega arith)

    leads : (tail : List (LinkOf ℕ)) → IsTail Has t v gone taboo tail → LeadsTo Left (t ∷ []) v tail
    leads tail is_tail = record { target = t; is_target = (0, omega arith, refl); is_walk = (walks tail).1 (is_tail.walk, is_tail.spared) }

    tail_of : (tail : List (LinkOf ℕ)) → LeadsTo Left (t ∷ []) v tail → IsTail Has t v gone taboo tail
    tail_of tail lead =
        let walk = (walks tail).0 (subst (λ u. IsWalk Left v tail u) (target_is lead.target lead.is_target) lead.is_walk) in
        record { walk = walk.0; spared = walk.1 }

    -- the least walk over what is left gives the class
    pub class_found : (tail links : List (LinkOf ℕ)) → IsLeast nat_cmp (LeadsTo Left (t ∷ []) v) tail → IsWithoutRepeats (vertices_of v tail) → links ≡ front ++ tail
        → IsLeastOfClass Has s t links (length front) taboo
    class_found tail links least once is =
        let P : List (LinkOf ℕ) → Type 0 = λ ls. IsLeastOfClass Has s t ls (length front) taboo in
        let Q : List (LinkOf ℕ) → Type 0 = λ ls. IsLeast nat_cmp (IsMember Has s t ls taboo) (front ++ tail) in
        let is_tail = tail_of tail least.belongs in
        let of_class = least_of_class tail (record { belongs = is_tail; precedes = λ other other_tail differ. least.precedes other (leads other other_tail) differ }) once in
        subst P (sym is) (record {
          within = omega (arith, length-append front tail, tail_has_link tail is_tail);
          least = subst Q (sym (front_taken front tail)) of_class;
          leave = λ d. All-weaker (λ (link : LinkOf ℕ). link.from ≡ v) (λ (link : LinkOf ℕ). link.from ≡ (get_or (front ++ tail) (length front) d).from)
              (λ link e. e ∙ sym (behind_front tail d is_tail.walk)) taboo is_front.leave;
        })

    -- where no walk is left the class has no route
    pub none_found : ((walk : List (LinkOf ℕ)) → LeadsTo Left (t ∷ []) v walk → ⊥) → (route : List (LinkOf ℕ)) → IsMember Has s t front taboo route → ⊥
    none_found none = none_of_class (λ tail is_tail. none tail (leads tail is_tail))
