-- The ends of links: all starts and then all ends, sorted and without repeats, are the names.
use Rattle.std.proofs.Common.{◌*◌, ◌≤◌, List, [], ◌∷◌, ◌++◌, ◌∙◌, length, map, get_or, refl, sym, ap, subst, inl, inr, ⊎_elim, arith, ℤ}
use Rattle.std.specs.Ordering.{int_cmp, int_eq, is_eq}
use Rattle.std.specs.List.{dedup, All, Contains}
use Rattle.std.specs.List.Sorted.{IsSorted, IsPermutation}
use Rattle.std.proofs.lemmas.Cmp.{int_eq_equiv}
use Rattle.std.proofs.lemmas.List.{length-map, length-append}
use Rattle.std.proofs.lemmas.List.Elements.{Contains-get_or, Contains-append_left, Contains-append_right, Contains-push, Contains-push_cases}
use Rattle.std.proofs.lemmas.List.Kept.{Contains-dedup, Contains-from_dedup}
use Rattle.std.proofs.lemmas.List.Sorted.{Contains-permutation, IsPermutation-sym}
use Rattle.std.proofs.lemmas.Map.Keys.{IsDistinct-from_apart}
use Rattle.std.proofs.lemmas.Map.Made.{length-le_from_is_member}
use Rattle.std.proofs.lemmas.Map.Views.{list_any-from_Contains, Contains-from_any}
use Rattle.std.specs.Cmp.{signed_Decides}
use Rattle.pgr_outside.proofs.Lists.{Contains-map, Contains-none}
use Rattle.pgr_walks.specs.declared.link.LinkOf.{LinkOf}
use Rattle.pgr_walks.specs.Walk.{IsVertex}
use Rattle.pgr_numbers.specs.Names.{AreEnds, IsNamed}
use Rattle.pgr_numbers.specs.Ends.{HasEnds}
use Rattle.pgr_numbers.proofs.Rising.{IsStrictlyRising-dedup}

-- where the links begin, and then where they lead
abbrev ends_in_turn : List (LinkOf ℤ) → List ℤ
ends_in_turn links = map (λ link. link.from) links ++ map (λ link. link.to) links

-- each end stands there
ends_to : (links : List (LinkOf ℤ)) (id : ℤ) → IsVertex (Contains links) id → Contains (ends_in_turn links) id
ends_to links id (link, there, at) =
    ⊎_elim
    (λ from. Contains-append_left _ _ id (subst (Contains (map (λ l. l.from) links)) (sym from) (Contains-map (λ l. l.from) links link there)))
    (λ to. Contains-append_right _ _ id (subst (Contains (map (λ l. l.to) links)) (sym to) (Contains-map (λ l. l.to) links link there)))
    at

-- a list with no link has no ends
pub HasEnds-none : HasEnds [] []
HasEnds-none id = ((λ there. absurd (Contains-none id there)), (λ vertex. absurd (Contains-none vertex.0 vertex.1)))

-- the ends of one more link
pub HasEnds-more : (links : List (LinkOf ℤ)) (ends : List ℤ) (link : LinkOf ℤ) → HasEnds links ends
    → HasEnds (links ++ link ∷ []) ((ends ++ link.from ∷ []) ++ link.to ∷ [])
HasEnds-more links ends link before id = (
  λ there. ⊎_elim
      (λ early. ⊎_elim
      (λ old. let found = (before id).0 old in (found.0, Contains-append_left links (link ∷ []) found.0 found.1, found.2))
      (λ start. (link, Contains-push links link, inl (sym start)))
      (Contains-push_cases ends link.from id early))
      (λ end. (link, Contains-push links link, inr (sym end)))
      (Contains-push_cases (ends ++ link.from ∷ []) link.to id there),
  λ (other, there, at). ⊎_elim
      (λ old. Contains-append_left (ends ++ link.from ∷ []) (link.to ∷ []) id (Contains-append_left ends (link.from ∷ []) id ((before id).1 (other, old, at))))
      (λ last. ⊎_elim
      (λ start. Contains-append_left (ends ++ link.from ∷ []) (link.to ∷ []) id
      (subst (Contains (ends ++ link.from ∷ [])) (ap (λ (l : LinkOf ℤ). l.from) last ∙ sym start) (Contains-push ends link.from)))
      (λ end. subst (Contains ((ends ++ link.from ∷ []) ++ link.to ∷ [])) (ap (λ (l : LinkOf ℤ). l.to) last ∙ sym end)
      (Contains-push (ends ++ link.from ∷ []) link.to))
      at)
      (Contains-push_cases links link other there),
)

-- the ends, sorted and without repeats
pub AreEnds-dedup : (links : List (LinkOf ℤ)) (ends sorted : List ℤ) → HasEnds links ends → IsPermutation ends sorted → IsSorted int_cmp sorted
    → AreEnds links (dedup int_eq sorted)
AreEnds-dedup links ends sorted has moved in_order = record {
  rise = IsStrictlyRising-dedup sorted in_order;
  ends = λ id. (
    (λ there. (has id).0 (Contains-permutation _ _ id (IsPermutation-sym _ _ moved) (Contains-from_dedup int_eq sorted id there))),
    (λ end. Contains-dedup int_eq_equiv (λ x y. (signed_Decides x y).0) sorted id (Contains-permutation _ _ id moved ((has id).1 end))),
  );
}

-- both ends of each of the links are among the names
pub All-named : (links : List (LinkOf ℤ)) (names : List ℤ) → AreEnds links names → All (IsNamed names) links
All-named links names h k d inside =
    let link = get_or links k d in
    ((h.ends link.from).1 (link, Contains-get_or links k d inside, inl refl), (h.ends link.to).1 (link, Contains-get_or links k d inside, inr refl))

-- there are at most as many names as ends
pub length_names : (links : List (LinkOf ℤ)) (names : List ℤ) → AreEnds links names → length names ≤ 2 * length links
length_names links names h =
    let apart = IsDistinct-from_apart int_eq names (λ i j d before inside. ap is_eq (h.rise i j d before inside)) in
    let fewer = length-le_from_is_member int_eq_equiv names (ends_in_turn links) apart (λ id there. list_any-from_Contains int_eq_equiv id (ends_in_turn links)
    (ends_to links id ((h.ends id).0 (Contains-from_any (λ x y. (signed_Decides x y).0) id names there)))) in
    omega (arith, simp (length-append, length-map) at fewer)
