-- The links of a graph, vertex by vertex: they are its links, none of them stands there twice, and they are those between ids by number.
use Rattle.std.proofs.Common.{◌≡◌, ⊎_elim, ℕ, zero, suc, ◌<◌, ℤ, pos, true, List, [], ◌∷◌, ◌++◌, ◌||◌, ◌⊎◌, length, Some, inl, inr, refl, sym, ap, subst, ◌∙◌, arith}
use Rattle.std.specs.Prelude.{All, Contains}
use Rattle.std.specs.Ordering.{int_cmp, int_eq}
use Rattle.std.proofs.Math.Bool.{or-true}
use Rattle.std.proofs.lemmas.Bool.{cases_lt, or_cases}
use Rattle.std.proofs.lemmas.Bool.Decides.{Decides-int_eq}
use Rattle.std.proofs.lemmas.Option.{slice_get-get_or, get_or_from_slice_get}
use Rattle.std.proofs.lemmas.List.Elements.{All-weaker, All-contains, All-contains_itself, Contains-get_or, Contains-append_left, Contains-append_right, Contains-append_cases}
use Rattle.std.proofs.lemmas.List.Folds.{Any-from_list_any, list_any_at}
use Rattle.pgr_outside.specs.Lists.{IsStrictlyRising, IsWithoutRepeats}
use Rattle.pgr_outside.proofs.Lists.{Contains-here, Contains-later, Contains-from_map}
use Rattle.pgr_walks.specs.declared.link.LinkOf.{LinkOf}
use Rattle.pgr_walks.specs.Walk.{IsVertex}
use Rattle.pgr_numbers.specs.Names.{AreEnds, AreNumbered, IsNumbered, named}
use Rattle.pgr_numbers.specs.Numbering.{HasExactly}
use Rattle.pgr_answer.specs.NamedLinks.{all_links, named_links, LeadToVertices, is_end, IsEndOf}

-- two lists without repeats that share no element are one without repeats
once_both : {X : Type 0} (xs ys : List X) → IsWithoutRepeats xs → IsWithoutRepeats ys → ((x : X) → Contains xs x → Contains ys x → ⊥) → IsWithoutRepeats (xs ++ ys)
once_both [] ys once_xs once_ys share i j before inside same = once_ys i j before inside same
once_both (x ∷ xs) ys once_xs once_ys share zero zero before inside same = absurd (omega arith)
once_both (x ∷ xs) ys once_xs once_ys share (suc i) zero before inside same = absurd (omega arith)
once_both (x ∷ xs) ys once_xs once_ys share zero (suc j) before inside same =
    ⊎_elim
    (λ (k, k_in, k_is). once_xs 0 (suc k) (omega arith) (omega (arith, k_in)) (sym (slice_get-get_or xs k x k_in ∙ ap Some k_is)))
    (share x (Contains-here x xs))
    (Contains-append_cases xs ys x (j, omega (arith, inside), get_or_from_slice_get (xs ++ ys) j x x (sym same)))
once_both (x ∷ xs) ys once_xs once_ys share (suc i) (suc j) before inside same =
    once_both xs ys (λ a b lower within. once_xs (suc a) (suc b) (omega arith) (omega arith)) once_ys (λ y here there. share y (Contains-later x xs y here) there)
    i j (omega arith) (omega arith) same

-- a link into a vertex below the size is one of all links
all_has : (size : ℕ) (ins : ℕ → List (LinkOf ℕ)) (v : ℕ) (link : LinkOf ℕ) → v < size → Contains (ins v) link → Contains (all_links size ins) link
all_has zero ins v link below has = absurd (omega arith)
all_has (suc last) ins v link below has =
    ⊎_elim
    (λ earlier. Contains-append_left (all_links last ins) (ins last) link (all_has last ins v link earlier has))
    (λ later. let is : v ≡ last = omega (arith, later, below) in Contains-append_right (all_links last ins) (ins last) link (subst (λ u. Contains (ins u) link) is has))
    (cases_lt v last)

-- and each of them is a link into such a vertex
all_from : (size : ℕ) (ins : ℕ → List (LinkOf ℕ)) (link : LinkOf ℕ) → Contains (all_links size ins) link → (v : ℕ) × (v < size) × Contains (ins v) link
all_from zero ins link (k, inside, is) = absurd (omega arith)
all_from (suc last) ins link has =
    ⊎_elim
    (λ earlier. let v = all_from last ins link earlier in (v.0, omega (arith, v.1), v.2))
    (λ here. (last, omega arith, here))
    (Contains-append_cases (all_links last ins) (ins last) link has)

-- no link stands twice among them all, where none stands twice among those into a vertex, and each leads to its vertex
pub all_once : (size : ℕ) (ins : ℕ → List (LinkOf ℕ)) → ((v : ℕ) (link : LinkOf ℕ) → v < size → Contains (ins v) link → link.to ≡ v)
    → ((v : ℕ) → v < size → IsWithoutRepeats (ins v)) → IsWithoutRepeats (all_links size ins)
all_once zero ins leads once = λ i j before inside. absurd (omega arith)
all_once (suc last) ins leads once =
    once_both (all_links last ins) (ins last) (all_once last ins (λ v link below. leads v link (omega (arith, below))) (λ v below. once v (omega (arith, below))))
    (once last (omega arith))
    (λ link earlier here.
    let v = all_from last ins link earlier in
    let there : link.to ≡ v.0 = leads v.0 link (omega (arith, v.1)) v.2 in
    let last_one : link.to ≡ last = leads last link (omega arith) here in
    omega (arith, there, last_one, v.1))

module _ (size : ℕ) (ins : ℕ → List (LinkOf ℕ)) (lead : LeadToVertices size ins) where
  -- they are the links of the graph
  pub all_exactly : HasExactly size ins (all_links size ins)
  all_exactly link = (
    λ has. all_has size ins link.to link has.0 has.1,
    λ there.
        let v = all_from size ins link there in
        let to = (lead v.0 link v.1 v.2).0 in
        (omega (arith, to, v.1), subst (λ u. Contains (ins u) link) (sym to) v.2),
  )

  module _ (names : List ℤ) (size_is : size ≡ length names) where
    -- both ends of each are numbers of names
    all_within : All (IsNumbered names) (all_links size ins)
    all_within = All-weaker (Contains (all_links size ins)) (IsNumbered names)
        (λ link there.
        let v = all_from size ins link there in
        let ends = lead v.0 link v.1 v.2 in
        (omega (arith, ends.1, size_is), omega (arith, ends.0, v.1, size_is)))
        (all_links size ins) (All-contains_itself (all_links size ins))

    -- so they are the links between ids by number
    pub all_numbered : IsStrictlyRising int_cmp names → AreNumbered names (named_links names size ins) (all_links size ins)
    all_numbered rise = record { rise = rise; same = refl; ends = all_within }

    -- and the names are the ends of these
    pub names_are_ends : IsStrictlyRising int_cmp names → All (IsEndOf (named_links names size ins)) names → AreEnds (named_links names size ins) names
    names_are_ends rise ends = record {
      rise = rise;
      ends = λ id. (λ has. vertex_from id (All-contains (IsEndOf (named_links names size ins)) names id ends has), λ (link, has, at). name_from id link has at);
    }
      where
        vertex_from : (id : ℤ) → IsEndOf (named_links names size ins) id → IsVertex (Contains (named_links names size ins)) id
        vertex_from id is =
            let links = named_links names size ins in
            let found = Any-from_list_any (is_end id) links is in
            let link = found.1 in (
              link,
              (found.0, found.2, found.3),
              ⊎_elim (λ from. inl ((Decides-int_eq id link.from).0 from)) (λ to. inr ((Decides-int_eq id link.to).0 to))
                  (or_cases (int_eq id link.from) (int_eq id link.to) found.4),
            )

        name_from : (id : ℤ) (link : LinkOf ℤ) → Contains (named_links names size ins) link → (id ≡ link.from) ⊎ (id ≡ link.to) → Contains names id
        name_from id link has at =
            let number = Contains-from_map (named names) (all_links size ins) link has in
            let within = All-contains (IsNumbered names) (all_links size ins) number.0 all_within number.1 in
            ⊎_elim
            (λ from. subst (Contains names) (sym (from ∙ ap (λ l. l.from) number.2)) (Contains-get_or names number.0.from (pos 0) within.0))
            (λ to. subst (Contains names) (sym (to ∙ ap (λ l. l.to) number.2)) (Contains-get_or names number.0.to (pos 0) within.1))
            at

-- an end of some of the links is found by the test
pub end_of : (links : List (LinkOf ℤ)) (id : ℤ) → IsVertex (Contains links) id → IsEndOf links id
end_of links id (link, (k, inside, is), at) = list_any_at (is_end id) links k link inside (subst (λ l. is_end id l ≡ true) (sym is) (test at)) where
  test : (id ≡ link.from) ⊎ (id ≡ link.to) → is_end id link ≡ true
  test (inl from) = ap (λ b. b || int_eq id link.to) ((Decides-int_eq id link.from).1 from)
  test (inr to) = ap (λ b. int_eq id link.from || b) ((Decides-int_eq id link.to).1 to) ∙ or-true (int_eq id link.from)
