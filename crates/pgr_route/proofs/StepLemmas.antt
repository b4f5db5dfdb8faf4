-- The steps of a walk, link by link, and the last one apart.
use Rattle.std.proofs.Common.{◌≡◌, ℕ, ◌+◌, ◌-◌, ◌<◌, ◌≤◌, ℤ, List, [], ◌∷◌, ◌++◌, map, length, get_or, drop, refl, sym, ap, ◌∙◌, arith, add_assoc, add-zero, zero-add}
use Rattle.std.proofs.lemmas.List.{drop_more, append_assoc, append-nil, drop_all}
use Rattle.pgr_walks.specs.declared.link.LinkOf.{LinkOf}
use Rattle.pgr_walks.specs.Walk.{cost_of}
use Rattle.pgr_numbers.specs.Names.{named}
use Rattle.pgr_route.specs.declared.step.Step.{Step}
use Rattle.pgr_route.specs.Steps.{link_step, last_step, steps_from, steps_of}

-- the steps of the links, without the last one
abbrev pub link_steps : ℕ → List (LinkOf ℤ) → List Step
link_steps reached [] = []
link_steps reached (link ∷ rest) = link_step reached link ∷ link_steps (reached + link.cost) rest

-- the cost of the links from a place on: that of the link there, and of those after it
pub cost_from : {V : Type 0} (links : List (LinkOf V)) (i : ℕ) (d : LinkOf V) → i < length links → cost_of (drop i links) ≡ (get_or links i d).cost + cost_of (drop (i + 1) links)
cost_from links i d h = ap cost_of (drop_more links i d h)

-- naming the ends of links changes no cost
pub cost_named : (names : List ℤ) (links : List (LinkOf ℕ)) → cost_of (map (named names) links) ≡ cost_of links
cost_named names [] = refl
cost_named names (link ∷ rest) = ap (λ n. link.cost + n) (cost_named names rest)

-- the steps so far and those of the links that are left make up the steps of all
pub steps_more : (names : List ℤ) (links : List (LinkOf ℕ)) (i reached : ℕ) (d : LinkOf ℕ) (done all : List Step) → i < length links
    → done ++ link_steps reached (map (named names) (drop i links)) ≡ all
    → (done ++ link_step reached (named names (get_or links i d)) ∷ []) ++ link_steps (reached + (get_or links i d).cost) (map (named names) (drop (i + 1) links)) ≡ all
steps_more names links i reached d done all h e =
    append_assoc done (link_step reached (named names (get_or links i d)) ∷ []) (link_steps (reached + (get_or links i d).cost) (map (named names) (drop (i + 1) links)))
    ∙ ap (λ rest. done ++ link_steps reached (map (named names) rest)) (sym (drop_more links i d h)) ∙ e

-- the steps of links that lead somewhere: those of the links, and the last one where the last link leads
pub steps_split : (names : List ℤ) (first : LinkOf ℕ) (rest : List (LinkOf ℕ)) (reached : ℕ) (v : ℤ) (d : LinkOf ℕ)
    → steps_from reached v (map (named names) (first ∷ rest)) ≡ link_steps reached (map (named names) (first ∷ rest)) ++ last_step (reached + cost_of (first ∷ rest))
    (named names (get_or (first ∷ rest) (length rest) d)).to ∷ []
steps_split names first [] reached v d =
    let s = link_step reached (named names first) in
    ap (λ n. s ∷ last_step n (named names first).to ∷ []) (sym (ap (λ n. reached + n) (add-zero first.cost)))
steps_split names first (second ∷ rest) reached v d =
    let s = link_step reached (named names first) in
    ap (λ ss. s ∷ ss) (steps_split names second rest (reached + first.cost) (named names first).to d
    ∙ ap (λ n. link_steps (reached + first.cost) (map (named names) (second ∷ rest)) ++ last_step n (named names (get_or (second ∷ rest) (length rest) d)).to ∷ [])
    (add_assoc reached first.cost (cost_of (second ∷ rest))))

-- at the end of the loop: the steps so far and the last one are the steps of the walk
pub steps_all : (names : List ℤ) (links : List (LinkOf ℕ)) (i reached : ℕ) (d : LinkOf ℕ) (done : List Step) → (links ≡ [] → ⊥) → length links ≤ i
    → reached + cost_of (drop i links) ≡ cost_of links → done ++ link_steps reached (map (named names) (drop i links)) ≡ link_steps 0 (map (named names) links)
    → done ++ last_step reached (named names (get_or links (length links - 1) d)).to ∷ [] ≡ steps_of (map (named names) links)
steps_all names [] i reached d done ne h c s = absurd (ne refl)
steps_all names (first ∷ rest) i reached d done ne h c s =
    let none : drop i (first ∷ rest) ≡ [] = drop_all i (first ∷ rest) h in
    let cost : reached ≡ 0 + cost_of (first ∷ rest) = sym (add-zero reached) ∙ ap (λ ls. reached + cost_of ls) (sym none) ∙ c ∙ sym (zero-add (cost_of (first ∷ rest))) in
    let steps : done ≡ link_steps 0 (map (named names) (first ∷ rest)) = sym (append-nil done) ∙ ap (λ ls. done ++ link_steps reached (map (named names) ls)) (sym none) ∙ s in
    let last : length (first ∷ rest) - 1 ≡ length rest = omega arith in
    ap (λ ss. ss ++ last_step reached (named names (get_or (first ∷ rest) (length (first ∷ rest) - 1) d)).to ∷ []) steps
    ∙ ap (λ n. link_steps 0 (map (named names) (first ∷ rest)) ++ last_step n (named names (get_or (first ∷ rest) (length (first ∷ rest) - 1) d)).to ∷ []) cost
    ∙ ap (λ n. link_steps 0 (map (named names) (first ∷ rest)) ++ last_step (0 + cost_of (first ∷ rest)) (named names (get_or (first ∷ rest) n d)).to ∷ []) last
    ∙ sym (steps_split names first rest 0 (named names first).from d)
