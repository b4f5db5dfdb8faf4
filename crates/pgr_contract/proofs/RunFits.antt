-- A loopless route costs no more than the sum of the costs of the links, each undirected edge once.
use Rattle.std.proofs.Common.{◌≡◌, ◌≢◌, ℕ, suc, ◌≤◌, ℤ, Bool, false, List, [], ◌∷◌, Some, sym, ◌∙◌, ap, arith}
use Rattle.std.specs.List.{Contains, slice_get}
use Rattle.std.proofs.lemmas.Option.{slice_get_within}
use Rattle.pgr_walks.specs.declared.link.LinkOf.{LinkOf}
use Rattle.pgr_walks.specs.Walk.{IsWalk, IsWithoutRepeats, cost_of, vertices_of}
use Rattle.pgr_walks.specs.Graph.{Fits, greatest}
use Rattle.pgr_contract.specs.State.{without_links_at}
use Rattle.pgr_contract.specs.Weight.{weight}
use Rattle.pgr_contract.specs.Given.{HaveOpposites}
use Rattle.pgr_contract.proofs.Ids.{touched_from, without_links-keeps}
use Rattle.pgr_contract.proofs.StepKeeps.{opposites-without}
use Rattle.pgr_contract.proofs.Weights.{cost_within, beside_weight}

-- the walk from a never comes to s
abbrev Avoids : ℤ → ℤ → List (LinkOf ℤ) → Type 0
Avoids s a walk = (k : ℕ) → slice_get (vertices_of a walk) k ≡ Some s → ⊥

-- such a walk has no link at s
avoiding : (links : List (LinkOf ℤ)) (s a t : ℤ) (walk : List (LinkOf ℤ)) → Avoids s a walk → IsWalk (Contains links) a walk t
    → IsWalk (Contains (without_links_at s links)) a walk t
avoiding links s a t [] avoids w = w
avoiding links s a t (link ∷ rest) avoids w =
    let from : link.from ≢ s = λ e. avoids 0 (ap (λ x. Some x) (sym w.1 ∙ e)) in
    let to : link.to ≢ s = λ e. avoids 1 (ap (λ x. Some x) e) in
    (without_links-keeps s links link w.0 from to, w.1, avoiding links s link.to t rest (λ k at. avoids (suc k) at) w.2)

-- the rest of a walk without repeats has none, and avoids where the walk began
rest_apart : (s : ℤ) (link : LinkOf ℤ) (rest : List (LinkOf ℤ)) → IsWithoutRepeats (vertices_of s (link ∷ rest)) → IsWithoutRepeats (vertices_of link.to rest)
rest_apart s link rest apart i j less within same = apart (suc i) (suc j) (omega arith) (omega arith) same

rest_avoids : (s : ℤ) (link : LinkOf ℤ) (rest : List (LinkOf ℤ)) → IsWithoutRepeats (vertices_of s (link ∷ rest)) → Avoids s link.to rest
rest_avoids s link rest apart k at =
    let within = slice_get_within (vertices_of link.to rest) k s at in
    apart 0 (suc k) (omega arith) (omega (arith, within)) (sym at)

-- so a walk without repeats takes each edge once at most
pub walk_weight : (directed : Bool) (links : List (LinkOf ℤ)) → (directed ≡ false → HaveOpposites links) → (s t : ℤ) (walk : List (LinkOf ℤ)) → IsWalk (Contains links) s walk t
    → IsWithoutRepeats (vertices_of s walk) → cost_of walk ≤ weight directed links
walk_weight directed links opposites s t [] w apart = omega arith
walk_weight directed links opposites s t (link ∷ rest) w apart =
    let later = walk_weight directed (without_links_at s links) (λ undirected. opposites-without s links (opposites undirected)) link.to t rest
    (avoiding links s link.to t rest (rest_avoids s link rest apart) w.2) (rest_apart s link rest apart) in
    omega (arith, later, beside_weight directed s links opposites link w.0 (touched_from s link w.1))

-- links whose costs add up to no more than the greatest fit
pub links_fit : (directed : Bool) (links : List (LinkOf ℤ)) → (directed ≡ false → HaveOpposites links) → weight directed links ≤ greatest → Fits (Contains links)
links_fit directed links opposites light = record {
  links = λ link h. omega (arith, light, cost_within directed links opposites link h);
  routes = λ s t walk route. omega (arith, light, walk_weight directed links opposites s t walk route.is_walk route.loopless);
}
