-- A loopless walk takes each of some links at most once, either way round: so it costs at most what these cost together.
use Rattle.std.proofs.Common.{◌≡◌, ℕ, ◌+◌, ◌≤◌, ◌⊎◌, inl, inr, ⊎_elim, List, [], ◌∷◌, ◌++◌, map, refl, sym, ap, subst, ◌∙◌, arith}
use Rattle.pgr_walks.specs.declared.link.LinkOf.{LinkOf}
use Rattle.pgr_walks.specs.Walk.{IsWalk, cost_of, vertices_of}
use Rattle.pgr_walks.specs.Reversed.{turned}
use Rattle.pgr_walks.proofs.Repeats.{Among, Apart}

-- the links without one of them: what they cost less is its cost, and every other one is left
record Without {V : Type 0} (links : List (LinkOf V)) (link : LinkOf V) : Type 0 where
  rest : List (LinkOf V)
  cost : cost_of links ≡ link.cost + cost_of rest
  others : (other : LinkOf V) → Among other links → (link ≡ other) ⊎ Among other rest

without : {V : Type 0} (links : List (LinkOf V)) (link : LinkOf V) → Among link links → Without links link
without [] link h = absurd h
without (first ∷ links) link (inl same) = record {
  rest = links;
  cost = ap (λ (l : LinkOf _). l.cost + cost_of links) same;
  others = λ other h. ⊎_elim (λ e. inl (sym same ∙ e)) inr h;
}
without (first ∷ links) link (inr h) =
    let less = without links link h in record {
      rest = first ∷ less.rest;
      cost = omega (arith, less.cost);
      others = λ other k. ⊎_elim (λ e. inr (inl e)) (λ m. ⊎_elim inl (λ n. inr (inr n)) (less.others other m)) k;
    }

-- a link costs at most what the links that it is one of cost
pub cost_among : {V : Type 0} (links : List (LinkOf V)) (link : LinkOf V) → Among link links → link.cost ≤ cost_of links
cost_among links link h = let less = without links link h in omega (arith, less.cost)

-- it is one of the links, or turned round it is
abbrev pub IsCovered : {V : Type 0} → List (LinkOf V) → LinkOf V → Type 0
IsCovered links link = Among link links ⊎ Among (turned link) links

pub cost_covered : {V : Type 0} (links : List (LinkOf V)) (link : LinkOf V) → IsCovered links link → link.cost ≤ cost_of links
cost_covered links link (inl h) = cost_among links link h
cost_covered links link (inr h) = cost_among links (turned link) h

Among-ends : {V : Type 0} (link : LinkOf V) (walk : List (LinkOf V)) → Among link walk → Among link.to (map (λ (l : LinkOf V). l.to) walk)
Among-ends link [] h = absurd h
Among-ends {V} link (first ∷ walk) (inl e) = inl (ap (λ (l : LinkOf V). l.to) e)
Among-ends link (first ∷ walk) (inr h) = inr (Among-ends link walk h)

module _ {V : Type 0} (Has : LinkOf V → Type 0) (t : V) where
  module _ (s : V) (link : LinkOf V) (walk : List (LinkOf V)) (from : link.from ≡ s) (apart : Apart (vertices_of s (link ∷ walk))) (other : LinkOf V) (later : Among other
      walk) where
    end_differs : other.to ≡ link.to → ⊥
    end_differs e = apart.1.0 (subst (λ v. Among v (map (λ (l : LinkOf V). l.to) walk)) e (Among-ends other walk later))

    start_differs : other.to ≡ link.from → ⊥
    start_differs e = apart.0 (inr (subst (λ v. Among v (map (λ (l : LinkOf V). l.to) walk)) (e ∙ from) (Among-ends other walk later)))

    -- a later link of the walk is covered by the others
    rest_covered : (links : List (LinkOf V)) (taken : LinkOf V) → ((other.to ≡ taken.to) → ⊥) → ((other.to ≡ taken.from) → ⊥) → (less : Without links taken) → IsCovered links other
        → IsCovered less.rest other
    rest_covered links taken end start less (inl h) = ⊎_elim (λ e. absurd (end (ap (λ (l : LinkOf V). l.to) (sym e)))) inl (less.others other h)
    rest_covered links taken end start less (inr h) = ⊎_elim (λ e. absurd (start (ap (λ (l : LinkOf V). l.from) (sym e)))) inr (less.others (turned other) h)

  -- a walk that comes to no vertex twice
  pub cost_of_covered : (walk : List (LinkOf V)) (s : V) (links : List (LinkOf V)) → IsWalk Has s walk t → Apart (vertices_of s walk)
      → ((link : LinkOf V) → Among link walk → IsCovered links link) → cost_of walk ≤ cost_of links
  cost_of_covered [] s links is_walk apart covered = omega arith
  cost_of_covered (link ∷ walk) s links is_walk apart covered =
      ⊎_elim
      (λ h. let less = without links link h in
      let others = cost_of_covered walk link.to less.rest is_walk.2 apart.1
      (λ other later. rest_covered s link walk is_walk.1 apart other later links link (end_differs s link walk is_walk.1 apart other later)
      (start_differs s link walk is_walk.1 apart other later) less (covered other (inr later))) in
      omega (arith, less.cost))
      (λ h. let less = without links (turned link) h in
      let others = cost_of_covered walk link.to less.rest is_walk.2 apart.1
      (λ other later. rest_covered s link walk is_walk.1 apart other later links (turned link) (start_differs s link walk is_walk.1 apart other later)
      (end_differs s link walk is_walk.1 apart other later) less (covered other (inr later))) in
      omega (arith, less.cost))
      (covered link (inl refl))
