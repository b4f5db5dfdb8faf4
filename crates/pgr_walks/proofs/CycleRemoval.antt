-- A walk can be made loopless: where it comes to a vertex twice, the part between is left out. What is left has the same ends, and each sum over it is no greater.
use Rattle.std.proofs.Common.{◌≡◌, ℕ, suc, ◌+◌, ◌<◌, ◌≤◌, ◌⊎◌, inl, inr, ⊎_elim, List, [], ◌∷◌, length, true, false, eqb, ap, subst, arith}
use Rattle.std.specs.List.{list_any}
use Rattle.std.proofs.lemmas.Bool.{cases_eq, eqb-true, or_cases}
use Rattle.std.proofs.lemmas.List.{length-map}
use Rattle.std.proofs.lemmas.Map.Steps.{length-le_from_distinct_below}
use Rattle.pgr_walks.specs.declared.link.LinkOf.{LinkOf}
use Rattle.pgr_walks.specs.declared.label.Label.{Label}
use Rattle.pgr_walks.specs.Walk.{IsWalk, IsWithoutRepeats, cost_of, hops_of, vertices_of}
use Rattle.pgr_walks.specs.Label.{AtMost, IsLeastLabel, label_of}
use Rattle.pgr_walks.specs.Graph.{Fits, greatest}
use Rattle.pgr_walks.specs.Loopless.{CanBeLoopless}
use Rattle.pgr_walks.proofs.LabelOrder.{AtMost-cost, AtMost-hops}
use Rattle.pgr_walks.proofs.Repeats.{Among, Apart, among_or_not, IsDistinct-from_Apart, IsWithoutRepeats-from_Apart, Apart-from_IsWithoutRepeats}

-- a walk that comes to no vertex twice, of at most this cost and this many links
record LooplessWithin {V : Type 0} (Has : LinkOf V → Type 0) (s t : V) (cost hops : ℕ) : Type 0 where
  other : List (LinkOf V)
  is_walk : IsWalk Has s other t
  apart : Apart (vertices_of s other)
  cost_within : cost_of other ≤ cost
  hops_within : length other ≤ hops

-- from where a walk without repeats comes to s on, it is such a walk from s
cut : {V : Type 0} (Has : LinkOf V → Type 0) (s t a : V) (walk : List (LinkOf V)) → IsWalk Has a walk t → Among s (vertices_of a walk) → Apart (vertices_of a walk)
    → LooplessWithin Has s t (cost_of walk) (length walk)
cut Has s t a walk w (inl e) p = record {
  other = walk;
  is_walk = subst (λ x. IsWalk Has x walk t) e w;
  apart = subst (λ x. Apart (vertices_of x walk)) e p;
  cost_within = omega arith;
  hops_within = omega arith;
}
cut Has s t a [] w (inr h) p = absurd h
cut Has s t a (link ∷ links) w (inr h) p =
    let rest = cut Has s t link.to links w.2 h p.1 in
    record {
      other = rest.other;
      is_walk = rest.is_walk;
      apart = rest.apart;
      cost_within = omega (arith, rest.cost_within);
      hops_within = omega (arith, rest.hops_within);
    }

-- one link before such a walk: with no repeat, or cut where it comes back to s
extend : {V : Type 0} (Has : LinkOf V → Type 0) (s t : V) (link : LinkOf V) (cost hops : ℕ) → Has link → link.from ≡ s → (rest : LooplessWithin Has link.to t cost hops)
    → Among s (vertices_of link.to rest.other) ⊎ (Among s (vertices_of link.to rest.other) → ⊥) → LooplessWithin Has s t (link.cost + cost) (suc hops)
extend Has s t link cost hops has from rest (inl again) =
    let less = cut Has s t link.to rest.other rest.is_walk again rest.apart in
    record {
      other = less.other;
      is_walk = less.is_walk;
      apart = less.apart;
      cost_within = omega (arith, less.cost_within, rest.cost_within);
      hops_within = omega (arith, less.hops_within, rest.hops_within);
    }
extend Has s t link cost hops has from rest (inr new) = record {
  other = link ∷ rest.other;
  is_walk = (has, from, rest.is_walk);
  apart = (new, rest.apart);
  cost_within = omega (arith, rest.cost_within);
  hops_within = omega (arith, rest.hops_within);
}

make_loopless : {V : Type 0} → ((x y : V) → (x ≡ y) ⊎ (x ≡ y → ⊥)) → (Has : LinkOf V → Type 0) (s t : V) (walk : List (LinkOf V)) → IsWalk Has s walk t
    → LooplessWithin Has s t (cost_of walk) (length walk)
make_loopless same Has s t [] w = record {
  other = [];
  is_walk = w;
  apart = (λ h. h, tt);
  cost_within = omega arith;
  hops_within = omega arith;
}
make_loopless same Has s t (link ∷ links) w =
    let rest = make_loopless same Has link.to t links w.2 in
    extend Has s t link (cost_of links) (length links) w.0 w.1 rest (among_or_not same s (vertices_of link.to rest.other))

-- every walk between vertices that can be told apart can be made loopless
pub CanBeLoopless-from_walk : {V : Type 0} → ((x y : V) → (x ≡ y) ⊎ (x ≡ y → ⊥)) → (Has : LinkOf V → Type 0) (s t : V) (walk : List (LinkOf V)) → IsWalk Has s walk t
    → CanBeLoopless Has s walk t
CanBeLoopless-from_walk same Has s t walk w =
    let r = make_loopless same Has s t walk w in
    record {
      other = r.other;
      is_walk = r.is_walk;
      loopless = IsWithoutRepeats-from_Apart (vertices_of s r.other) r.apart;
      cost = r.cost_within;
      hops = r.hops_within;
    }

-- each vertex that a walk comes to is below the size
vertices_below : (size : ℕ) (Has : LinkOf ℕ → Type 0) → ((link : LinkOf ℕ) → Has link → link.to < size) → (s t : ℕ) (walk : List (LinkOf ℕ)) → s < size → IsWalk Has s walk t
    → (q : ℕ) → list_any (eqb q) (vertices_of s walk) ≡ true → q < size
vertices_below size Has ends s t [] below w q h = ⊎_elim (λ (e : eqb q s ≡ true). omega (arith, eqb-true q s e)) (λ (e : false ≡ true). cc) (or_cases _ _ h)
vertices_below size Has ends s t (link ∷ links) below w q h =
    ⊎_elim (λ (e : eqb q s ≡ true). omega (arith, eqb-true q s e)) (λ e. vertices_below size Has ends link.to t links (ends link w.0) w.2 q e) (or_cases _ _ h)

-- a loopless walk comes to each vertex once at most, so it has fewer links than there are vertices
pub loopless_is_short : (size : ℕ) (Has : LinkOf ℕ → Type 0) → ((link : LinkOf ℕ) → Has link → link.to < size) → (s t : ℕ) (walk : List (LinkOf ℕ)) → s < size
    → IsWalk Has s walk t → IsWithoutRepeats (vertices_of s walk) → hops_of walk < size
loopless_is_short size Has ends s t walk below w apart =
    let few = length-le_from_distinct_below (vertices_of s walk) size (IsDistinct-from_Apart (vertices_of s walk) (Apart-from_IsWithoutRepeats (vertices_of s walk) apart))
    (vertices_below size Has ends s t walk below w) in
    simp length-map at few

-- what costs no more than any walk costs no more than a loopless route, and nothing between equal ends
least_cost : {V : Type 0} (Has : LinkOf V → Type 0) → Fits Has → (s t : V) (label : Label) (other : List (LinkOf V)) → IsWalk Has s other t
    → IsWithoutRepeats (vertices_of s other) → ((walk : List (LinkOf V)) → IsWalk Has s walk t → AtMost label (label_of walk)) → (s ≡ t) ⊎ (s ≡ t → ⊥) → label.cost ≤ greatest
least_cost {V} Has fits s t label other w apart least (inl same) =
    let free = AtMost-cost label (label_of {V = V} []) (least [] same) in
    omega arith
least_cost Has fits s t label other w apart least (inr differ) =
    let bound = fits.routes s t other (record { is_walk = w; ends_differ = differ; loopless = apart }) in
    omega (arith, bound, AtMost-cost label (label_of other) (least other w))

-- a least label is at most the label of a loopless walk
pub least_is_small : (size : ℕ) (Has : LinkOf ℕ → Type 0) → ((link : LinkOf ℕ) → Has link → link.to < size) → Fits Has → (targets : List ℕ) (v : ℕ) (label : Label) → v < size
    → IsLeastLabel Has targets v label → (label.cost ≤ greatest) × (label.hops < size)
least_is_small size Has ends fits targets v label below m =
    let t = m.leads.target in
    let short = CanBeLoopless-from_walk cases_eq Has v t m.walk m.leads.is_walk in
    let least : (walk : List (LinkOf ℕ)) → IsWalk Has v walk t
    → AtMost label (label_of walk) = λ walk w. m.least walk (record { target = t; is_target = m.leads.is_target; is_walk = w }) in
    let cost_is : cost_of m.walk ≡ label.cost = ap (λ (l : Label). l.cost) m.label_is in
    let few : hops_of short.other < size = loopless_is_short size Has ends v t short.other below short.is_walk short.loopless in
    let hops : label.hops ≤ hops_of short.other = AtMost-hops label (label_of short.other) (least short.other short.is_walk) (omega (arith, short.cost, cost_is)) in
    (least_cost Has fits v t label short.other short.is_walk short.loopless least (cases_eq v t), omega (arith, few, hops))
