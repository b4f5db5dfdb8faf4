-- What is kept of the walks between two vertices, from a least walk between their numbers and from a label.
use Rattle.std.proofs.Common.{◌≢◌, ℕ, zero, List, [], ◌∷◌, map, refl, ap, subst, arith}
use Rattle.std.specs.Prelude.{ℤ, All, Contains, Option, Some, None, Result, Ok, Err, IfOk, IfSome, IfNone}
use Rattle.std.specs.Option.{option_map}
use Rattle.std.specs.Ordering.{nat_cmp}
use Rattle.std.proofs.lemmas.Option.{IfSome_then}
use Rattle.std.proofs.lemmas.List.Elements.{All-nil, All-cons, All-contains}
use Rattle.pgr_outside.proofs.Lists.{Contains-one}
use Rattle.pgr_walks.specs.declared.link.LinkOf.{LinkOf}
use Rattle.pgr_walks.specs.declared.label.Label.{Label}
use Rattle.pgr_walks.specs.Walk.{IsWalk}
use Rattle.pgr_walks.specs.RouteOrder.{IsLeast}
use Rattle.pgr_walks.specs.Label.{LeadsTo, IsLabel}
use Rattle.pgr_walks.specs.Graph.{IsLinkOf}
use Rattle.pgr_walks.proofs.LabelOrder.{AtMost-cost}
use Rattle.pgr_numbers.specs.Names.{IsNumbered, id_at, named}
use Rattle.pgr_answer.specs.declared.kept.LeastCost.{LeastCost}
use Rattle.pgr_answer.specs.Costs.{IsLeastCost}
use Rattle.pgr_answer.specs.Networks.{IsRouteBetween}
use Rattle.pgr_answer.specs.Paths.{IsLeastBetween}
use Rattle.pgr_answer.proofs.NetworkLemmas.{IsNetwork}

-- to lead to one target is to lead to it
pub IsWalk-from_one : {V : Type 0} (Has : LinkOf V → Type 0) (s t : V) (walk : List (LinkOf V)) → LeadsTo Has (t ∷ []) s walk → IsWalk Has s walk t
IsWalk-from_one Has s t walk leads = subst (λ v. IsWalk Has s walk v) (Contains-one t leads.target leads.is_target) leads.is_walk

one-from_IsWalk : {V : Type 0} (Has : LinkOf V → Type 0) (s t : V) (walk : List (LinkOf V)) → IsWalk Has s walk t → LeadsTo Has (t ∷ []) s walk
one-from_IsWalk Has s t walk is_walk = record { target = t; is_target = (zero, omega arith, refl); is_walk = is_walk }

-- a walk that precedes every other one to a vertex precedes every other one to that target alone
pub least_to_one : (Has : LinkOf ℕ → Type 0) (s t : ℕ) (route : List (LinkOf ℕ)) → IsLeast nat_cmp (λ walk. IsWalk Has s walk t) route
    → IsLeast nat_cmp (LeadsTo Has (t ∷ []) s) route
least_to_one Has s t route is = record {
  belongs = one-from_IsWalk Has s t route is.belongs;
  precedes = λ other leads. is.precedes other (IsWalk-from_one Has s t other leads);
}

-- what follows of each value follows of the one that is found
pub found_then : {X E : Type 0} (found : Result (Option X) E) {P Q : X → Type 0} → IfOk found (λ o. IfSome o P) → ((x : X) → P x → Q x) → IfOk found (λ o. IfSome o Q)
found_then (Ok o) holds follows = IfSome_then o holds follows
found_then (Err e) holds follows = tt

-- what follows where there is none follows where none is found
pub none_then : {X E : Type 0} (found : Result (Option X) E) {P Q : Type 0} → IfOk found (λ o. IfNone o P) → (P → Q) → IfOk found (λ o. IfNone o Q)
none_then (Ok None) none follows = follows none
none_then (Ok (Some x)) none follows = tt
none_then (Err e) none follows = tt

-- each link of a walk has what each link of the set has
All-walk : {V : Type 0} (Has P : LinkOf V → Type 0) → ((link : LinkOf V) → Has link → P link) → (s : V) (walk : List (LinkOf V)) (t : V) → IsWalk Has s walk t → All P walk
All-walk Has P each s [] t is_walk = All-nil P
All-walk Has P each s (link ∷ rest) t is_walk = All-cons P link rest (each link is_walk.0) (All-walk Has P each link.to rest t is_walk.2)

-- a walk between two vertices that differ has a link
pub some_link : {V : Type 0} (Has : LinkOf V → Type 0) (s t : V) (walk : List (LinkOf V)) → s ≢ t → IsWalk Has s walk t → walk ≢ []
some_link Has s t [] differ is_walk e = differ is_walk
some_link Has s t (link ∷ rest) differ is_walk e = absurd cc

-- the least walk between two numbers that differ stands for the least walk between the ids
pub route_between : (links : List (LinkOf ℤ)) (names : List ℤ) (size : ℕ) (ins : ℕ → List (LinkOf ℕ)) → IsNetwork links names size ins → (s t : ℕ) (route : List (LinkOf ℕ)) → s ≢ t
    → IsLeast nat_cmp (LeadsTo (IsLinkOf size ins) (t ∷ []) s) route
    → IsLeastBetween (Contains links) (id_at names s) (id_at names t) (map (named names) route)
    → IsRouteBetween links names (id_at names s) (id_at names t) route
route_between links names size ins network s t route differ by_numbers by_ids =
    let is_walk = IsWalk-from_one (IsLinkOf size ins) s t route by_numbers.belongs in
    record {
      least = by_ids;
      numbered = All-walk (IsLinkOf size ins) (IsNumbered names)
          (λ link has. All-contains (IsNumbered names) network.numbers link network.numbered.ends ((network.exactly link).0 has)) s route t is_walk;
      some = some_link (IsLinkOf size ins) s t route differ is_walk;
    }

-- the cost of a label
abbrev pub cost_of_label : Label → LeastCost
cost_of_label label = record { cost = label.cost }

module _ (Has : LinkOf ℤ → Type 0) (s t : ℤ) where
  -- the cost of the label to one target is the least cost to it
  pub cost_shown : (label : Option Label) → IsLabel Has (t ∷ []) s label → IfSome (option_map cost_of_label label) (λ kept. IsLeastCost Has s t kept.cost)
  cost_shown None none = tt
  cost_shown (Some label) least = record {
    walk = least.walk;
    is_walk = IsWalk-from_one Has s t least.walk least.leads;
    costs = ap (λ l. l.cost) least.label_is;
    least = λ other is_walk. AtMost-cost label _ (least.least other (one-from_IsWalk Has s t other is_walk));
  }

  -- where there is no label no walk leads there
  pub cost_none : (label : Option Label) → IsLabel Has (t ∷ []) s label → IfNone (option_map cost_of_label label) ((walk : List (LinkOf ℤ)) → IsWalk Has s walk t → ⊥)
  cost_none None none = λ walk is_walk. none walk (one-from_IsWalk Has s t walk is_walk)
  cost_none (Some label) least = tt
