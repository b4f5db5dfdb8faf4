-- Links that are spared: what a visitor that leaves the others out passes on, and walks over them.
use Rattle.std.proofs.Common.{◌≡◌, ℕ, ◌↔◌, List, [], ◌∷◌, Bool, true, false, cond, not, ◌&&◌, Some, None, eqb, refl, ap}
use Rattle.std.specs.Prelude.{slice_index_or}
use Rattle.std.specs.List.{filter, filter_map, cons_option, All}
use Rattle.std.proofs.lemmas.Bool.{eq-eqb}
use Rattle.std.proofs.lemmas.List.Elements.{All-contains, All-head, All-tail, All-nil, All-cons}
use Rattle.pgr_walks.specs.declared.link.LinkOf.{LinkOf}
use Rattle.pgr_walks.specs.Walk.{IsWalk}
use Rattle.pgr_walks.specs.Graph.{Fits, IsLinkOf}
use Rattle.pgr_walks.specs.ListGraph.{holds}
use Rattle.pgr_walks.specs.ListGraphLaws.{holds_from_Contains, Contains-from_holds}
use Rattle.pgr_walks.specs.Without.{IsSpared, Omissions, spares, spare}
use Rattle.pgr_walks.specs.WithoutLaws.{filtered_links}

-- those that are spared are passed on
pub filter-spared : (omissions : Omissions) (links : List (LinkOf ℕ)) → filter (spares omissions) links ≡ filter_map (spare omissions) links
filter-spared omissions [] = refl
filter-spared omissions (link ∷ links) = at (spares omissions link) (filter-spared omissions links)
  where
    at : (b : Bool) → filter (spares omissions) links ≡ filter_map (spare omissions) links
        → cond b (link ∷ filter (spares omissions) links) (filter (spares omissions) links) ≡ cons_option (cond b (Some link) None) (filter_map (spare omissions) links)
    at true e = ap (λ rest. link ∷ rest) e
    at false e = e

-- what the test says of its parts
parts_of : (a b c d : Bool) → not a && (not b && not (c && d)) ≡ true → (a ≡ true → ⊥) × (b ≡ true → ⊥) × (c ≡ true → d ≡ true → ⊥)
parts_of true b c d e = cc
parts_of false true c d e = cc
parts_of false false true true e = cc
parts_of false false true false e = (λ f. cc, λ f. cc, λ f g. cc)
parts_of false false false d e = (λ f. cc, λ f. cc, λ f g. cc)

from_parts : (a b c d : Bool) → (a ≡ true → ⊥) → (b ≡ true → ⊥) → (c ≡ true → d ≡ true → ⊥) → not a && (not b && not (c && d)) ≡ true
from_parts true b c d f g h = absurd (f refl)
from_parts false true c d f g h = absurd (g refl)
from_parts false false true true f g h = absurd (h refl refl)
from_parts false false true false f g h = refl
from_parts false false false d f g h = refl

-- the test tells whether the link is spared, where all taboo links leave the one vertex
pub spares_is : (gone : List Bool) (first : ℕ) (taboo : List (LinkOf ℕ)) → All (λ link. link.from ≡ first) taboo → (link : LinkOf ℕ)
    → (spares (record { gone = gone; first = first; taboo = taboo }) link ≡ true) ↔ IsSpared gone taboo link
spares_is gone first taboo leave link = (there, back)
  where
    there : spares (record { gone = gone; first = first; taboo = taboo }) link ≡ true → IsSpared gone taboo link
    there e =
        let parts = parts_of (slice_index_or gone link.from false) (slice_index_or gone link.to false) (eqb link.from first) (holds taboo link) e in
        record {
          from_stays = parts.0;
          to_stays = parts.1;
          allowed = λ taken. parts.2 (eq-eqb link.from first (All-contains (λ l. l.from ≡ first) taboo link leave taken)) (holds_from_Contains taboo link taken);
        }

    back : IsSpared gone taboo link → spares (record { gone = gone; first = first; taboo = taboo }) link ≡ true
    back spared = from_parts (slice_index_or gone link.from false) (slice_index_or gone link.to false) (eqb link.from first) (holds taboo link) spared.from_stays
        spared.to_stays (λ from taken. spared.allowed (Contains-from_holds taboo link taken))

module _ {V : Type 0} (Has Left : LinkOf V → Type 0) (among : (link : LinkOf V) → Left link → Has link) where
  -- a walk over some of the links is a walk over the links
  pub IsWalk-among : (s t : V) (walk : List (LinkOf V)) → IsWalk Left s walk t → IsWalk Has s walk t
  IsWalk-among s t [] w = w
  IsWalk-among s t (link ∷ walk) w = (among link w.0, w.1, IsWalk-among link.to t walk w.2)

  -- some of the links fit where the links do
  pub Fits-among : Fits Has → Fits Left
  Fits-among fits = record {
    links = λ link left. fits.links link (among link left);
    routes = λ s t walk route. fits.routes s t walk (record { is_walk = IsWalk-among s t walk route.is_walk; ends_differ = route.ends_differ; loopless = route.loopless });
  }

module _ {V : Type 0} (Has Spared Left : LinkOf V → Type 0) (left_is : (link : LinkOf V) → Left link ↔ (Has link × Spared link)) where
  -- a walk over the links that are spared is a walk over the links of which each is spared
  pub spared_walks : (s t : V) (walk : List (LinkOf V)) → IsWalk Left s walk t ↔ (IsWalk Has s walk t × All Spared walk)
  spared_walks s t walk = (λ w. (IsWalk-among Has Left (λ link left. ((left_is link).0 left).0) s t walk w, each s walk w), λ both. over s walk both.0 both.1)
    where
      each : (v : V) (rest : List (LinkOf V)) → IsWalk Left v rest t → All Spared rest
      each v [] w = All-nil Spared
      each v (link ∷ rest) w = All-cons Spared link rest ((left_is link).0 w.0).1 (each link.to rest w.2)

      over : (v : V) (rest : List (LinkOf V)) → IsWalk Has v rest t → All Spared rest → IsWalk Left v rest t
      over v [] w all = w
      over v (link ∷ rest) w all = ((left_is link).1 (w.0, All-head Spared link rest all), w.1, over link.to rest w.2 (All-tail Spared link rest all))

-- the links that are left are those of the graph that are spared
pub spared_links : (size : ℕ) (ins : ℕ → List (LinkOf ℕ)) (gone : List Bool) (first : ℕ) (taboo : List (LinkOf ℕ)) → All (λ link. link.from ≡ first) taboo → (link : LinkOf ℕ)
    → IsLinkOf size (λ v. filter (spares (record { gone = gone; first = first; taboo = taboo })) (ins v)) link ↔ (IsLinkOf size ins link × IsSpared gone taboo link)
spared_links size ins gone first taboo leave link =
    let left = filtered_links size ins (spares (record { gone = gone; first = first; taboo = taboo })) link in
    let test = spares_is gone first taboo leave link in
    (λ h. let both = left.0 h in (both.0, test.0 both.1), λ h. left.1 (h.0, test.1 h.1))
