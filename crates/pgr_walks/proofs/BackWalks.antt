-- Walks read backwards: they lead the other way over the links turned round, with the same cost and as many links.
use Rattle.std.proofs.Common.{◌≡◌, zero, suc, ◌+◌, ◌-◌, ◌<◌, ◌↔◌, List, [], ◌∷◌, ◌++◌, length, map, Option, Some, None, refl, sym, ap, ◌∙◌, subst, arith}
use Rattle.std.specs.Prelude.{Contains, reverse}
use Rattle.std.proofs.lemmas.List.{length-map, length-reverse, map-append, reverse-append, get_or-reverse}
use Rattle.std.proofs.lemmas.Option.{slice_get-get_or}
use Rattle.std.proofs.lemmas.Grind.{reverse_onto}
use Rattle.pgr_walks.specs.declared.link.LinkOf.{LinkOf}
use Rattle.pgr_walks.specs.declared.label.Label.{Label}
use Rattle.pgr_walks.specs.Walk.{IsWalk, IsLooplessRoute, IsWithoutRepeats, cost_of, hops_of, vertices_of}
use Rattle.pgr_walks.specs.Label.{label_of, AtMost, LeadsTo, IsLabel, IsLabelFrom}
use Rattle.pgr_walks.specs.Graph.{Fits}
use Rattle.pgr_walks.specs.Reversed.{turned, read_backwards}
use Rattle.pgr_walks.proofs.Repeats.{element_at}

-- a walk and another from where it ends are a walk
pub walk-append : {V : Type 0} (Has : LinkOf V → Type 0) (s u t : V) (walk rest : List (LinkOf V)) → IsWalk Has s walk u → IsWalk Has u rest t → IsWalk Has s (walk ++ rest) t
walk-append Has s u t [] rest w v = subst (λ x. IsWalk Has x rest t) (sym w) v
walk-append Has s u t (link ∷ walk) rest w v = (w.0, w.1, walk-append Has link.to u t walk rest w.2 v)

pub cost_of-append : {V : Type 0} (walk rest : List (LinkOf V)) → cost_of (walk ++ rest) ≡ cost_of walk + cost_of rest
cost_of-append [] rest = omega arith
cost_of-append (link ∷ walk) rest = omega (arith, cost_of-append walk rest)

-- the first link comes last
read_backwards-cons : {V : Type 0} (link : LinkOf V) (walk : List (LinkOf V)) → read_backwards (link ∷ walk) ≡ read_backwards walk ++ (turned link ∷ [])
read_backwards-cons link walk = reverse_onto (map turned walk) (turned link) []

read_backwards-append : {V : Type 0} (walk rest : List (LinkOf V)) → read_backwards (walk ++ rest) ≡ read_backwards rest ++ read_backwards walk
read_backwards-append walk rest = ap reverse (map-append turned walk rest) ∙ reverse-append (map turned walk) (map turned rest)

-- read backwards twice it is the walk
pub read_backwards-twice : {V : Type 0} (walk : List (LinkOf V)) → read_backwards (read_backwards walk) ≡ walk
read_backwards-twice [] = refl
read_backwards-twice (link ∷ walk) =
    ap read_backwards (read_backwards-cons link walk) ∙ (read_backwards-append (read_backwards walk) (turned link ∷ []) ∙ ap (λ rest. link ∷ rest) (read_backwards-twice walk))

pub cost_of-read_backwards : {V : Type 0} (walk : List (LinkOf V)) → cost_of (read_backwards walk) ≡ cost_of walk
cost_of-read_backwards [] = refl
cost_of-read_backwards (link ∷ walk) = omega (
  arith,
  ap cost_of (read_backwards-cons link walk),
  cost_of-append (read_backwards walk) (turned link ∷ []),
  cost_of-read_backwards
      walk,
)

pub hops_of-read_backwards : {V : Type 0} (walk : List (LinkOf V)) → hops_of (read_backwards walk) ≡ hops_of walk
hops_of-read_backwards walk = length-reverse (map turned walk) ∙ length-map walk turned

label_of-read_backwards : {V : Type 0} (walk : List (LinkOf V)) → label_of (read_backwards walk) ≡ label_of walk
label_of-read_backwards walk =
    let cost = cost_of-read_backwards walk in
    let hops = hops_of-read_backwards walk in
    λ i. record { cost = cost i; hops = hops i }

-- a list read from its end has no repeats where the list has none
IsWithoutRepeats-reverse : {X : Type 0} (xs : List X) → IsWithoutRepeats xs → IsWithoutRepeats (reverse xs)
IsWithoutRepeats-reverse xs apart i j before inside same =
    let size = length-reverse xs in
    let within : j < length xs = omega (arith, inside, size) in
    let d = (element_at xs j within).0 in
    let at_i = slice_get-get_or (reverse xs) i d (omega (arith, inside, before)) ∙ ap Some (get_or-reverse xs i d (omega (arith, within, before))) in
    let at_j = slice_get-get_or (reverse xs) j d inside ∙ ap Some (get_or-reverse xs j d within) in
    let from_j = slice_get-get_or xs (length xs - 1 - j) d (omega (arith, within)) in
    let from_i = slice_get-get_or xs (length xs - 1 - i) d (omega (arith, within, before)) in
    apart (length xs - 1 - j) (length xs - 1 - i) (omega (arith, within, before)) (omega (arith, within, before)) (from_j ∙ (sym at_j ∙ (sym same ∙ (at_i ∙ sym from_i))))

module _ {V : Type 0} (Has Turned : LinkOf V → Type 0) (turns : (link : LinkOf V) → Turned link → Has (turned link)) where
  -- read backwards a walk leads the other way
  pub walk_back : (s t : V) (walk : List (LinkOf V)) → IsWalk Turned s walk t → IsWalk Has t (read_backwards walk) s
  walk_back s t [] w = sym w
  walk_back s t (link ∷ walk) w = rw read_backwards-cons (walk-append Has t link.to s (read_backwards walk) (turned link ∷ []) (walk_back link.to t walk w.2)
      (turns link w.0, refl, w.1))

  -- and comes to the same vertices, the last first
  vertices_back : (s t : V) (walk : List (LinkOf V)) → IsWalk Turned s walk t → vertices_of t (read_backwards walk) ≡ reverse (vertices_of s walk)
  vertices_back s t [] w = λ i. sym w i ∷ []
  vertices_back s t (link ∷ walk) w =
      let before = vertices_back link.to t walk w.2 in
      let last : link.from ∷ [] ≡ s ∷ [] = ap (λ v. v ∷ []) w.1 in
      ap (vertices_of t) (read_backwards-cons link walk) ∙ (ap (λ vs. t ∷ vs) (map-append (λ (l : LinkOf V). l.to) (read_backwards walk) (turned link ∷ []))
      ∙ (ap (λ vs. vs ++ (link.from ∷ [])) before ∙ (ap (λ vs. reverse (vertices_of link.to walk) ++ vs) last ∙ sym (reverse_onto (vertices_of link.to walk) s []))))

  pub route_back : (s t : V) (walk : List (LinkOf V)) → IsLooplessRoute Turned s walk t → IsLooplessRoute Has t (read_backwards walk) s
  route_back s t walk route = record {
    is_walk = walk_back s t walk route.is_walk;
    ends_differ = λ same. route.ends_differ (sym same);
    loopless = subst IsWithoutRepeats (sym (vertices_back s t walk route.is_walk)) (IsWithoutRepeats-reverse (vertices_of s walk) route.loopless);
  }

  -- links turned round fit where the links do
  pub Fits-turned : Fits Has → Fits Turned
  Fits-turned fits = record {
    links = λ link has. fits.links (turned link) (turns link has);
    routes = λ s t walk route. rw (cost_of-read_backwards walk) at (fits.routes t s (read_backwards walk) (route_back s t walk route));
  }

module _ {V : Type 0} (Has Turned : LinkOf V → Type 0) (turns : (link : LinkOf V) → Turned link ↔ Has (turned link)) where
  -- the walks over links turned round are the walks read backwards
  pub walks_back : (s t : V) (walk : List (LinkOf V)) → IsWalk Turned s walk t ↔ IsWalk Has t (read_backwards walk) s
  walks_back s t walk = (
    walk_back Has Turned (λ link. (turns link).0) s t walk,
    λ w. subst (λ x. IsWalk Turned s x t) (read_backwards-twice walk) (walk_back Turned Has (λ link. (turns (turned link)).1) t s (read_backwards walk) w),
  )

  -- a walk to the root over links turned round
  from_root : (root v : V) (walk : List (LinkOf V)) → LeadsTo Turned (root ∷ []) v walk → IsWalk Has root (read_backwards walk) v
  from_root root v walk leads = (walks_back v root walk).0 (subst (IsWalk Turned v walk) (the_root leads.target leads.is_target) leads.is_walk)
    where
      the_root : (x : V) → Contains (root ∷ []) x → x ≡ root
      the_root x (zero, inside, same) = sym same
      the_root x (suc k, inside, same) = absurd (omega (arith, inside))

  to_root : (root v : V) (walk : List (LinkOf V)) → IsWalk Has root walk v → LeadsTo Turned (root ∷ []) v (read_backwards walk)
  to_root root v walk w = record {
    target = root;
    is_target = (0, omega arith, refl);
    is_walk = (walks_back v root (read_backwards walk)).1 (subst (λ x. IsWalk Has root x v) (sym (read_backwards-twice walk)) w);
  }

  -- least over the walks to the root, turned round, is least over the walks from it
  pub labels_back : (root v : V) (label : Option Label) → IsLabel Turned (root ∷ []) v label ↔ IsLabelFrom Has root v label
  labels_back root v None = (λ none walk w. none (read_backwards walk) (to_root root v walk w), λ none walk leads. none (read_backwards walk) (from_root root v walk leads))
  labels_back root v (Some label) = (
    λ least. record {
      walk = read_backwards least.walk;
      is_walk = from_root root v least.walk least.leads;
      label_is = label_of-read_backwards least.walk ∙ least.label_is;
      least = λ other w. subst (AtMost label) (label_of-read_backwards other) (least.least (read_backwards other) (to_root root v other w));
    },
    λ least. record {
      walk = read_backwards least.walk;
      leads = to_root root v least.walk least.is_walk;
      label_is = label_of-read_backwards least.walk ∙ least.label_is;
      least = λ other leads. subst (AtMost label) (label_of-read_backwards other) (least.least (read_backwards other) (from_root root v other leads));
    },
  )
