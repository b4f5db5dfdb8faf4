-- How an id is found: among ids that rise by bisection, and by an index of them.
use Rattle.std.proofs.Common.{◌≡◌, ◌≢◌, ⊎_elim, ℕ, ◌+◌, ◌-◌, ◌<◌, ◌≤◌, Bool, true, false, List, [], ◌∷◌, ◌++◌, length, take, get_or, slice_get, Option, Some, None, Ok, Err, All, refl, sym, ap, subst, ◌∙◌, arith, ℤ, Ordering, Less, Equal, Greater, if◌then◌else◌}
use Rattle.std.specs.Prelude.{IsNone, IfSome, is_some, ◌↔◌}
use Rattle.std.specs.List.{list_any, position}
use Rattle.std.specs.List.Sorted.{IsBinarySearchResult}
use Rattle.std.specs.Ordering.{int_cmp, int_eq, is_lt, ordering_reverse}
use Rattle.std.proofs.lemmas.Bool.{cases_lt}
use Rattle.std.proofs.lemmas.Cmp.{int_cmp_total, int_ranked, tied_itself}
use Rattle.std.proofs.lemmas.List.{get_or_append_left, get_or-append-add, length-append, map-append, get_or-map, get_or-take, length-map, length-take}
use Rattle.std.proofs.lemmas.List.Quantifiers.{position-Some}
use Rattle.std.proofs.lemmas.List.Sorted.{searchable_from_sorted}
use Rattle.std.proofs.lemmas.Option.{slice_get-get_or, slice_get-map, slice_get_within, get_or_from_slice_get}
use Rattle.indexmap.specs.IndexSet.{insert_key}
use Rattle.pgr_outside.specs.Lists.{IsStrictlyRising}
use Rattle.pgr_outside.proofs.Lists.{take_one_more}
use Rattle.pgr_table.specs.declared.edge_list.PlainEdge.{PlainEdge}
use Rattle.pgr_table.specs.KeptEdges.{ids_of, AreFound}
use Rattle.pgr_table.proofs.Keyed.{int_eq-yes, absent-all, all-absent}

-- an id that comes before another isn't that one
less_apart : (a b : ℤ) → int_cmp a b ≡ Less → a ≢ b
less_apart a b less same = let tied : int_cmp a b ≡ Equal = ap (λ x. int_cmp x b) same ∙ tied_itself int_cmp_total b in cc

-- what comes before the last of rising ids, and it, come before all that it comes before
all_less : (ids : List ℤ) (id last : ℤ) → IsStrictlyRising int_cmp ids → slice_get ids (length ids - 1) ≡ Some last → int_cmp last id ≡ Less
    → All (λ other. int_cmp other id ≡ Less) ids
all_less ids id last rise at less k d inside =
    let ends : int_cmp (get_or ids (length ids - 1) d) id ≡ Less = ap (λ x. int_cmp x id) (get_or_from_slice_get ids (length ids - 1) last d at) ∙ less in
    ⊎_elim
    (λ early. int_cmp_total.trans (get_or ids k d) (get_or ids (length ids - 1) d) id (rise k (length ids - 1) d early (omega arith)) ends)
    (λ late. let same : k ≡ length ids - 1 = omega arith in ap (λ n. int_cmp (get_or ids n d) id) same ∙ ends)
    (cases_lt k (length ids - 1))

-- one more id behind those that come before it
rise_push : (ids : List ℤ) (id : ℤ) → IsStrictlyRising int_cmp ids → All (λ other. int_cmp other id ≡ Less) ids → IsStrictlyRising int_cmp (ids ++ id ∷ [])
rise_push ids id rise below i j d before inside =
    let within : j < length ids + 1 = omega (arith, inside, length-append ids (id ∷ [])) in
    let front = get_or_append_left ids (id ∷ []) d i (omega arith) in
    ap (λ a. int_cmp a (get_or (ids ++ id ∷ []) j d)) front ∙ ⊎_elim
    (λ early. ap (int_cmp (get_or ids i d)) (get_or_append_left ids (id ∷ []) d j early) ∙ rise i j d before early)
    (λ late.
    let at_end : get_or (ids ++ id ∷ []) j d ≡ id = ap (λ k. get_or (ids ++ id ∷ []) k d) (omega arith) ∙ get_or-append-add ids (id ∷ []) 0 d in
    ap (int_cmp (get_or ids i d)) at_end ∙ below i d (omega arith))
    (cases_lt j (length ids))

-- ids that rise with one more come before it, so it is none of them
pub absent-rising : (ids : List ℤ) (id : ℤ) → IsStrictlyRising int_cmp (ids ++ id ∷ []) → All (λ other. other ≢ id) ids
absent-rising ids id rise k d inside =
    let at_end : get_or (ids ++ id ∷ []) (length ids + 0) d ≡ id = get_or-append-add ids (id ∷ []) 0 d in
    let less = rise k (length ids + 0) d (omega arith) (omega (arith, length-append ids (id ∷ []))) in
    less_apart (get_or ids k d) id
    (ap (λ a. int_cmp a id) (sym (get_or_append_left ids (id ∷ []) d k inside)) ∙ ap (int_cmp (get_or (ids ++ id ∷ []) k d)) (sym at_end) ∙ less)

-- the last of ids that rise with one more comes before it
before_it : (ids : List ℤ) (id last : ℤ) → IsStrictlyRising int_cmp (ids ++ id ∷ []) → slice_get ids (length ids - 1) ≡ Some last → int_cmp last id ≡ Less
before_it [] id last rises at = cc at
before_it (first ∷ rest) id last rises at =
    let ids = first ∷ rest in
    let here : get_or ids (length ids - 1) first ≡ last = get_or_from_slice_get ids (length ids - 1) last first at in
    let front = get_or_append_left ids (id ∷ []) first (length ids - 1) (omega arith) in
    let at_end : get_or (ids ++ id ∷ []) (length ids + 0) first ≡ id = get_or-append-add ids (id ∷ []) 0 first in
    let less = rises (length ids - 1) (length ids + 0) first (omega arith) (omega (arith, length-append ids (id ∷ []))) in
    ap (λ a. int_cmp a id) (sym (front ∙ here)) ∙ (ap (int_cmp (get_or (ids ++ id ∷ []) (length ids - 1) first)) (sym at_end) ∙ less)

-- the id of the last of edges stands last among their ids
last_id : (edges : List PlainEdge) (last : PlainEdge) → slice_get edges (length edges - 1) ≡ Some last → slice_get (ids_of edges) (length (ids_of edges) - 1) ≡ Some last.id
last_id edges last at =
    let place : length (ids_of edges) - 1 ≡ length edges - 1 = ap (λ n. n - 1) (length-map edges (λ (edge : PlainEdge). edge.id)) in
    ap (slice_get (ids_of edges)) place ∙ slice_get-map (λ (edge : PlainEdge). edge.id) edges (length edges - 1) ∙ ap (λ (o : Option PlainEdge). option_id o) at
  where
    option_id : Option PlainEdge → Option ℤ
    option_id None = None
    option_id (Some edge) = Some edge.id

-- the ids of edges rise with one more exactly where the last comes before it
pub rises_with-last : (edges : List PlainEdge) (id : ℤ) (last : PlainEdge) → IsStrictlyRising int_cmp (ids_of edges) → slice_get edges (length edges - 1) ≡ Some last
    → (int_cmp last.id id ≡ Less) ↔ IsStrictlyRising int_cmp (ids_of edges ++ id ∷ [])
rises_with-last edges id last rise at = (
  λ less. rise_push (ids_of edges) id rise (all_less (ids_of edges) id last.id rise (last_id edges last at) less),
  λ rises. before_it (ids_of edges) id last.id rises (last_id edges last at),
)

-- one id alone rises
pub rises_with-none : (edges : List PlainEdge) (id : ℤ) → slice_get edges (length edges - 1) ≡ None → IsStrictlyRising int_cmp (ids_of edges ++ id ∷ [])
rises_with-none [] id none = λ i j d before inside. absurd (omega arith)
rises_with-none (edge ∷ edges) id none = cc (sym (slice_get-get_or (edge ∷ edges) (length (edge ∷ edges) - 1) edge (omega arith)) ∙ none)

-- ids that still rise with one more are found as before
pub AreFound-risen : (rising : Bool) (edges new : List PlainEdge) (edge : PlainEdge) (index : List ℤ) → rising ≡ true → new ≡ edges ++ edge ∷ []
    → IsStrictlyRising int_cmp (ids_of edges ++ edge.id ∷ []) → AreFound rising (ids_of new) index
AreFound-risen true edges new edge index is_so grown rise =
    let ids : ids_of new ≡ ids_of edges ++ edge.id ∷ [] = ap ids_of grown ∙ map-append (λ (e : PlainEdge). e.id) edges (edge ∷ []) in
    record { rise = subst (IsStrictlyRising int_cmp) (sym ids) rise; indexed = tt }
AreFound-risen false edges new edge index is_so grown rise = cc is_so

-- ids that rise are sorted
not_after : (o p : Ordering) → o ≡ Less → p ≡ ordering_reverse o → is_lt p ≡ false
not_after o Less less back = cc
not_after o Equal less back = refl
not_after o Greater less back = refl

sorted : (edges : List PlainEdge) → IsStrictlyRising int_cmp (ids_of edges) → (k : ℕ) (d : PlainEdge) → 0 ≤ k → k + 1 < length edges
    → is_lt (int_cmp (get_or edges (k + 1) d).id (get_or edges k d).id) ≡ false
sorted edges rise k d low inside =
    let id = λ (edge : PlainEdge). edge.id in
    let less = rise k (k + 1) d.id (omega arith) (omega (arith, inside, length-map edges id)) in
    let shown : int_cmp (get_or edges k d).id (get_or edges (k + 1) d).id ≡ Less =
    ap (λ a. int_cmp a (get_or edges (k + 1) d).id) (sym (get_or-map id edges k d d.id (omega arith)))
    ∙ ap (int_cmp (get_or (ids_of edges) k d.id)) (sym (get_or-map id edges (k + 1) d d.id inside)) ∙ less in
    not_after _ _ shown (int_cmp_total.antisymm (get_or edges (k + 1) d).id (get_or edges k d).id)

-- what a bisection says
pub bisected-found : (edges : List PlainEdge) (id : ℤ) (place : ℕ) → place < length edges → IsBinarySearchResult (λ edge. int_cmp edge.id id) edges (Ok place)
    → slice_get (ids_of edges) place ≡ Some id
bisected-found [] id place within at = absurd (omega arith)
bisected-found (edge ∷ edges) id place within at =
    let all = edge ∷ edges in
    let is : (get_or all place edge).id ≡ id = int_ranked (get_or all place edge).id id Equal (sym (at edge)) in
    slice_get-map (λ (e : PlainEdge). e.id) all place ∙ ap option_id (slice_get-get_or all place edge within) ∙ ap Some is
  where
    option_id : Option PlainEdge → Option ℤ
    option_id None = None
    option_id (Some e) = Some e.id

pub bisected-absent : (edges : List PlainEdge) (id : ℤ) (place : ℕ) → IsStrictlyRising int_cmp (ids_of edges)
    → IsBinarySearchResult (λ edge. int_cmp edge.id id) edges (Err place) → All (λ other. other ≢ id) (ids_of edges)
bisected-absent [] id place rise parts k d inside = absurd (omega arith)
bisected-absent (edge ∷ edges) id place rise parts k d inside =
    let all = edge ∷ edges in
    let key = λ (e : PlainEdge). e.id in
    let within : k < length all = omega (arith, inside, length-map all key) in
    let at : get_or (ids_of all) k d ≡ (get_or all k edge).id = get_or-map key all k edge d within in
    let parted = parts (searchable_from_sorted int_cmp_total key all id (sorted all rise)) in
    λ same.
    let tied : int_cmp (get_or all k edge).id id ≡ Equal = ap (λ x. int_cmp x id) (sym at ∙ same) ∙ tied_itself int_cmp_total id in
    ⊎_elim (λ before. let less = parted.0 k edge (omega arith) before in cc) (λ after. let greater = parted.1 k edge after within in cc) (cases_lt k place)

-- an id that stands at a place isn't absent
pub present : (ids : List ℤ) (id : ℤ) (place : ℕ) → slice_get ids place ≡ Some id → All (λ other. other ≢ id) ids → ⊥
present ids id place at others = others place id (slice_get_within ids place id at) (get_or_from_slice_get ids place id id at)

-- what a look-up in an index of the ids says
pub position-found : (id : ℤ) (keys ids : List ℤ) (result : Option ℕ) → keys ≡ ids → result ≡ position (int_eq id) keys → IfSome result (λ i. slice_get ids i ≡ Some id)
position-found id keys ids None same at = tt
position-found id keys ids (Some i) same at =
    let found = position-Some (int_eq id) ids i id (ap (position (int_eq id)) (sym same) ∙ sym at) in
    slice_get-get_or ids i id found.0 ∙ ap Some (sym (int_eq-yes id (get_or ids i id) found.1))

pub position-absent : (id : ℤ) (keys ids : List ℤ) (result : Option ℕ) → keys ≡ ids → is_some result ≡ list_any (int_eq id) keys
    → IsNone result ↔ All (λ other. other ≢ id) ids
position-absent id keys ids result same found = by result (found ∙ ap (list_any (int_eq id)) same)
  where
    by : (r : Option ℕ) → is_some r ≡ list_any (int_eq id) ids → IsNone r ↔ All (λ other. other ≢ id) ids
    by None e = (λ none. absent-all id ids (sym e), λ others. refl)
    by (Some i) e = (λ none. cc none, λ others. cc (e ∙ all-absent id ids others))

-- a new id goes last in an index
pub insert_key-new : (keys : List ℤ) (id : ℤ) → list_any (int_eq id) keys ≡ false → insert_key int_eq keys id ≡ keys ++ id ∷ []
insert_key-new keys id new = ap (λ (t : Bool). if t then keys else keys ++ id ∷ []) new

-- the id of the next edge is none of those before it, where they rise, so it goes last in their index
pub insert_key-next : (edges : List PlainEdge) (i : ℕ) (d : PlainEdge) (keys new : List ℤ) → IsStrictlyRising int_cmp (ids_of edges) → i < length edges
    → keys ≡ take i (ids_of edges) → new ≡ insert_key int_eq keys (get_or edges i d).id → new ≡ take (i + 1) (ids_of edges)
insert_key-next edges i d keys new rise within so_far is =
    let ids = ids_of edges in
    let id = (get_or edges i d).id in
    let inside : i < length ids = omega (arith, within, length-map edges (λ (edge : PlainEdge). edge.id)) in
    let here : get_or ids i d.id ≡ id = get_or-map (λ (edge : PlainEdge). edge.id) edges i d d.id within in
    let at : slice_get ids i ≡ Some id = slice_get-get_or ids i d.id inside ∙ ap Some here in
    let others : All (λ other. other ≢ id) (take i ids) = λ k e below.
    let before : k < i = omega (arith, below, length-take i ids) in
    less_apart (get_or (take i ids) k e) id
    (ap (λ a. int_cmp a id) (get_or-take i ids k e before) ∙ ap (int_cmp (get_or ids k e)) (sym (get_or_from_slice_get ids i id e at)) ∙ rise k i e before inside) in
    is ∙ insert_key-new keys id (ap (list_any (int_eq id)) so_far ∙ all-absent id (take i ids) others) ∙ ap (λ (front : List ℤ). front ++ id ∷ []) so_far
    ∙ sym (take_one_more ids i id at)
