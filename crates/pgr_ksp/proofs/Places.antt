-- The fronts of a walk: their vertices, what they cost, and their marks.
use Rattle.std.proofs.Common.{◌≡◌, ◌≢◌, ℕ, zero, suc, ◌+◌, ◌-◌, ◌<◌, ◌≤◌, Bool, true, false, cond, List, [], ◌∷◌, ◌++◌, length, take, get_or, set, replicate, eqb, refl, sym, ap, subst, ◌∙◌, arith, ◌⊎◌, inl, inr}
use Rattle.std.specs.Prelude.{All, Option, slice_index_or}
use Rattle.std.proofs.lemmas.Bool.{cases_eq, cases_lt, eq-eqb, ne_eqb, eqb-true}
use Rattle.std.proofs.lemmas.List.{get_or-set_same, get_or-set_other, get_or_past, get_or-replicate, length-replicate, take_all, take_more}
use Rattle.std.proofs.lemmas.List.Elements.{All-nil, All-cons, All-get_or, All-same, All-append, All-weaker}
use Rattle.pgr_walks.specs.declared.link.LinkOf.{LinkOf}
use Rattle.pgr_walks.specs.declared.label.Label.{Label}
use Rattle.pgr_walks.specs.Walk.{IsWalk, IsLooplessRoute, cost_of}
use Rattle.pgr_search.specs.Estimates.{IsConsistent}
use Rattle.pgr_ksp.specs.Classes.{among, starts, MarksStarts, LeaveAt, goes_on, is_same, one, taboo_at}
use Rattle.pgr_ksp.specs.FromStart.{cost_beyond}
use Rattle.pgr_ksp.proofs.Alike.{among-append, cost-append}
use Rattle.pgr_ksp.proofs.Splitting.{IsPlace, place_of, split_step, ends_same}

-- where a walk from a vertex below the size ends
pub end_below : (Has : LinkOf ℕ → Type 0) (size : ℕ) → ((link : LinkOf ℕ) → Has link → link.to < size) → (s v : ℕ) (links : List (LinkOf ℕ)) → s < size
    → IsWalk Has s links v → v < size
end_below Has size below s v [] h w = subst (λ u. u < size) w h
end_below Has size below s v (link ∷ links) h w = end_below Has size below link.to v links (below link w.0) w.2

-- and where its links begin
pub froms_below : (Has : LinkOf ℕ → Type 0) (size : ℕ) → ((link : LinkOf ℕ) → Has link → link.to < size) → (s v : ℕ) (links : List (LinkOf ℕ)) → s < size
    → IsWalk Has s links v → All (λ link. link.from < size) links
froms_below Has size below s v [] h w = All-nil (λ (link : LinkOf ℕ). link.from < size)
froms_below Has size below s v (link ∷ links) h w =
    All-cons (λ (link : LinkOf ℕ). link.from < size) link links (subst (λ u. u < size) (sym w.1) h) (froms_below Has size below link.to v links (below link w.0) w.2)

-- the links before a place cost no more than all
pub cost-take : (links : List (LinkOf ℕ)) (i : ℕ) → cost_of (take i links) ≤ cost_of links
cost-take links zero = omega arith
cost-take [] (suc i) = omega arith
cost-take (x ∷ links) (suc i) = omega (arith, cost-take links i)

-- with the link at the place they cost that much more
pub cost-more : (links : List (LinkOf ℕ)) (i : ℕ) (d : LinkOf ℕ) → i < length links → cost_of (take (i + 1) links) ≡ cost_of (take i links) + (get_or links i d).cost
cost-more links i d h = omega (arith, ap (λ (ls : List (LinkOf ℕ)). cost_of ls) (take_more links i d h), cost-append (take i links) (get_or links i d ∷ []))

starts-append : (xs ys : List (LinkOf ℕ)) → starts (xs ++ ys) ≡ starts xs ++ starts ys
starts-append [] ys = refl
starts-append (x ∷ xs) ys = ap (λ rest. x.from ∷ rest) (starts-append xs ys)

-- no vertex is marked at first
pub none_marked : (n : ℕ) → MarksStarts (replicate n false) []
none_marked n v = by (cases_lt v n)
  where
    by : (v < n) ⊎ (n ≤ v) → get_or (replicate n false) v false ≡ false
    by (inl below) = get_or-replicate n v false false below
    by (inr past) = get_or_past (replicate n false) v false (omega (arith, length-replicate n false))

-- a mark at where one more link begins
pub mark_more : (gone : List Bool) (links : List (LinkOf ℕ)) (i : ℕ) (d : LinkOf ℕ) → i < length links → (get_or links i d).from < length gone → MarksStarts gone (take i links)
    → MarksStarts (set gone (get_or links i d).from true) (take (i + 1) links)
mark_more gone links i d inside below marks v =
    let u = (get_or links i d).from in
    let parts : among (starts (take (i + 1) links)) v ≡ cond (among (starts (take i links)) v) true (among (u ∷ []) v) =
    ap (λ ls. among (starts ls) v) (take_more links i d inside) ∙ (ap (λ xs. among xs v) (starts-append (take i links) (get_or links i d ∷ [])) ∙ among-append
    (starts (take i links)) (u ∷ []) v) in
    by u below parts (cases_eq v u)
  where
    last : (b : Bool) → cond b true true ≡ true
    last true = refl
    last false = refl

    rest : (b : Bool) → cond b true false ≡ b
    rest true = refl
    rest false = refl

    by : (u : ℕ) → u < length gone → among (starts (take (i + 1) links)) v ≡ cond (among (starts (take i links)) v) true (among (u ∷ []) v) → (v ≡ u) ⊎ (v ≡ u → ⊥)
        → get_or (set gone u true) v false ≡ among (starts (take (i + 1) links)) v
    by u below parts (inl same) =
        (ap (λ w. get_or (set gone u true) w false) same ∙ get_or-set_same gone u true false below)
        ∙ sym (parts ∙ (ap (λ b. cond (among (starts (take i links)) v) true (cond b true false)) (eq-eqb v u same) ∙ last (among (starts (take i links)) v)))
    by u below parts (inr other) =
        get_or-set_other gone u v true false other
        ∙ (marks v ∙ sym (parts ∙ (ap (λ b. cond (among (starts (take i links)) v) true (cond b true false)) (ne_eqb v u other) ∙ rest (among (starts (take i links)) v))))

-- estimates less some number are consistent over some of the links
pub consistent_beyond : (Has Left : LinkOf ℕ → Type 0) (labels : List (Option Label)) (base : ℕ) → ((link : LinkOf ℕ) → Left link → Has link)
    → IsConsistent Has (cost_beyond labels 0) → IsConsistent Left (cost_beyond labels base)
consistent_beyond Has Left labels base among consistent link left = omega (arith, consistent link (among link left))

-- a place of a loopless route, by the link that stands there
pub place_at : (Has : LinkOf ℕ → Type 0) (s t : ℕ) (links : List (LinkOf ℕ)) (i : ℕ) (link : LinkOf ℕ) → link ≡ get_or links i link → i < length links
    → IsLooplessRoute Has s links t → IsPlace Has s t links i link.from
place_at Has s t links i link is inside route =
    let P : LinkOf ℕ → Type 0 = λ x. IsPlace Has s t links i x.from in
    subst P (sym is) (place_of Has s t links i link inside route)

-- the taboo links there leave it
pub taboo_leaves : (links : List (LinkOf ℕ)) (kept : ℕ) (taboo : List (LinkOf ℕ)) (i : ℕ) (link : LinkOf ℕ) (all : List (LinkOf ℕ)) → link ≡ get_or links i link
    → LeaveAt links kept taboo
    → ((d : LinkOf ℕ) → all ≡ taboo_at kept taboo i ++ get_or links i d ∷ []) → All (λ x. x.from ≡ link.from) all
taboo_leaves links kept taboo i link all is leave is_all =
    let P : LinkOf ℕ → Type 0 = λ x. x.from ≡ link.from in
    All-same P all (taboo_at kept taboo i ++ get_or links i link ∷ []) (is_all link)
    (All-append P (taboo_at kept taboo i) (get_or links i link ∷ []) (before (eqb i kept) refl)
    (All-cons P (get_or links i link) [] (ap (λ (x : LinkOf ℕ). x.from) (sym is)) (All-nil P)))
  where
    before : (b : Bool) → eqb i kept ≡ b → All (λ x. x.from ≡ link.from) (cond b taboo [])
    before true e = All-weaker (λ (x : LinkOf ℕ). x.from ≡ (get_or links kept link).from) (λ (x : LinkOf ℕ). x.from ≡ link.from)
        (λ x f. f ∙ (ap (λ n. (get_or links n link).from) (sym (eqb-true i kept e)) ∙ ap (λ (y : LinkOf ℕ). y.from) (sym is))) taboo (leave link)
    before false e = All-nil (λ (x : LinkOf ℕ). x.from ≡ link.from)

-- a mark where that link begins
pub mark_at : (gone : List Bool) (links : List (LinkOf ℕ)) (i : ℕ) (link : LinkOf ℕ) → link ≡ get_or links i link → i < length links → link.from < length gone
    → MarksStarts gone (take i links)
    → MarksStarts (set gone link.from true) (take (i + 1) links)
mark_at gone links i link is inside below marks =
    let P : LinkOf ℕ → Type 0 = λ x. MarksStarts (set gone x.from true) (take (i + 1) links) in
    let Q : LinkOf ℕ → Type 0 = λ x. x.from < length gone in
    subst P (sym is) (mark_more gone links i link inside (subst Q is below) marks)

-- what the links cost with it
pub cost_at : (links : List (LinkOf ℕ)) (i : ℕ) (link : LinkOf ℕ) → link ≡ get_or links i link → i < length links
    → cost_of (take (i + 1) links) ≡ cost_of (take i links) + link.cost
cost_at links i link is inside = cost-more links i link inside ∙ ap (λ (x : LinkOf ℕ). cost_of (take i links) + x.cost) (sym is)

-- the routes that are left there, with taboo links in the form that the code has them
pub split_at : (links : List (LinkOf ℕ)) (kept : ℕ) (taboo : List (LinkOf ℕ)) (i : ℕ) (link : LinkOf ℕ) (all route : List (LinkOf ℕ)) → kept < length links → kept ≤ i
    → i < length links → goes_on (take kept links) taboo links ≡ true
    → ((d : LinkOf ℕ) → all ≡ taboo_at kept taboo i ++ get_or links i d ∷ [])
    → one (goes_on (take i links) (taboo_at kept taboo i) route) ≡ one (goes_on (take i links) all route) + one (goes_on (take (i + 1) links) (taboo_at kept taboo (i + 1)) route)
split_at links kept taboo i link all route within from inside own is_all =
    split_step links kept taboo i link route within from inside own
    ∙ ap (λ (ls : List (LinkOf ℕ)). one (goes_on (take i links) ls route) + one (goes_on (take (i + 1) links) (taboo_at kept taboo (i + 1)) route)) (sym (is_all link))

-- at the end of a loopless route it alone is left
pub split_all : (Has : LinkOf ℕ → Type 0) (s t : ℕ) (links : List (LinkOf ℕ)) (kept : ℕ) (taboo : List (LinkOf ℕ)) (i : ℕ) (route : List (LinkOf ℕ)) → kept < length links
    → length links ≤ i
    → IsLooplessRoute Has s links t → IsLooplessRoute Has s route t → one (goes_on (take i links) (taboo_at kept taboo i) route) ≡ one (is_same route links)
split_all Has s t links kept taboo i route within past first other =
    let none : taboo_at kept taboo i ≡ [] = ap (λ b. cond b taboo []) (ne_eqb i kept (λ e. absurd (omega arith))) in
    let whole : take i links ≡ links = take_all i links past in
    (λ k. one (goes_on (whole k) (none k) route)) ∙ ap one (ends_same Has s t links route first other)

-- before the first place that is looked at the class is whole
pub split_none : (links : List (LinkOf ℕ)) (kept : ℕ) (taboo route : List (LinkOf ℕ))
    → one (goes_on (take kept links) (taboo_at kept taboo kept) route) ≡ one (goes_on (take kept links) taboo route)
split_none links kept taboo route = ap (λ b. one (goes_on (take kept links) (cond b taboo []) route)) (eq-eqb kept kept refl)

-- the link at a place begins below the size
pub below_at : (links : List (LinkOf ℕ)) (i : ℕ) (link : LinkOf ℕ) (size : ℕ) → link ≡ get_or links i link → i < length links → All (λ x. x.from < size) links → link.from < size
below_at links i link size is inside all =
    let P : LinkOf ℕ → Type 0 = λ x. x.from < size in
    subst P (sym is) (All-get_or P links i link inside all)
