-- Rows of flows and of cuts grow by what the next arc gives.
use Rattle.std.proofs.Common.{◌≡◌, ℕ, ◌+◌, ◌<◌, Bool, true, false, cond, List, [], ◌∷◌, ◌++◌, append_assoc, length, drop, map, get_or, refl, sym, ap, ◌∙◌, arith}
use Rattle.std.specs.Prelude.{ℤ, filter, nat_lt}
use Rattle.std.proofs.lemmas.Bool.Decides.{Decides-ltb}
use Rattle.std.proofs.lemmas.List.{append-nil, length-append, drop_more, map-append}
use Rattle.pgr_walks.specs.declared.link.LinkOf.{LinkOf}
use Rattle.pgr_numbers.specs.Names.{named}
use Rattle.pgr_flow.specs.Cut.{leads_out}
use Rattle.pgr_rows.specs.declared.rows.FlowRow.{FlowRow}
use Rattle.pgr_rows.specs.declared.rows.CutRow.{CutRow}
use Rattle.pgr_answer.specs.Flows.{rows_from}
use Rattle.pgr_answer.specs.EdmondsKarp.{Carrier, with_flows, carriers, flow_row}
use Rattle.pgr_answer.specs.MinCut.{cut_row}

-- rows of two lists are those of the one and then those of the other
rows_from-append : {X Row : Type 0} (row : ℕ → X → Row) (n : ℕ) (xs ys : List X) → rows_from row n (xs ++ ys) ≡ rows_from row n xs ++ rows_from row (n + length xs) ys
rows_from-append row n [] ys = ap (λ (k : ℕ). rows_from row k ys) (omega arith)
rows_from-append row n (x ∷ xs) ys =
    ap (λ rows. row n x ∷ rows) (rows_from-append row (n + 1) xs ys ∙ ap (λ (k : ℕ). rows_from row (n + 1) xs ++ rows_from row k ys) (omega arith))

length-rows_from : {X Row : Type 0} (row : ℕ → X → Row) (n : ℕ) (xs : List X) → length (rows_from row n xs) ≡ length xs
length-rows_from row n [] = refl
length-rows_from row n (x ∷ xs) = omega (arith, length-rows_from row (n + 1) xs)

-- rows so far and those to come: what stands at the front of what is left is put behind the rows so far
pub rows_grow : {X Row : Type 0} (row : ℕ → X → Row) (all old new : List Row) (whole front rest : List X) → all ≡ old ++ rows_from row (length old + 1) whole
    → whole ≡ front ++ rest → new ≡ old ++ rows_from row (length old + 1) front → all ≡ new ++ rows_from row (length new + 1) rest
rows_grow row all old new whole front rest so_far split more =
    let n = length old + 1 in
    let counted : n + length front ≡ length new + 1 = omega (arith, ap length more, length-append old (rows_from row n front), length-rows_from row n front) in
    so_far
    ∙ ap (λ xs. old ++ rows_from row n xs) split
    ∙ ap (λ rows. old ++ rows) (rows_from-append row n front rest)
    ∙ sym (append_assoc old (rows_from row n front) (rows_from row (n + length front) rest))
    ∙ ap (λ rows. rows ++ rows_from row (n + length front) rest) (sym more)
    ∙ ap (λ (k : ℕ). new ++ rows_from row k rest) counted

-- the first element that is kept, and those of the rest
filter-first : {X : Type 0} (p : X → Bool) (x : X) (xs : List X) → filter p (x ∷ xs) ≡ filter p (x ∷ []) ++ filter p xs
filter-first p x xs = at (p x)
  where
    at : (b : Bool) → cond b (x ∷ filter p xs) (filter p xs) ≡ cond b (x ∷ []) [] ++ filter p xs
    at true = refl
    at false = refl

-- of what is left, the next element that is kept stands at the front
pub kept_split : {X Y : Type 0} (f : X → Y) (p : X → Bool) (xs : List X) (i : ℕ) (d : X) → i < length xs
    → map f (filter p (drop i xs)) ≡ map f (filter p (get_or xs i d ∷ [])) ++ map f (filter p (drop (i + 1) xs))
kept_split f p xs i d inside =
    ap (λ left. map f (filter p left)) (drop_more xs i d inside)
    ∙ ap (map f) (filter-first p (get_or xs i d) (drop (i + 1) xs))
    ∙ map-append f (filter p (get_or xs i d ∷ [])) (filter p (drop (i + 1) xs))

-- and so does the next arc that carries flow
pub carriers_split : (arcs : List (LinkOf ℤ)) (flows : List ℕ) (i : ℕ) (d : LinkOf ℤ) → i < length arcs → i < length flows
    → carriers (drop i arcs) (drop i flows) ≡ carriers (get_or arcs i d ∷ []) (get_or flows i 0 ∷ []) ++ carriers (drop (i + 1) arcs) (drop (i + 1) flows)
carriers_split arcs flows i d in_arcs in_flows =
    ap (λ left. carriers left (drop i flows)) (drop_more arcs i d in_arcs)
    ∙ ap (λ left. carriers (get_or arcs i d ∷ drop (i + 1) arcs) left) (drop_more flows i 0 in_flows)
    ∙ filter-first (λ (c : Carrier). nat_lt 0 c.flow) (record { arc = get_or arcs i d; flow = get_or flows i 0 }) (with_flows (drop (i + 1) arcs) (drop (i + 1) flows))

-- an arc without flow has no row, and one with flow has one
pub flow_passed : (old : List FlowRow) (arc : LinkOf ℤ) (flow : ℕ) → flow ≡ 0 → old ≡ old ++ rows_from flow_row (length old + 1) (carriers (arc ∷ []) (flow ∷ []))
flow_passed old arc flow none = sym (ap (λ (f : ℕ). old ++ rows_from flow_row (length old + 1) (carriers (arc ∷ []) (f ∷ []))) none ∙ append-nil old)

pub flow_pushed : (old new : List FlowRow) (arc : LinkOf ℤ) (flow count : ℕ) (row : FlowRow) → 0 < flow → count ≡ length old
    → row ≡ flow_row (count + 1) (record { arc = arc; flow = flow }) → new ≡ old ++ row ∷ []
    → new ≡ old ++ rows_from flow_row (length old + 1) (carriers (arc ∷ []) (flow ∷ []))
flow_pushed old new arc flow count row some counted is more =
    let carrier : Carrier = record { arc = arc; flow = flow } in
    let carries : nat_lt 0 flow ≡ true = (Decides-ltb 0 flow).1 some in
    more
    ∙ ap (λ (r : FlowRow). old ++ r ∷ []) is
    ∙ ap (λ (k : ℕ). old ++ flow_row (k + 1) carrier ∷ []) counted
    ∙ sym (ap (λ (b : Bool). old ++ rows_from flow_row (length old + 1) (cond b (carrier ∷ []) [])) carries)

-- an arc that doesn't lead out has no row, and one that does has one
pub cut_passed : (names : List ℤ) (side : ℕ → Bool) (old : List CutRow) (arc : LinkOf ℕ) → leads_out side arc ≡ false
    → old ≡ old ++ rows_from cut_row (length old + 1) (map (named names) (filter (leads_out side) (arc ∷ [])))
cut_passed names side old arc out =
    sym (ap (λ (b : Bool). old ++ rows_from cut_row (length old + 1) (map (named names) (cond b (arc ∷ []) []))) out ∙ append-nil old)

pub cut_pushed : (names : List ℤ) (side : ℕ → Bool) (old new : List CutRow) (arc : LinkOf ℕ) (count : ℕ) (row : CutRow) → leads_out side arc ≡ true → count ≡ length old
    → row ≡ cut_row (count + 1) (named names arc) → new ≡ old ++ row ∷ []
    → new ≡ old ++ rows_from cut_row (length old + 1) (map (named names) (filter (leads_out side) (arc ∷ [])))
cut_pushed names side old new arc count row out counted is more =
    more
    ∙ ap (λ (r : CutRow). old ++ r ∷ []) is
    ∙ ap (λ (k : ℕ). old ++ cut_row (k + 1) (named names arc) ∷ []) counted
    ∙ sym (ap (λ (b : Bool). old ++ rows_from cut_row (length old + 1) (map (named names) (cond b (arc ∷ []) []))) out)
