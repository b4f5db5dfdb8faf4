-- Flows and cuts between vertex numbers are flows and cuts between the ids that they stand for: a set of ids and a set of numbers that agree where
-- numbers stand for ids have the same sums over arcs, so a flow of the one network is a flow of the other, and a cut of the one has the capacity of a cut of the other.
use Rattle.std.proofs.Common.{◌≡◌, ◌⊎◌, inl, inr, ℕ, ◌+◌, zero, suc, ◌<◌, ◌≤◌, Bool, true, false, cond, not, ◌&&◌, List, [], ◌∷◌, length, map, nat_eq, refl, sym, ap, ◌∙◌, subst, arith}
use Rattle.std.specs.Prelude.{ℤ, All}
use Rattle.std.specs.Ordering.{int_eq}
use Rattle.std.proofs.lemmas.Bool.{eqb-true, eq-eqb, cases_lt, false_from_ne_true}
use Rattle.std.proofs.lemmas.Bool.Decides.{Decides-int_eq, same_from_decides}
use Rattle.std.proofs.lemmas.List.Elements.{All-head, All-tail}
use Rattle.std.proofs.lemmas.List.Sums.{sum_by-cons}
use Rattle.pgr_walks.specs.declared.link.LinkOf.{LinkOf}
use Rattle.pgr_numbers.specs.Names.{IsNumbered, id_at, named}
use Rattle.pgr_flow.specs.Flow.{sum_where, leaving, entering, AreWithin, IsFlow, IsGreatestFlow}
use Rattle.pgr_flow.specs.Cut.{IsCut, IsLeastCut, IsLeastSide, leads_out, capacity_of}

never : false ≡ true → ⊥
never e = absurd cc

-- two ids that differ are told apart
told_apart : (v w : ℤ) → (v ≡ w → ⊥) → int_eq v w ≡ false
told_apart v w differ = false_from_ne_true (int_eq v w) (λ e. differ ((Decides-int_eq v w).0 e))

-- an id that differs from a name and from those behind it differs from all
differ_more : (v x : ℤ) (xs : List ℤ) → int_eq v x ≡ false → ((n : ℕ) → n < length xs → int_eq v (id_at xs n) ≡ false)
    → (n : ℕ) → n < length (x ∷ xs) → int_eq v (id_at (x ∷ xs) n) ≡ false
differ_more v x xs e none zero inside = e
differ_more v x xs e none (suc n) inside = none n (omega arith)

-- an id is one of the names, or differs from each of them
pub place_of : (v : ℤ) (names : List ℤ) → ((n : ℕ) × (n < length names) × (id_at names n ≡ v)) ⊎ ((n : ℕ) → n < length names → int_eq v (id_at names n) ≡ false)
place_of v [] = inr (λ n inside. absurd (omega arith))
place_of v (x ∷ xs) = step (int_eq v x) refl (place_of v xs)
  where
    step : (b : Bool) → int_eq v x ≡ b
        → ((n : ℕ) × (n < length xs) × (id_at xs n ≡ v)) ⊎ ((n : ℕ) → n < length xs → int_eq v (id_at xs n) ≡ false)
        → ((n : ℕ) × (n < length (x ∷ xs)) × (id_at (x ∷ xs) n ≡ v)) ⊎ ((n : ℕ) → n < length (x ∷ xs) → int_eq v (id_at (x ∷ xs) n) ≡ false)
    step true e later = inl (0, omega arith, sym ((Decides-int_eq v x).0 e))
    step false e (inl later) = inl (suc later.0, omega (arith, later.1), later.2)
    step false e (inr none) = inr (differ_more v x xs e none)

-- the set of the ids whose numbers are in a set
abbrev pub id_set : List ℤ → (ℕ → Bool) → ℤ → Bool
id_set [] q v = false
id_set (name ∷ names) q v = cond (int_eq v name) (q 0) (id_set names (λ n. q (suc n)) v)

-- what stands in it is a name
pub id_set_outside : (names : List ℤ) (q : ℕ → Bool) (v : ℤ) → ((n : ℕ) → n < length names → int_eq v (id_at names n) ≡ false) → id_set names q v ≡ false
id_set_outside [] q v none = refl
id_set_outside (x ∷ xs) q v none =
    ap (λ b. cond b (q 0) (id_set xs (λ n. q (suc n)) v)) (none 0 (omega arith)) ∙ id_set_outside xs (λ n. q (suc n)) v (λ n inside. none (suc n) (omega arith))

-- and a name does where its number does
pub id_set_at : (names : List ℤ) → ((m n : ℕ) → m < length names → n < length names → id_at names m ≡ id_at names n → m ≡ n)
    → (q : ℕ → Bool) (n : ℕ) → n < length names → id_set names q (id_at names n) ≡ q n
id_set_at [] one q n inside = absurd (omega arith)
id_set_at (x ∷ xs) one q zero inside = ap (λ b. cond b (q 0) (id_set xs (λ n. q (suc n)) x)) ((Decides-int_eq x x).1 refl)
id_set_at (x ∷ xs) one q (suc n) inside =
    let v = id_at xs n in
    let apart : int_eq v x ≡ false = told_apart v x (λ e. absurd (let wrong : suc n ≡ 0 = one (suc n) 0 inside (omega arith) e in omega arith)) in
    ap (λ b. cond b (q 0) (id_set xs (λ k. q (suc k)) v)) apart
    ∙ id_set_at xs (λ m k m_in k_in e. let same : suc m ≡ suc k = one (suc m) (suc k) (omega arith) (omega arith) e in omega arith) (λ k. q (suc k)) n (omega arith)

-- a set of ids and a set of numbers agree where numbers stand for ids
abbrev pub Agree : List ℤ → (ℤ → Bool) → (ℕ → Bool) → Type 0
Agree names p q = (n : ℕ) → n < length names → p (id_at names n) ≡ q n

module _ (names : List ℤ) where
  -- what leaves sets that agree is the same
  leaving_agree : (p : ℤ → Bool) (q : ℕ → Bool) → Agree names p q → (arcs : List (LinkOf ℕ)) (flows : List ℕ) → All (IsNumbered names) arcs
      → leaving p (map (named names) arcs) flows ≡ leaving q arcs flows
  unfolding sum_where
  leaving_agree p q same [] flows ends = refl
  leaving_agree p q same (arc ∷ arcs) [] ends = refl
  leaving_agree p q same (arc ∷ arcs) (n ∷ flows) ends =
      let here = same arc.from (All-head (IsNumbered names) arc arcs ends).0 in
      omega (arith, ap (λ (b : Bool). cond b n 0) here, leaving_agree p q same arcs flows (All-tail (IsNumbered names) arc arcs ends))

  -- and so is what comes into them
  entering_agree : (p : ℤ → Bool) (q : ℕ → Bool) → Agree names p q → (arcs : List (LinkOf ℕ)) (flows : List ℕ) → All (IsNumbered names) arcs
      → entering p (map (named names) arcs) flows ≡ entering q arcs flows
  unfolding sum_where
  entering_agree p q same [] flows ends = refl
  entering_agree p q same (arc ∷ arcs) [] ends = refl
  entering_agree p q same (arc ∷ arcs) (n ∷ flows) ends =
      let here = same arc.to (All-head (IsNumbered names) arc arcs ends).1 in
      omega (arith, ap (λ (b : Bool). cond b n 0) here, entering_agree p q same arcs flows (All-tail (IsNumbered names) arc arcs ends))

  -- the same arcs lead out of them
  pub out_agree : (p : ℤ → Bool) (q : ℕ → Bool) → Agree names p q → (arc : LinkOf ℕ) → IsNumbered names arc → leads_out p (named names arc) ≡ leads_out q arc
  out_agree p q same arc ends =
      ap (λ (b : Bool). b && not (p (id_at names arc.to))) (same arc.from ends.0) ∙ ap (λ (b : Bool). q arc.from && not b) (same arc.to ends.1)

  -- their capacities are the same
  capacity_agree : (p : ℤ → Bool) (q : ℕ → Bool) → Agree names p q → (arcs : List (LinkOf ℕ)) → All (IsNumbered names) arcs
      → capacity_of p (map (named names) arcs) ≡ capacity_of q arcs
  capacity_agree p q same [] ends = refl
  capacity_agree p q same (arc ∷ arcs) ends =
      let here = ap (λ (b : Bool). cond b arc.cost 0) (out_agree p q same arc (All-head (IsNumbered names) arc arcs ends)) in
      omega (
        arith,
        here,
        capacity_agree p q same arcs (All-tail (IsNumbered names) arc arcs ends),
        sum_by-cons (λ (a : LinkOf ℤ). cond (leads_out p a) a.cost 0) (named names arc) (map (named names) arcs),
        sum_by-cons (λ (a : LinkOf ℕ). cond (leads_out q a) a.cost 0) arc arcs,
      )

  -- arcs by id have the capacities of those by number
  within_named : (arcs : List (LinkOf ℕ)) (flows : List ℕ) → AreWithin arcs flows → AreWithin (map (named names) arcs) flows
  within_named [] [] within = tt
  within_named [] (n ∷ flows) within = absurd within
  within_named (arc ∷ arcs) [] within = absurd within
  within_named (arc ∷ arcs) (n ∷ flows) within = (within.0, within_named arcs flows within.1)

  within_numbered : (arcs : List (LinkOf ℕ)) (flows : List ℕ) → AreWithin (map (named names) arcs) flows → AreWithin arcs flows
  within_numbered [] [] within = tt
  within_numbered [] (n ∷ flows) within = absurd within
  within_numbered (arc ∷ arcs) [] within = absurd within
  within_numbered (arc ∷ arcs) (n ∷ flows) within = (within.0, within_numbered arcs flows within.1)

-- numbers of names stand for different ids; the arcs lead between numbers of names; and the sources and sinks agree
module _ (names : List ℤ) (one : (m n : ℕ) → m < length names → n < length names → id_at names m ≡ id_at names n → m ≡ n)
    (arcs : List (LinkOf ℕ)) (ends : All (IsNumbered names) arcs)
    (source sink : ℤ → Bool) (s t : ℕ → Bool) (sources : Agree names source s) (sinks : Agree names sink t) where
  -- a vertex by its id is that by its number
  vertex_agrees : (n : ℕ) → n < length names → Agree names (int_eq (id_at names n)) (nat_eq n)
  vertex_agrees n n_in m m_in = same_from_decides {P = id_at names n ≡ id_at names m} (int_eq (id_at names n) (id_at names m)) (nat_eq n m)
      (Decides-int_eq (id_at names n) (id_at names m))
      ((λ e. ap (id_at names) (eqb-true n m e)), (λ e. eq-eqb n m (one n m n_in m_in e)))

  -- a number that is none of a name is no end
  far_agrees : (n : ℕ) → length names ≤ n → Agree names (λ v. false) (nat_eq n)
  far_agrees n far m m_in = sym (false_from_ne_true (nat_eq n m) (λ e. absurd (let same = eqb-true n m e in omega arith)))

  -- a flow by number is one by id
  flow_named : (flows : List ℕ) → IsFlow nat_eq arcs s t flows → IsFlow int_eq (map (named names) arcs) source sink flows
  flow_named flows flow = record { within = within_named names arcs flows flow.within; kept = λ v no_source no_sink. at v (place_of v names) no_source no_sink }
    where
      at : (v : ℤ) → ((n : ℕ) × (n < length names) × (id_at names n ≡ v)) ⊎ ((n : ℕ) → n < length names → int_eq v (id_at names n) ≡ false)
          → source v ≡ false → sink v ≡ false → leaving (int_eq v) (map (named names) arcs) flows ≡ entering (int_eq v) (map (named names) arcs) flows
      at v (inl (n, inside, is)) = subst
          (λ (w : ℤ). source w ≡ false → sink w ≡ false → leaving (int_eq w) (map (named names) arcs) flows ≡ entering (int_eq w) (map (named names) arcs) flows) is
          (λ no_source no_sink. leaving_agree names (int_eq (id_at names n)) (nat_eq n) (vertex_agrees n inside) arcs flows ends
          ∙ flow.kept n (sym (sources n inside) ∙ no_source) (sym (sinks n inside) ∙ no_sink)
          ∙ sym (entering_agree names (int_eq (id_at names n)) (nat_eq n) (vertex_agrees n inside) arcs flows ends))
      at v (inr none) = λ no_source no_sink.
          leaving_agree names (int_eq v) (λ n. false) none arcs flows ends ∙ sym (entering_agree names (int_eq v) (λ n. false) none arcs flows ends)

  -- and back
  flow_numbered : (flows : List ℕ) → IsFlow int_eq (map (named names) arcs) source sink flows → IsFlow nat_eq arcs s t flows
  flow_numbered flows flow = record { within = within_numbered names arcs flows flow.within; kept = λ n no_source no_sink. at n (cases_lt n (length names)) no_source no_sink }
    where
      at : (n : ℕ) → (n < length names) ⊎ (length names ≤ n) → s n ≡ false → t n ≡ false → leaving (nat_eq n) arcs flows ≡ entering (nat_eq n) arcs flows
      at n (inl inside) no_source no_sink =
          sym (leaving_agree names (int_eq (id_at names n)) (nat_eq n) (vertex_agrees n inside) arcs flows ends)
          ∙ flow.kept (id_at names n) (sources n inside ∙ no_source) (sinks n inside ∙ no_sink)
          ∙ entering_agree names (int_eq (id_at names n)) (nat_eq n) (vertex_agrees n inside) arcs flows ends
      at n (inr far) no_source no_sink =
          sym (leaving_agree names (λ v. false) (nat_eq n) (far_agrees n far) arcs flows ends) ∙ entering_agree names (λ v. false) (nat_eq n) (far_agrees n far) arcs flows ends

  -- a greatest flow by number is one by id
  pub greatest_named : (flows : List ℕ) (value : ℕ) → IsGreatestFlow nat_eq arcs s t flows value → IsGreatestFlow int_eq (map (named names) arcs) source sink flows value
  greatest_named flows value found = record {
    flow = flow_named flows found.flow;
    value_is = leaving_agree names source s sources arcs flows ends ∙ found.value_is ∙ ap (λ (n : ℕ). value + n) (sym (entering_agree names source s sources arcs flows ends));
    greatest = λ other is_flow. omega (
      arith,
      leaving_agree names source s sources arcs other ends,
      entering_agree names source s sources arcs other ends,
      found.greatest other (flow_numbered other is_flow),
    );
  }

  -- sources and sinks are numbers of names by number, and names by id
  module _ (sources_below : (n : ℕ) → s n ≡ true → n < length names) (sinks_below : (n : ℕ) → t n ≡ true → n < length names)
      (sources_named : (v : ℤ) → source v ≡ true → (n : ℕ) × (n < length names) × (id_at names n ≡ v))
      (sinks_named : (v : ℤ) → sink v ≡ true → (n : ℕ) × (n < length names) × (id_at names n ≡ v)) where
    -- the ids of a cut by number are a cut by id
    cut_named : (q : ℕ → Bool) → IsCut s t q → IsCut source sink (id_set names q)
    cut_named q cut = record {
      sources = λ v is. (let at = sources_named v is in
          let there : source (id_at names at.0) ≡ true = subst (λ (w : ℤ). source w ≡ true) (sym at.2) is in
          subst (λ (w : ℤ). id_set names q w ≡ true) at.2 (id_set_at names one q at.0 at.1 ∙ cut.sources at.0 (sym (sources at.0 at.1) ∙ there)));
      sinks = λ v is. (let at = sinks_named v is in
          let there : sink (id_at names at.0) ≡ true = subst (λ (w : ℤ). sink w ≡ true) (sym at.2) is in
          subst (λ (w : ℤ). id_set names q w ≡ false) at.2 (id_set_at names one q at.0 at.1 ∙ cut.sinks at.0 (sym (sinks at.0 at.1) ∙ there)));
    }

    -- the numbers of a cut by id are a cut by number
    cut_numbered : (p : ℤ → Bool) → IsCut source sink p → IsCut s t (λ n. p (id_at names n))
    cut_numbered p cut = record {
      sources = λ n is. cut.sources (id_at names n) (sources n (sources_below n is) ∙ is);
      sinks = λ n is. cut.sinks (id_at names n) (sinks n (sinks_below n is) ∙ is);
    }

    capacity_named : (q : ℕ → Bool) → capacity_of (id_set names q) (map (named names) arcs) ≡ capacity_of q arcs
    capacity_named q = capacity_agree names (id_set names q) q (id_set_at names one q) arcs ends

    capacity_numbered : (p : ℤ → Bool) → capacity_of p (map (named names) arcs) ≡ capacity_of (λ n. p (id_at names n)) arcs
    capacity_numbered p = capacity_agree names p (λ n. p (id_at names n)) (λ n inside. refl) arcs ends

    -- so are least cuts
    least_numbered : (p : ℤ → Bool) → IsLeastCut (map (named names) arcs) source sink p → IsLeastCut arcs s t (λ n. p (id_at names n))
    least_numbered p least = record {
      cut = cut_numbered p least.cut;
      least = λ other cut. omega (arith, capacity_numbered p, capacity_named other, least.least (id_set names other) (cut_named other cut));
    }

    least_named : (q : ℕ → Bool) → IsLeastCut arcs s t q → IsLeastCut (map (named names) arcs) source sink (id_set names q)
    least_named q least = record {
      cut = cut_named q least.cut;
      least = λ other cut. omega (arith, capacity_named q, capacity_numbered other, least.least (λ n. other (id_at names n)) (cut_numbered other cut));
    }

    -- the least source side by number is the one by id
    pub side_named : (q : ℕ → Bool) → IsLeastSide arcs s t q → IsLeastSide (map (named names) arcs) source sink (id_set names q)
    side_named q side = record { least_cut = least_named q side.least_cut; subset = λ other is_least v inside. at other is_least v inside (place_of v names) }
      where
        at : (other : ℤ → Bool) → IsLeastCut (map (named names) arcs) source sink other → (v : ℤ) → id_set names q v ≡ true
            → ((n : ℕ) × (n < length names) × (id_at names n ≡ v)) ⊎ ((n : ℕ) → n < length names → int_eq v (id_at names n) ≡ false) → other v ≡ true
        at other is_least v inside (inl (n, below, is)) =
            let there : id_set names q (id_at names n) ≡ true = subst (λ (w : ℤ). id_set names q w ≡ true) (sym is) inside in
            subst (λ (w : ℤ). other w ≡ true) is (side.subset (λ k. other (id_at names k)) (least_numbered other is_least) n (sym (id_set_at names one q n below) ∙ there))
        at other is_least v inside (inr none) = absurd (never (sym (id_set_outside names q v none) ∙ inside))
