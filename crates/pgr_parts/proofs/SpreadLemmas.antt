-- How names spread: what the loop over waiting vertices keeps, one turn of it, and what it leaves.
use Rattle.std.proofs.Common.{◌≡◌, ℕ, ◌+◌, ◌*◌, ◌<◌, ◌≤◌, ◌++◌, ◌⊎◌, inl, inr, ⊎_elim, List, [], ◌∷◌, Option, Some, None, Contains, length, get_or, set, map, refl, sym, ap, ◌∙◌, subst, subst₂, arith, unwrap_or, All, IsSome, cond, count_by}
use Rattle.std.specs.List.{sum_by}
use Rattle.std.specs.Option.{is_none}
use Rattle.std.proofs.lemmas.List.Sums.{sum_by-set, get_or-le-sum_by}
use Rattle.std.specs.Ordering.{nat_cmp}
use Rattle.std.proofs.lemmas.Bool.{cases_eq, cases_lt}
use Rattle.std.proofs.lemmas.List.{get_or-set_same, get_or-set_other, length-set, get_or-map, get_or_default, length-map, length-append}
use Rattle.std.proofs.lemmas.List.Elements.{Contains-push_cases, Contains-push, Contains-append_left, Contains-append_right, Contains-append_cases}
use Rattle.pgr_parts.specs.Classes.{IsClassName, AreClassNames}
use Rattle.pgr_parts.specs.Trails.{Leads, AreWithin, AreMutual}
use Rattle.pgr_parts.specs.Spreading.{HasName, AreSpread, IsNamedFrom}
use Rattle.pgr_parts.proofs.Orders.{not_greater}
use Rattle.pgr_parts.proofs.TrailLemmas.{leads_to, leads_back, stays_along}

-- while the root's name spreads: what is on the list of a named vertex has its name, or the name is the root's and it waits
pub record IsSpreading (lists : List (List ℕ)) (root : ℕ) (names : List (Option ℕ)) (waiting : List ℕ) : Type 0 where
  pub size_is : length names ≡ length lists
  pub sound : (v m : ℕ) → get_or names v None ≡ Some m → Leads lists m v × (m ≤ v)
  pub closed : (v m w : ℕ) → get_or names v None ≡ Some m → Contains (get_or lists v []) w → (get_or names w None ≡ Some m) ⊎ ((m ≡ root) × Contains waiting w)
  pub waits : (w : ℕ) → Contains waiting w → (w < length lists) × Leads lists root w
  pub below : (v : ℕ) → v < root → HasName names v
  pub begun : HasName names root ⊎ Contains waiting root

-- the end: nothing waits
pub spreading_ends : (lists : List (List ℕ)) (root : ℕ) (names : List (Option ℕ)) (waiting : List ℕ) → IsSpreading lists root names waiting → waiting ≡ []
    → AreSpread lists (root + 1) names
spreading_ends lists root names waiting s e = record {
  size_is = s.size_is;
  sound = s.sound;
  closed = λ v m w named here. ⊎_elim (λ same. same) (λ other. absurd (none w other.1)) (s.closed v m w named here);
  below = λ v lt. ⊎_elim (λ before. s.below v before) (λ past.
      (let is : root ≡ v = omega arith in subst (HasName names) is (⊎_elim (λ has. has) (λ there. absurd (none root there)) s.begun))) (cases_lt v root);
}
  where
    none : (w : ℕ) → Contains waiting w → ⊥
    none w there = let size = ap length e in omega (arith, there.1)

-- whether a vertex has a name
option_cases : (name : Option ℕ) → (name ≡ None) ⊎ ((m : ℕ) × (name ≡ Some m))
option_cases None = inl refl
option_cases (Some m) = inr (m, refl)

module _ (lists : List (List ℕ)) (within : AreWithin lists) (back : AreMutual lists) (root v : ℕ) (names : List (Option ℕ)) (rest : List ℕ)
    (s : IsSpreading lists root names (rest ++ v ∷ [])) where
  v_below : v < length lists
  v_below = (s.waits v (Contains-push rest v)).0

  -- a vertex without a name gets the root's, and its list waits
  module _ (fresh : get_or names v None ≡ None) where
    now : List (Option ℕ)
    now = set names v (Some root)

    after : List ℕ
    after = rest ++ get_or lists v []

    here : get_or now v None ≡ Some root
    unfolding now
    here = get_or-set_same names v (Some root) None (omega (arith, v_below, s.size_is))

    elsewhere : (w : ℕ) → (w ≡ v → ⊥) → get_or now w None ≡ get_or names w None
    unfolding now
    elsewhere w ne = get_or-set_other names v w (Some root) None ne

    root_first : root ≤ v
    root_first = ⊎_elim (λ lt. (let has = s.below v lt in let clash : None ≡ Some has.0 = sym fresh ∙ has.1 in absurd (cc))) (λ le. le) (cases_lt v root)

    still : (w m : ℕ) → get_or names w None ≡ Some m → get_or now w None ≡ Some m
    still w m e = ⊎_elim (λ (same : w ≡ v). (let clash : None ≡ Some m = sym fresh ∙ ap (λ x. get_or names x None) (sym same) ∙ e in absurd (cc))) (λ ne. elsewhere w ne ∙ e)
        (cases_eq w v)

    fresh_sound : (u m : ℕ) → get_or now u None ≡ Some m → (u ≡ v) ⊎ (u ≡ v → ⊥) → Leads lists m u × (m ≤ u)
    fresh_sound u m e (inl same) =
        let name : root ≡ m = (let both : Some root ≡ Some m = sym here ∙ ap (λ x. get_or now x None) (sym same) ∙ e in cc) in
        subst (λ x. Leads lists x u × (x ≤ u)) name (subst (λ x. Leads lists root x × (root ≤ x)) (sym same) ((s.waits v (Contains-push rest v)).1, root_first))
    fresh_sound u m e (inr ne) = s.sound u m (sym (elsewhere u ne) ∙ e)

    -- the case of an older vertex with something on its list
    older : (w m : ℕ) → (get_or names w None ≡ Some m) ⊎ ((m ≡ root) × Contains (rest ++ v ∷ []) w) → (get_or now w None ≡ Some m) ⊎ ((m ≡ root) × Contains after w)
    unfolding after
    older w m (inl same) = inl (still w m same)
    older w m (inr other) = ⊎_elim (λ there. inr (other.0, Contains-append_left rest (get_or lists v []) w there))
        (λ is. inl (ap (λ x. get_or now x None) (sym is) ∙ here ∙ ap Some (sym other.0))) (Contains-push_cases rest v w other.1)

    fresh_closed : (u m w : ℕ) → get_or now u None ≡ Some m → Contains (get_or lists u []) w → (u ≡ v) ⊎ (u ≡ v → ⊥) → (get_or now w None ≡ Some m)
        ⊎ ((m ≡ root) × Contains after w)
    unfolding after
    fresh_closed u m w e there (inl same) =
        let name : m ≡ root = (let both : Some root ≡ Some m = sym here ∙ ap (λ x. get_or now x None) (sym same) ∙ e in cc) in
        inr (name, Contains-append_right rest (get_or lists v []) w (subst (λ x. Contains (get_or lists x []) w) same there))
    fresh_closed u m w e there (inr ne) = older w m (s.closed u m w (sym (elsewhere u ne) ∙ e) there)

    fresh_waits : (w : ℕ) → Contains rest w ⊎ Contains (get_or lists v []) w → (w < length lists) × Leads lists root w
    fresh_waits w (inl there) = s.waits w (Contains-append_left rest (v ∷ []) w there)
    fresh_waits w (inr there) = (within.below v w there, leads_to lists root v w (s.waits v (Contains-push rest v)).1 there)

    fresh_begun : HasName names root ⊎ Contains (rest ++ v ∷ []) root → HasName now root ⊎ Contains after root
    unfolding after
    fresh_begun (inl has) = inl (has.0, still root has.0 has.1)
    fresh_begun (inr there) = ⊎_elim (λ old. inr (Contains-append_left rest (get_or lists v []) root old)) (λ is. inl (root, ap (λ x. get_or now x None) (sym is) ∙ here))
        (Contains-push_cases rest v root there)

    fresh_turn : IsSpreading lists root now after
    unfolding now after
    fresh_turn = record {
      size_is = length-set names v (Some root) ∙ s.size_is;
      sound = λ u m e. fresh_sound u m e (cases_eq u v);
      closed = λ u m w e there. fresh_closed u m w e there (cases_eq u v);
      waits = λ w there. fresh_waits w (Contains-append_cases rest (get_or lists v []) w there);
      below = λ u lt. (let has = s.below u lt in (has.0, still u has.0 has.1));
      begun = fresh_begun s.begun;
    }

  -- a vertex with a name leaves all as it was
  module _ (m : ℕ) (named : get_or names v None ≡ Some m) where
    -- what is named by the root and has v on its list gives v the root's name
    settled : (u k w : ℕ) → get_or names u None ≡ Some k → Contains (get_or lists u []) w → (get_or names w None ≡ Some k) ⊎ ((k ≡ root) × Contains (rest ++ v ∷ []) w)
        → (get_or names w None ≡ Some k) ⊎ ((k ≡ root) × Contains rest w)
    settled u k w e there (inl same) = inl same
    settled u k w e there (inr other) = ⊎_elim (λ old. inr (other.0, old)) (λ is. inl (by_back u k w e there other.0 is)) (Contains-push_cases rest v w other.1)
      where
        by_back : (u k w : ℕ) → get_or names u None ≡ Some k → Contains (get_or lists u []) w → k ≡ root → v ≡ w → get_or names w None ≡ Some k
        by_back u k w e there k_is is =
            let returned : Contains (get_or lists v []) u = subst (λ x. Contains (get_or lists x []) u) (sym is) (back.back u w there) in
            let name : m ≡ k = ⊎_elim (λ (same : get_or names u None ≡ Some m). (let both : Some m ≡ Some k = sym same ∙ e in cc))
            (λ (other : (m ≡ root) × Contains (rest ++ v ∷ []) u). other.0 ∙ sym k_is) (s.closed v m u named returned) in
            ap (λ x. get_or names x None) (sym is) ∙ named ∙ ap Some name

    named_begun : HasName names root ⊎ Contains (rest ++ v ∷ []) root → HasName names root ⊎ Contains rest root
    named_begun (inl has) = inl has
    named_begun (inr there) = ⊎_elim (λ old. inr old) (λ is. inl (m, ap (λ x. get_or names x None) (sym is) ∙ named)) (Contains-push_cases rest v root there)

    named_turn : IsSpreading lists root names rest
    named_turn = record {
      size_is = s.size_is;
      sound = s.sound;
      closed = λ u k w e there. settled u k w e there (s.closed u k w e there);
      waits = λ w there. s.waits w (Contains-append_left rest (v ∷ []) w there);
      below = s.below;
      begun = named_begun s.begun;
    }

-- one turn of the loop
pub spreading_turns : (lists : List (List ℕ)) (root v : ℕ) (names names' : List (Option ℕ)) (old rest waiting' : List ℕ) → AreWithin lists → AreMutual lists
    → IsSpreading lists root names old → old ≡ rest ++ v ∷ []
    → IsNamedFrom (get_or lists v []) root v names names' rest waiting' → IsSpreading lists root names' waiting'
unfolding now after
spreading_turns lists root v names names' old rest waiting' within back spreading popped n = by (option_cases (get_or names v None))
  where
    s : IsSpreading lists root names (rest ++ v ∷ [])
    s = subst (IsSpreading lists root names) popped spreading

    by : (get_or names v None ≡ None) ⊎ ((m : ℕ) × (get_or names v None ≡ Some m)) → IsSpreading lists root names' waiting'
    by (inl fresh) = (let is = n.fresh fresh in subst₂ (IsSpreading lists root) (sym is.0) (sym is.1) (fresh_turn lists within back root v names rest s fresh))
    by (inr named) = (let is = n.named named.0 named.1 in subst₂ (IsSpreading lists root) (sym is.0) (sym is.1) (named_turn lists within back root v names rest s named.0 named.1))

-- the popped vertex is below the size
pub waiting_below : (lists : List (List ℕ)) (root v : ℕ) (names : List (Option ℕ)) (old rest : List ℕ) → IsSpreading lists root names old → old ≡ rest ++ v ∷ [] → v < length lists
waiting_below lists root v names old rest spreading popped = (spreading.waits v (subst (λ xs. Contains xs v) (sym popped) (Contains-push rest v))).0

-- once each vertex has a name
pub all_named : (lists : List (List ℕ)) (bound : ℕ) (names slice : List (Option ℕ)) → AreSpread lists bound names → length lists ≤ bound → slice ≡ names → All IsSome slice
all_named lists bound names slice s past e k d lt =
    let size = ap length e in
    let has = s.below k (omega (arith, s.size_is)) in
    subst IsSome (sym (get_or_default slice k d None lt ∙ ap (λ xs. get_or xs k None) e ∙ has.1)) refl

-- it is the name of its class
pub names_of_classes : (lists : List (List ℕ)) (bound : ℕ) (names slice : List (Option ℕ)) (all : List ℕ) → AreMutual lists → AreSpread lists bound names
    → length lists ≤ bound → slice ≡ names → all ≡ map (λ name. unwrap_or name 0) slice → AreClassNames (Leads lists) (length lists) all
names_of_classes lists bound names slice all back s past is made = record {
  size_is = ap length e ∙ length-map names (λ name. unwrap_or name 0) ∙ s.size_is;
  each = λ v below. one v below (s.below v (omega arith));
}
  where
    e : all ≡ map (λ name. unwrap_or name 0) names
    e = made ∙ ap (map (λ name. unwrap_or name 0)) is

    one : (v : ℕ) → v < length lists → HasName names v → IsClassName nat_cmp (Leads lists) v (get_or all v 0)
    one v below has =
        let inside : v < length names = omega (arith, s.size_is) in
        let name : get_or all v 0 ≡ has.0 = ap (λ xs. get_or xs v 0) e ∙ get_or-map (λ name. unwrap_or name 0) names v None 0 inside ∙ ap (λ name. unwrap_or name 0) has.1 in
        let sound = s.sound v has.0 has.1 in
        subst (IsClassName nat_cmp (Leads lists) v) (sym name) (record {
          member = leads_back lists back has.0 v sound.0;
          least = λ u there. not_greater has.0 u (s.sound u has.0 (stays_along lists (λ x. get_or names x None ≡ Some has.0)
              (λ x w named here. s.closed x has.0 w named here) v u there has.1)).1;
        })

falls : (count count' most added rest : ℕ) → count' + 1 ≡ count → added ≤ most → count' * (most + 1) + (rest + added) < count * (most + 1) + (rest + 1)
falls count count' most added rest e le = subst (λ n. count' * (most + 1) + (rest + added) < n * (most + 1) + (rest + 1)) e (omega arith)

-- the measure falls: a vertex less waits, or one less has no name and what came to wait is at most all lists together
pub spreading_falls : (lists : List (List ℕ)) (root v : ℕ) (names names' : List (Option ℕ)) (old rest waiting' : List ℕ) → IsSpreading lists root names old → old ≡ rest ++ v ∷ []
    → IsNamedFrom (get_or lists v []) root v names names' rest waiting'
    → count_by is_none names' * (sum_by length lists + 1) + length waiting' < count_by is_none names * (sum_by length lists + 1) + length old
spreading_falls lists root v names names' old rest waiting' s popped n = by (option_cases (get_or names v None))
  where
    size : length old ≡ length rest + 1
    size = ap length popped ∙ length-append rest (v ∷ [])

    below : v < length lists
    below = waiting_below lists root v names old rest s popped

    by : (get_or names v None ≡ None) ⊎ ((m : ℕ) × (get_or names v None ≡ Some m))
        → count_by is_none names' * (sum_by length lists + 1) + length waiting' < count_by is_none names * (sum_by length lists + 1) + length old
    by (inl fresh) =
        let is = n.fresh fresh in
        let counted = sum_by-set (λ name. cond (is_none name) 1 0) names v (Some root) None (omega (arith, below, s.size_is)) in
        let one : ◌≡◌ {A = ℕ} (cond (is_none (get_or names v None)) 1 0) 1 = ap (λ name. cond (is_none name) 1 0) fresh in
        let here : count_by is_none (set names v (Some root)) + 1 ≡ count_by is_none names = omega (arith, counted, one) in
        let fewer : count_by is_none names' + 1 ≡ count_by is_none names = ap (λ xs. count_by is_none xs + 1) is.0 ∙ here in
        let most : length (get_or lists v []) ≤ sum_by length lists = get_or-le-sum_by length lists v [] below in
        let waits : length waiting' ≡ length rest + length (get_or lists v []) = ap length is.1 ∙ length-append rest (get_or lists v []) in
        subst₂ (λ a b. count_by is_none names' * (sum_by length lists + 1) + a < count_by is_none names * (sum_by length lists + 1) + b) (sym waits) (sym size)
        (falls (count_by is_none names) (count_by is_none names') (sum_by length lists) (length (get_or lists v [])) (length rest) fewer most)
    by (inr named) =
        let is = n.named named.0 named.1 in
        let same = ap (count_by is_none) is.0 in
        let waits = ap length is.1 in
        subst (λ c. c * (sum_by length lists + 1) + length waiting' < count_by is_none names * (sum_by length lists + 1) + length old) (sym same) (omega (arith, size, waits))
