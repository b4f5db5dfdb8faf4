-- Tops of one more number, and the keys that they make.
use Rattle.std.proofs.Common.{◌≡◌, inl, inr, ⊎_elim, ℕ, zero, suc, ◌+◌, ◌<◌, ◌≤◌, Bool, true, false, cond, ltb, eqb, List, [], ◌∷◌, ◌++◌, length, get_or, Option, Some, None, refl, sym, subst, ◌∙◌, ap, arith}
use Rattle.std.specs.List.{All, Contains, flat_map}
use Rattle.std.proofs.lemmas.Bool.{cases_eq, cases_Bool, ltb-true, ltb-false}
use Rattle.std.proofs.lemmas.Option.{same_Some}
use Rattle.std.proofs.lemmas.List.{get_or_append_left, get_or_push}
use Rattle.std.proofs.lemmas.List.Elements.{Contains-get_or, All-contains}
use Rattle.pgr_spans.specs.declared.segment.Segment.{Segment}
use Rattle.pgr_spans.specs.declared.seen.Entry.{Entry}
use Rattle.pgr_spans.specs.Forest.{parent_of, ParentsFall, IsTop}
use Rattle.pgr_spans.specs.Segment.{top_by, IsSegmentBelow}
use Rattle.pgr_spans.specs.Member.{entry_of}
use Rattle.pgr_outside.proofs.Lists.{Contains-from_flat_map}

module _ (parents : List (Option ℕ)) (lows tops : List ℕ) (v top : ℕ) (falls : ParentsFall parents) (size : length tops ≡ v)
    (is : top ≡ top_by tops v (parent_of parents v) (get_or lows v 0)) where
  before : (u : ℕ) → u < v → get_or (tops ++ top ∷ []) u 0 ≡ get_or tops u 0
  before u less = get_or_append_left tops (top ∷ []) 0 u (omega arith)

  here : get_or (tops ++ top ∷ []) v 0 ≡ top
  here = get_or_push tops top 0 v size

  -- a top stays as more are added
  top_stays : (u : ℕ) → u < v → IsTop parents lows tops u → IsTop parents lows (tops ++ top ∷ []) u
  top_stays u less (inl (p, parent, lower, same)) =
      let p_below : p < u = falls u p parent in
      inl (p, parent, lower, before u less ∙ (same ∙ sym (before p (omega arith))))
  top_stays u less (inr (itself, high)) = inr (before u less ∙ itself, high)

  -- and the next is one
  top_next : IsTop parents lows (tops ++ top ∷ []) v
  top_next = by (parent_of parents v) refl is where
    by : (parent : Option ℕ) → parent_of parents v ≡ parent → top ≡ top_by tops v parent (get_or lows v 0) → IsTop parents lows (tops ++ top ∷ []) v
    by None none itself = inr (here ∙ itself, λ p parent. let e : Some p ≡ None = sym parent ∙ none in absurd cc)
    by (Some p) parent chosen = ⊎_elim
        (λ yes.
        let p_below : p < v = falls v p parent in
        inl (p, parent, ltb-true (get_or lows v 0) p yes, here ∙ (chosen ∙ (ap (λ b. cond b (get_or tops p 0) v) yes ∙ sym (before p p_below)))))
        (λ no. inr (
          here ∙ (chosen ∙ ap (λ b. cond b (get_or tops p 0) v) no),
          λ q other.
              let one : q ≡ p = same_Some q p (sym other ∙ parent) in
              let le = ltb-false (get_or lows v 0) p no in
              omega arith,
        ))
        (cases_Bool (ltb (get_or lows v 0) p))

  pub tops_more : ((u : ℕ) → u < v → IsTop parents lows tops u) → (u : ℕ) → u < v + 1 → IsTop parents lows (tops ++ top ∷ []) u
  tops_more each u less = ⊎_elim
      (λ same. subst (IsTop parents lows (tops ++ top ∷ [])) (sym same) top_next)
      (λ differs. top_stays u (omega arith) (each u (omega arith)))
      (cases_eq u v)

  top_le : ((u : ℕ) → u < v → get_or tops u 0 ≤ u) → top ≤ v
  top_le least = by (parent_of parents v) refl is where
    by : (parent : Option ℕ) → parent_of parents v ≡ parent → top ≡ top_by tops v parent (get_or lows v 0) → top ≤ v
    by None none itself = omega arith
    by (Some p) parent chosen = ⊎_elim
        (λ yes.
        let p_below : p < v = falls v p parent in
        let p_le = least p p_below in
        let e : top ≡ get_or tops p 0 = chosen ∙ ap (λ b. cond b (get_or tops p 0) v) yes in
        omega arith)
        (λ no. let e : top ≡ v = chosen ∙ ap (λ b. cond b (get_or tops p 0) v) no in omega arith)
        (cases_Bool (ltb (get_or lows v 0) p))

  pub tops_le_more : ((u : ℕ) → u < v → get_or tops u 0 ≤ u) → (u : ℕ) → u < v + 1 → get_or (tops ++ top ∷ []) u 0 ≤ u
  tops_le_more least u less = ⊎_elim
      (λ same.
      let le = top_le least in
      let at : get_or (tops ++ top ∷ []) u 0 ≡ top = ap (λ i. get_or (tops ++ top ∷ []) i 0) same ∙ here in
      omega arith)
      (λ differs. let le = least u (omega arith) in let at = before u (omega arith) in omega arith)
      (cases_eq u v)

-- the keys of the entries are below the size
pub keys_below : (size : ℕ) (tops : List ℕ) (segments : List Segment) → All (IsSegmentBelow size) segments → ((v : ℕ) → v < size → get_or tops v 0 ≤ v) → (entries : List Entry)
    → entries ≡ flat_map (entry_of tops) segments → All (λ entry. entry.key < size) entries
keys_below size tops segments below least entries are k d inside =
    let there : Contains (flat_map (entry_of tops) segments) (get_or entries k d) = subst (λ es. Contains es (get_or entries k d)) are (Contains-get_or entries k d inside) in
    let (segment, has, among) = Contains-from_flat_map (entry_of tops) segments (get_or entries k d) there in
    let bounds : IsSegmentBelow size segment = All-contains (IsSegmentBelow size) segments segment below has in
    by segment (get_or entries k d) bounds (eqb segment.near segment.far) among where
      by : (segment : Segment) (entry : Entry) → IsSegmentBelow size segment → (b : Bool)
          → Contains (cond b [] (record { key = get_or tops segment.far 0; value = segment.edge } ∷ [])) entry → entry.key < size
      by segment entry bounds true (n, within, is) = absurd (omega arith)
      by segment entry bounds false (zero, within, is) =
          let key = ap (λ e. e.key) is in
          let le = least segment.far bounds.1 in
          omega (arith, bounds.1, key, le)
      by segment entry bounds false (suc n, within, is) = absurd (omega arith)
