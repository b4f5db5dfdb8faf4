-- What is known of the values under each key, after one more entry.
use Rattle.std.proofs.Common.{◌≡◌, ◌≢◌, ◌⊎◌, inl, inr, ⊎_elim, ℕ, ◌+◌, ◌<◌, Bool, true, false, List, [], ◌∷◌, ◌++◌, length, get_or, set, take, Option, Some, None, ℤ, ◌≤ℤ◌, refl, sym, subst, ◌∙◌, ap, arith, replicate, ◌&&◌}
use Rattle.std.specs.Bool.{MatchBool}
use Rattle.std.specs.Ordering.{int_eq}
use Rattle.std.specs.Cmp.{signed_Decides}
use Rattle.std.proofs.lemmas.Bool.{cases_eq}
use Rattle.std.proofs.lemmas.Int.{ints}
use Rattle.std.proofs.lemmas.List.{get_or-set_same, get_or-set_other, length-set, length-replicate, get_or-replicate, take_more}
use Rattle.std.proofs.lemmas.List.Elements.{Contains-push, Contains-push_cases, Contains-append_left}
use Rattle.pgr_spans.specs.declared.seen.Entry.{Entry}
use Rattle.pgr_spans.specs.declared.seen.Seen.{Seen}
use Rattle.pgr_spans.specs.Seen.{IsUnderKey, IsSeen, IsKnown, AreSeen, seen_next}
use Rattle.pgr_spans.proofs.Lists.{AllPairs-front, AllPairs-last}

-- no entry, nothing known
pub seen_none : (size : ℕ) → AreSeen size [] (replicate size None)
seen_none size = record {
  size_is = length-replicate size None;
  each = λ key below. subst (IsKnown [] key) (sym (get_or-replicate size key None None below)) (λ value (k, inside, is). absurd (omega arith));
}

id_le : (x y : ℤ) → x ≡ y → x ≤ℤ y
id_le x y same = omega (arith, ints, same)

module _ (done : List Entry) (entry : Entry) where
  under_more : (key : ℕ) (value : ℤ) → IsUnderKey done key value → IsUnderKey (done ++ entry ∷ []) key value
  under_more key value has = Contains-append_left done (entry ∷ []) (record { key = key; value = value }) has

  under_cases : (key : ℕ) (value : ℤ) → IsUnderKey (done ++ entry ∷ []) key value → IsUnderKey done key value ⊎ ((entry.key ≡ key) × (entry.value ≡ value))
  under_cases key value has = ⊎_elim (λ old. inl old) (λ last. inr (ap (λ e. e.key) last, ap (λ e. e.value) last))
      (Contains-push_cases done entry (record { key = key; value = value }) has)

  -- what is known under another key stays
  known_other : (key : ℕ) (known : Option Seen) → key ≢ entry.key → IsKnown done key known → IsKnown (done ++ entry ∷ []) key known
  known_other key None differs none = λ value has. ⊎_elim (none value) (λ (at, is). differs (sym at)) (under_cases key value has)
  known_other key (Some seen) differs is = record {
    first = under_more key seen.first is.first;
    least = λ pairs value has. is.least (AllPairs-front (λ e f. e.value ≤ℤ f.value) done (entry ∷ []) pairs) value (old value has);
    others = others seen.same is.others;
  } where
    old : (value : ℤ) → IsUnderKey (done ++ entry ∷ []) key value → IsUnderKey done key value
    old value has = ⊎_elim (λ earlier. earlier) (λ (at, same). absurd (differs (sym at))) (under_cases key value has)

    others : (b : Bool) → MatchBool b ((value : ℤ) → IsUnderKey done key value → value ≡ seen.first) ((value : ℤ) × IsUnderKey done key value × (value ≢ seen.first))
        → MatchBool b ((value : ℤ) → IsUnderKey (done ++ entry ∷ []) key value → value ≡ seen.first)
        ((value : ℤ) × IsUnderKey (done ++ entry ∷ []) key value × (value ≢ seen.first))
    others true all = λ value has. all value (old value has)
    others false (value, has, not) = (value, under_more key value has, not)

  -- and under its own key it is known too
  known_next : (known : Option Seen) → IsKnown done entry.key known → IsSeen (done ++ entry ∷ []) entry.key (seen_next known entry.value)
  known_next None none = record {
    first = Contains-push done entry;
    least = λ pairs value has. ⊎_elim (λ old. absurd (none value old)) (λ (at, is). id_le entry.value value is) (under_cases entry.key value has);
    others = λ value has. ⊎_elim (λ old. absurd (none value old)) (λ (at, is). sym is) (under_cases entry.key value has);
  }
  known_next (Some seen) is = record {
    first = under_more entry.key seen.first is.first;
    least = λ pairs value has. ⊎_elim
        (is.least (AllPairs-front (λ e f. e.value ≤ℤ f.value) done (entry ∷ []) pairs) value)
        (λ (at, same). subst (λ z. seen.first ≤ℤ z) same (AllPairs-last (λ e f. e.value ≤ℤ f.value) done entry (record { key = entry.key; value = seen.first }) pairs is.first))
        (under_cases entry.key value has);
    others = others seen.same (int_eq seen.first entry.value) refl is.others;
  } where
    others : (same equal : Bool) → int_eq seen.first entry.value ≡ equal
        → MatchBool same ((value : ℤ) → IsUnderKey done entry.key value → value ≡ seen.first) ((value : ℤ) × IsUnderKey done entry.key value × (value ≢ seen.first))
        → MatchBool (same && equal) ((value : ℤ) → IsUnderKey (done ++ entry ∷ []) entry.key value → value ≡ seen.first)
        ((value : ℤ) × IsUnderKey (done ++ entry ∷ []) entry.key value × (value ≢ seen.first))
    others true true e all = λ value has. ⊎_elim (all value) (λ (at, last). sym last ∙ sym ((signed_Decides seen.first entry.value).0 e)) (under_cases entry.key value has)
    others true false e all = (entry.value, Contains-push done entry, λ same. let yes = (signed_Decides seen.first entry.value).1 (sym same) in cc)
    others false equal e (value, has, not) = (value, under_more entry.key value has, not)

-- what is known of all keys, with one more entry
pub seen_more : (size : ℕ) (done : List Entry) (found : List (Option Seen)) (entry : Entry) → entry.key < size → AreSeen size done found
    → AreSeen size (done ++ entry ∷ []) (set found entry.key (Some (seen_next (get_or found entry.key None) entry.value)))
seen_more size done found entry below are = record {
  size_is = length-set found entry.key (Some (seen_next (get_or found entry.key None) entry.value)) ∙ are.size_is;
  each = λ key inside. each key inside (cases_eq key entry.key);
} where
  each : (key : ℕ) → key < size → (key ≡ entry.key) ⊎ (key ≡ entry.key → ⊥)
      → IsKnown (done ++ entry ∷ []) key (get_or (set found entry.key (Some (seen_next (get_or found entry.key None) entry.value))) key None)
  each key inside (inl same) =
      let at : get_or (set found entry.key (Some (seen_next (get_or found entry.key None) entry.value))) entry.key None ≡ Some
      (seen_next (get_or found entry.key None) entry.value) = get_or-set_same found entry.key (Some (seen_next (get_or found entry.key None) entry.value)) None
      (let e = are.size_is in omega arith) in
      let known : IsKnown (done ++ entry ∷ []) entry.key (Some (seen_next (get_or found entry.key None) entry.value)) = known_next done entry (get_or found entry.key None)
      (are.each entry.key below) in
      subst (λ k. IsKnown (done ++ entry ∷ []) k (get_or (set found entry.key (Some (seen_next (get_or found entry.key None) entry.value))) k None)) (sym same)
      (subst (IsKnown (done ++ entry ∷ []) entry.key) (sym at) known)
  each key inside (inr differs) =
      subst (IsKnown (done ++ entry ∷ []) key) (sym (get_or-set_other found entry.key key (Some (seen_next (get_or found entry.key None) entry.value)) None differs))
      (known_other done entry key (get_or found key None) differs (are.each key inside))

-- the next of some entries is noted
pub noted_more : (size : ℕ) (entries : List Entry) (i : ℕ) (d : Entry) (old found new : List (Option Seen)) → i < length entries → old ≡ found
    → new ≡ set old (get_or entries i d).key (Some (seen_next (get_or old (get_or entries i d).key None) (get_or entries i d).value)) → (get_or entries i d).key < size
    → AreSeen size (take i entries) found → AreSeen size (take (i + 1) entries) new
noted_more size entries i d old found new inside same is below are =
    let next = seen_more size (take i entries) found (get_or entries i d) below are in
    let written_is : new ≡ set found (get_or entries i d).key (Some (seen_next (get_or found (get_or entries i d).key None) (get_or entries i d).value)) = is
    ∙ ap (λ fs. set fs (get_or entries i d).key (Some (seen_next (get_or fs (get_or entries i d).key None) (get_or entries i d).value))) same in
    subst (λ es. AreSeen size es new) (sym (take_more entries i d inside)) (subst (AreSeen size (take i entries ++ get_or entries i d ∷ [])) (sym written_is) next)
