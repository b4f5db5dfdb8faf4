-- No restriction is met in a list of edges exactly where no edge of it completes one.
use Rattle.std.proofs.Common.{◌≡◌, ◌≢◌, ℤ, List, [], ◌∷◌, ◌++◌, length, drop, refl, sym, ap, ◌∙◌, subst}
use Rattle.std.specs.Prelude.{reverse}
use Rattle.std.proofs.lemmas.List.{append_assoc, reverse-reverse, reverse-append, append-nil}
use Rattle.pgr_turns.specs.Restrictions.{IsMet, IsAllowed}
use Rattle.pgr_turns.specs.Fronts.{Begins, Completes, Avoids}
use Rattle.pgr_turns.proofs.FrontLemmas.{Begins-append, Begins-rest}

-- one edge more, and the edges before, read backwards
back_more : (e : ℤ) (h es : List ℤ) → reverse (e ∷ h) ++ es ≡ reverse h ++ e ∷ es
back_more e h es = ap (λ xs. xs ++ es) (reverse-append (e ∷ []) h) ∙ append_assoc (reverse h) (e ∷ []) es

-- where restrictions are avoided none is completed on the way
avoids_along : (rs : List (List ℤ)) (h xs ys : List ℤ) → Avoids rs h (xs ++ ys) → xs ≢ [] → Completes rs (reverse xs ++ h) → ⊥
avoids_along rs h [] ys a some done = some refl
avoids_along rs h (x ∷ []) ys a some done = a.0 done
avoids_along rs h (x ∷ y ∷ xs) ys a some done =
    avoids_along rs (x ∷ h) (y ∷ xs) ys a.1 (λ e. cc) (subst (λ (zs : List ℤ). Completes rs zs) (back_more x (y ∷ xs) h) done)

pub avoids_allowed : (rs : List (List ℤ)) (es : List ℤ) → Avoids rs [] es → IsAllowed rs es
avoids_allowed rs es a ids among some met =
    let before = met.0 in
    let after = met.1 in
    let parts : es ≡ (before ++ ids) ++ after = met.2 ∙ sym (append_assoc before ids after) in
    let back : reverse (before ++ ids) ++ [] ≡ reverse ids ++ reverse before = append-nil (reverse (before ++ ids)) ∙ reverse-append before ids in
    avoids_along rs [] (before ++ ids) after (subst (λ (zs : List ℤ). Avoids rs [] zs) parts a) (λ e. some (last_none before ids e))
    (record { ids = ids; among = among; some = some; begins = subst (λ (zs : List ℤ). Begins (reverse ids) zs) (sym back) (Begins-append (reverse ids) (reverse before)) })
  where
    last_none : (xs ys : List ℤ) → xs ++ ys ≡ [] → ys ≡ []
    last_none [] ys e = e
    last_none (x ∷ xs) ys e = cc

-- what is completed after an edge is met in the edges
done_is_met : (e : ℤ) (h es ids : List ℤ) → Begins (reverse ids) (e ∷ h) → IsMet ids (reverse h ++ e ∷ es)
done_is_met e h es ids b =
    let rest = drop (length (reverse ids)) (e ∷ h) in
    let back : reverse (e ∷ h) ≡ reverse rest ++ ids =
    ap reverse (Begins-rest (reverse ids) (e ∷ h) b) ∙ reverse-append (reverse ids) rest ∙ ap (λ xs. reverse rest ++ xs) (reverse-reverse ids) in
    (reverse rest, es, sym (back_more e h es) ∙ ap (λ xs. xs ++ es) back ∙ append_assoc (reverse rest) ids es)

avoids_from : (rs : List (List ℤ)) (h es : List ℤ) → IsAllowed rs (reverse h ++ es) → Avoids rs h es
avoids_from rs h [] a = tt
avoids_from rs h (e ∷ es) a = (
  λ done. a done.ids done.among done.some (done_is_met e h es done.ids done.begins),
  avoids_from rs (e ∷ h) es (subst (λ (zs : List ℤ). IsAllowed rs zs) (sym (back_more e h es)) a),
)

pub allowed_avoids : (rs : List (List ℤ)) (es : List ℤ) → IsAllowed rs es → Avoids rs [] es
allowed_avoids rs es a = avoids_from rs [] es a
