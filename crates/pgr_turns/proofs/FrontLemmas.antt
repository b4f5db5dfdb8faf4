-- Lists that begin with others, and the longest front after one more edge.
use Rattle.std.proofs.Common.{◌≡◌, ◌⊎◌, inl, inr, ℤ, ◌≤◌, List, [], ◌∷◌, ◌++◌, length, drop, refl, sym, ap, ◌∙◌, subst, arith}
use Rattle.std.specs.Prelude.{reverse, Contains}
use Rattle.std.proofs.lemmas.List.{append_assoc}
use Rattle.pgr_turns.specs.Fronts.{Begins, IsFront, Completes, IsLongest}

-- a list begins with itself
pub Begins-self : (xs : List ℤ) → Begins xs xs
Begins-self [] = refl
Begins-self (x ∷ xs) = ap (λ ys. x ∷ ys) (Begins-self xs)

-- the first ids, and those behind
pub Begins-first : (x y : ℤ) (xs ys : List ℤ) → Begins (x ∷ xs) (y ∷ ys) → x ≡ y
Begins-first x y xs ys p = cc

pub Begins-later : (x y : ℤ) (xs ys : List ℤ) → Begins (x ∷ xs) (y ∷ ys) → Begins xs ys
Begins-later x y xs ys p = cc

pub Begins-more : (x y : ℤ) (xs ys : List ℤ) → x ≡ y → Begins xs ys → Begins (x ∷ xs) (y ∷ ys)
Begins-more x y xs ys e p = cc

pub Begins-trans : (xs ys zs : List ℤ) → Begins xs ys → Begins ys zs → Begins xs zs
Begins-trans [] ys zs p q = refl
Begins-trans (x ∷ xs) [] zs p q = cc
Begins-trans (x ∷ xs) (y ∷ ys) [] p q = cc
Begins-trans (x ∷ xs) (y ∷ ys) (z ∷ zs) p q =
    let rest = Begins-trans xs ys zs (Begins-later x y xs ys p) (Begins-later y z ys zs q) in
    Begins-more x z xs zs (Begins-first x y xs ys p ∙ Begins-first y z ys zs q) rest

-- two lists that begin with each other are the same
pub Begins-both : (xs ys : List ℤ) → Begins xs ys → Begins ys xs → xs ≡ ys
Begins-both [] [] p q = refl
Begins-both [] (y ∷ ys) p q = cc
Begins-both (x ∷ xs) [] p q = cc
Begins-both (x ∷ xs) (y ∷ ys) p q =
    let rest = Begins-both xs ys (Begins-later x y xs ys p) (Begins-later y x ys xs q) in
    ap (λ z. z ∷ xs) (Begins-first x y xs ys p) ∙ ap (λ zs. y ∷ zs) rest

-- a list that another begins with is no longer
pub Begins-length : (xs ys : List ℤ) → Begins xs ys → length xs ≤ length ys
Begins-length [] ys p = omega arith
Begins-length (x ∷ xs) [] p = cc
Begins-length (x ∷ xs) (y ∷ ys) p = omega (arith, Begins-length xs ys (Begins-later x y xs ys p))

-- and where it is no shorter, the two are the same
pub Begins-whole : (xs ys : List ℤ) → Begins xs ys → length ys ≤ length xs → xs ≡ ys
Begins-whole [] [] p h = refl
Begins-whole [] (y ∷ ys) p h = absurd (omega arith)
Begins-whole (x ∷ xs) [] p h = cc
Begins-whole (x ∷ xs) (y ∷ ys) p h =
    let rest = Begins-whole xs ys (Begins-later x y xs ys p) (omega arith) in
    ap (λ z. z ∷ xs) (Begins-first x y xs ys p) ∙ ap (λ zs. y ∷ zs) rest

-- a joined list begins with its first part
pub Begins-append : (xs ys : List ℤ) → Begins xs (xs ++ ys)
Begins-append [] ys = refl
Begins-append (x ∷ xs) ys = ap (λ zs. x ∷ zs) (Begins-append xs ys)

-- and a list that begins with another is joined of it and of what is left
pub Begins-rest : (xs ys : List ℤ) → Begins xs ys → ys ≡ xs ++ drop (length xs) ys
Begins-rest [] ys p = refl
Begins-rest (x ∷ xs) [] p = cc
Begins-rest (x ∷ xs) (y ∷ ys) p =
    let rest = Begins-rest xs ys (Begins-later x y xs ys p) in
    ap (λ z. z ∷ ys) (sym (Begins-first x y xs ys p)) ∙ ap (λ zs. x ∷ zs) rest

-- what a front has before its last id is a front
pub front_before : (rs : List (List ℤ)) (x : ℤ) (xs : List ℤ) → IsFront rs (x ∷ xs) → IsFront rs xs
front_before rs x xs f = record {
  of = f.of;
  among = f.among;
  rest = f.rest ++ x ∷ [];
  whole = f.whole ∙ sym (append_assoc f.rest (x ∷ []) xs);
}

-- a restriction is a front of itself
pub front_whole : (rs : List (List ℤ)) (r : List ℤ) → Contains rs r → IsFront rs (reverse r)
front_whole rs r h = record { of = r; among = h; rest = []; whole = refl }

-- the longest front after one more edge is that of the longest front before with the edge
pub longest_step : (rs : List (List ℤ)) (e : ℤ) (h y z : List ℤ) → IsLongest rs h y → IsLongest rs (e ∷ y) z → IsLongest rs (e ∷ h) z
longest_step rs e h y z before after = record {
  begins = Begins-trans z (e ∷ y) (e ∷ h) after.begins (Begins-more e e y h refl before.begins);
  longest = λ other f b. at other f b;
}
  where
    at : (other : List ℤ) → IsFront rs other → Begins other (e ∷ h) → Begins other z
    at [] f b = refl
    at (w ∷ ws) f b =
        let first = Begins-first w e ws h b in
        let rest = before.longest ws (front_before rs w ws f) (Begins-later w e ws h b) in
        after.longest (w ∷ ws) f (Begins-more w e ws y first rest)

-- no edges have no front
pub longest_none : (rs : List (List ℤ)) → IsLongest rs [] []
longest_none rs = record { begins = refl; longest = λ other f b. b }

-- an edge completes a restriction exactly where it does so after the longest front
pub completes_front : (rs : List (List ℤ)) (e : ℤ) (h y : List ℤ) → IsLongest rs h y → Completes rs (e ∷ h) → Completes rs (e ∷ y)
completes_front rs e h y before done = record { ids = done.ids; among = done.among; some = done.some; begins = at (reverse done.ids) refl }
  where
    at : (w : List ℤ) → w ≡ reverse done.ids → Begins (reverse done.ids) (e ∷ y)
    at [] same = subst (λ (xs : List ℤ). Begins xs (e ∷ y)) same refl
    at (w ∷ ws) same =
        let b : Begins (w ∷ ws) (e ∷ h) = subst (λ (xs : List ℤ). Begins xs (e ∷ h)) (sym same) done.begins in
        let f : IsFront rs (w ∷ ws) = subst (λ (xs : List ℤ). IsFront rs xs) (sym same) (front_whole rs done.ids done.among) in
        let rest = before.longest ws (front_before rs w ws f) (Begins-later w e ws h b) in
        subst (λ (xs : List ℤ). Begins xs (e ∷ y)) same (Begins-more w e ws y (Begins-first w e ws h b) rest)

-- what the longest front completes the edges complete
pub completes_edges : (rs : List (List ℤ)) (h y : List ℤ) → Begins y h → Completes rs y → Completes rs h
completes_edges rs h y b done = record { ids = done.ids; among = done.among; some = done.some; begins = Begins-trans (reverse done.ids) y h done.begins b }

-- what the edges complete their longest front completes
pub completes_longest : (rs : List (List ℤ)) (h y : List ℤ) → IsLongest rs h y → Completes rs h → Completes rs y
completes_longest rs h y l done = record {
  ids = done.ids;
  among = done.among;
  some = done.some;
  begins = l.longest (reverse done.ids) (front_whole rs done.ids done.among) done.begins;
}

-- two longest fronts of the same edges are the same
pub longest_one : (rs : List (List ℤ)) (h y z : List ℤ) → (y ≡ []) ⊎ IsFront rs y → (z ≡ []) ⊎ IsFront rs z → IsLongest rs h y → IsLongest rs h z → y ≡ z
longest_one rs h y z f g a b = Begins-both y z (within y z f a b) (within z y g b a)
  where
    within : (y' z' : List ℤ) → (y' ≡ []) ⊎ IsFront rs y' → IsLongest rs h y' → IsLongest rs h z' → Begins y' z'
    within y' z' (inl none) a' l = subst (λ (xs : List ℤ). Begins xs z') (sym none) refl
    within y' z' (inr f') a' l = l.longest y' f' a'.begins
