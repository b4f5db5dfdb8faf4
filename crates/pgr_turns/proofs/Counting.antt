-- Sums over lists, and lists in which nothing stands twice.
use Rattle.std.proofs.Common.{◌≡◌, inl, inr, ℕ, suc, ◌+◌, ◌≤◌, List, [], ◌∷◌, ◌++◌, map, length, get_or, refl, sym, ap, ◌∙◌, subst, arith, ⊎_elim, Ordering, Less, Equal, Greater}
use Rattle.std.specs.Cmp.{IsTotalOrder}
use Rattle.std.proofs.lemmas.Cmp.{tied_itself}
use Rattle.pgr_walks.specs.Graph.{IsStrictlyRising}
use Rattle.pgr_walks.proofs.Repeats.{Among, Apart}
use Rattle.pgr_walks.proofs.Membership.{Contains-from_Among}

-- the sum over a list
abbrev pub total : {X : Type 0} → (X → ℕ) → List X → ℕ
total f [] = 0
total f (x ∷ xs) = f x + total f xs

-- a list without one of its elements
record Taken {X : Type 0} (f : X → ℕ) (x : X) (ys : List X) : Type 0 where
  rest : List X
  is : total f ys ≡ f x + total f rest
  keeps : (z : X) → Among z ys → (z ≡ x → ⊥) → Among z rest

take_out : {X : Type 0} (f : X → ℕ) (x : X) (ys : List X) → Among x ys → Taken f x ys
take_out f x [] h = absurd h
take_out f x (y ∷ ys) (inl e) = record {
  rest = ys;
  is = ap (λ v. f v + total f ys) e;
  keeps = λ z h ne. ⊎_elim (λ same. absurd (ne (sym same ∙ e))) (λ later. later) h;
}
take_out f x (y ∷ ys) (inr h) =
    let t = take_out f x ys h in
    record {
      rest = y ∷ t.rest;
      is = omega (arith, t.is);
      keeps = λ z among ne. ⊎_elim (λ same. inl same) (λ later. inr (t.keeps z later ne)) among;
    }

-- a list without repeats whose elements stand in another adds up to no more than that
pub sub_total : {X : Type 0} (f : X → ℕ) (xs ys : List X) → Apart xs → ((z : X) → Among z xs → Among z ys) → total f xs ≤ total f ys
sub_total f [] ys p all = omega arith
sub_total f (x ∷ xs) ys p all =
    let t = take_out f x ys (all x (inl refl)) in
    let rest = sub_total f xs t.rest p.1 (λ z h. t.keeps z (all z (inr h)) (λ e. p.0 (subst (λ y. Among y xs) e h))) in
    omega (arith, t.is, rest)

pub total-append : {X : Type 0} (f : X → ℕ) (xs ys : List X) → total f (xs ++ ys) ≡ total f xs + total f ys
total-append f [] ys = omega arith
total-append f (x ∷ xs) ys = omega (arith, total-append f xs ys)

pub among_from_map : {X Y : Type 0} (f : X → Y) (y : Y) (xs : List X) → Among y (map f xs) → (x : X) × (Among x xs × (f x ≡ y))
among_from_map f y [] h = absurd h
among_from_map f y (x ∷ xs) (inl e) = (x, (inl refl, e))
among_from_map f y (x ∷ xs) (inr h) = let r = among_from_map f y xs h in (r.0, (inr r.1.0, r.1.1))

-- what differs stays apart where its images differ
pub apart_map : {X Y : Type 0} (f : X → Y) (xs : List X) → Apart xs → ((x y : X) → Among x xs → Among y xs → f x ≡ f y → x ≡ y) → Apart (map f xs)
apart_map f [] p one = tt
apart_map f (x ∷ xs) p one = (
  λ again.
      let r = among_from_map f (f x) xs again in
      p.0 (subst (λ z. Among z xs) (one r.0 x (inr r.1.0) (inl refl) r.1.1) r.1.0),
  apart_map f xs p.1 (λ y z my mz same. one y z (inr my) (inr mz) same),
)

not_both : (o : Ordering) → o ≡ Less → o ≡ Equal → ⊥
not_both Less a b = cc
not_both Equal a b = cc
not_both Greater a b = cc

pub apart_rising : {X : Type 0} (cmp : X → X → Ordering) → IsTotalOrder cmp → (xs : List X) → IsStrictlyRising cmp xs → Apart xs
apart_rising cmp total_order [] h = tt
apart_rising {X} cmp total_order (x ∷ xs) h = (
  λ m.
      let r = Contains-from_Among x xs m in
      let less : cmp x (get_or xs r.0 x) ≡ Less = h 0 (suc r.0) x (omega arith) (omega (arith, r.1)) in
      not_both (cmp x x) (subst (λ y. cmp x y ≡ Less) r.2 less) (tied_itself total_order x),
  apart_rising cmp total_order xs (λ i j y before inside. h (suc i) (suc j) y (omega arith) (omega arith)),
)

pub total_ones : {X : Type 0} (xs : List X) → total (λ _. 1) xs ≡ length xs
total_ones [] = refl
total_ones (x ∷ xs) = omega (arith, total_ones xs)
