-- Where every vertex of a set keeps the flow, so does the set: vertex by vertex, up to the size.
use Rattle.std.proofs.Common.{◌≡◌, ℕ, ◌+◌, ◌<◌, zero, suc, Bool, true, false, cond, ◌&&◌, List, [], ◌∷◌, ltb, eqb, nat_eq, refl, sym, ap, ◌∙◌, ⊎_elim, arith, All}
use Rattle.std.specs.List.{AllByRecursion}
use Rattle.std.proofs.Math.Bool.{and-true, and-false}
use Rattle.std.proofs.lemmas.Bool.{cases_eq, lt-ltb}
use Rattle.std.proofs.lemmas.Bool.Decides.{nat_tests}
use Rattle.std.proofs.lemmas.List.Elements.{recursion_from_All}
use Rattle.pgr_walks.specs.declared.link.LinkOf.{LinkOf}
use Rattle.pgr_walks.specs.ListGraph.{HasEndsBelow}
use Rattle.pgr_flow.specs.Flow.{leaving, entering}
use Rattle.pgr_flow.proofs.Sums.{sum_where-split, sum_where-agree, sum_where-none}

ltb_same : (x n : ℕ) → x ≡ n → (ltb x (suc n) ≡ true) × ((ltb x n ≡ false) × (eqb n x ≡ true))
ltb_same x n e = (grind (arith, nat_tests), (grind (arith, nat_tests), grind (arith, nat_tests)))

ltb_other : (x n : ℕ) → (x ≡ n → ⊥) → (ltb x (suc n) ≡ ltb x n) × (eqb n x ≡ false)
ltb_other x n ne = (grind (arith, nat_tests), grind (arith, nat_tests))

pick : (b c : Bool) (m : ℕ) → b ≡ c → cond (b && true) m 0 ≡ cond (b && false) m 0 + cond (c && true) m 0
pick true true m e = omega arith
pick true false m e = absurd (cc)
pick false true m e = absurd (cc)
pick false false m e = omega arith

skip : (b c p : Bool) (m : ℕ) → cond (b && p) m 0 ≡ cond (b && p) m 0 + cond (c && false) m 0
skip b true p m = omega arith
skip b false p m = omega arith

-- a vertex below n + 1 is one below n, or n
one_more : (D : ℕ → Bool) (x n m : ℕ) → cond (D x && ltb x (suc n)) m 0 ≡ cond (D x && ltb x n) m 0 + cond (D n && eqb n x) m 0
one_more D x n m = ⊎_elim
    (λ (e : x ≡ n). let h = ltb_same x n e in
    omega (arith, ap (λ p. cond (D x && p) m 0) h.0, ap (λ p. cond (D x && p) m 0) h.1.0, ap (λ p. cond (D n && p) m 0) h.1.1, pick (D x) (D n) m (ap D e)))
    (λ (ne : x ≡ n → ⊥). let h = ltb_other x n ne in
    omega (arith, ap (λ p. cond (D x && p) m 0) h.0, ap (λ p. cond (D n && p) m 0) h.1, skip (D x) (D n) (ltb x n) m))
    (cases_eq x n)

not_below_zero : (x : ℕ) → ltb x 0 ≡ false
not_below_zero x = grind (arith, nat_tests)

below_size : (D : ℕ → Bool) (x n : ℕ) → x < n → (D x && ltb x n) ≡ D x
below_size D x n h = ap (λ p. D x && p) (lt-ltb x n h) ∙ and-true (D x)

starts_agree : (D : ℕ → Bool) (size : ℕ) (arcs : List (LinkOf ℕ)) → AllByRecursion (HasEndsBelow size) arcs
    → AllByRecursion (λ (a : LinkOf ℕ). (D a.from && ltb a.from size) ≡ D a.from) arcs
starts_agree D size [] h = h
starts_agree D size (a ∷ arcs) h = (below_size D a.from size h.0.0, starts_agree D size arcs h.1)

ends_agree : (D : ℕ → Bool) (size : ℕ) (arcs : List (LinkOf ℕ)) → AllByRecursion (HasEndsBelow size) arcs
    → AllByRecursion (λ (a : LinkOf ℕ). (D a.to && ltb a.to size) ≡ D a.to) arcs
ends_agree D size [] h = h
ends_agree D size (a ∷ arcs) h = (below_size D a.to size h.0.1, ends_agree D size arcs h.1)

module _ (arcs : List (LinkOf ℕ)) (flows : List ℕ) (D : ℕ → Bool) (kept : (v : ℕ) → D v ≡ true → leaving (nat_eq v) arcs flows ≡ entering (nat_eq v) arcs flows) where
  single : (n : ℕ) (b : Bool) → D n ≡ b → leaving (λ x. b && eqb n x) arcs flows ≡ entering (λ x. b && eqb n x) arcs flows
  single n true is = kept n is
  single n false is = sum_where-none (λ a. false) (λ a. refl) arcs flows ∙ sym (sum_where-none (λ a. false) (λ a. refl) arcs flows)

  none_below : (x : ℕ) → (D x && ltb x 0) ≡ false
  none_below x = ap (λ p. D x && p) (not_below_zero x) ∙ and-false (D x)

  kept_below : (n : ℕ) → leaving (λ x. D x && ltb x n) arcs flows ≡ entering (λ x. D x && ltb x n) arcs flows
  kept_below zero = sum_where-none (λ a. D a.from && ltb a.from 0) (λ a. none_below a.from) arcs flows
      ∙ sym (sum_where-none (λ a. D a.to && ltb a.to 0) (λ a. none_below a.to) arcs flows)
  kept_below (suc n) = omega (
    arith,
    sum_where-split (λ (a : LinkOf ℕ). D a.from && ltb a.from (suc n)) (λ a. D a.from && ltb a.from n) (λ a. D n && eqb n a.from) (λ a m. one_more D a.from n m) arcs flows,
    sum_where-split (λ (a : LinkOf ℕ). D a.to && ltb a.to (suc n)) (λ a. D a.to && ltb a.to n) (λ a. D n && eqb n a.to) (λ a m. one_more D a.to n m) arcs flows,
    kept_below n,
    single n (D n) refl,
  )

  -- the set keeps the flow
  pub kept_set : (size : ℕ) → All (HasEndsBelow size) arcs → leaving D arcs flows ≡ entering D arcs flows
  kept_set size below =
      let each = recursion_from_All (HasEndsBelow size) arcs below in
      sym (sum_where-agree (λ (a : LinkOf ℕ). D a.from && ltb a.from size) (λ a. D a.from) arcs flows (starts_agree D size arcs each))
      ∙ (kept_below size ∙ sum_where-agree (λ (a : LinkOf ℕ). D a.to && ltb a.to size) (λ a. D a.to) arcs flows (ends_agree D size arcs each))
