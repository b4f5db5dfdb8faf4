-- The orders of links are total, and only a link is equal to itself in them.
use Rattle.std.proofs.Common.{◌≡◌, ℕ, ℤ, Bool, refl, sym, ap, ◌∙◌, Ordering, Less, Equal, Greater}
use Rattle.std.specs.Ordering.{nat_cmp, int_cmp, ordering_then, eq_by_cmp}
use Rattle.std.specs.Cmp.{IsTotalOrder, IsEquivalence, IsPartialEquivalence, and_per, on_per, and_equiv, on_equiv, nat_eq_equiv, int_eq_equiv, partial_equiv_from_equiv, both_tied, unsigned_ties}
use Rattle.std.proofs.lemmas.Cmp.{ranked, int_ranked, nat_cmp_total, int_cmp_total, on_total, then_total}
use Rattle.pgr_walks.specs.declared.link.LinkOf.{LinkOf}
use Rattle.pgr_walks.specs.Link.{step_cmp, entry_cmp, link_cmp, link_eq}
use Rattle.pgr_walks.specs.ListGraph.{arrival_cmp}

-- equal numbers are the same
pub nat_tie : (x y : ℕ) → nat_cmp x y ≡ Equal → x ≡ y
nat_tie x y e = ranked x y Equal (sym e)

pub int_tie : (x y : ℤ) → int_cmp x y ≡ Equal → x ≡ y
int_tie x y e = int_ranked x y Equal (sym e)

-- two orders one after the other are equal where both are
pub then_tie : (o p : Ordering) → ordering_then o p ≡ Equal → (o ≡ Equal) × (p ≡ Equal)
then_tie Less p e = cc
then_tie Equal p e = (refl, e)
then_tie Greater p e = cc

-- two links with the same parts are the same
pub same_link : {V : Type 0} (a b : LinkOf V) → a.from ≡ b.from → a.edge ≡ b.edge → a.cost ≡ b.cost → a.to ≡ b.to → a ≡ b
same_link a b from edge cost to =
    ap (λ x. record a { from = x }) from ∙ (ap (λ x. record a { from = b.from; edge = x }) edge
    ∙ (ap (λ x. record b { cost = x; to = a.to }) cost ∙ ap (λ x. record b { to = x }) to))

module _ {V : Type 0} (vertex_cmp : V → V → Ordering) (total : IsTotalOrder vertex_cmp) where
  -- the order of links that begin at one vertex
  pub step_total : IsTotalOrder (step_cmp vertex_cmp)
  step_total = then_total (on_total (λ (link : LinkOf V). link.edge) int_cmp_total)
      (then_total (on_total (λ (link : LinkOf V). link.cost) nat_cmp_total) (on_total (λ (link : LinkOf V). link.to) total))

  -- the order of links that lead to one vertex
  pub entry_total : IsTotalOrder (entry_cmp vertex_cmp)
  entry_total = then_total (on_total (λ (link : LinkOf V). link.edge) int_cmp_total)
      (then_total (on_total (λ (link : LinkOf V). link.cost) nat_cmp_total) (on_total (λ (link : LinkOf V). link.from) total))

  -- the order of all links
  pub link_total : IsTotalOrder (link_cmp vertex_cmp)
  link_total = then_total (on_total (λ (link : LinkOf V). link.from) total) step_total

module _ {V : Type 0} (vertex_cmp : V → V → Ordering) (tie : (x y : V) → vertex_cmp x y ≡ Equal → x ≡ y) where
  pub link_tie : (a b : LinkOf V) → link_cmp vertex_cmp a b ≡ Equal → a ≡ b
  link_tie a b e =
      let first = then_tie (vertex_cmp a.from b.from) (step_cmp vertex_cmp a b) e in
      let second = then_tie (int_cmp a.edge b.edge) (ordering_then (nat_cmp a.cost b.cost) (vertex_cmp a.to b.to)) first.1 in
      let third = then_tie (nat_cmp a.cost b.cost) (vertex_cmp a.to b.to) second.1 in
      same_link a b (tie _ _ first.0) (int_tie _ _ second.0) (nat_tie _ _ third.0) (tie _ _ third.1)

module _ {V : Type 0} {vertex_eq : V → V → Bool} where
  -- whether two links are the same is symmetric and transitive where that of vertices is
  pub link_per : IsPartialEquivalence vertex_eq → IsPartialEquivalence (link_eq vertex_eq)
  link_per vertices = and_per (on_per (λ (link : LinkOf V). link.from) vertices)
      (and_per (on_per (λ (link : LinkOf V). link.edge) (partial_equiv_from_equiv int_eq_equiv))
      (and_per (on_per (λ (link : LinkOf V). link.cost) (partial_equiv_from_equiv nat_eq_equiv)) (on_per (λ (link : LinkOf V). link.to) vertices)))

  -- and an equivalence
  pub link_equiv : IsEquivalence vertex_eq → IsEquivalence (link_eq vertex_eq)
  link_equiv vertices = and_equiv (on_equiv (λ (link : LinkOf V). link.from) vertices)
      (and_equiv (on_equiv (λ (link : LinkOf V). link.edge) int_eq_equiv)
      (and_equiv (on_equiv (λ (link : LinkOf V). link.cost) nat_eq_equiv) (on_equiv (λ (link : LinkOf V). link.to) vertices)))

  -- two links are the same where neither is before the other
  pub link_ties : (vertex_cmp : V → V → Ordering) → ((x y : V) → vertex_eq x y ≡ eq_by_cmp vertex_cmp x y) → (a b : LinkOf V)
      → link_eq vertex_eq a b ≡ eq_by_cmp (link_cmp vertex_cmp) a b
  link_ties vertex_cmp ties a b = both_tied _ _ _ _ (ties a.from b.from) (both_tied _ _ _ _ refl (both_tied _ _ _ _ (unsigned_ties a.cost b.cost) (ties a.to b.to)))

-- the order of all links by where they lead
pub arrival_total : IsTotalOrder arrival_cmp
arrival_total = then_total (on_total (λ (link : LinkOf ℕ). link.to) nat_cmp_total) (entry_total nat_cmp nat_cmp_total)

pub arrival_tie : (a b : LinkOf ℕ) → arrival_cmp a b ≡ Equal → a ≡ b
arrival_tie a b e =
    let first = then_tie (nat_cmp a.to b.to) (entry_cmp nat_cmp a b) e in
    let second = then_tie (int_cmp a.edge b.edge) (ordering_then (nat_cmp a.cost b.cost) (nat_cmp a.from b.from)) first.1 in
    let third = then_tie (nat_cmp a.cost b.cost) (nat_cmp a.from b.from) second.1 in
    same_link a b (nat_tie _ _ third.1) (int_tie _ _ second.0) (nat_tie _ _ third.0) (nat_tie _ _ first.0)
