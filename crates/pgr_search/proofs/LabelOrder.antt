-- The order of labels: by cost, then by hops.
use Rattle.std.proofs.Common.{◌≡◌, ℕ, zero, suc, inl, inr, true, false, List, ◌∷◌, refl, arith}
use Rattle.std.specs.Ordering.{is_lt}
use Rattle.std.proofs.lemmas.Bool.Decides.{nat_tests}
use Rattle.pgr_walks.specs.declared.link.LinkOf.{LinkOf}
use Rattle.pgr_walks.specs.declared.label.Label.{Label}
use Rattle.pgr_walks.specs.Label.{AtMost, label_of, beyond}
use Rattle.pgr_search.specs.Relaxing.{label_cmp}

pub AtMost-refl : (a : Label) → AtMost a a
AtMost-refl a = inr (refl, omega arith)

pub AtMost-trans : (a b c : Label) → AtMost a b → AtMost b c → AtMost a c
AtMost-trans a b c (inl p) (inl q) = inl (omega arith)
AtMost-trans a b c (inl p) (inr q) = inl (omega (arith, q.0))
AtMost-trans a b c (inr p) (inl q) = inl (omega (arith, p.0))
AtMost-trans a b c (inr p) (inr q) = inr (omega (arith, p.0, q.0), omega (arith, p.1, q.1))

-- one link more keeps the order
pub AtMost-beyond : (a b : Label) (link : LinkOf ℕ) → AtMost a b → AtMost (beyond a link) (beyond b link)
AtMost-beyond a b link (inl p) = inl (omega arith)
AtMost-beyond a b link (inr p) = inr (omega (arith, p.0), omega (arith, p.1))

-- one link more is no less
pub AtMost-longer : (a : Label) (link : LinkOf ℕ) → AtMost a (beyond a link)
AtMost-longer a link = at (link.cost) refl
  where
    at : (n : ℕ) → link.cost ≡ n → AtMost a (beyond a link)
    at zero e = inr (omega arith, omega arith)
    at (suc n) e = inl (omega arith)

-- labels with the same cost and hops
Label-same : (a b c d : ℕ) → a ≡ c → b ≡ d → ◌≡◌ {A = Label} (record { cost = a; hops = b }) (record { cost = c; hops = d })
Label-same a b c d p q = λ i. record { cost = p i; hops = q i }

-- a link and then a walk have the label beyond that of the walk
pub label_of-cons : (link : LinkOf ℕ) (walk : List (LinkOf ℕ)) → label_of (link ∷ walk) ≡ beyond (label_of walk) link
label_of-cons link walk = Label-same _ _ _ _ (omega arith) (omega arith)

-- what the test of two labels says
pub less : (a b : Label) → is_lt (label_cmp a b) ≡ true → AtMost a b
less a b e = grind (arith, nat_tests)

pub not_less : (a b : Label) → is_lt (label_cmp a b) ≡ false → AtMost b a
not_less a b e = grind (arith, nat_tests)
