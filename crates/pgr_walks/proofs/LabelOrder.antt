-- The order of labels, by cost and then by hops.
use Rattle.std.proofs.Common.{◌≡◌, ◌≤◌, inl, inr, arith}
use Rattle.pgr_walks.specs.declared.label.Label.{Label}
use Rattle.pgr_walks.specs.Label.{AtMost}

-- what is at most another costs at most as much
pub AtMost-cost : (a b : Label) → AtMost a b → a.cost ≤ b.cost
AtMost-cost a b (inl less) = omega arith
AtMost-cost a b (inr same) = omega (arith, same.0)

-- and has no more hops, where the other costs no more
pub AtMost-hops : (a b : Label) → AtMost a b → b.cost ≤ a.cost → a.hops ≤ b.hops
AtMost-hops a b (inl less) h = absurd (omega arith)
AtMost-hops a b (inr same) h = same.1

-- two labels that are at most each other are the same
pub AtMost-both : (a b : Label) → AtMost a b → AtMost b a → a ≡ b
AtMost-both a b (inl h) (inl k) = absurd (omega arith)
AtMost-both a b (inl h) (inr k) = absurd (omega (arith, k.0))
AtMost-both a b (inr h) (inl k) = absurd (omega (arith, h.0))
AtMost-both a b (inr h) (inr k) = let hops : a.hops ≡ b.hops = omega (arith, h.1, k.1) in λ i. record { cost = h.0 i; hops = hops i }
