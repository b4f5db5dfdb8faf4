-- The order of numbers.
use Rattle.std.proofs.Common.{◌≡◌, ℕ, ◌<◌, ◌≤◌, ⊎_elim, Greater, arith}
use Rattle.std.proofs.lemmas.Bool.{cases_lt}
use Rattle.std.specs.Ordering.{nat_cmp}

pub not_greater : (a b : ℕ) → a ≤ b → nat_cmp a b ≡ Greater → ⊥
not_greater a b le e = grind arith

pub at_most : (a b : ℕ) → (nat_cmp a b ≡ Greater → ⊥) → a ≤ b
at_most a b h = ⊎_elim (λ (gt : b < a). absurd (h (grind arith))) (λ le. le) (cases_lt b a)
