-- The limits of numbers.
use Rattle.std.specs.Prelude.{ℕ, ◌-◌, ◌^◌}

-- the greatest id, vertex, cost and sum of costs
abbrev pub greatest : ℕ
greatest = 2 ^ 63 - 1
