-- Which vertices are left, by what vertices and shortcuts hold.
use Rattle.std.specs.Prelude.{◌⊎◌, ℤ, Contains}
use Rattle.pgr_contract.specs.State.{Made, State}

-- a vertex that stands holds it, or a shortcut both of whose ends stand
abbrev pub IsHeldIn : State → ℤ → Type 0
IsHeldIn S x =
    ((z : ℤ) × (Contains S.vertices z × Contains (S.inside z) x))
    ⊎ ((m : Made) × (Contains S.made m × (Contains S.vertices m.from × (Contains S.vertices m.to × Contains m.inside x))))
