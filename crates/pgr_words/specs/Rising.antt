-- A set of numbers as the strictly rising list of them.
use Rattle.std.specs.Prelude.{List, [], ◌∷◌, ℤ}
use Rattle.std.specs.Ordering.{int_cmp}
use Rattle.std.specs.declared.cmp.Ordering.{Ordering}
use Rattle.std.specs.declared.cmp.Ordering.TheVariants.{Less, Equal, Greater}

-- what stands at a number's place: the number before the rest, the rest alone where it begins with the number, or the rest with its first number before the others
abbrev pub at_place : Ordering → ℤ → ℤ → List ℤ → List ℤ → List ℤ
at_place Less x y rest placed = x ∷ y ∷ rest
at_place Equal x y rest placed = y ∷ rest
at_place Greater x y rest placed = y ∷ placed

-- the strictly rising list with one number more, unless it stands there already
abbrev pub with_number : ℤ → List ℤ → List ℤ
with_number x [] = x ∷ []
with_number x (y ∷ ys) = at_place (int_cmp x y) x y ys (with_number x ys)

-- the strictly rising list of the numbers: each of them once
abbrev pub rising : List ℤ → List ℤ
rising [] = []
rising (x ∷ xs) = with_number x (rising xs)
