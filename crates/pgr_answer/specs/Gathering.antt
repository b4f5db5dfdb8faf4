-- Lists of pairs of numbers that grow: which pairs are added.
use Rattle.std.specs.Prelude.{◌≡◌, ◌≢◌, ◌⊎◌, ◌↔◌, ◌<◌, ℕ, ℤ, List, length, Contains}
use Rattle.std.specs.declared.cmp.Ordering.{Ordering}
use Rattle.std.specs.Ordering.{nat_cmp, ordering_then}
use Rattle.pgr_table.specs.declared.row.PairRow.{PairRow}
use Rattle.pgr_numbers.specs.Names.{id_at}
use Rattle.pgr_answer.specs.declared.pair.Pair.{Pair}

-- the order of pairs: by end, then by start
abbrev pub pair_cmp : Pair → Pair → Ordering
pair_cmp p q = ordering_then (nat_cmp p.end q.end) (nat_cmp p.start q.start)

-- the numbers are those of ids that are names
abbrev pub AreNumbersOf : List ℤ → List ℤ → List ℕ → Type 0
AreNumbersOf names ids numbers = (n : ℕ) → Contains numbers n ↔ ((n < length names) × Contains ids (id_at names n))

-- the new numbers are the old ones and that of an id, if it is a name
abbrev pub GainsNumber : List ℤ → ℤ → List ℕ → List ℕ → Type 0
GainsNumber names id old new = (n : ℕ) → Contains new n ↔ (Contains old n ⊎ ((n < length names) × (id_at names n ≡ id)))

-- two numbers of names that differ, and stand for ids that are asked for
abbrev pub IsNumberedPair : List ℤ → (ℤ → ℤ → Type 0) → Pair → Type 0
IsNumberedPair names Asked pair = (pair.start < length names) × (pair.end < length names) × (pair.start ≢ pair.end) × Asked (id_at names pair.start) (id_at names pair.end)

-- the new pairs are the old ones and those that are added
pub record Gains (IsAdded : Pair → Type 0) (old new : List Pair) : Type 0 where
  pub exactly : (pair : Pair) → Contains new pair ↔ (Contains old pair ⊎ IsAdded pair)

-- the one pair, if its numbers differ
abbrev pub IsThisPair : ℕ → ℕ → Pair → Type 0
IsThisPair start end pair = (pair.start ≡ start) × (pair.end ≡ end) × (pair.start ≢ pair.end)

-- the pairs with one end, and starts of a list
abbrev pub IsPairTo : List ℕ → ℕ → Pair → Type 0
IsPairTo starts end pair = Contains starts pair.start × (pair.end ≡ end) × (pair.start ≢ pair.end)

-- the pairs with starts of one list and ends of another
abbrev pub IsPairOfLists : List ℕ → List ℕ → Pair → Type 0
IsPairOfLists starts ends pair = Contains starts pair.start × Contains ends pair.end × (pair.start ≢ pair.end)

-- the pairs of numbers that stand for rows
abbrev pub IsPairOfRows : List ℤ → List PairRow → Pair → Type 0
IsPairOfRows names rows pair =
    (pair.start < length names) × (pair.end < length names) × (pair.start ≢ pair.end) × Contains rows (record { source = id_at names pair.start; target = id_at names pair.end })

-- the pair of the numbers of two ids, if they differ
abbrev pub IsPairOfIds : List ℤ → ℤ → ℤ → Pair → Type 0
IsPairOfIds names start end pair =
    (pair.start < length names) × (pair.end < length names) × (pair.start ≢ pair.end) × (id_at names pair.start ≡ start) × (id_at names pair.end ≡ end)
