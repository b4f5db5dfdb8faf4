-- How starts are gathered by number, and how notes grow, one start at a time.
use Rattle.std.specs.Prelude.{◌≡◌, ◌⊎◌, ◌↔◌, ℕ, ◌<◌, ℤ, List, [], ◌∷◌, ◌++◌, length, All, Any, Contains}
use Rattle.std.specs.Ordering.{int_cmp}
use Rattle.pgr_outside.specs.Lists.{IsStrictlyRising}
use Rattle.pgr_walks.specs.declared.link.LinkOf.{LinkOf}
use Rattle.pgr_numbers.specs.Names.{id_at}
use Rattle.pgr_table.specs.declared.row.PairRow.{PairRow}
use Rattle.pgr_astar.specs.Breaking.{IsFirstBreaking}
use Rattle.pgr_answer.specs.Notes.{note_cmp}
use Rattle.pgr_answer.specs.declared.answered.Note.{Note}

-- the number of a name from which pairs are asked for
abbrev pub IsNumberedStart : List ℤ → (ℤ → ℤ → Type 0) → ℕ → Type 0
IsNumberedStart names Asked n = (n < length names) × ((end : ℤ) × Asked (id_at names n) end)

-- the ids of starts that have an end
abbrev pub HaveAnEnd : List ℤ → List ℤ → List ℤ → Type 0
HaveAnEnd starts ends listed = (id : ℤ) → Contains listed id ↔ (Contains starts id × ((end : ℤ) × Contains ends end))

-- the new numbers are the old ones and those of names that are sources of the rows
abbrev pub GainsSources : List ℤ → List PairRow → List ℕ → List ℕ → Type 0
GainsSources names rows old new =
    (n : ℕ) → Contains new n ↔ (Contains old n ⊎ ((n < length names) × ((end : ℤ) × Contains rows (record { source = id_at names n; target = end }))))

-- the notes gain that of a start, where a link breaks its estimate, and stay where none does
abbrev pub GainsNote : (LinkOf ℤ → Type 0) → (ℤ → LinkOf ℤ → Type 0) → ℤ → List Note → List Note → Type 0
GainsNote Has Broken start old new =
    ((link : LinkOf ℤ) × IsFirstBreaking int_cmp Has (Broken start) link × (new ≡ old ++ record { start = start; link = link } ∷ []))
    ⊎ (((link : LinkOf ℤ) → Has link → Broken start link → ⊥) × (new ≡ old))

-- the notes of these numbers of starts
pub record AreNotesOf (Has : LinkOf ℤ → Type 0) (Broken : ℤ → LinkOf ℤ → Type 0) (names : List ℤ) (starts : List ℕ) (notes : List Note) : Type 0 where
  pub asked : All (λ note. (n : ℕ) × Contains starts n × (id_at names n ≡ note.start)) notes
  pub first : All (λ note. IsFirstBreaking int_cmp Has (Broken note.start) note.link) notes
  pub every : (n : ℕ) (link : LinkOf ℤ) → Contains starts n → Has link → Broken (id_at names n) link → Any (λ note. note.start ≡ id_at names n) notes
  pub rise : IsStrictlyRising note_cmp notes
