-- Rows that are appended for one element of a list after another.
use Rattle.std.proofs.Common.{◌≡◌, List, [], ◌∷◌, ◌++◌, map, refl, sym, ap, ◌∙◌, append_assoc, append-nil}
use Rattle.std.specs.Prelude.{flat_map}
use Rattle.std.proofs.lemmas.List.Concat.{flat_map-append}

-- elements that are shown as they are
map_same : {X : Type 0} (xs : List X) → map (λ x. x) xs ≡ xs
map_same [] = refl
map_same (x ∷ xs) = ap (λ rest. x ∷ rest) (map_same xs)

-- the rows of one more element
pub more_rows : {X Row : Type 0} (rows_of : X → List Row) (old rows new : List Row) (done : List X) (x : X) → rows ≡ old ++ flat_map rows_of done → new ≡ rows ++ rows_of x
    → new ≡ old ++ flat_map rows_of (done ++ x ∷ [])
more_rows rows_of old rows new done x so_far pushed =
    pushed
    ∙ ap (λ front. front ++ rows_of x) so_far
    ∙ append_assoc old (flat_map rows_of done) (rows_of x)
    ∙ ap (λ last. old ++ (flat_map rows_of done ++ last)) (sym (append-nil (rows_of x)))
    ∙ ap (λ all. old ++ all) (sym (flat_map-append rows_of done (x ∷ [])))

-- the rows of all elements
pub all_rows : {X Row : Type 0} (rows_of : X → List Row) (old rows : List Row) (done all : List X) → rows ≡ old ++ flat_map rows_of done → map (λ x. x) done ≡ all
    → rows ≡ old ++ flat_map rows_of all
all_rows rows_of old rows done all so_far is_all = so_far ∙ ap (λ xs. old ++ flat_map rows_of xs) (sym (map_same done) ∙ is_all)
