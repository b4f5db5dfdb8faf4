-- The points of a table can be arranged by their places.
use Rattle.std.proofs.Common.{◌≡◌, ℕ, zero, suc, ◌<◌, ◌⊎◌, inl, inr, ⊎_elim, Bool, true, false, cond, List, [], ◌∷◌, length, map, Some, slice_get, ℤ, refl, sym, ap, subst, ◌∙◌, arith, Ordering, Less, Equal, Greater}
use Rattle.std.specs.Ordering.{ordering_reverse}
use Rattle.std.specs.List.{All}
use Rattle.pgr_outside.specs.Lists.{IsWithoutRepeats}
use Rattle.pgr_walks.proofs.Repeats.{Among, Apart, Apart-from_IsWithoutRepeats}
use Rattle.pgr_table.specs.declared.row.PointRow.{PointRow}
use Rattle.pgr_points.specs.Places.{place_cmp}
use Rattle.pgr_points.proofs.SameLists.{Rises}
use Rattle.pgr_points.proofs.FractionLemmas.{place_total}
use Rattle.pgr_points.proofs.PlaceLemmas.{same_place}

-- a point before those that it comes before
placed_by : Ordering → PointRow → PointRow → List PointRow → List PointRow → List PointRow
placed_by Less x y ys more = x ∷ y ∷ ys
placed_by Equal x y ys more = y ∷ more
placed_by Greater x y ys more = y ∷ more

with_point : PointRow → List PointRow → List PointRow
with_point x [] = x ∷ []
with_point x (y ∷ ys) = placed_by (place_cmp x y) x y ys (with_point x ys)

pub arranged : List PointRow → List PointRow
arranged [] = []
arranged (x ∷ xs) = with_point x (arranged xs)

-- the same points
by_to : (o : Ordering) (x y z : PointRow) (ys more : List PointRow) → (((x ≡ z) ⊎ Among z ys) → Among z more) → ((x ≡ z) ⊎ Among z (y ∷ ys)) → Among z (placed_by o x y ys more)
unfolding placed_by
by_to Less x y z ys more rest h = h
by_to Equal x y z ys more rest (inl e) = inr (rest (inl e))
by_to Equal x y z ys more rest (inr (inl e)) = inl e
by_to Equal x y z ys more rest (inr (inr m)) = inr (rest (inr m))
by_to Greater x y z ys more rest (inl e) = inr (rest (inl e))
by_to Greater x y z ys more rest (inr (inl e)) = inl e
by_to Greater x y z ys more rest (inr (inr m)) = inr (rest (inr m))

by_from : (o : Ordering) (x y z : PointRow) (ys more : List PointRow) → (Among z more → (x ≡ z) ⊎ Among z ys) → Among z (placed_by o x y ys more) → (x ≡ z) ⊎ Among z (y ∷ ys)
unfolding placed_by
by_from Less x y z ys more rest h = h
by_from Equal x y z ys more rest (inl e) = inr (inl e)
by_from Equal x y z ys more rest (inr m) = ⊎_elim inl (λ k. inr (inr k)) (rest m)
by_from Greater x y z ys more rest (inl e) = inr (inl e)
by_from Greater x y z ys more rest (inr m) = ⊎_elim inl (λ k. inr (inr k)) (rest m)

with_to : (x z : PointRow) (ys : List PointRow) → ((x ≡ z) ⊎ Among z ys) → Among z (with_point x ys)
unfolding with_point
with_to x z [] h = h
with_to x z (y ∷ ys) h = by_to (place_cmp x y) x y z ys (with_point x ys) (with_to x z ys) h

with_from : (x z : PointRow) (ys : List PointRow) → Among z (with_point x ys) → (x ≡ z) ⊎ Among z ys
unfolding with_point
with_from x z [] h = h
with_from x z (y ∷ ys) h = by_from (place_cmp x y) x y z ys (with_point x ys) (with_from x z ys) h

pub arranged_to : (z : PointRow) (xs : List PointRow) → Among z xs → Among z (arranged xs)
unfolding arranged
arranged_to z [] h = h
arranged_to z (x ∷ xs) h = with_to x z (arranged xs) (⊎_elim inl (λ m. inr (arranged_to z xs m)) h)

pub arranged_from : (z : PointRow) (xs : List PointRow) → Among z (arranged xs) → Among z xs
unfolding arranged
arranged_from z [] h = h
arranged_from z (x ∷ xs) h = ⊎_elim inl (λ m. inr (arranged_from z xs m)) (with_from x z (arranged xs) h)

-- what isn't equal is less, or the other way round
turned_to_less : (o p : Ordering) → p ≡ ordering_reverse o → o ≡ Greater → p ≡ Less
turned_to_less Less p e f = cc
turned_to_less Equal p e f = cc
turned_to_less Greater p e f = e

-- and they rise, where no two stand at one place
by_rises : (o : Ordering) (x y : PointRow) (ys more : List PointRow) → o ≡ place_cmp x y → (o ≡ Equal → ⊥) → Rises place_cmp (y ∷ ys) → Rises place_cmp more
    → ((z : PointRow) → Among z more → (x ≡ z) ⊎ Among z ys) → Rises place_cmp (placed_by o x y ys more)
unfolding placed_by Rises
by_rises Less x y ys more is differ rises rest from =
    let less : place_cmp x y ≡ Less = sym is in (
      λ z h. ⊎_elim (λ e. subst (λ w. place_cmp x w ≡ Less) e less) (λ m. place_total.trans x y z less (rises.0 z m)) h,
      rises,
    )
by_rises Equal x y ys more is differ rises rest from = absurd (differ refl)
by_rises Greater x y ys more is differ rises rest from =
    let less : place_cmp y x ≡ Less = turned_to_less (place_cmp x y) (place_cmp y x) (place_total.antisymm y x) (sym is) in (
      λ z h. ⊎_elim (λ e. subst (λ w. place_cmp y w ≡ Less) e less) (λ m. rises.0 z m) (from z h),
      rest,
    )

with_rises : (x : PointRow) (ys : List PointRow) → ((y : PointRow) → Among y ys → place_cmp x y ≡ Equal → ⊥) → Rises place_cmp ys → Rises place_cmp (with_point x ys)
unfolding with_point Rises
with_rises x [] differ rises = (λ z h. absurd h, tt)
with_rises x (y ∷ ys) differ rises =
    by_rises (place_cmp x y) x y ys (with_point x ys) refl (λ e. differ y (inl refl) e) rises (with_rises x ys (λ z h. differ z (inr h)) rises.1) (λ z h. with_from x z ys h)

Among-pids : (x : PointRow) (xs : List PointRow) → Among x xs → Among x.pid (map (λ (row : PointRow). row.pid) xs)
Among-pids x [] h = absurd h
Among-pids x (y ∷ ys) (inl e) = inl (ap (λ (row : PointRow). row.pid) e)
Among-pids x (y ∷ ys) (inr h) = inr (Among-pids x ys h)

arranged_rises : (xs : List PointRow) → Apart (map (λ (row : PointRow). row.pid) xs) → Rises place_cmp (arranged xs)
unfolding arranged Rises
arranged_rises [] apart = tt
arranged_rises (x ∷ xs) apart =
    with_rises x (arranged xs)
    (λ y h e. apart.0 (subst (λ pid. Among pid (map (λ (row : PointRow). row.pid) xs)) (sym (same_place x y e)) (Among-pids y xs (arranged_from y xs h))))
    (arranged_rises xs apart.1)

pub arranged_in_order : (xs : List PointRow) → IsWithoutRepeats (map (λ (row : PointRow). row.pid) xs) → Rises place_cmp (arranged xs)
arranged_in_order xs once = arranged_rises xs (Apart-from_IsWithoutRepeats (map (λ (row : PointRow). row.pid) xs) once)
