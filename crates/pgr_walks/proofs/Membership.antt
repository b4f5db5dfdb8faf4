-- Membership by cases on a list, as `Among` has it: by places, in two lists, in images, in what a filter keeps and in a flat map.
use Rattle.std.proofs.Common.{◌≡◌, ◌⊎◌, inl, inr, ⊎_elim, suc, Bool, true, false, cond, List, [], ◌∷◌, ◌++◌, map, Some, refl, sym, ap, subst, ◌∙◌, arith}
use Rattle.std.specs.List.{Contains, filter, flat_map}
use Rattle.std.proofs.lemmas.Option.{slice_get-get_or}
use Rattle.pgr_walks.proofs.Repeats.{Among, Among-from_get}

-- membership by places, and by cases on the list
pub Among-from_Contains : {X : Type 0} (x : X) (xs : List X) → Contains xs x → Among x xs
Among-from_Contains x xs h = Among-from_get x xs h.0 (slice_get-get_or xs h.0 x h.1 ∙ ap Some h.2)

pub Contains-from_Among : {X : Type 0} (x : X) (xs : List X) → Among x xs → Contains xs x
Contains-from_Among x [] h = absurd h
Contains-from_Among x (y ∷ ys) (inl e) = (0, omega arith, e)
Contains-from_Among x (y ∷ ys) (inr h) = let r = Contains-from_Among x ys h in (suc r.0, omega (arith, r.1), r.2)

-- what stands in two lists
pub Among-left : {X : Type 0} (x : X) (xs ys : List X) → Among x xs → Among x (xs ++ ys)
Among-left x [] ys h = absurd h
Among-left x (z ∷ xs) ys (inl e) = inl e
Among-left x (z ∷ xs) ys (inr h) = inr (Among-left x xs ys h)

pub Among-right : {X : Type 0} (x : X) (xs ys : List X) → Among x ys → Among x (xs ++ ys)
Among-right x [] ys h = h
Among-right x (z ∷ xs) ys h = inr (Among-right x xs ys h)

pub Among-cases : {X : Type 0} (x : X) (xs ys : List X) → Among x (xs ++ ys) → Among x xs ⊎ Among x ys
Among-cases x [] ys h = inr h
Among-cases x (z ∷ xs) ys (inl e) = inl (inl e)
Among-cases x (z ∷ xs) ys (inr h) = ⊎_elim (λ m. inl (inr m)) inr (Among-cases x xs ys h)

-- an image among the images
pub Among-map : {X Y : Type 0} (f : X → Y) (xs : List X) (x : X) → Among x xs → Among (f x) (map f xs)
Among-map f [] x h = absurd h
Among-map f (y ∷ xs) x (inl e) = inl (ap f e)
Among-map f (y ∷ xs) x (inr h) = inr (Among-map f xs x h)

-- what is made of some element of a list
pub Among-flat_map : {X Y : Type 0} (f : X → List Y) (xs : List X) (x : X) (y : Y) → Among x xs → Among y (f x) → Among y (flat_map f xs)
Among-flat_map f [] x y h m = absurd h
Among-flat_map {X} {Y} f (z ∷ xs) x y (inl e) m = Among-left y (f z) (flat_map f xs) (subst (λ w. Among y (f w)) (sym e) m)
Among-flat_map f (z ∷ xs) x y (inr h) m = Among-right y (f z) (flat_map f xs) (Among-flat_map f xs x y h m)

pub Among-from_flat_map : {X Y : Type 0} (f : X → List Y) (xs : List X) (y : Y) → Among y (flat_map f xs) → (x : X) × (Among x xs × Among y (f x))
Among-from_flat_map f [] y h = absurd h
Among-from_flat_map f (z ∷ xs) y h =
    ⊎_elim (λ m. (z, (inl refl, m))) (λ m. let r = Among-from_flat_map f xs y m in (r.0, (inr r.1.0, r.1.1))) (Among-cases y (f z) (flat_map f xs) h)

-- a filter keeps exactly what passes
module _ {X : Type 0} (p : X → Bool) where
  kept_head : (b : Bool) (x z : X) (ys : List X) → z ≡ x → b ≡ true → Among x (cond b (z ∷ ys) ys)
  kept_head true x z ys same e = inl same
  kept_head false x z ys same e = cc

  kept_tail : (b : Bool) (x z : X) (ys : List X) → Among x ys → Among x (cond b (z ∷ ys) ys)
  kept_tail true x z ys h = inr h
  kept_tail false x z ys h = h

  kept_cases : (b : Bool) (x z : X) (ys : List X) → Among x (cond b (z ∷ ys) ys) → ((z ≡ x) × (b ≡ true)) ⊎ Among x ys
  kept_cases true x z ys (inl e) = inl (e, refl)
  kept_cases true x z ys (inr h) = inr h
  kept_cases false x z ys h = inr h

  pub Among-filter : (xs : List X) (x : X) → Among x xs → p x ≡ true → Among x (filter p xs)
  Among-filter [] x h e = absurd h
  Among-filter (z ∷ xs) x (inl same) e = kept_head (p z) x z (filter p xs) same (ap p same ∙ e)
  Among-filter (z ∷ xs) x (inr h) e = kept_tail (p z) x z (filter p xs) (Among-filter xs x h e)

  pub Among-from_filter : (xs : List X) (x : X) → Among x (filter p xs) → Among x xs × (p x ≡ true)
  Among-from_filter [] x h = absurd h
  Among-from_filter (z ∷ xs) x h =
      ⊎_elim (λ here. (inl here.0, ap p (sym here.0) ∙ here.1)) (λ m. let r = Among-from_filter xs x m in (inr r.0, r.1)) (kept_cases (p z) x z (filter p xs) h)
