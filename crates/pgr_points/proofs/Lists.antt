-- Lists that grow by what is made of one element more.
use Rattle.std.proofs.Common.{◌≡◌, ℕ, ◌+◌, List, [], ◌∷◌, ◌++◌, take, Some, slice_get, sym, ap, ◌∙◌}
use Rattle.std.specs.List.{flat_map}
use Rattle.std.proofs.lemmas.List.{append-nil}
use Rattle.std.proofs.lemmas.List.Concat.{flat_map-append}
use Rattle.pgr_outside.proofs.Lists.{take_one_more}

-- what is made of one element more
pub flat_map_one_more : {X Y : Type 0} (f : X → List Y) (xs : List X) (i : ℕ) (x : X) (before after : List Y) → slice_get xs i ≡ Some x
    → before ≡ flat_map f (take i xs) → after ≡ before ++ f x → after ≡ flat_map f (take (i + 1) xs)
flat_map_one_more f xs i x before after here so_far step =
    let more : flat_map f (take i xs ++ x ∷ []) ≡ flat_map f (take i xs) ++ f x =
    flat_map-append f (take i xs) (x ∷ []) ∙ ap (λ ys. flat_map f (take i xs) ++ ys) (append-nil (f x)) in
    step ∙ (ap (λ ys. ys ++ f x) so_far ∙ sym (ap (flat_map f) (take_one_more xs i x here) ∙ more))
