-- The links of slots, one slot more at a time.
use Rattle.std.proofs.Common.{◌≡◌, ℕ, ◌+◌, ◌≤◌, List, [], ◌∷◌, ◌++◌, length, map, take, refl, ap, ◌∙◌, arith, ℤ, Option, Some, None, slice_get}
use Rattle.std.specs.List.{All, Contains}
use Rattle.std.specs.Option.{option_to_list}
use Rattle.std.proofs.lemmas.Grind.{flat_map-append}
use Rattle.std.proofs.lemmas.List.{append-nil, take_all}
use Rattle.std.proofs.lemmas.List.Elements.{All-contains}
use Rattle.std.proofs.lemmas.Option.{slice_get_within, get_or_from_slice_get}
use Rattle.pgr_outside.proofs.Lists.{take_one_more, Contains-flat_map, Contains-here}
use Rattle.pgr_walks.specs.declared.link.LinkOf.{LinkOf}
use Rattle.pgr_numbers.specs.Slots.{links_in}

-- one more slot, whatever it has
pub links_in-more : (slots : List (Option (LinkOf ℤ))) (i : ℕ) (slot : Option (LinkOf ℤ)) → slice_get slots i ≡ Some slot
    → links_in (take (i + 1) slots) ≡ links_in (take i slots) ++ option_to_list slot
links_in-more slots i slot here =
    ap links_in (take_one_more slots i slot here) ∙ (flat_map-append option_to_list (take i slots) (slot ∷ [])
    ∙ ap (λ more. links_in (take i slots) ++ more) (append-nil (option_to_list slot)))

-- one that has a link
pub links_in-next : (slots : List (Option (LinkOf ℤ))) (i : ℕ) (link : LinkOf ℤ) → slice_get slots i ≡ Some (Some link)
    → links_in (take (i + 1) slots) ≡ links_in (take i slots) ++ link ∷ []
links_in-next slots i link here = links_in-more slots i (Some link) here

-- one that is empty
pub links_in-skip : (slots : List (Option (LinkOf ℤ))) (i : ℕ) → slice_get slots i ≡ Some None → links_in (take (i + 1) slots) ≡ links_in (take i slots)
links_in-skip slots i here = links_in-more slots i None here ∙ append-nil (links_in (take i slots))

-- the links of a slot for each
pub links_in-listed : (links : List (LinkOf ℤ)) → links_in (map (λ link. Some link) links) ≡ links
links_in-listed [] = refl
links_in-listed (link ∷ rest) = ap (λ ls. link ∷ ls) (links_in-listed rest)

-- what holds of all links holds of that of a slot
pub All-in_slot : (P : LinkOf ℤ → Type 0) (slots : List (Option (LinkOf ℤ))) (i : ℕ) (link : LinkOf ℤ) → slice_get slots i ≡ Some (Some link) → All P (links_in slots) → P link
All-in_slot P slots i link here all =
    let place : Contains slots (Some link) = (i, slice_get_within slots i (Some link) here, get_or_from_slice_get slots i (Some link) (Some link) here) in
    All-contains P (links_in slots) link all (Contains-flat_map option_to_list slots (Some link) link place (Contains-here link []))

-- once all slots are seen
pub links_in-all : (slots : List (Option (LinkOf ℤ))) (i : ℕ) → length slots ≤ i → links_in (take i slots) ≡ links_in slots
links_in-all slots i past = ap links_in (take_all i slots past)

-- there are at most as many links as slots
pub length-links_in : (slots : List (Option (LinkOf ℤ))) → length (links_in slots) ≤ length slots
length-links_in [] = omega arith
length-links_in (None ∷ rest) = omega (arith, length-links_in rest)
length-links_in (Some link ∷ rest) = omega (arith, length-links_in rest)
