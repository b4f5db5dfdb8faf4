-- Turning links between ids into links between their numbers, and back.
use Rattle.std.proofs.Common.{◌≡◌, ℕ, List, [], ◌∷◌, ◌++◌, refl, ap, ◌∙◌, ℤ, pos, Some, slice_get}
use Rattle.std.proofs.lemmas.List.{map_push}
use Rattle.std.proofs.lemmas.List.Elements.{All-push}
use Rattle.std.proofs.lemmas.Option.{get_or_from_slice_get}
use Rattle.pgr_walks.specs.declared.link.LinkOf.{LinkOf}
use Rattle.pgr_numbers.specs.Names.{AreNumbered, IsNumbered, named}

-- two links with the same parts are the same
pub same_link : {V : Type 0} (a b : LinkOf V) → a.from ≡ b.from → a.edge ≡ b.edge → a.cost ≡ b.cost → a.to ≡ b.to → a ≡ b
same_link a b from edge cost to =
    ap (λ x. record a { from = x }) from ∙ (ap (λ x. record a { from = b.from; edge = x }) edge ∙ (ap (λ x. record b { cost = x; to = a.to }) cost ∙ ap
    (λ x. record b { to = x }) to))

-- a link between the numbers of the ends of a link stands for it
pub named_link : (names : List ℤ) (link : LinkOf ℤ) (m n : ℕ) (edge : ℤ) → slice_get names m ≡ Some link.from → slice_get names n ≡ Some link.to
    → edge ≡ link.edge → named names (record { from = m; edge = edge; cost = link.cost; to = n }) ≡ link
named_link names link m n edge from to same =
    same_link _ link (get_or_from_slice_get names m link.from (pos 0) from) same refl (get_or_from_slice_get names n link.to (pos 0) to)

-- one more link
pub AreNumbered-more : (names : List ℤ) (links : List (LinkOf ℤ)) (numbers : List (LinkOf ℕ)) (link : LinkOf ℤ) (number : LinkOf ℕ) → AreNumbered names links numbers
    → named names number ≡ link → IsNumbered names number → AreNumbered names (links ++ link ∷ []) (numbers ++ number ∷ [])
AreNumbered-more names links numbers link number before same ends = record {
  rise = before.rise;
  same = map_push (named names) numbers number ∙ (ap (λ xs. xs ++ named names number ∷ []) before.same ∙ ap (λ x. links ++ x ∷ []) same);
  ends = All-push (IsNumbered names) numbers number before.ends ends;
}
