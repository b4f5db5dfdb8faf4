-- Which calls are to fail: a look for a number in a list of them.
use Rattle.std.proofs.Common.{◌≡◌, ℕ, nat_eq, Bool, true, List, Contains, subst}
use Rattle.std.specs.List.{IsAnyAnswer}
use Rattle.std.proofs.lemmas.Bool.Decides.{Decides-eqb}
use Rattle.std.proofs.lemmas.List.Elements.{contains_decides, Decides-contains}

-- a number that a look for it finds is in the list
pub Contains-found : (numbers list : List ℕ) (number n : ℕ) (found : Bool) → IsAnyAnswer (λ y t. nat_eq y number ≡ t) numbers found → found ≡ true → numbers ≡ list → number ≡ n
    → Contains list n
Contains-found numbers list number n found answer is_true same_list same_number =
    let within = (Decides-contains numbers number found (contains_decides nat_eq Decides-eqb numbers number found answer)).0 is_true in
    subst (λ l. Contains l n) same_list (subst (λ m. Contains numbers m) same_number within)
