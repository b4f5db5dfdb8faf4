-- What one more row adds to the cost of all links, and what one more list does to the fault of restrictions.
use Rattle.std.proofs.Common.{◌≡◌, ℕ, zero, suc, ◌+◌, List, [], ◌∷◌, take, drop, length, Bool, true, false, Some, refl, ap, ◌∙◌, ℤ, slice_get, zero-add, add-one}
use Rattle.std.proofs.lemmas.List.Sums.{sum_by-append, sum_by-cons}
use Rattle.pgr_outside.proofs.Lists.{take_one_more}
use Rattle.pgr_table.specs.declared.row.EdgeRow.{EdgeRow}
use Rattle.pgr_table.specs.declared.fault.TableFault.TheVariants.{CostSum}
use Rattle.pgr_table.specs.Restrictions.{elements_of_lists}
use Rattle.pgr_graph.specs.Restricted.{links_cost, table_cost, is_over, first_over}

-- the cost of the rows so far with one more
pub table_cost-more : (directed : Bool) (rows : List EdgeRow) (i : ℕ) (row : EdgeRow) → slice_get rows i ≡ Some row
    → table_cost directed (take (i + 1) rows) ≡ table_cost directed (take i rows) + links_cost directed row
table_cost-more directed rows i row e = ap (table_cost directed) (take_one_more rows i row e) ∙ sum_by-append (links_cost directed) (take i rows) (row ∷ [])
    ∙ ap (λ n. table_cost directed (take i rows) + n) (zero-add (links_cost directed row))

-- what is left of a list begins with what stands at the place
drop-suc : {X : Type 0} (xs : List X) (i : ℕ) (x : X) → slice_get xs i ≡ Some x → drop i xs ≡ x ∷ drop (suc i) xs
drop-suc [] i x e = cc e
drop-suc (y ∷ ys) zero x e = let same : y ≡ x = cc e in ap (λ z. z ∷ ys) same
drop-suc (y ∷ ys) (suc i) x e = drop-suc ys i x e

pub drop-at : {X : Type 0} (xs : List X) (i : ℕ) (x : X) → slice_get xs i ≡ Some x → drop i xs ≡ x ∷ drop (i + 1) xs
drop-at xs i x e = rw (add-one i) (drop-suc xs i x e)

-- the elements of a list and of those behind it
pub elements-more : (list : List ℤ) (lists : List (List ℤ)) → elements_of_lists (list ∷ lists) ≡ length list + elements_of_lists lists
elements-more list lists = sum_by-cons length list lists

-- the first list takes the sum too far, or it doesn't
pub over-yes : (total number before : ℕ) (list : List ℤ) (lists : List (List ℤ)) → is_over total (before + length list) list ≡ true
    → first_over total number before (list ∷ lists) ≡ Some (CostSum number)
over-yes total number before list lists e = rw e refl

pub over-no : (total number before : ℕ) (list : List ℤ) (lists : List (List ℤ)) → is_over total (before + length list) list ≡ false
    → first_over total number before (list ∷ lists) ≡ first_over total (number + 1) (before + length list) lists
over-no total number before list lists e = rw e refl
