-- One value and one cut at most are allowed: a greatest value is at most another one, and a least source side is a subset of another one.
use Rattle.std.proofs.Common.{◌≡◌, inl, inr, ℕ, Bool, true, false, List, refl, sym, ap, ◌∙◌, subst, arith}
use Rattle.std.specs.Prelude.{ℤ, filter}
use Rattle.std.specs.Ordering.{int_cmp}
use Rattle.std.proofs.lemmas.Cmp.{int_cmp_total, on_total, then_total}
use Rattle.pgr_words.specs.declared.command.Command.{Command}
use Rattle.pgr_walks.specs.declared.link.LinkOf.{LinkOf}
use Rattle.pgr_walks.specs.Link.{arc_cmp}
use Rattle.pgr_table.specs.declared.row.CapacityRow.{CapacityRow}
use Rattle.pgr_flow.specs.Cut.{leads_out}
use Rattle.pgr_rows.specs.declared.rows.CutRow.{CutRow}
use Rattle.pgr_rows.specs.declared.rows.Rows.{Rows}
use Rattle.pgr_rows.specs.declared.rows.Rows.TheVariants.{Value, Cuts}
use Rattle.pgr_answer.specs.declared.tables.Tables.{Tables}
use Rattle.pgr_answer.specs.Flows.{AreArcsOf, IsLeastSideBetween, rows_from}
use Rattle.pgr_answer.specs.MaxFlow.{IsFlowValue, IsMaxFlow}
use Rattle.pgr_answer.specs.MinCut.{cut_row, AreCutRows, IsMinCut}
use Rattle.pgr_answer.proofs.SameElements.{rising_is_one}

-- a table has one list of arcs
one_list_of_arcs : (rows : List CapacityRow) (arcs others : List (LinkOf ℤ)) → AreArcsOf rows arcs → AreArcsOf rows others → arcs ≡ others
one_list_of_arcs rows arcs others are also =
    let total = then_total (on_total (λ (a : LinkOf ℤ). a.edge) int_cmp_total)
    (then_total (on_total (λ (a : LinkOf ℤ). a.from) int_cmp_total) (on_total (λ (a : LinkOf ℤ). a.to) int_cmp_total)) in
    rising_is_one (arc_cmp int_cmp) total arcs others are.rise also.rise
    (λ arc has. (also.each arc).1 ((are.each arc).0 has)) (λ arc has. (are.each arc).1 ((also.each arc).0 has))

-- two greatest values are the same
one_value : (arcs : List (LinkOf ℤ)) (starts ends : List ℤ) (value other : ℕ) → IsFlowValue arcs starts ends value → IsFlowValue arcs starts ends other → value ≡ other
one_value arcs starts ends value other (inl (shared, nothing)) (inl (also, other_nothing)) = nothing ∙ sym other_nothing
one_value arcs starts ends value other (inl (shared, nothing)) (inr (apart, found)) = absurd (apart shared)
one_value arcs starts ends value other (inr (apart, found)) (inl (shared, nothing)) = absurd (apart shared)
one_value arcs starts ends value other (inr (apart, (flows, found))) (inr (also, (others, other_found))) =
    omega (arith, found.value_is, other_found.value_is, found.greatest others other_found.flow, other_found.greatest flows found.flow)

-- tests that each hold where the other does are the same
pub same_test : (b c : Bool) → (b ≡ true → c ≡ true) → (c ≡ true → b ≡ true) → b ≡ c
same_test true c into back = sym (into refl)
same_test false true into back = back refl
same_test false false into back = refl

-- two least source sides are the same
one_side : (arcs : List (LinkOf ℤ)) (starts ends : List ℤ) (side other : ℤ → Bool) → IsLeastSideBetween arcs starts ends side → IsLeastSideBetween arcs starts ends other
    → side ≡ other
one_side arcs starts ends side other least also =
    let same : (v : ℤ) → side v ≡ other v = λ v. same_test (side v) (other v) (least.subset other also.least_cut v) (also.subset side least.least_cut v) in
    λ i v. same v i

-- the rows of two cuts are the same
one_cut : (arcs : List (LinkOf ℤ)) (starts ends : List ℤ) (rows other : List CutRow) → AreCutRows arcs starts ends rows → AreCutRows arcs starts ends other → rows ≡ other
one_cut arcs starts ends rows other (inl (shared, none)) (inl (also, other_none)) = none ∙ sym other_none
one_cut arcs starts ends rows other (inl (shared, none)) (inr (apart, found)) = absurd (apart shared)
one_cut arcs starts ends rows other (inr (apart, found)) (inl (shared, none)) = absurd (apart shared)
one_cut arcs starts ends rows other (inr (apart, (side, least, are))) (inr (also, (other_side, other_least, other_are))) =
    are ∙ ap (λ (s : ℤ → Bool). rows_from cut_row 1 (filter (leads_out s) arcs)) (one_side arcs starts ends side other_side least other_least) ∙ sym other_are

-- one table of a value, and one of a cut
pub one_value_table : (command : Command) (tables : Tables) (rows other : Rows) → IsMaxFlow command tables rows → IsMaxFlow command tables other → rows ≡ other
one_value_table command tables rows other (arcs, value, are, is, rows_are) (arcs', value', also, is', other_are) =
    let same = one_list_of_arcs tables.capacities arcs arcs' are also in
    rows_are
    ∙ ap Value (one_value arcs command.starts command.ends value value' is (subst (λ (some : List (LinkOf ℤ)). IsFlowValue some command.starts command.ends value') (sym same) is'))
    ∙ sym other_are

pub one_cut_table : (command : Command) (tables : Tables) (rows other : Rows) → IsMinCut command tables rows → IsMinCut command tables other → rows ≡ other
one_cut_table command tables rows other (arcs, list, are, is, rows_are) (arcs', list', also, is', other_are) =
    let same = one_list_of_arcs tables.capacities arcs arcs' are also in
    rows_are
    ∙ ap Cuts (one_cut arcs command.starts command.ends list list' is (subst (λ (some : List (LinkOf ℤ)). AreCutRows some command.starts command.ends list') (sym same) is'))
    ∙ sym other_are
