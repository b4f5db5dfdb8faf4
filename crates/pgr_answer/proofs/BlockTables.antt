-- Rows of classes grow by one at a time; and one table at most is allowed for each function of blocks, since a table has one list of spans.
use Rattle.std.proofs.Common.{◌≡◌, ℕ, ◌+◌, ◌<◌, ℤ, List, [], ◌∷◌, ◌++◌, length, take, get_or, sym, ap, subst, ◌∙◌, arith}
use Rattle.std.specs.Ordering.{int_cmp}
use Rattle.std.proofs.lemmas.Cmp.{int_cmp_total, on_total, then_total}
use Rattle.std.proofs.lemmas.List.{take_more, length-take-le}
use Rattle.pgr_table.specs.declared.row.EdgeRow.{EdgeRow}
use Rattle.pgr_spans.specs.declared.span.Span.{Span}
use Rattle.pgr_spans.specs.declared.classed.Classed.{Classed}
use Rattle.pgr_blocks.specs.Lists.{AreClasses, ArePoints, AreBridges, classed_cmp}
use Rattle.pgr_blocks.specs.Spans.{AreSpansOf}
use Rattle.pgr_rows.specs.declared.rows.ClassRow.{ClassRow}
use Rattle.pgr_rows.specs.declared.rows.Rows.{Rows}
use Rattle.pgr_rows.specs.declared.rows.Rows.TheVariants.{Classes, Nodes, Edges}
use Rattle.pgr_answer.specs.declared.tables.Tables.{Tables}
use Rattle.pgr_answer.specs.BiconnectedComponents.{IsBiconnectedComponents, class_rows}
use Rattle.pgr_answer.specs.ArticulationPoints.{IsArticulationPoints}
use Rattle.pgr_answer.specs.Bridges.{IsBridges}
use Rattle.pgr_answer.proofs.SameElements.{rising_is_one}

-- the rows of one more class
class_rows-push : (n : ℕ) (classes : List Classed) (c : Classed)
    → class_rows n (classes ++ c ∷ []) ≡ class_rows n classes ++ record { seq = n + length classes; component = c.component; edge = c.edge } ∷ []
class_rows-push n [] c = ap (λ (k : ℕ). record { seq = k; component = c.component; edge = c.edge } ∷ []) (omega arith)
class_rows-push n (first ∷ classes) c =
    ap (λ rows. record { seq = n; component = first.component; edge = first.edge } ∷ rows) (class_rows-push (n + 1) classes c
    ∙ ap (λ (k : ℕ). class_rows (n + 1) classes ++ record { seq = k; component = c.component; edge = c.edge } ∷ []) (omega arith))

-- the row of the next class is put behind the rows so far
pub class_rows_more : (classes : List Classed) (i : ℕ) (d : Classed) (old new : List ClassRow) → i < length classes → old ≡ class_rows 1 (take i classes)
    → new ≡ old ++ record { seq = i + 1; component = (get_or classes i d).component; edge = (get_or classes i d).edge } ∷ []
    → new ≡ class_rows 1 (take (i + 1) classes)
class_rows_more classes i d old new inside so_far new_is =
    let c = get_or classes i d in
    let front = take i classes in
    let row : ℕ → ClassRow = λ k. record { seq = k; component = c.component; edge = c.edge } in
    let count : i + 1 ≡ 1 + length front = omega (arith, length-take-le i classes (omega arith)) in
    new_is
    ∙ ap (λ (rows : List ClassRow). rows ++ row (i + 1) ∷ []) so_far
    ∙ ap (λ (k : ℕ). class_rows 1 front ++ row k ∷ []) count
    ∙ sym (class_rows-push 1 front c)
    ∙ ap (class_rows 1) (sym (take_more classes i d inside))

-- a table has one list of spans
one_list_of_spans : (rows : List EdgeRow) (spans others : List Span) → AreSpansOf rows spans → AreSpansOf rows others → spans ≡ others
one_list_of_spans rows spans others are also =
    rising_is_one (λ (s t : Span). int_cmp s.edge t.edge) (on_total (λ (s : Span). s.edge) int_cmp_total) spans others are.rise also.rise
    (λ span has. (also.each span).1 ((are.each span).0 has)) (λ span has. (are.each span).1 ((also.each span).0 has))

-- spans have one list of classes, one of articulation points and one of bridges
one_list_of_classes : (spans : List Span) (classes others : List Classed) → AreClasses spans classes → AreClasses spans others → classes ≡ others
one_list_of_classes spans classes others are also =
    let total = then_total (on_total (λ (c : Classed). c.component) int_cmp_total) (on_total (λ (c : Classed). c.edge) int_cmp_total) in
    rising_is_one classed_cmp total classes others are.rise also.rise
    (λ c has. (also.each c).1 ((are.each c).0 has)) (λ c has. (are.each c).1 ((also.each c).0 has))

one_list_of_points : (spans : List Span) (points others : List ℤ) → ArePoints spans points → ArePoints spans others → points ≡ others
one_list_of_points spans points others are also =
    rising_is_one int_cmp int_cmp_total points others are.rise also.rise
    (λ x has. (also.each x).1 ((are.each x).0 has)) (λ x has. (are.each x).1 ((also.each x).0 has))

one_list_of_bridges : (spans : List Span) (bridges others : List ℤ) → AreBridges spans bridges → AreBridges spans others → bridges ≡ others
one_list_of_bridges spans bridges others are also =
    rising_is_one int_cmp int_cmp_total bridges others are.rise also.rise
    (λ edge has. (also.each edge).1 ((are.each edge).0 has)) (λ edge has. (are.each edge).1 ((also.each edge).0 has))

-- one table of classes, one of articulation points and one of bridges
pub one_class_table : (tables : Tables) (rows other : Rows) → IsBiconnectedComponents tables rows → IsBiconnectedComponents tables other → rows ≡ other
one_class_table tables rows other (spans, classes, are, classed, rows_are) (spans', classes', also, classed', other_are) =
    let same = one_list_of_spans tables.edges spans spans' are also in
    rows_are
    ∙ ap (λ cs. Classes (class_rows 1 cs)) (one_list_of_classes spans classes classes' classed (subst (λ ss. AreClasses ss classes') (sym same) classed'))
    ∙ sym other_are

pub one_point_table : (tables : Tables) (rows other : Rows) → IsArticulationPoints tables rows → IsArticulationPoints tables other → rows ≡ other
one_point_table tables rows other (spans, points, are, is, rows_are) (spans', points', also, is', other_are) =
    let same = one_list_of_spans tables.edges spans spans' are also in
    rows_are ∙ ap Nodes (one_list_of_points spans points points' is (subst (λ ss. ArePoints ss points') (sym same) is')) ∙ sym other_are

pub one_bridge_table : (tables : Tables) (rows other : Rows) → IsBridges tables rows → IsBridges tables other → rows ≡ other
one_bridge_table tables rows other (spans, bridges, are, is, rows_are) (spans', bridges', also, is', other_are) =
    let same = one_list_of_spans tables.edges spans spans' are also in
    rows_are ∙ ap Edges (one_list_of_bridges spans bridges bridges' is (subst (λ ss. AreBridges ss bridges') (sym same) is')) ∙ sym other_are
