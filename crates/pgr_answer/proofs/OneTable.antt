-- One table at most is allowed: answers to the same pairs are one list where what is shown of a pair is one.
use Rattle.std.proofs.Common.{◌≡◌, ◌≢◌, Bool, ℕ, ℤ, List, sym, ap, ◌∙◌, subst, arith, map, Ordering, Less, Equal, Greater, refl, true, false}
use Rattle.std.specs.Prelude.{Any, Contains}
use Rattle.std.specs.Ordering.{int_cmp, ordering_reverse}
use Rattle.std.proofs.lemmas.Cmp.{int_cmp_total, on_total, then_total}
use Rattle.std.proofs.lemmas.List.Elements.{All-contains}
use Rattle.pgr_walks.specs.declared.link.LinkOf.{LinkOf}
use Rattle.pgr_walks.specs.Walk.{IsWalk, IsVertex}
use Rattle.pgr_walks.specs.LinkOrders.{int_tie}
use Rattle.pgr_walks.specs.RouteOrders.{least_is_one}
use Rattle.pgr_words.specs.declared.function.Function.{Function}
use Rattle.pgr_words.specs.declared.function.Function.TheVariants as function
use Rattle.pgr_words.specs.declared.command.Command.{Command}
use Rattle.pgr_graph.specs.Links.{IsLinkOfTable}
use Rattle.pgr_rows.specs.declared.rows.Rows.{Rows}
use Rattle.pgr_rows.specs.declared.rows.Rows.TheVariants.{Paths, Parts, Costs}
use Rattle.pgr_parts.specs.Classes.{Connected, StronglyConnected, IsClassName}
use Rattle.pgr_answer.specs.Components.{Member, member_cmp, AreMembers, IsPartTable, part_rows}
use Rattle.pgr_answer.specs.Pairs.{IsAnswerable, IsAsked, IsAskedOfMatrix}
use Rattle.pgr_answer.specs.Answers.{Answer, answer_cmp, AreAnswersBy, walks_over}
use Rattle.pgr_answer.specs.Costs.{IsLeastCost}
use Rattle.pgr_answer.specs.CostTables.{IsCostTable, cost_row}
use Rattle.pgr_answer.specs.Paths.{IsLeastBetween, IsPathTable, path_table}
use Rattle.pgr_points.specs.Pointed.{IsPointed}
use Rattle.pgr_turns.specs.Restrictions.{IsAllowedWalk}
use Rattle.pgr_answer.specs.Trsp.{IsAllowedTable, IsLeastAllowed}
use Rattle.pgr_answer.specs.WithPoints.{IsShownTable, shown_table}
use Rattle.pgr_answer.specs.declared.tables.Tables.{Tables}
use Rattle.pgr_answer.specs.declared.answered.Note.{Note}
use Rattle.pgr_answer.specs.Allowed.{IsAllowed, IsAllowedFor, AreNotesFor, AreNotesOver}
use Rattle.pgr_answer.proofs.NoteLemmas.{one_notes}
use Rattle.pgr_answer.proofs.SameElements.{rising_is_one}
use Rattle.pgr_answer.proofs.BlockTables.{one_class_table, one_point_table, one_bridge_table}
use Rattle.pgr_answer.proofs.OneReachTable.{one_reach_table}
use Rattle.pgr_answer.proofs.OneKspTable.{answer_total, same_answer, one_ksp_table}
use Rattle.pgr_answer.proofs.OneContraction.{one_contraction}
use Rattle.pgr_answer.proofs.OneFlowTables.{one_value_table, one_cut_table}

module _ {Shown : Type 0} {Leads : ℤ → ℤ → List (LinkOf ℤ) → Type 0} (Has : LinkOf ℤ → Type 0) (Asked : ℤ → ℤ → Type 0) (Shows : ℤ → ℤ → Shown → Type 0)
    (walk_of : (s t : ℤ) (shown : Shown) → Shows s t shown → (walk : List (LinkOf ℤ)) × Leads s t walk)
    (one : (s t : ℤ) (shown other : Shown) → Shows s t shown → Shows s t other → shown ≡ other) where
  -- the answer to a pair that another one answers too is that one
  same_of_pair : (answers : List (Answer Shown)) → AreAnswersBy Has Leads Asked Shows answers → (a : Answer Shown) → Shows a.start a.end a.shown
      → Any (λ answer. (answer.start ≡ a.start) × (answer.end ≡ a.end)) answers → Contains answers a
  same_of_pair answers are a shows (k, b, within, is, ends) =
      let shows_b = All-contains (λ answer. Shows answer.start answer.end answer.shown) answers b are.shows (k, within, is) in
      let at_start = subst (λ s. Shows s b.end b.shown) ends.0 shows_b in
      let at_end = subst (λ t. Shows a.start t b.shown) ends.1 at_start in
      let same = same_answer b a ends.0 ends.1 (one a.start a.end b.shown a.shown at_end shows) in
      subst (Contains answers) same (k, within, is)

  -- what is an answer of the one list is one of the other
  stands : (answers others : List (Answer Shown)) → AreAnswersBy Has Leads Asked Shows answers → AreAnswersBy Has Leads Asked Shows others → (a : Answer Shown) → Contains answers a
      → Contains others a
  stands answers others are also a among =
      let asked = All-contains (λ answer. Asked answer.start answer.end) answers a are.asked among in
      let answerable = All-contains (λ answer. IsAnswerable Has answer.start answer.end) answers a are.answerable among in
      let shows = All-contains (λ answer. Shows answer.start answer.end answer.shown) answers a are.shows among in
      let walk = walk_of a.start a.end a.shown shows in
      same_of_pair others also a shows (also.every a.start a.end walk.0 asked answerable walk.1)

  -- the answers are one list
  answers_are_one : (answers others : List (Answer Shown)) → AreAnswersBy Has Leads Asked Shows answers → AreAnswersBy Has Leads Asked Shows others → answers ≡ others
  answers_are_one answers others are also = rising_is_one answer_cmp answer_total answers others are.rise also.rise (stands answers others are also)
      (stands others answers also are)

-- two least costs are the same
one_least_cost : (Has : LinkOf ℤ → Type 0) (s t : ℤ) (cost other : ℕ) → IsLeastCost Has s t cost → IsLeastCost Has s t other → cost ≡ other
one_least_cost Has s t cost other least also = omega (arith, least.costs, also.costs, least.least also.walk also.is_walk, also.least least.walk least.is_walk)

module _ (Has : LinkOf ℤ → Type 0) (Asked : ℤ → ℤ → Type 0) where
  -- one table of paths
  one_path_table : (rows other : Rows) → IsPathTable Has Asked rows → IsPathTable Has Asked other → rows ≡ other
  one_path_table rows other (answers, are, rows_are) (others, also, other_are) =
      let same = answers_are_one {Leads = walks_over Has} Has Asked (IsLeastBetween Has) (λ s t walk least. (walk, least.belongs))
      (λ s t. least_is_one int_cmp int_cmp_total int_tie (λ walk. IsWalk Has s walk t)) answers others are also in
      rows_are ∙ ap (λ a. Paths (path_table a)) same ∙ sym other_are

  -- the same, shown with details or without
  one_shown_table : (details : Bool) (rows other : Rows) → IsShownTable Has Asked details rows → IsShownTable Has Asked details other → rows ≡ other
  one_shown_table details rows other (answers, are, rows_are) (others, also, other_are) =
      let same = answers_are_one {Leads = walks_over Has} Has Asked (IsLeastBetween Has) (λ s t walk least. (walk, least.belongs))
      (λ s t. least_is_one int_cmp int_cmp_total int_tie (λ walk. IsWalk Has s walk t)) answers others are also in
      rows_are ∙ ap (λ a. Paths (shown_table details a)) same ∙ sym other_are

  -- one table of paths that meet no restriction
  one_allowed_table : (restrictions : List (List ℤ)) (rows other : Rows) → IsAllowedTable Has restrictions Asked rows → IsAllowedTable Has restrictions Asked other → rows ≡ other
  one_allowed_table restrictions rows other (answers, are, rows_are) (others, also, other_are) =
      let same = answers_are_one {Leads = IsAllowedWalk Has restrictions} Has Asked (IsLeastAllowed Has restrictions) (λ s t walk least. (walk, least.belongs))
      (λ s t. least_is_one int_cmp int_cmp_total int_tie (IsAllowedWalk Has restrictions s t)) answers others are also in
      rows_are ∙ ap (λ a. Paths (path_table a)) same ∙ sym other_are

  -- one table of costs
  one_cost_table : (rows other : Rows) → IsCostTable Has Asked rows → IsCostTable Has Asked other → rows ≡ other
  one_cost_table rows other (answers, are, rows_are) (others, also, other_are) =
      let same = answers_are_one {Leads = walks_over Has} Has Asked (IsLeastCost Has) (λ s t cost least. (least.walk, least.is_walk)) (one_least_cost Has) answers others are also
      in
      rows_are ∙ ap (λ a. Costs (map cost_row a)) same ∙ sym other_are

-- two names of one class are the same
one_class_name : (InClass : ℤ → ℤ → Type 0) (v name other : ℤ) → IsClassName int_cmp InClass v name → IsClassName int_cmp InClass v other → name ≡ other
one_class_name InClass v name other is also = int_tie name other
    (tied (int_cmp name other) (int_cmp other name) (int_cmp_total.antisymm name other) (is.least other also.member) (also.least name is.member))
  where
    tied : (o p : Ordering) → o ≡ ordering_reverse p → o ≢ Greater → p ≢ Greater → o ≡ Equal
    tied Equal p e low high = refl
    tied Greater p e low high = absurd (low refl)
    tied Less Less e low high = absurd cc
    tied Less Equal e low high = absurd cc
    tied Less Greater e low high = absurd (high refl)

module _ (Has : LinkOf ℤ → Type 0) (InClass : ℤ → ℤ → Type 0) where
  -- what is a member of the one list is one of the other
  member_stands : (members others : List Member) → AreMembers Has InClass members → AreMembers Has InClass others → (m : Member) → Contains members m → Contains others m
  member_stands members others are also m among =
      let vertex = All-contains (λ (m : Member). IsVertex Has m.node) members m are.vertices among in
      let is = All-contains (λ (m : Member). IsClassName int_cmp InClass m.node m.component) members m are.named among in
      let there = also.every m.node vertex in
      let other = there.1 in
      let place : Contains others other = (there.0, there.2, there.3) in
      let same : other.node ≡ m.node = there.4 in
      let is_other = All-contains (λ (m : Member). IsClassName int_cmp InClass m.node m.component) others other also.named place in
      let name : other.component ≡ m.component = one_class_name InClass m.node other.component m.component
      (subst (λ v. IsClassName int_cmp InClass v other.component) same is_other) is in
      let whole : other ≡ m = λ i. record { component = name i; node = same i } in
      subst (Contains others) whole place

  -- one table of classes
  one_part_table : (rows other : Rows) → IsPartTable Has InClass rows → IsPartTable Has InClass other → rows ≡ other
  one_part_table rows other (members, are, rows_are) (others, also, other_are) =
      let total = then_total (on_total (λ (m : Member). m.component) int_cmp_total) (on_total (λ (m : Member). m.node) int_cmp_total) in
      let same = rising_is_one member_cmp total members others are.rise also.rise (member_stands members others are also) (member_stands others members also are) in
      rows_are ∙ ap (λ ms. Parts (part_rows 1 ms)) same ∙ sym other_are

-- a statement for each function but the one that may answer with any of several tables
abbrev ForOthers : Function → Type 0 → Type 0
ForOthers function.EdmondsKarp P = Unit {0}
ForOthers f P = P

-- one table for each of them
one_for : (f : Function) (command : Command) (tables : Tables) (rows other : Rows) → IsAllowedFor f command tables rows → IsAllowedFor f command tables other
    → ForOthers f (rows ≡ other)
one_for function.ConnectedComponents command tables = one_part_table (IsLinkOfTable tables.edges false) (Connected (IsLinkOfTable tables.edges false))
one_for function.StrongComponents command tables = one_part_table (IsLinkOfTable tables.edges true) (StronglyConnected (IsLinkOfTable tables.edges true))
one_for function.BiconnectedComponents command tables = one_class_table tables
one_for function.ArticulationPoints command tables = one_point_table tables
one_for function.Bridges command tables = one_bridge_table tables
one_for function.Dijkstra command tables = one_path_table (IsLinkOfTable tables.edges command.directed) (IsAsked command.starts command.ends tables.combinations)
one_for function.DijkstraCost command tables = one_cost_table (IsLinkOfTable tables.edges command.directed) (IsAsked command.starts command.ends tables.combinations)
one_for function.DijkstraCostMatrix command tables = one_cost_table (IsLinkOfTable tables.edges command.directed) (IsAskedOfMatrix command.vids)
one_for function.DrivingDistance command tables = one_reach_table (IsLinkOfTable tables.edges command.directed) command.starts command.distance command.equicost
one_for function.WithPoints command tables =
    one_shown_table (IsPointed tables.edges tables.points command.driving_side command.directed) (IsAsked command.starts command.ends tables.combinations) command.details
one_for function.AStar command tables = one_path_table (IsLinkOfTable tables.edges command.directed) (IsAsked command.starts command.ends tables.combinations)
one_for function.Trsp command tables =
    one_allowed_table (IsLinkOfTable tables.edges command.directed) (IsAsked command.starts command.ends tables.combinations) tables.restrictions
one_for function.Ksp command tables = one_ksp_table (IsLinkOfTable tables.edges command.directed) (IsAsked command.starts command.ends tables.combinations) command.k
one_for function.Contraction command tables = one_contraction command tables
one_for function.MaxFlow command tables = one_value_table command tables
one_for function.EdmondsKarp command tables = λ rows other are also. tt
one_for function.MinCut command tables = one_cut_table command tables

-- what holds for the others holds for a function that is one of them
for_others : (f : Function) (P : Type 0) → f ≢ function.EdmondsKarp → ForOthers f P → P
for_others function.EdmondsKarp P is_other holds = absurd (is_other refl)
for_others f P is_other holds = holds

-- one table at most is allowed for a command over tables, but where any greatest flow may be shown
pub one_is_allowed : (command : Command) (tables : Tables) (rows other : Rows) → command.function ≢ function.EdmondsKarp
    → IsAllowed command tables rows → IsAllowed command tables other → rows ≡ other
one_is_allowed command tables rows other is_other are also =
    for_others command.function (rows ≡ other) is_other (one_for command.function command tables rows other are also)

-- one list of notes for each function
one_noted : (f : Function) (command : Command) (tables : Tables) (notes other : List Note) → AreNotesFor f command tables notes → AreNotesFor f command tables other → notes ≡ other
one_noted function.AStar command tables notes other are also = one_notes _ _ _ notes other are also
one_noted _ command tables notes other are also = are ∙ sym also

-- one list of notes at most is that of a command over tables
pub one_list_of_notes : (command : Command) (tables : Tables) (notes other : List Note) → AreNotesOver command tables notes → AreNotesOver command tables other → notes ≡ other
one_list_of_notes command = one_noted command.function command
