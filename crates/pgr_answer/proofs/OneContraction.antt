-- One table of what a contraction leaves at most: the links are one list, the run ends in one state, and that is shown in one way.
use Rattle.std.proofs.Common.{◌≡◌, ℕ, suc, ℤ, Bool, List, [], ◌∷◌, refl, sym, ap, ◌∙◌, subst}
use Rattle.std.specs.Prelude.{Contains}
use Rattle.std.specs.Ordering.{int_cmp}
use Rattle.std.proofs.lemmas.Cmp.{int_cmp_total}
use Rattle.pgr_outside.proofs.Lists.{Contains-here, Contains-later}
use Rattle.pgr_walks.specs.declared.link.LinkOf.{LinkOf}
use Rattle.pgr_walks.specs.Link.{link_cmp}
use Rattle.pgr_walks.specs.LinkOrders.{link_total}
use Rattle.pgr_words.specs.declared.command.Command.{Command}
use Rattle.pgr_table.specs.declared.row.EdgeRow.{EdgeRow}
use Rattle.pgr_contract.specs.declared.contracted.Kept.{Kept}
use Rattle.pgr_contract.specs.declared.contracted.Shortcut.{Shortcut}
use Rattle.pgr_contract.specs.State.{Made, State, first_state}
use Rattle.pgr_contract.specs.Run.{IsRun, times_over}
use Rattle.pgr_contract.specs.Shown.{Lists, Shows, ShowEach, nodes_of, surviving, IsShown}
use Rattle.pgr_rows.specs.declared.rows.Rows.{Rows}
use Rattle.pgr_rows.specs.declared.rows.Rows.TheVariants.{Contractions}
use Rattle.pgr_answer.specs.declared.tables.Tables.{Tables}
use Rattle.pgr_answer.specs.Contraction.{AreLinksOf, IsContraction, rows_left}
use Rattle.pgr_answer.proofs.SameElements.{rising_is_one}
use Rattle.pgr_answer.proofs.OneRun.{one_run}

-- a set is listed in one way
one_list : (set list other : List ℤ) → Lists set list → Lists set other → list ≡ other
one_list set list other is also =
    rising_is_one int_cmp int_cmp_total list other is.rises also.rises (λ x has. (also.members x).1 ((is.members x).0 has))
    (λ x has. (is.members x).1 ((also.members x).0 has))

-- the links of a table are one list
one_list_of_links : (edges : List EdgeRow) (directed : Bool) (links others : List (LinkOf ℤ)) → AreLinksOf edges directed links → AreLinksOf edges directed others
    → links ≡ others
one_list_of_links edges directed links others are also =
    rising_is_one (link_cmp int_cmp) (link_total int_cmp int_cmp_total) links others are.rise also.rise
    (λ link has. (also.exactly link).1 ((are.exactly link).0 has)) (λ link has. (are.exactly link).1 ((also.exactly link).0 has))

abbrev HoldAll : (ℤ → List ℤ) → List Kept → Type 0
HoldAll inside vertices = (kept : Kept) → Contains vertices kept → Lists (inside kept.node) kept.inside

-- vertices with what they hold are one list
one_list_of_vertices : (inside : ℤ → List ℤ) (vertices others : List Kept) → nodes_of vertices ≡ nodes_of others → HoldAll inside vertices → HoldAll inside others
    → vertices ≡ others
one_list_of_vertices inside [] [] same holds also = refl
one_list_of_vertices inside [] (other ∷ others) same holds also = absurd cc
one_list_of_vertices inside (kept ∷ vertices) [] same holds also = absurd cc
one_list_of_vertices inside (kept ∷ vertices) (other ∷ others) same holds also =
    let node : kept.node ≡ other.node = cc in
    let rest : nodes_of vertices ≡ nodes_of others = cc in
    let its : Lists (inside other.node) kept.inside = subst (λ v. Lists (inside v) kept.inside) node (holds kept (Contains-here kept vertices)) in
    let held : kept.inside ≡ other.inside = one_list (inside other.node) kept.inside other.inside its (also other (Contains-here other others)) in
    let first : kept ≡ other = λ i. record { node = node i; inside = held i } in
    let more = one_list_of_vertices inside vertices others rest (λ k has. holds k (Contains-later kept vertices k has)) (λ k has. also k (Contains-later other others k has)) in
    ap (λ (k : Kept). k ∷ vertices) first ∙ ap (λ (ks : List Kept). other ∷ ks) more

-- a shortcut is shown in one way
one_shortcut : (n : ℕ) (shown other : Shortcut) (made : Made) → Shows n shown made → Shows n other made → shown ≡ other
one_shortcut n shown other made is also =
    let id : shown.id ≡ other.id = is.id ∙ sym also.id in
    let from : shown.from ≡ other.from = is.from ∙ sym also.from in
    let to : shown.to ≡ other.to = is.to ∙ sym also.to in
    let cost : shown.cost ≡ other.cost = is.cost ∙ sym also.cost in
    let inside : shown.inside ≡ other.inside = one_list made.inside shown.inside other.inside is.inside also.inside in
    λ i. record { id = id i; from = from i; to = to i; cost = cost i; inside = inside i }

-- and so are all of them
one_list_of_shortcuts : (n : ℕ) (shortcuts others : List Shortcut) (made : List Made) → ShowEach n shortcuts made → ShowEach n others made → shortcuts ≡ others
one_list_of_shortcuts n [] [] made show also = refl
one_list_of_shortcuts n [] (other ∷ others) [] show also = absurd also
one_list_of_shortcuts n [] (other ∷ others) (m ∷ made) show also = absurd show
one_list_of_shortcuts n (shown ∷ shortcuts) [] [] show also = absurd show
one_list_of_shortcuts n (shown ∷ shortcuts) [] (m ∷ made) show also = absurd also
one_list_of_shortcuts n (shown ∷ shortcuts) (other ∷ others) [] show also = absurd show
one_list_of_shortcuts n (shown ∷ shortcuts) (other ∷ others) (m ∷ made) show also =
    ap (λ (s : Shortcut). s ∷ shortcuts) (one_shortcut n shown other m show.0 also.0)
    ∙ ap (λ (ss : List Shortcut). other ∷ ss) (one_list_of_shortcuts (suc n) shortcuts others made show.1 also.1)

-- a state is shown by one list of vertices and one of shortcuts
one_showing : (directed : Bool) (S : State) (vertices others : List Kept) (shortcuts more : List Shortcut) (left rest : List (LinkOf ℤ))
    → IsShown directed S vertices shortcuts left → IsShown directed S others more rest → (vertices ≡ others) × (shortcuts ≡ more)
one_showing directed S vertices others shortcuts more left rest is also =
    let nodes = one_list S.vertices (nodes_of vertices) (nodes_of others) is.nodes also.nodes in (
      one_list_of_vertices S.inside vertices others nodes is.holds also.holds,
      one_list_of_shortcuts 0 shortcuts more (surviving S) is.shortcuts_are also.shortcuts_are,
    )

-- one table of what a contraction leaves
pub one_contraction : (command : Command) (tables : Tables) (rows other : Rows) → IsContraction command tables rows → IsContraction command tables other → rows ≡ other
one_contraction command tables rows other is also =
    let directed = command.directed in
    let methods = times_over command.max_cycles command.order in
    let links = one_list_of_links tables.edges directed is.links also.links is.links_are also.links_are in
    let run = subst (λ (given : List (LinkOf ℤ)). IsRun directed command.forbidden methods (first_state given) is.end) links is.run in
    let end = one_run directed command.forbidden methods (first_state also.links) is.end also.end run also.run in
    let shown = subst (λ (S : State). IsShown directed S is.vertices is.shortcuts is.left) end is.shown in
    let same = one_showing directed also.end is.vertices also.vertices is.shortcuts also.shortcuts is.left also.left shown also.shown in
    is.rows_are
    ∙ ap (λ vertices. Contractions (rows_left vertices is.shortcuts)) same.0
    ∙ ap (λ shortcuts. Contractions (rows_left also.vertices shortcuts)) same.1
    ∙ sym also.rows_are
