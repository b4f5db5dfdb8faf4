-- What is found over a network between numbers is what flows between ids ask for.
use Rattle.std.proofs.Common.{◌≡◌, ◌⊎◌, inl, inr, ⊎_elim, ℕ, ◌<◌, Bool, true, false, cond, ◌||◌, List, [], ◌∷◌, length, map, get_or, nat_eq, pos, refl, sym, ap, ◌∙◌, subst, arith}
use Rattle.std.specs.Prelude.{ℤ, All, Contains, filter}
use Rattle.std.specs.Ordering.{int_cmp, int_eq}
use Rattle.std.specs.Cmp.Derive.{both_true}
use Rattle.std.proofs.lemmas.Bool.{eqb-true, and_parts, or_cases, or_left, or_right}
use Rattle.std.proofs.lemmas.Bool.Decides.{Decides-int_eq, same_from_decides}
use Rattle.std.proofs.lemmas.Cmp.{int_eq_equiv, nat_eq_equiv}
use Rattle.std.proofs.lemmas.List.{get_or_default}
use Rattle.std.proofs.lemmas.List.Elements.{All-head, All-tail, Contains-get_or}
use Rattle.std.proofs.lemmas.List.Folds.{Any-from_list_any, list_any-from_Any}
use Rattle.std.proofs.lemmas.Map.Views.{Contains-from_any, list_any-from_Contains}
use Rattle.pgr_outside.specs.Lists.{IsStrictlyRising}
use Rattle.pgr_walks.specs.declared.link.LinkOf.{LinkOf}
use Rattle.pgr_walks.specs.Walk.{IsVertex}
use Rattle.pgr_numbers.specs.Names.{IsNumbered, id_at, named}
use Rattle.pgr_flow.specs.declared.greatest.FlowCut.{FlowCut}
use Rattle.pgr_flow.specs.Flow.{IsGreatestFlow, among}
use Rattle.pgr_flow.specs.Cut.{IsLeastSide, leads_out, marked}
use Rattle.pgr_flow.specs.Network.{Network}
use Rattle.pgr_rows.specs.declared.rows.FlowRow.{FlowRow}
use Rattle.pgr_rows.specs.declared.rows.CutRow.{CutRow}
use Rattle.pgr_answer.specs.Flows.{is_end, is_named, IsShared, IsGreatestBetween, IsLeastSideBetween, rows_from}
use Rattle.pgr_answer.specs.MaxFlow.{IsFlowValue}
use Rattle.pgr_answer.specs.EdmondsKarp.{carriers, flow_row, AreFlowRows}
use Rattle.pgr_answer.specs.MinCut.{cut_row, AreCutRows}
use Rattle.pgr_answer.specs.FlowNetworks.{IsFlowNetwork, IsCommon, IsGreatestFlowCut}
use Rattle.pgr_answer.specs.Gathering.{AreNumbersOf}
use Rattle.pgr_answer.proofs.FlowsById.{Agree, id_set, id_set_at, out_agree, greatest_named, side_named}

-- the arcs that lead out of sets that agree stand for each other
pub out_named : (names : List ℤ) (p : ℤ → Bool) (q : ℕ → Bool) → Agree names p q → (arcs : List (LinkOf ℕ)) → All (IsNumbered names) arcs
    → filter (leads_out p) (map (named names) arcs) ≡ map (named names) (filter (leads_out q) arcs)
out_named names p q same [] ends = refl
out_named names p q same (arc ∷ arcs) ends =
    ap (λ (b : Bool). cond b (named names arc ∷ filter (leads_out p) (map (named names) arcs)) (filter (leads_out p) (map (named names) arcs)))
    (out_agree names p q same arc (All-head (IsNumbered names) arc arcs ends))
    ∙ kept (leads_out q arc) (out_named names p q same arcs (All-tail (IsNumbered names) arc arcs ends))
  where
    kept : (b : Bool) → filter (leads_out p) (map (named names) arcs) ≡ map (named names) (filter (leads_out q) arcs)
        → cond b (named names arc ∷ filter (leads_out p) (map (named names) arcs)) (filter (leads_out p) (map (named names) arcs))
        ≡ map (named names) (cond b (arc ∷ filter (leads_out q) arcs) (filter (leads_out q) arcs))
    kept true e = ap (λ rest. named names arc ∷ rest) e
    kept false e = e

module _ (arcs : List (LinkOf ℤ)) (names : List ℤ) (net : Network) (starts ends : List ℤ) (sources sinks : List ℕ)
    (network : IsFlowNetwork arcs names net starts ends sources sinks)
    (one : (m n : ℕ) → IsStrictlyRising int_cmp names → m < length names → n < length names → id_at names m ≡ id_at names n → m ≡ n) where
  -- an end of an arc is a name
  end_is_name : (v : ℤ) → is_end arcs v ≡ true → (n : ℕ) × (n < length names) × (id_at names n ≡ v)
  end_is_name v e =
      let found = Any-from_list_any (λ (arc : LinkOf ℤ). int_eq v arc.from || int_eq v arc.to) arcs e in
      let at_end : (v ≡ found.1.from) ⊎ (v ≡ found.1.to) = ⊎_elim
      (λ (here : int_eq v found.1.from ≡ true). inl ((Decides-int_eq v found.1.from).0 here)) (λ (here : int_eq v found.1.to ≡ true). inr ((Decides-int_eq v found.1.to).0 here))
      (or_cases (int_eq v found.1.from) (int_eq v found.1.to) found.4) in
      let name : Contains names v = (network.named.ends v).1 (found.1, (found.0, found.2, found.3), at_end) in
      (name.0, name.1, get_or_default names name.0 (pos 0) v name.1 ∙ name.2)

  -- and a name is one
  name_is_end : (n : ℕ) → n < length names → is_end arcs (id_at names n) ≡ true
  name_is_end n inside =
      let v = id_at names n in
      let vertex : IsVertex (Contains arcs) v = (network.named.ends v).0 (Contains-get_or names n (pos 0) inside) in
      let passes : (int_eq v vertex.0.from || int_eq v vertex.0.to) ≡ true = ⊎_elim
      (λ (is : v ≡ vertex.0.from). or_left (int_eq v vertex.0.from) (int_eq v vertex.0.to) ((Decides-int_eq v vertex.0.from).1 is))
      (λ (is : v ≡ vertex.0.to). or_right (int_eq v vertex.0.from) (int_eq v vertex.0.to) ((Decides-int_eq v vertex.0.to).1 is)) vertex.2 in
      list_any-from_Any (λ (arc : LinkOf ℤ). int_eq v arc.from || int_eq v arc.to) arcs (vertex.1.0, vertex.0, vertex.1.1, vertex.1.2, passes)

  -- the vertices that a list names are those of its numbers
  agree : (ids : List ℤ) (numbers : List ℕ) → AreNumbersOf names ids numbers → Agree names (is_named arcs ids) (among nat_eq numbers)
  agree ids numbers are n inside = same_from_decides {P = Contains numbers n} (is_named arcs ids (id_at names n)) (among nat_eq numbers n) (
    (λ e. (are n).1 (
      inside,
      Contains-from_any {eq = int_eq} (λ v w. (Decides-int_eq v w).0) (id_at names n) ids
          (and_parts (is_end arcs (id_at names n)) (among int_eq ids (id_at names n)) e).1,
    )),
    (λ there. both_true (name_is_end n inside) (list_any-from_Contains int_eq_equiv (id_at names n) ids ((are n).0 there).1)),
  )
      ((λ e. Contains-from_any {eq = nat_eq} eqb-true n numbers e), (λ there. list_any-from_Contains nat_eq_equiv n numbers there))

  below : (ids : List ℤ) (numbers : List ℕ) → AreNumbersOf names ids numbers → (n : ℕ) → among nat_eq numbers n ≡ true → n < length names
  below ids numbers are n e = ((are n).0 (Contains-from_any {eq = nat_eq} eqb-true n numbers e)).0

  is_name : (ids : List ℤ) (v : ℤ) → is_named arcs ids v ≡ true → (n : ℕ) × (n < length names) × (id_at names n ≡ v)
  is_name ids v e = end_is_name v (and_parts (is_end arcs v) (among int_eq ids v) e).0

  -- a number that is both source and sink stands for a vertex that both lists name
  pub shared : IsCommon sources sinks → IsShared arcs starts ends
  shared (n, source, sink) =
      let inside = ((network.sources_are n).0 source).0 in (
        id_at names n,
        agree starts sources network.sources_are n inside ∙ list_any-from_Contains nat_eq_equiv n sources source,
        agree ends sinks network.sinks_are n inside ∙ list_any-from_Contains nat_eq_equiv n sinks sink,
      )

  -- and where there is none no vertex is named by both
  pub apart : (IsCommon sources sinks → ⊥) → IsShared arcs starts ends → ⊥
  apart none (v, source, sink) =
      let at = is_name starts v source in
      let by_source : is_named arcs starts (id_at names at.0) ≡ true = subst (λ (w : ℤ). is_named arcs starts w ≡ true) (sym at.2) source in
      let by_sink : is_named arcs ends (id_at names at.0) ≡ true = subst (λ (w : ℤ). is_named arcs ends w ≡ true) (sym at.2) sink in
      none (
        at.0,
        Contains-from_any {eq = nat_eq} eqb-true at.0 sources (sym (agree starts sources network.sources_are at.0 at.1) ∙ by_source),
        Contains-from_any {eq = nat_eq} eqb-true at.0 sinks (sym (agree ends sinks network.sinks_are at.0 at.1) ∙ by_sink),
      )

  -- a greatest flow is one between the starts and the ends
  pub greatest_between : (flows : List ℕ) (value : ℕ) → IsGreatestFlow nat_eq net.arcs (among nat_eq sources) (among nat_eq sinks) flows value
      → IsGreatestBetween arcs starts ends flows value
  greatest_between flows value found = subst (λ (some : List (LinkOf ℤ)). IsGreatestFlow int_eq some (is_named arcs starts) (is_named arcs ends) flows value) network.numbered.same
      (greatest_named names (λ m n. one m n network.named.rise) net.arcs network.numbered.ends
      (is_named arcs starts) (is_named arcs ends) (among nat_eq sources) (among nat_eq sinks)
      (agree starts sources network.sources_are) (agree ends sinks network.sinks_are) flows value found)

  -- the least source side is the one between them
  pub side_between : (q : ℕ → Bool) → IsLeastSide net.arcs (among nat_eq sources) (among nat_eq sinks) q → IsLeastSideBetween arcs starts ends (id_set names q)
  side_between q side = subst (λ (some : List (LinkOf ℤ)). IsLeastSide some (is_named arcs starts) (is_named arcs ends) (id_set names q)) network.numbered.same
      (side_named names (λ m n. one m n network.named.rise) net.arcs network.numbered.ends
      (is_named arcs starts) (is_named arcs ends) (among nat_eq sources) (among nat_eq sinks)
      (agree starts sources network.sources_are) (agree ends sinks network.sinks_are)
      (below starts sources network.sources_are) (below ends sinks network.sinks_are) (is_name starts) (is_name ends) q side)

  -- the arcs that lead out of it are those by number
  pub out_between : (q : ℕ → Bool) → filter (leads_out (id_set names q)) arcs ≡ map (named names) (filter (leads_out q) net.arcs)
  out_between q = ap (filter (leads_out (id_set names q))) (sym network.numbered.same)
      ∙ out_named names (id_set names q) q (id_set_at names (λ m n. one m n network.named.rise) q) net.arcs network.numbered.ends

  -- sources and sinks are vertices of the network
  pub sources_below : All (λ v. v < net.size) sources
  sources_below k d inside = omega (arith, ((network.sources_are (get_or sources k d)).0 (Contains-get_or sources k d inside)).0, network.size_is)

  pub sinks_below : All (λ v. v < net.size) sinks
  sinks_below k d inside = omega (arith, ((network.sinks_are (get_or sinks k d)).0 (Contains-get_or sinks k d inside)).0, network.size_is)

  -- the value, the rows of flows and the rows of a cut, where some vertex is both source and sink and where none is
  pub value_shared : IsCommon sources sinks → IsFlowValue arcs starts ends 0
  value_shared common = inl (shared common, refl)

  pub value_found : (found : FlowCut) → IsGreatestFlowCut net sources sinks found → IsFlowValue arcs starts ends found.value
  value_found found is = inr (apart is.apart, (found.flows.items, greatest_between found.flows.items found.value is.flow))

  pub flows_shared : IsCommon sources sinks → (rows : List FlowRow) → rows ≡ [] → AreFlowRows arcs starts ends rows
  flows_shared common rows none = inl (shared common, none)

  pub flows_found : (found : FlowCut) → IsGreatestFlowCut net sources sinks found → (rows : List FlowRow) → rows ≡ rows_from flow_row 1 (carriers arcs found.flows.items)
      → AreFlowRows arcs starts ends rows
  flows_found found is rows are = inr (apart is.apart, (found.flows.items, found.value, greatest_between found.flows.items found.value is.flow, are))

  pub cut_shared : IsCommon sources sinks → (rows : List CutRow) → rows ≡ [] → AreCutRows arcs starts ends rows
  cut_shared common rows none = inl (shared common, none)

  pub cut_found : (found : FlowCut) → IsGreatestFlowCut net sources sinks found → (rows : List CutRow)
      → rows ≡ rows_from cut_row 1 (map (named names) (filter (leads_out (marked found.side.items)) net.arcs)) → AreCutRows arcs starts ends rows
  cut_found found is rows are = inr (
    apart is.apart,
    (id_set names (marked found.side.items), side_between (marked found.side.items) is.side, are ∙ ap (rows_from cut_row 1) (sym (out_between (marked found.side.items)))),
  )
