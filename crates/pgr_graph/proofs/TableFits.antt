-- A loopless route takes each row of a table at most once, so it costs at most the sum of the table.
use Rattle.std.proofs.Common.{◌≡◌, ℕ, ◌+◌, ◌<◌, ◌≤◌, ◌⊎◌, inl, inr, ⊎_elim, ℤ, pos, List, [], ◌∷◌, length, map, sum, get_or, set, Bool, true, false, refl, sym, ap, subst, ◌∙◌, arith}
use Rattle.std.proofs.lemmas.Bool.{cases_eq}
use Rattle.std.proofs.lemmas.List.{length-set, length-map, get_or-set_other, get_or_default, get_or-map}
use Rattle.std.proofs.lemmas.List.Sums.{sum_by-set, sum-map, get_or-le-sum_by}
use Rattle.pgr_walks.specs.declared.link.LinkOf.{LinkOf}
use Rattle.pgr_walks.specs.Walk.{IsWalk, cost_of, vertices_of}
use Rattle.pgr_walks.specs.Graph.{Fits}
use Rattle.pgr_walks.proofs.Repeats.{Among, Apart, Apart-from_IsWithoutRepeats}
use Rattle.pgr_walks.proofs.Membership.{Among-map}
use Rattle.pgr_table.specs.declared.row.EdgeRow.{EdgeRow}
use Rattle.pgr_table.specs.Rows.{counted}
use Rattle.pgr_table.specs.Edges.{AreAccepted}
use Rattle.pgr_graph.specs.declared.links.Direction.{Direction}
use Rattle.pgr_graph.specs.declared.links.Direction.TheVariants.{Forward, Backward}
use Rattle.pgr_graph.specs.Links.{HasSense, link_along, IsLinkOfRow, IsLinkOfTable}

-- what a row counts in the sum of the table
abbrev weight_of : EdgeRow → ℕ
weight_of row = counted row.cost + counted row.reverse_cost

counted_le : (cost : ℤ) (n : ℕ) → cost ≡ pos n → n ≤ counted cost
counted_le cost n e = let h : counted cost ≡ n = ap counted e in omega arith

-- a sense of a row costs at most what the row counts
sense_le : (directed : Bool) (row : EdgeRow) (direction : Direction) (cost : ℕ) → HasSense directed row direction cost → cost ≤ weight_of row
sense_le true row Forward cost h = let k = counted_le row.cost cost h in omega arith
sense_le true row Backward cost h = let k = counted_le row.reverse_cost cost h in omega arith
sense_le false row direction cost (inl h) = let k = counted_le row.cost cost h in omega arith
sense_le false row direction cost (inr h) = let k = counted_le row.reverse_cost cost h in omega arith

-- two links of one row: the second leads to where the first begins, or to where it leads
along_meet : (row : EdgeRow) (d e : Direction) (m n : ℕ) → ((link_along row e n).to ≡ (link_along row d m).from) ⊎ ((link_along row e n).to ≡ (link_along row d m).to)
along_meet row Forward Forward m n = inr refl
along_meet row Forward Backward m n = inl refl
along_meet row Backward Forward m n = inl refl
along_meet row Backward Backward m n = inr refl

links_meet : (directed : Bool) (row : EdgeRow) (a b : LinkOf ℤ) → IsLinkOfRow directed row a → IsLinkOfRow directed row b → (b.to ≡ a.from) ⊎ (b.to ≡ a.to)
links_meet directed row a b g h =
    let from = ap (λ (l : LinkOf ℤ). l.from) g.2 in
    let to = ap (λ (l : LinkOf ℤ). l.to) g.2 in
    let end = ap (λ (l : LinkOf ℤ). l.to) h.2 in
    ⊎_elim (λ e. inl (end ∙ (e ∙ sym from))) (λ e. inr (end ∙ (e ∙ sym to))) (along_meet row g.0 h.0 a.cost b.cost)

-- a sum of numbers is what stands at a place and the sum of the others
sum_without : (ws : List ℕ) (k : ℕ) → k < length ws → sum (set ws k 0) + get_or ws k 0 ≡ sum ws
sum_without ws k inside = let h = sum_by-set (λ w. w) ws k 0 0 inside in omega arith

-- the weights allow for the links of the walk: each costs at most the weight at each row that gives it
abbrev Covers : List EdgeRow → Bool → List (LinkOf ℤ) → List ℕ → Type 0
Covers rows directed walk ws = (link : LinkOf ℤ) → Among link walk → (k : ℕ) (row : EdgeRow) → k < length rows → get_or rows k row ≡ row → IsLinkOfRow directed
    row link → link.cost ≤ get_or ws k 0

-- without the row of its first link, the weights allow for the rest of a walk that comes to no vertex twice
rest_covered : (rows : List EdgeRow) (directed : Bool) (link : LinkOf ℤ) (rest : List (LinkOf ℤ)) (ws : List ℕ) (k : ℕ) (row : EdgeRow) → k < length rows
    → get_or rows k row ≡ row → IsLinkOfRow directed row link → Apart (link.from ∷ map (λ l. l.to) (link ∷ rest)) → Covers rows directed (link ∷ rest) ws
    → Covers rows directed rest (set ws k 0)
rest_covered rows directed link rest ws k row inside at gives apart covers other among j other_row j_inside j_at other_gives =
    ⊎_elim
    (λ (same : j ≡ k).
    let same_row : other_row ≡ row = sym j_at ∙ (ap (λ i. get_or rows i other_row) same ∙ (get_or_default rows k other_row row inside ∙ at)) in
    let P : EdgeRow → Type 0 = λ r. IsLinkOfRow directed r other in
    let behind = Among-map (λ (l : LinkOf ℤ). l.to) rest other among in
    let Q : ℤ → Type 0 = λ v. Among v (map (λ (l : LinkOf ℤ). l.to) rest) in
    absurd (⊎_elim (λ e. apart.0 (inr (subst Q e behind))) (λ e. apart.1.0 (subst Q e behind)) (links_meet directed row link other gives (subst P same_row other_gives))))
    (λ differ. let kept = get_or-set_other ws k j 0 0 differ in let h = covers other (inr among) j other_row j_inside j_at other_gives in omega arith)
    (cases_eq j k)

-- a walk that comes to no vertex twice costs at most the sum of weights that allow for its links
walk_le_sum : (rows : List EdgeRow) (directed : Bool) (walk : List (LinkOf ℤ)) (s t : ℤ) (ws : List ℕ) → length ws ≡ length rows
    → IsWalk (IsLinkOfTable rows directed) s walk t → Apart (vertices_of s walk) → Covers rows directed walk ws → cost_of walk ≤ sum ws
walk_le_sum rows directed [] s t ws long is_walk apart covers = omega arith
walk_le_sum rows directed (link ∷ rest) s t ws long is_walk apart covers =
    let has = is_walk.0 in
    let P : ℤ → Type 0 = λ v. Apart (v ∷ map (λ (l : LinkOf ℤ). l.to) (link ∷ rest)) in
    let from_link = subst P (sym is_walk.1) apart in
    let first = covers link (inl refl) has.0 has.1 has.2 has.3 has.4 in
    let shorter = length-set ws has.0 0 in
    let others = walk_le_sum rows directed rest link.to t (set ws has.0 0) (shorter ∙ long) is_walk.2 apart.1 (rest_covered rows directed link rest ws has.0
    has.1 has.2 has.3 has.4 from_link covers) in
    let both = sum_without ws has.0 (omega (arith, has.2)) in
    omega arith

-- the weights of the rows allow for every walk
rows_cover : (rows : List EdgeRow) (directed : Bool) (walk : List (LinkOf ℤ)) → Covers rows directed walk (map weight_of rows)
rows_cover rows directed walk link among k row inside at gives =
    let h = sense_le directed row gives.0 link.cost gives.1 in
    let w = get_or-map weight_of rows k row 0 inside ∙ ap weight_of at in
    omega arith

-- the links of a table fit
pub table_fits : (rows : List EdgeRow) (directed : Bool) → AreAccepted rows → Fits (IsLinkOfTable rows directed)
table_fits rows directed accepted = record {
  links = λ link has.
      let h = rows_cover rows directed (link ∷ []) link (inl refl) has.0 has.1 has.2 has.3 has.4 in
      let w = get_or-map weight_of rows has.0 has.1 0 has.2 in
      let below = get_or-le-sum_by weight_of rows has.0 has.1 has.2 in
      omega (arith, accepted.sum);
  routes = λ s t walk route.
      let total = sum-map weight_of rows in
      let h = walk_le_sum rows directed walk s t (map weight_of rows) (length-map rows weight_of) route.is_walk
      (Apart-from_IsWithoutRepeats (vertices_of s walk) route.loopless) (rows_cover rows directed walk) in
      omega (arith, accepted.sum);
}
