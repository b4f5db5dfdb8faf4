-- Walks of which each link is the least tight one out of its vertex: hops fall by one at each link, so they come to no vertex twice.
use Rattle.std.proofs.Common.{◌≡◌, ◌≢◌, ℕ, zero, suc, ◌+◌, ◌<◌, ◌≤◌, List, [], ◌∷◌, ◌++◌, Option, Some, None, map, length, get_or, refl, sym, ap, ◌∙◌, arith, zero-le, zero-add}
use Rattle.std.specs.Prelude.{slice_get}
use Rattle.std.proofs.lemmas.Option.{same_Some, slice_get-get_or}
use Rattle.std.proofs.lemmas.List.{length-map}
use Rattle.pgr_walks.specs.declared.link.LinkOf.{LinkOf}
use Rattle.pgr_walks.specs.declared.label.Label.{Label}
use Rattle.pgr_walks.specs.Label.{beyond}
use Rattle.pgr_walks.specs.Walk.{IsWalk, cost_of, hops_of, vertices_of, IsLooplessRoute}
use Rattle.pgr_walks.specs.Graph.{IsLawful, IsLinkOf, Fits, greatest}
use Rattle.pgr_search.specs.Tight.{label_at, IsTight, IsLeastTight}

-- a walk and one more link from where it ends
pub walk_push : {V : Type 0} (Has : LinkOf V → Type 0) (s : V) (walk : List (LinkOf V)) (v : V) (link : LinkOf V) → IsWalk Has s walk v → Has link → link.from ≡ v
    → IsWalk Has s (walk ++ link ∷ []) link.to
walk_push Has s [] v link w has from = (has, from ∙ sym w, refl)
walk_push Has s (x ∷ rest) v link w has from = (w.0, w.1, walk_push Has x.to rest v link w.2 has from)

-- a walk over some links is a walk over more of them
pub walk_wider : {V : Type 0} (Has More : LinkOf V → Type 0) → ((link : LinkOf V) → Has link → More link) → (s : V) (walk : List (LinkOf V)) (t : V) → IsWalk Has s walk t
    → IsWalk More s walk t
walk_wider Has More wider s [] t w = w
walk_wider Has More wider s (x ∷ rest) t w = (wider x w.0, w.1, walk_wider Has More wider x.to rest t w.2)

-- labels with the same cost and hops are the same
pub label_same : (a b : Label) → a.cost ≡ b.cost → a.hops ≡ b.hops → a ≡ b
label_same a b cost hops = λ i. record { cost = cost i; hops = hops i }

-- a link that is the least tight one out of the vertex where it begins
pub record IsBest (size : ℕ) (outs : ℕ → List (LinkOf ℕ)) (labels : List (Option Label)) (link : LinkOf ℕ) : Type 0 where
  pub from_in : link.from < size
  pub least : IsLeastTight (outs link.from) labels link

-- the label of a walk followed by a walk of another label
abbrev pub label_before : List (LinkOf ℕ) → Label → Label
label_before walk last = record { cost = cost_of walk + last.cost; hops = hops_of walk + last.hops }

-- one more link before a walk
label_longer : (here there last : Label) (link : LinkOf ℕ) (rest : List (LinkOf ℕ)) → here ≡ beyond there link → there ≡ label_before rest last
    → here ≡ label_before (link ∷ rest) last
label_longer here there last link rest e f =
    let cost : here.cost ≡ (link.cost + cost_of rest) + last.cost = omega (arith, ap (λ l. l.cost) e, ap (λ l. l.cost) f) in
    let hops : here.hops ≡ suc (length rest) + last.hops = omega (arith, ap (λ l. l.hops) e, ap (λ l. l.hops) f) in
    label_same here (label_before (link ∷ rest) last) cost hops

module _ (size : ℕ) (outs ins : ℕ → List (LinkOf ℕ)) (labels : List (Option Label)) (lawful : IsLawful size outs ins) where
  pub best_is_link : (link : LinkOf ℕ) → IsBest size outs labels link → IsLinkOf size ins link
  best_is_link link b =
      let within = ((lawful.at link.from b.from_in).out_ends link b.least.among).1 in
      (within, (lawful.both link b.from_in within).0 b.least.among)

  -- the label where a best walk begins
  pub best_label : (walk : List (LinkOf ℕ)) (v end : ℕ) (last : Label) → IsWalk (IsBest size outs labels) v walk end → label_at labels end ≡ Some last
      → label_at labels v ≡ Some (label_before walk last)
  best_label [] v end last w e = ap (label_at labels) w ∙ e ∙ ap Some (label_same last (label_before [] last) (sym (zero-add last.cost)) (sym (zero-add last.hops)))
  best_label (link ∷ rest) v end last w e =
      let tight = w.0.least.tight in
      let there : tight.there ≡ label_before rest last = same_Some tight.there (label_before rest last) (sym tight.there_is ∙ best_label rest link.to end last w.2 e) in
      ap (label_at labels) (sym w.1) ∙ tight.here_is ∙ ap Some (label_longer tight.here tight.there last link rest tight.one_more there)

  -- the hops of the vertices of a best walk fall by one at each link
  best_hops : (walk : List (LinkOf ℕ)) (v end : ℕ) (last : Label) → IsWalk (IsBest size outs labels) v walk end → label_at labels end ≡ Some last → (k d : ℕ) → k ≤ length walk
      → (label : Label) × (label_at labels (get_or (vertices_of v walk) k d) ≡ Some label) × (label.hops + k ≡ length walk + last.hops)
  best_hops walk v end last w e zero d h = (label_before walk last, best_label walk v end last w e, omega arith)
  best_hops [] v end last w e (suc k) d h = absurd (omega arith)
  best_hops (link ∷ rest) v end last w e (suc k) d h =
      let r = best_hops rest link.to end last w.2 e k d (omega arith) in
      (r.0, r.1, omega (arith, r.2))

  -- so a best walk comes to no vertex twice
  best_apart : (walk : List (LinkOf ℕ)) (v end : ℕ) (last : Label) → IsWalk (IsBest size outs labels) v walk end → label_at labels end ≡ Some last → (i j : ℕ) → i < j
      → j < length (vertices_of v walk) → slice_get (vertices_of v walk) i ≢ slice_get (vertices_of v walk) j
  best_apart walk v end last w e i j below within same =
      let xs = vertices_of v walk in
      let long : length (map (λ (link : LinkOf ℕ). link.to) walk) ≡ length walk = length-map walk (λ (link : LinkOf ℕ). link.to) in
      let a = best_hops walk v end last w e i 0 (omega arith) in
      let b = best_hops walk v end last w e j 0 (omega arith) in
      let vertex : get_or xs i 0 ≡ get_or xs j 0 =
      same_Some (get_or xs i 0) (get_or xs j 0) (sym (slice_get-get_or xs i 0 (omega arith)) ∙ same ∙ slice_get-get_or xs j 0 (omega arith)) in
      let label : a.0 ≡ b.0 = same_Some a.0 b.0 (sym a.1 ∙ ap (label_at labels) vertex ∙ b.1) in
      absurd (omega (arith, a.2, b.2, ap (λ l. l.hops) label))

  -- a best walk that has a link is a loopless route
  pub best_loopless : (link : LinkOf ℕ) (rest : List (LinkOf ℕ)) (v end : ℕ) (last : Label) → IsWalk (IsBest size outs labels) v (link ∷ rest) end
      → label_at labels end ≡ Some last → IsLooplessRoute (IsLinkOf size ins) v (link ∷ rest) end
  best_loopless link rest v end last w e = record {
    is_walk = walk_wider (IsBest size outs labels) (IsLinkOf size ins) best_is_link v (link ∷ rest) end w;
    ends_differ = λ same.
        let label : label_before (link ∷ rest) last ≡ last =
        same_Some (label_before (link ∷ rest) last) last (sym (best_label (link ∷ rest) v end last w e) ∙ ap (label_at labels) same ∙ e) in
        let hops : suc (length rest) + last.hops ≡ last.hops = ap (λ l. l.hops) label in
        absurd (omega arith);
    loopless = best_apart (link ∷ rest) v end last w e;
  }

  -- so it costs at most 2^63 - 1 where the graph fits
  pub best_cost : Fits (IsLinkOf size ins) → (walk : List (LinkOf ℕ)) (v end : ℕ) (last : Label) → IsWalk (IsBest size outs labels) v walk end → label_at labels end ≡ Some last
      → cost_of walk ≤ greatest
  best_cost fits [] v end last w e = zero-le
  best_cost fits (link ∷ rest) v end last w e = fits.routes v end (link ∷ rest) (best_loopless link rest v end last w e)

-- the hops of a vertex's label, and 0 where there is none
abbrev pub hops_at : List (Option Label) → ℕ → ℕ
hops_at labels v = elim (label_at labels v) [ None ↦ 0 | Some label ↦ label.hops ]

-- the hops fall along a tight link
pub hops_fall : (labels : List (Option Label)) (link : LinkOf ℕ) (v : ℕ) → link.from ≡ v → IsTight labels link → hops_at labels link.to < hops_at labels v
hops_fall labels link v from tight =
    let hops_of_label : Option Label → ℕ = λ o. elim o [ None ↦ 0 | Some label ↦ label.hops ] in
    let here : hops_at labels link.from ≡ tight.here.hops = ap hops_of_label tight.here_is in
    let there : hops_at labels link.to ≡ tight.there.hops = ap hops_of_label tight.there_is in
    let same : hops_at labels link.from ≡ hops_at labels v = ap (hops_at labels) from in
    omega (arith, here, there, same, ap (λ l. l.hops) tight.one_more)
