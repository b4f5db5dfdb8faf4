-- Label setting with an estimate of what a walk costs up to a vertex: the vertex of least key, label and estimate together, has its least label.
use Rattle.std.proofs.Common.{◌≡◌, ℕ, ◌+◌, ◌≤◌, ◌⊎◌, inl, inr, List, [], ◌∷◌, Option, Some, None, Contains, refl, sym, ap, ◌∙◌, subst, arith}
use Rattle.std.proofs.lemmas.Bool.{cases_eq}
use Rattle.std.proofs.lemmas.Option.{same_Some, none-some}
use Rattle.pgr_walks.specs.declared.link.LinkOf.{LinkOf}
use Rattle.pgr_walks.specs.declared.label.Label.{Label}
use Rattle.pgr_walks.specs.Walk.{IsWalk}
use Rattle.pgr_walks.specs.Label.{AtMost, LeadsTo, IsLeastLabel, IsLabel, label_of, beyond}
use Rattle.pgr_search.specs.Estimates.{keyed}
use Rattle.pgr_search.specs.Start.{empty_label}
use Rattle.pgr_search.proofs.LabelOrder.{AtMost-refl, AtMost-trans, AtMost-beyond, label_of-cons}

-- the order at one vertex is that of the labels
pub keyed_from : (p : ℕ → ℕ) (v : ℕ) (a b : Label) → AtMost a b → AtMost (keyed p v a) (keyed p v b)
keyed_from p v a b (inl less) = inl (omega (arith, less))
keyed_from p v a b (inr same) = inr (omega (arith, same.0), same.1)

pub keyed_to : (p : ℕ → ℕ) (v : ℕ) (a b : Label) → AtMost (keyed p v a) (keyed p v b) → AtMost a b
keyed_to p v a b (inl less) = inl (omega (arith, less))
keyed_to p v a b (inr same) = inr (omega (arith, same.0), same.1)

-- labels that differ by their costs and hops
by_parts : (a b : Label) → a.cost ≤ b.cost → a.hops ≤ b.hops → AtMost a b
by_parts a b cost hops = at (cases_eq a.cost b.cost)
  where
    at : (a.cost ≡ b.cost) ⊎ (a.cost ≡ b.cost → ⊥) → AtMost a b
    at (inl same) = inr (same, hops)
    at (inr differ) = inl (omega arith)

-- along a link against whose direction the estimate doesn't fall by more than it costs no key falls
pub keyed_along : (p : ℕ → ℕ) (link : LinkOf ℕ) (label : Label) → p link.to ≤ p link.from + link.cost → AtMost (keyed p link.to label) (keyed p link.from (beyond label link))
keyed_along p link label h =
    by_parts (keyed p link.to label) (keyed p link.from (beyond label link)) (omega (arith, h)) (omega arith)

-- and it rises, since a link more is a hop more
keyed_rises : (p : ℕ → ℕ) (link : LinkOf ℕ) (label : Label) → p link.to ≤ p link.from + link.cost → AtMost (keyed p link.from (beyond label link)) (keyed p link.to label) → ⊥
keyed_rises p link label h (inl less) = omega (arith, h, less)
keyed_rises p link label h (inr same) = omega (arith, same.1)

-- a vertex has a label
abbrev pub HasLabel : (ℕ → Option Label) → ℕ → Type 0
HasLabel labels v = (label : Label) × (labels v ≡ Some label)

-- some walk from the vertex to a target has this label
pub record HasWalk (Has : LinkOf ℕ → Type 0) (targets : List ℕ) (v : ℕ) (label : Label) : Type 0 where
  pub walk : List (LinkOf ℕ)
  pub leads : LeadsTo Has targets v walk
  pub label_is : label_of walk ≡ label

-- a link before a walk
HasWalk-cons : (Has : LinkOf ℕ → Type 0) (targets : List ℕ) (label : Label) (link : LinkOf ℕ) → Has link → HasWalk Has targets link.to label
    → HasWalk Has targets link.from (beyond label link)
HasWalk-cons Has targets label link has rest = record {
  walk = link ∷ rest.walk;
  leads = record {
    target = rest.leads.target;
    is_target = rest.leads.is_target;
    is_walk = (has, refl, rest.leads.is_walk);
  };
  label_is = label_of-cons link rest.walk ∙ ap (λ l. beyond l link) rest.label_is;
}

-- the vertex is settled, or waits with a label that is at most this one
abbrev pub IsOffered : (ℕ → Option Label) → (ℕ → Option Label) → ℕ → Label → Type 0
IsOffered settled waiting v bound = HasLabel settled v ⊎ ((label : Label) × (waiting v ≡ Some label) × AtMost label bound)

offered_more : (settled waiting : ℕ → Option Label) (v : ℕ) (a b : Label) → AtMost a b → IsOffered settled waiting v a → IsOffered settled waiting v b
offered_more settled waiting v a b h (inl has) = inl has
offered_more settled waiting v a b h (inr (label, waits, within)) = inr (label, waits, AtMost-trans label a b within h)

-- some waiting vertex has a key that is at most that of this vertex with this label
pub record SomeWaits (p : ℕ → ℕ) (waiting : ℕ → Option Label) (v : ℕ) (bound : Label) : Type 0 where
  pub vertex : ℕ
  pub label : Label
  pub waits : waiting vertex ≡ Some label
  pub at_most : AtMost (keyed p vertex label) (keyed p v bound)

-- a vertex of least key among those that wait
pub record IsNext (p : ℕ → ℕ) (waiting : ℕ → Option Label) (v : ℕ) (label : Label) : Type 0 where
  pub waits : waiting v ≡ Some label
  pub least : (u : ℕ) (other : Label) → waiting u ≡ Some other → AtMost (keyed p v label) (keyed p u other)

-- what a search keeps of the labels of settled and of waiting vertices
pub record IsSearch (Has : LinkOf ℕ → Type 0) (targets : List ℕ) (p : ℕ → ℕ) (settled waiting : ℕ → Option Label) : Type 0 where
  -- labels of settled vertices are least, and least walks from them come to settled vertices
  pub least : (v : ℕ) (label : Label) → settled v ≡ Some label → IsLeastLabel Has targets v label
  pub along : (v : ℕ) (link : LinkOf ℕ) (rest : List (LinkOf ℕ)) → settled v ≡ Some (label_of (link ∷ rest)) → LeadsTo Has targets v (link ∷ rest) → HasLabel settled link.to
  -- labels of waiting vertices are those of walks, and no settled vertex waits
  pub reached : (v : ℕ) (label : Label) → waiting v ≡ Some label → HasWalk Has targets v label
  pub apart : (v : ℕ) (label : Label) → waiting v ≡ Some label → settled v ≡ None
  -- targets have labels, and settled vertices have passed theirs on
  pub starts : (t : ℕ) → Contains targets t → IsOffered settled waiting t empty_label
  pub passed : (link : LinkOf ℕ) (label : Label) → Has link → settled link.to ≡ Some label → IsOffered settled waiting link.from (beyond label link)
  -- no waiting vertex has a key before that of a settled one
  pub ordered : (v u : ℕ) (a b : Label) → settled v ≡ Some a → waiting u ≡ Some b → AtMost (keyed p v a) (keyed p u b)

module _ (Has : LinkOf ℕ → Type 0) (targets : List ℕ) (p : ℕ → ℕ) (consistent : (link : LinkOf ℕ) → Has link → p link.to ≤ p link.from + link.cost) where
  module _ (settled waiting : ℕ → Option Label) (s : IsSearch Has targets p settled waiting) where
    -- a vertex from which a walk leads to a target is settled, or a vertex waits whose key is at most that of the walk
    abbrev IsMet : ℕ → Label → Type 0
    IsMet v bound = HasLabel settled v ⊎ SomeWaits p waiting v bound

    met : (v : ℕ) (bound : Label) → IsOffered settled waiting v bound → IsMet v bound
    met v bound (inl has) = inl has
    met v bound (inr (label, waits, within)) = inr (record { vertex = v; label = label; waits = waits; at_most = keyed_from p v label bound within })

    -- by induction on the walk: where the first link leads, the vertex is settled and has passed its label on, or a vertex waits
    pub walk_is_met : (v t : ℕ) (walk : List (LinkOf ℕ)) → Contains targets t → IsWalk Has v walk t → IsMet v (label_of walk)
    walk_is_met v t [] is_target w = met v empty_label (subst (λ x. IsOffered settled waiting x empty_label) (sym w) (s.starts t is_target))
    walk_is_met v t (link ∷ links) is_target w = at (walk_is_met link.to t links is_target w.2)
      where
        at : IsMet link.to (label_of links) → IsMet v (label_of (link ∷ links))
        at (inl (label, is)) =
            let rest : LeadsTo Has targets link.to links = record { target = t; is_target = is_target; is_walk = w.2 } in
            let within = AtMost-beyond label (label_of links) link ((s.least link.to label is).least links rest) in
            let from = offered_more settled waiting link.from (beyond label link) (beyond (label_of links) link) within (s.passed link label w.0 is) in
            subst (λ x. IsMet x (label_of (link ∷ links))) w.1 (subst (λ l. IsMet link.from l) (sym (label_of-cons link links)) (met link.from (beyond (label_of links) link) from))
        at (inr some) =
            let further = AtMost-trans (keyed p some.vertex some.label) (keyed p link.to (label_of links)) (keyed p link.from (beyond (label_of links) link)) some.at_most
            (keyed_along p link (label_of links) (consistent link w.0)) in
            let from : SomeWaits p waiting link.from (beyond (label_of links) link) = record { vertex = some.vertex; label = some.label; waits = some.waits; at_most = further } in
            inr (subst (λ x. SomeWaits p waiting x (label_of (link ∷ links))) w.1 (subst (λ l. SomeWaits p waiting link.from l) (sym (label_of-cons link links)) from))

    -- where no vertex waits, each label is least, and a vertex without one has no walk
    pub all_settled : ((v : ℕ) (label : Label) → waiting v ≡ Some label → ⊥) → (v : ℕ) → IsLabel Has targets v (settled v)
    all_settled none v = at (settled v) refl
      where
        no_walk : settled v ≡ None → (walk : List (LinkOf ℕ)) → IsMet v (label_of walk) → ⊥
        no_walk e walk (inl (label, is)) = none-some label (sym e ∙ is)
        no_walk e walk (inr some) = none some.vertex some.label some.waits

        at : (found : Option Label) → settled v ≡ found → IsLabel Has targets v found
        at None e = λ walk leads. no_walk e walk (walk_is_met v leads.target walk leads.is_target leads.is_walk)
        at (Some label) e = s.least v label e

    -- a walk from a vertex that isn't settled has a key that is at least that of some waiting vertex
    pub walk_waits : (v : ℕ) (walk : List (LinkOf ℕ)) → settled v ≡ None → LeadsTo Has targets v walk → SomeWaits p waiting v (label_of walk)
    walk_waits v walk e leads = at (walk_is_met v leads.target walk leads.is_target leads.is_walk)
      where
        at : IsMet v (label_of walk) → SomeWaits p waiting v (label_of walk)
        at (inl (label, is)) = absurd (none-some label (sym e ∙ is))
        at (inr some) = some

    module _ (x : ℕ) (label : Label) (n : IsNext p waiting x label) where
      -- the vertex of least key has its least label
      pub next_is_least : IsLeastLabel Has targets x label
      next_is_least =
          let w = s.reached x label n.waits in
          record {
            walk = w.walk;
            leads = w.leads;
            label_is = w.label_is;
            least = λ walk leads. at walk (walk_waits x walk (s.apart x label n.waits) leads);
          }
        where
          at : (walk : List (LinkOf ℕ)) → SomeWaits p waiting x (label_of walk) → AtMost label (label_of walk)
          at walk some = keyed_to p x label (label_of walk)
              (AtMost-trans (keyed p x label) (keyed p some.vertex some.label) (keyed p x (label_of walk)) (n.least some.vertex some.label some.waits) some.at_most)

      -- and each least walk from it comes to a settled vertex at once: a waiting one would have a lesser key
      pub next_along : (link : LinkOf ℕ) (rest : List (LinkOf ℕ)) → label ≡ label_of (link ∷ rest) → LeadsTo Has targets x (link ∷ rest) → HasLabel settled link.to
      next_along link rest is leads = at (walk_is_met link.to leads.target rest leads.is_target leads.is_walk.2)
        where
          at : IsMet link.to (label_of rest) → HasLabel settled link.to
          at (inl has) = has
          at (inr some) =
              let within = AtMost-trans (keyed p x label) (keyed p some.vertex some.label) (keyed p link.to (label_of rest))
              (n.least some.vertex some.label some.waits) some.at_most in
              let here : AtMost (keyed p link.from (beyond (label_of rest) link)) (keyed p link.to (label_of rest)) =
              subst (λ v. AtMost (keyed p v (beyond (label_of rest) link)) (keyed p link.to (label_of rest))) (sym leads.is_walk.1)
              (subst (λ l. AtMost (keyed p x l) (keyed p link.to (label_of rest))) (is ∙ label_of-cons link rest) within) in
              absurd (keyed_rises p link (label_of rest) (consistent link leads.is_walk.0) here)

-- what relaxing the links into a vertex of this label leaves of the labels of waiting vertices, where these are settled
pub record IsRelaxed (Through : LinkOf ℕ → Type 0) (label : Label) (settled before after : ℕ → Option Label) : Type 0 where
  pub kept : (v : ℕ) (new : Label) → after v ≡ Some new
      → (before v ≡ Some new) ⊎ ((link : LinkOf ℕ) × (Through link × (link.from ≡ v) × (new ≡ beyond label link) × (settled v ≡ None)))
  pub lowers : (v : ℕ) (old : Label) → before v ≡ Some old → (new : Label) × (after v ≡ Some new) × AtMost new old
  pub each : (link : LinkOf ℕ) → Through link → IsOffered settled after link.from (beyond label link)

-- the vertex x of least key is settled with its label, waits no more, and the links into it are relaxed
module _ (Has : LinkOf ℕ → Type 0) (targets : List ℕ) (p : ℕ → ℕ) (consistent : (link : LinkOf ℕ) → Has link → p link.to ≤ p link.from + link.cost)
    (settled waiting : ℕ → Option Label) (s : IsSearch Has targets p settled waiting) (x : ℕ) (label : Label) (n : IsNext p waiting x label)
    (settled_after without waiting_after : ℕ → Option Label)
    (settled_here : settled_after x ≡ Some label) (settled_other : (v : ℕ) → (v ≡ x → ⊥) → settled_after v ≡ settled v)
    (without_here : without x ≡ None) (without_other : (v : ℕ) → (v ≡ x → ⊥) → without v ≡ waiting v)
    (relaxes : IsRelaxed (λ link. Has link × (link.to ≡ x)) label settled_after without waiting_after) where
  -- which vertices are settled after
  was_settled : (v : ℕ) (a : Label) → settled_after v ≡ Some a → ((v ≡ x) × (a ≡ label)) ⊎ (settled v ≡ Some a)
  was_settled v a e = at (cases_eq v x)
    where
      at : (v ≡ x) ⊎ (v ≡ x → ⊥) → ((v ≡ x) × (a ≡ label)) ⊎ (settled v ≡ Some a)
      at (inl same) = inl (same, same_Some a label (sym e ∙ ap settled_after same ∙ settled_here))
      at (inr other) = inr (sym (settled_other v other) ∙ e)

  still_settled : (v : ℕ) → HasLabel settled v → HasLabel settled_after v
  still_settled v (a, e) = at (cases_eq v x)
    where
      at : (v ≡ x) ⊎ (v ≡ x → ⊥) → HasLabel settled_after v
      at (inl same) = (label, ap settled_after same ∙ settled_here)
      at (inr other) = (a, settled_other v other ∙ e)

  -- what was offered still is
  still_offered : (v : ℕ) (bound : Label) → IsOffered settled waiting v bound → IsOffered settled_after waiting_after v bound
  still_offered v bound (inl has) = inl (still_settled v has)
  still_offered v bound (inr (old, waits, within)) = at (cases_eq v x)
    where
      at : (v ≡ x) ⊎ (v ≡ x → ⊥) → IsOffered settled_after waiting_after v bound
      at (inl same) = inl (label, ap settled_after same ∙ settled_here)
      at (inr other) =
          let low = relaxes.lowers v old (without_other v other ∙ waits) in
          inr (low.0, low.1, AtMost-trans low.0 old bound low.2 within)

  -- which vertices wait after
  still_waits : (v : ℕ) (b : Label) → without v ≡ Some b → (v ≡ x → ⊥) × (waiting v ≡ Some b)
  still_waits v b e = at (cases_eq v x)
    where
      at : (v ≡ x) ⊎ (v ≡ x → ⊥) → (v ≡ x → ⊥) × (waiting v ≡ Some b)
      at (inl same) = absurd (none-some b (sym without_here ∙ ap without (sym same) ∙ e))
      at (inr other) = (other, sym (without_other v other) ∙ e)

  -- the key of a settled vertex is at most that of the vertex
  pub settled_before : (v : ℕ) (a : Label) → settled_after v ≡ Some a → AtMost (keyed p v a) (keyed p x label)
  settled_before v a e = at (was_settled v a e)
    where
      at : ((v ≡ x) × (a ≡ label)) ⊎ (settled v ≡ Some a) → AtMost (keyed p v a) (keyed p x label)
      at (inl (same, is)) =
          subst (λ u. AtMost (keyed p u a) (keyed p x label)) (sym same) (subst (λ l. AtMost (keyed p x l) (keyed p x label)) (sym is) (AtMost-refl (keyed p x label)))
      at (inr was) = s.ordered v x a label was n.waits

  -- and the vertex's key is at most that of each that waits after
  waits_after : (u : ℕ) (b : Label) → waiting_after u ≡ Some b → AtMost (keyed p x label) (keyed p u b)
  waits_after u b e = at (relaxes.kept u b e)
    where
      at : (without u ≡ Some b) ⊎ ((link : LinkOf ℕ) × ((Has link × (link.to ≡ x)) × (link.from ≡ u) × (b ≡ beyond label link) × (settled_after u ≡ None)))
          → AtMost (keyed p x label) (keyed p u b)
      at (inl was) = n.least u b (still_waits u b was).1
      at (inr (link, h)) =
          let rises = keyed_along p link label (consistent link h.0.0) in
          subst (λ l. AtMost (keyed p x label) (keyed p u l)) (sym h.2) (subst
          (λ v. AtMost (keyed p x label) (keyed p v (beyond label link))) h.1 (subst (λ v. AtMost (keyed p v label) (keyed p link.from (beyond label link))) h.0.1 rises))

  -- the search goes on
  pub one_more_settled : IsSearch Has targets p settled_after waiting_after
  one_more_settled = record {
    least = λ v a e. least v a (was_settled v a e);
    along = λ v link rest e leads. still_settled link.to (along v link rest (was_settled v (label_of (link ∷ rest)) e) leads);
    reached = λ v b e. reached v b (relaxes.kept v b e);
    apart = λ v b e. apart v b (relaxes.kept v b e);
    starts = λ t is_target. still_offered t empty_label (s.starts t is_target);
    passed = λ link a has e. passed link a has (was_settled link.to a e);
    ordered = λ v u a b e f. AtMost-trans (keyed p v a) (keyed p x label) (keyed p u b) (settled_before v a e) (waits_after u b f);
  }
    where
      least : (v : ℕ) (a : Label) → ((v ≡ x) × (a ≡ label)) ⊎ (settled v ≡ Some a) → IsLeastLabel Has targets v a
      least v a (inl (same, is)) = subst (λ u. IsLeastLabel Has targets u a) (sym same)
          (subst (λ l. IsLeastLabel Has targets x l) (sym is) (next_is_least Has targets p consistent settled waiting s x label n))
      least v a (inr was) = s.least v a was

      along : (v : ℕ) (link : LinkOf ℕ) (rest : List (LinkOf ℕ)) → ((v ≡ x) × (label_of (link ∷ rest) ≡ label)) ⊎ (settled v ≡ Some (label_of (link ∷ rest)))
          → LeadsTo Has targets v (link ∷ rest) → HasLabel settled link.to
      along v link rest (inl (same, is)) leads =
          next_along Has targets p consistent settled waiting s x label n link rest (sym is) (subst (λ u. LeadsTo Has targets u (link ∷ rest)) same leads)
      along v link rest (inr was) leads = s.along v link rest was leads

      reached : (v : ℕ) (b : Label) → (without v ≡ Some b)
          ⊎ ((link : LinkOf ℕ) × ((Has link × (link.to ≡ x)) × (link.from ≡ v) × (b ≡ beyond label link) × (settled_after v ≡ None))) → HasWalk Has targets v b
      reached v b (inl was) = s.reached v b (still_waits v b was).1
      reached v b (inr (link, h)) =
          let rest = subst (λ u. HasWalk Has targets u label) (sym h.0.1) (s.reached x label n.waits) in
          subst (λ u. HasWalk Has targets u b) h.1 (subst (λ l. HasWalk Has targets link.from l) (sym h.2) (HasWalk-cons Has targets label link h.0.0 rest))

      apart : (v : ℕ) (b : Label) → (without v ≡ Some b)
          ⊎ ((link : LinkOf ℕ) × ((Has link × (link.to ≡ x)) × (link.from ≡ v) × (b ≡ beyond label link) × (settled_after v ≡ None))) → settled_after v ≡ None
      apart v b (inl was) = let w = still_waits v b was in settled_other v w.0 ∙ s.apart v b w.1
      apart v b (inr (link, h)) = h.3

      passed : (link : LinkOf ℕ) (a : Label) → Has link → ((link.to ≡ x) × (a ≡ label)) ⊎ (settled link.to ≡ Some a)
          → IsOffered settled_after waiting_after link.from (beyond a link)
      passed link a has (inl (same, is)) = subst (λ l. IsOffered settled_after waiting_after link.from (beyond l link)) (sym is) (relaxes.each link (has, same))
      passed link a has (inr was) = still_offered link.from (beyond a link) (s.passed link a has was)

-- a search begins where no vertex is settled and the targets alone wait, with the label of the walk without links
pub search_begins : (Has : LinkOf ℕ → Type 0) (targets : List ℕ) (p : ℕ → ℕ) (settled waiting : ℕ → Option Label) → ((v : ℕ) → settled v ≡ None)
    → ((t : ℕ) → Contains targets t → waiting t ≡ Some empty_label) → ((v : ℕ) (label : Label) → waiting v ≡ Some label → Contains targets v × (label ≡ empty_label))
    → IsSearch Has targets p settled waiting
search_begins Has targets p settled waiting none marked others = record {
  least = λ v label e. absurd (none-some label (sym (none v) ∙ e));
  along = λ v link rest e leads. absurd (none-some (label_of (link ∷ rest)) (sym (none v) ∙ e));
  reached = λ v label e. (let o = others v label e in record {
    walk = [];
    leads = record { target = v; is_target = o.0; is_walk = refl };
    label_is = sym o.1;
  });
  apart = λ v label e. none v;
  starts = λ t is_target. inr (empty_label, marked t is_target, AtMost-refl empty_label);
  passed = λ link label has e. absurd (none-some label (sym (none link.to) ∙ e));
  ordered = λ v u a b e f. absurd (none-some a (sym (none v) ∙ e));
}
