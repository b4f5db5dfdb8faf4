-- Least walks follow tight links.
use Rattle.std.proofs.Common.{◌≡◌, ℕ, ◌<◌, ◌⊎◌, inl, inr, List, [], ◌∷◌, Option, Some, None, IsSome, Contains, refl, sym, ap, ◌∙◌, subst, arith}
use Rattle.std.proofs.lemmas.Bool.{false≢true}
use Rattle.pgr_walks.specs.declared.link.LinkOf.{LinkOf}
use Rattle.pgr_walks.specs.declared.label.Label.{Label}
use Rattle.pgr_walks.specs.Label.{AtMost, LeadsTo, label_of}
use Rattle.pgr_walks.specs.Graph.{IsLinkOf, IsLawful}
use Rattle.pgr_walks.proofs.LabelOrder.{AtMost-both}
use Rattle.pgr_search.specs.FinalLabels.{label_at, HoldsFinalLabels}
use Rattle.pgr_search.specs.Tight.{IsTight, BeginsTight}
use Rattle.pgr_search.proofs.LabelOrder.{label_of-cons}

-- what holds of two walks that begin with one link holds of what is left of them
at_most_rest : (link : LinkOf ℕ) (a b : List (LinkOf ℕ)) → AtMost (label_of (link ∷ a)) (label_of (link ∷ b)) → AtMost (label_of a) (label_of b)
at_most_rest link a b (inl h) = inl (omega arith)
at_most_rest link a b (inr h) = inr (omega (arith, h.0), omega (arith, h.1))

-- a label that is there
label_there : (o : Option Label) → IsSome o → (label : Label) × (o ≡ Some label)
label_there None some = absurd (false≢true some)
label_there (Some label) some = (label, refl)

module _ (size : ℕ) (Has : LinkOf ℕ → Type 0) (targets : List ℕ) (labels : List (Option Label)) (holds : HoldsFinalLabels size Has targets labels) where
  -- a walk that has the label of its vertex goes on, after its first link, with a walk that has the label of its own
  rest_label : (v : ℕ) (link : LinkOf ℕ) (rest : List (LinkOf ℕ)) → label_at labels v ≡ Some (label_of (link ∷ rest)) → LeadsTo Has targets v (link ∷ rest)
      → label_at labels link.to ≡ Some (label_of rest)
  rest_label v link rest e leads =
      let some = label_there (label_at labels link.to) (holds.along v link rest e leads) in
      let there = holds.least link.to some.0 some.1 in
      let here = holds.least v (label_of (link ∷ rest)) e in
      let below : AtMost some.0 (label_of rest) = there.least rest (record { target = leads.target; is_target = leads.is_target; is_walk = leads.is_walk.2 }) in
      let longer : LeadsTo Has targets v (link ∷ there.walk) =
      record { target = there.leads.target; is_target = there.leads.is_target; is_walk = (leads.is_walk.0, leads.is_walk.1, there.leads.is_walk) } in
      let above : AtMost (label_of rest) (label_of there.walk) = at_most_rest link rest there.walk (here.least (link ∷ there.walk) longer) in
      some.1 ∙ ap Some (AtMost-both some.0 (label_of rest) below (subst (AtMost (label_of rest)) there.label_is above))

  -- so its first link is tight
  pub begins_tight : BeginsTight Has targets labels
  begins_tight v link rest e leads = (
    record {
      here = label_of (link ∷ rest);
      there = label_of rest;
      here_is = ap (label_at labels) leads.is_walk.1 ∙ e;
      there_is = rest_label v link rest e leads;
      one_more = label_of-cons link rest;
    },
    rest_label v link rest e leads,
  )

  -- a link out of a target isn't tight
  pub target_not_tight : (v : ℕ) (link : LinkOf ℕ) → Contains targets v → link.from ≡ v → IsTight labels link → ⊥
  target_not_tight v link target from tight =
      at ((holds.least link.from tight.here tight.here_is).least [] (record { target = v; is_target = target; is_walk = from }))
    where
      at : AtMost tight.here (label_of {V = ℕ} []) → ⊥
      at (inl less) = omega (arith, less)
      at (inr same) = omega (arith, same.1, ap (λ l. l.hops) tight.one_more)

-- out of a vertex that has a label and is no target some link is tight
module _ (size : ℕ) (outs ins : ℕ → List (LinkOf ℕ)) (lawful : IsLawful size outs ins) (targets : List ℕ) (labels : List (Option Label))
    (holds : HoldsFinalLabels size (IsLinkOf size ins) targets labels) (v : ℕ) where
  by_walk : (label : Label) (walk : List (LinkOf ℕ)) → label_at labels v ≡ Some label → LeadsTo (IsLinkOf size ins) targets v walk → label_of walk ≡ label
      → Contains targets v ⊎ ((link : LinkOf ℕ) × (Contains (outs v) link × IsTight labels link))
  by_walk label [] e leads is = inl (subst (Contains targets) (sym leads.is_walk) leads.is_target)
  by_walk label (link ∷ rest) e leads is =
      let has = leads.is_walk.0 in
      let from : link.from < size = ((lawful.at link.to has.0).in_ends link has.1).1 in
      let among : Contains (outs v) link = subst (λ x. Contains (outs x) link) leads.is_walk.1 ((lawful.both link from has.0).1 has.1) in
      inr (link, (among, (begins_tight size (IsLinkOf size ins) targets labels holds v link rest (e ∙ ap Some (sym is)) leads).0))

  pub some_tight : IsSome (label_at labels v) → Contains targets v ⊎ ((link : LinkOf ℕ) × (Contains (outs v) link × IsTight labels link))
  some_tight some =
      let has = label_there (label_at labels v) some in
      let least = holds.least v has.0 has.1 in
      by_walk has.0 least.walk has.1 least.leads least.label_is
