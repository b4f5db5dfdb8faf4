-- The walk that takes the least tight link at each vertex precedes every other walk from its vertex to a target.
use Rattle.std.proofs.Common.{◌≡◌, ◌≢◌, ℕ, ◌<◌, ◌≤◌, ◌==◌, cond, List, [], ◌∷◌, Option, Some, None, IsSome, IsNone, Contains, length, refl, sym, ap, ◌∙◌, subst, arith, ◌⊎◌, inl, inr, add-zero}
use Rattle.std.specs.declared.cmp.Ordering.{Ordering}
use Rattle.std.specs.declared.cmp.Ordering.TheVariants.{Less, Equal, Greater}
use Rattle.std.specs.Ordering.{nat_cmp, ordering_then}
use Rattle.std.specs.Cmp.Lexicographic.{slice_cmp}
use Rattle.std.proofs.lemmas.Cmp.{tied_itself, nat_cmp_total}
use Rattle.std.proofs.lemmas.Bool.{lt-ltb, false≢true}
use Rattle.pgr_walks.specs.declared.link.LinkOf.{LinkOf}
use Rattle.pgr_walks.specs.declared.label.Label.{Label}
use Rattle.pgr_walks.specs.Link.{step_cmp}
use Rattle.pgr_walks.specs.LinkOrders.{nat_tie, link_tie, step_total}
use Rattle.pgr_walks.specs.Walk.{IsWalk, cost_of, hops_of}
use Rattle.pgr_walks.specs.RouteOrder.{route_cmp, IsLeast}
use Rattle.pgr_walks.specs.Label.{label_of, AtMost, LeadsTo, IsLabel}
use Rattle.pgr_walks.specs.Graph.{IsLawful, IsLinkOf}
use Rattle.pgr_route.specs.Least.{LeadsNowhere}
use Rattle.pgr_search.specs.FinalLabels.{label_at, HoldsFinalLabels}
use Rattle.pgr_search.specs.Tight.{IsTight, BeginsTight}
use Rattle.pgr_route.proofs.TightWalks.{IsBest, label_same, label_before, best_is_link, best_label, walk_wider}

-- how numbers compare
nat_less : (x y : ℕ) → x < y → nat_cmp x y ≡ Less
nat_less x y h = ap (λ b. cond b Less (cond (x == y) Equal Greater)) (lt-ltb x y h)

nat_tied : (x y : ℕ) → x ≡ y → nat_cmp x y ≡ Equal
nat_tied x y e = ap (nat_cmp x) (sym e) ∙ tied_itself nat_cmp_total x

-- links from one vertex that compare as equal are the same, and a link compares as equal to itself
step_equal : (a b : LinkOf ℕ) → a.from ≡ b.from → step_cmp nat_cmp a b ≡ Equal → a ≡ b
step_equal a b from e = link_tie nat_cmp nat_tie a b (ap (λ o. ordering_then o (step_cmp nat_cmp a b)) (nat_tied a.from b.from from) ∙ e)

step_itself : (a : LinkOf ℕ) → step_cmp nat_cmp a a ≡ Equal
step_itself = tied_itself (step_total nat_cmp nat_cmp_total)

module _ (size : ℕ) (outs ins : ℕ → List (LinkOf ℕ)) (labels : List (Option Label)) (lawful : IsLawful size outs ins) (targets : List ℕ)
    (holds : HoldsFinalLabels size (IsLinkOf size ins) targets labels) (first : BeginsTight (IsLinkOf size ins) targets labels) where
  starts_in : (link : LinkOf ℕ) → IsLinkOf size ins link → link.from < size
  starts_in link has = ((lawful.at link.to has.0).in_ends link has.1).1

  -- a walk to a target that has the label of its vertex begins with a tight link and goes on with a walk that has the label of its own
  goes_on : (link : LinkOf ℕ) (rest : List (LinkOf ℕ)) (t : ℕ) → IsLinkOf size ins link → IsWalk (IsLinkOf size ins) link.to rest t → Contains targets t
      → label_at labels link.from ≡ Some (label_of (link ∷ rest)) → IsTight labels link × (label_at labels link.to ≡ Some (label_of rest))
  goes_on link rest t has w target e = first link.from link rest e (record { target = t; is_target = target; is_walk = (has, refl, w) })

  -- of two walks from one vertex that have its label, the best one comes first, or they are the same: by how their first links compare
  compare_first : (a b : LinkOf ℕ) (r q : List (LinkOf ℕ)) (t : ℕ) (o : Ordering) → IsBest size outs labels a → a.from ≡ b.from → IsLinkOf size ins b
      → IsWalk (IsLinkOf size ins) b.to q t → Contains targets t → label_at labels b.from ≡ Some (label_of (b ∷ q))
      → (IsWalk (IsLinkOf size ins) a.to q t → label_at labels a.to ≡ Some (label_of q) → (q ≡ r) ⊎ (slice_cmp (step_cmp nat_cmp) r q ≡ Less)) → step_cmp nat_cmp a b ≡ o
      → (b ∷ q ≡ a ∷ r) ⊎ (ordering_then o (slice_cmp (step_cmp nat_cmp) r q) ≡ Less)
  compare_first a b r q t Less best from has w target e rest same = inr refl
  compare_first a b r q t Equal best from has w target e rest same =
      let link : b ≡ a = sym (step_equal a b from same) in
      let label : label_at labels b.to ≡ Some (label_of q) = (goes_on b q t has w target e).1 in
      by link (rest (subst (λ x. IsWalk (IsLinkOf size ins) x.to q t) link w) (ap (λ x. label_at labels x.to) (sym link) ∙ label))
    where
      by : b ≡ a → (q ≡ r) ⊎ (slice_cmp (step_cmp nat_cmp) r q ≡ Less) → (b ∷ q ≡ a ∷ r) ⊎ (slice_cmp (step_cmp nat_cmp) r q ≡ Less)
      by link (inl walk) = inl (λ i. link i ∷ walk i)
      by link (inr less) = inr less
  compare_first a b r q t Greater best from has w target e rest same =
      let tight = (goes_on b q t has w target e).0 in
      let among : Contains (outs a.from) b = subst (λ v. Contains (outs v) b) (sym from) ((lawful.both b (starts_in b has) has.0).1 has.1) in
      let other : b ≢ a = λ link. absurd (no_greater (sym (step_itself a) ∙ ap (step_cmp nat_cmp a) (sym link) ∙ same)) in
      absurd (no_less (sym (best.least.least b among tight other) ∙ same))
    where
      no_greater : Equal ≡ Greater → ⊥
      no_greater e = cc

      no_less : Less ≡ Greater → ⊥
      no_less e = cc

  -- of two walks from one vertex that have its label, the best one comes first, or they are the same
  compare : (route walk : List (LinkOf ℕ)) (v end t : ℕ) → IsWalk (IsBest size outs labels) v route end → IsWalk (IsLinkOf size ins) v walk t → Contains targets t
      → label_at labels v ≡ Some (label_of walk) → length route ≡ length walk → (walk ≡ route) ⊎ (slice_cmp (step_cmp nat_cmp) route walk ≡ Less)
  compare [] [] v end t best w target e long = inl refl
  compare [] (b ∷ q) v end t best w target e long = absurd (omega arith)
  compare (a ∷ r) [] v end t best w target e long = absurd (omega arith)
  compare (a ∷ r) (b ∷ q) v end t best w target e long = compare_first a b r q t (step_cmp nat_cmp a b) best.0 (best.1 ∙ sym w.1) w.0 w.2 target (ap (label_at labels) w.1 ∙ e)
      (λ onward label. compare r q a.to end t best.2 onward target label (omega arith)) refl

  -- a best walk to a vertex of label (0, 0) precedes every other walk from its vertex to a target
  precedes_other : (route other : List (LinkOf ℕ)) (v end t : ℕ) → IsWalk (IsBest size outs labels) v route end → label_at labels v ≡ Some (label_of route)
      → IsWalk (IsLinkOf size ins) v other t → Contains targets t → other ≢ route → AtMost (label_of route) (label_of other) → route_cmp nat_cmp route other ≡ Less
  precedes_other route other v end t best e w target ne (inl h) = ap
      (λ o. ordering_then o (ordering_then (nat_cmp (hops_of route) (hops_of other)) (slice_cmp (step_cmp nat_cmp) route other))) (nat_less (cost_of route) (cost_of other) h)
  precedes_other route other v end t best e w target ne (inr h) = ap (λ o. ordering_then o
      (ordering_then (nat_cmp (hops_of route) (hops_of other)) (slice_cmp (step_cmp nat_cmp) route other))) (nat_tied (cost_of route) (cost_of other) h.0)
      ∙ by (cases_fewer (hops_of route) (hops_of other) h.1)
    where
      cases_fewer : (m n : ℕ) → m ≤ n → (m < n) ⊎ (m ≡ n)
      cases_fewer m n h = grind arith

      same : hops_of route ≡ hops_of other → (other ≡ route) ⊎ (slice_cmp (step_cmp nat_cmp) route other ≡ Less) → slice_cmp (step_cmp nat_cmp) route other ≡ Less
      same hops (inl e) = absurd (ne e)
      same hops (inr less) = less

      by : (hops_of route < hops_of other) ⊎ (hops_of route ≡ hops_of other)
          → ordering_then (nat_cmp (hops_of route) (hops_of other)) (slice_cmp (step_cmp nat_cmp) route other) ≡ Less
      by (inl fewer) = ap (λ o. ordering_then o (slice_cmp (step_cmp nat_cmp) route other)) (nat_less (hops_of route) (hops_of other) fewer)
      by (inr hops) = ap (λ o. ordering_then o (slice_cmp (step_cmp nat_cmp) route other)) (nat_tied (hops_of route) (hops_of other) hops)
          ∙ same hops (compare route other v end t best w target (e ∙ ap Some (label_same (label_of route) (label_of other) h.0 hops)) hops)

  -- a labelled vertex out of which no link is tight is a target, and its label is (0, 0)
  at_end : (v : ℕ) (label : Label) (walk : List (LinkOf ℕ)) → label_at labels v ≡ Some label → LeadsTo (IsLinkOf size ins) targets v walk → label_of walk ≡ label
      → ((link : LinkOf ℕ) → Contains (outs v) link → IsTight labels link → ⊥) → (Contains targets v) × (label_at labels v ≡ Some (label_of {V = ℕ} []))
  at_end v label [] e leads is none = (subst (Contains targets) (sym leads.is_walk) leads.is_target, e ∙ ap Some (sym is))
  at_end v label (link ∷ rest) e leads is none =
      let from : link.from ≡ v = leads.is_walk.1 in
      let here : label_at labels link.from ≡ Some (label_of (link ∷ rest)) = ap (label_at labels) from ∙ e ∙ ap Some (sym is) in
      let has = leads.is_walk.0 in
      absurd (none link (subst (λ x. Contains (outs x) link) from ((lawful.both link (starts_in link has) has.0).1 has.1))
      (goes_on link rest leads.target has leads.is_walk.2 leads.is_target here).0)

  -- a best walk to a labelled vertex out of which no link is tight is least of all walks from its vertex to a target
  pub best_is_least : (route : List (LinkOf ℕ)) (v end : ℕ) (last : Label) → IsWalk (IsBest size outs labels) v route end → label_at labels end ≡ Some last
      → ((link : LinkOf ℕ) → Contains (outs end) link → IsTight labels link → ⊥) → IsLeast nat_cmp (LeadsTo (IsLinkOf size ins) targets v) route
  best_is_least route v end last best e none =
      let ends = holds.least end last e in
      let finish = at_end end last ends.walk e ends.leads ends.label_is none in
      let label : label_at labels v ≡ Some (label_of route) = best_label size outs ins labels lawful route v end (label_of {V = ℕ} []) best finish.1
      ∙ ap Some (label_same (label_before route (label_of {V = ℕ} [])) (label_of route) (add-zero (cost_of route)) (add-zero (hops_of route))) in
      record {
        belongs = record {
          target = end;
          is_target = finish.0;
          is_walk =
              walk_wider (IsBest size outs labels) (IsLinkOf size ins) (best_is_link size outs ins labels lawful) v route end best;
        };
        precedes = λ other leads ne. precedes_other route other v end leads.target best label leads.is_walk leads.is_target ne
            ((holds.least v (label_of route) label).least other leads);
      }

-- no walk leads to a target from a vertex without a label
pub no_label_nowhere : (size : ℕ) (Has : LinkOf ℕ → Type 0) (labels : List (Option Label)) (v : ℕ) → label_at labels v ≡ None → LeadsNowhere size Has labels v
no_label_nowhere size Has labels v none targets holds = subst (IsLabel Has targets v) none holds.label

-- a label that is there
pub label_there : (o : Option Label) → IsSome o → (label : Label) × (o ≡ Some label)
label_there None some = absurd (false≢true some)
label_there (Some label) some = (label, refl)

-- a label that is not there
pub label_gone : (o : Option Label) → IsNone o → o ≡ None
label_gone None gone = refl
label_gone (Some label) gone = absurd (false≢true (sym gone))
