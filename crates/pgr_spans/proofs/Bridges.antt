-- A span with two ends is a bridge exactly where it is alone in its block.
use Rattle.std.proofs.Common.{◌≡◌, ◌≢◌, ◌⊎◌, inl, inr, ⊎_elim, List, [], ◌∷◌, ◌++◌, ℤ, refl, sym, subst, ◌∙◌}
use Rattle.std.specs.List.{Contains}
use Rattle.pgr_spans.specs.declared.span.Span.{Span}
use Rattle.pgr_spans.specs.Linked.{HasEnd, ShareAnEnd, ShareAnEndBeside, LeadsOn}
use Rattle.pgr_spans.specs.Block.{LinkedOutside, InOneBlock}
use Rattle.pgr_spans.specs.Bridge.{IsOtherSpan, IsBridge}
use Rattle.pgr_spans.proofs.Outside.{cases_end, cases_span, leads_append, leads_weaker, leads_back, outside_trans, outside_step, block_by_end, block_sym, outside_of}

module _ (spans : List Span) (s : Span) where
  -- a list of other spans that leads to g, from a span that is linked to s
  record LeadsFrom (Linked : Span → Span → Type 0) (g : Span) : Type 0 where
    first : Span
    rest : List Span
    has : IsOtherSpan spans s first
    linked : Linked s first
    leads : LeadsOn (IsOtherSpan spans s) Linked first rest g

  -- what stands in a list behind its last s
  behind : (Linked : Span → Span → Type 0) (e g : Span) (xs : List Span) → g ≢ s → LeadsOn (Contains spans) Linked e xs g
      → ((e ≢ s) × LeadsOn (IsOtherSpan spans s) Linked e xs g) ⊎ LeadsFrom Linked g
  behind Linked e g [] differs leads = inl ((λ same. differs (sym leads ∙ same)), leads)
  behind Linked e g (next ∷ rest) differs (has, linked, leads) = by (behind Linked next g rest differs leads) (cases_span e s) where
    by : ((next ≢ s) × LeadsOn (IsOtherSpan spans s) Linked next rest g) ⊎ LeadsFrom Linked g → (e ≡ s) ⊎ (e ≢ s)
        → ((e ≢ s) × LeadsOn (IsOtherSpan spans s) Linked e (next ∷ rest) g) ⊎ LeadsFrom Linked g
    by (inr found) cases = inr found
    by (inl others) (inl same) = inr (record {
      first = next;
      rest = rest;
      has = (has, others.0);
      linked = subst (λ t. Linked t next) same linked;
      leads = others.1;
    })
    by (inl others) (inr not) = inl (not, ((has, others.0), linked, others.1))

  -- in a list from s to another span, what stands behind the last s
  from_s : (Linked : Span → Span → Type 0) (g : Span) (xs : List Span) → g ≢ s → LeadsOn (Contains spans) Linked s xs g → LeadsFrom Linked g
  from_s Linked g xs differs leads = ⊎_elim (λ none. absurd (none.0 refl)) (λ found. found) (behind Linked s g xs differs leads)

  -- the other span that shares an end with s beside the one has the other
  other_a : (h : Span) → ShareAnEndBeside s.b s h → HasEnd h s.a
  other_a h (y, not, inl at, h_end) = subst (HasEnd h) at h_end
  other_a h (y, not, inr at, h_end) = absurd (not at)

  other_b : (h : Span) → ShareAnEndBeside s.a s h → HasEnd h s.b
  other_b h (y, not, inl at, h_end) = absurd (not at)
  other_b h (y, not, inr at, h_end) = subst (HasEnd h) at h_end

  weaken : (x : ℤ) (e g : Span) (xs : List Span) → LeadsOn (IsOtherSpan spans s) (ShareAnEndBeside x) e xs g → LeadsOn (IsOtherSpan spans s) ShareAnEnd e xs g
  weaken x =
      leads_weaker (IsOtherSpan spans s) (IsOtherSpan spans s) (ShareAnEndBeside x) ShareAnEnd (λ t other. other) (λ t u other (y, not, t_end, u_end). (y, t_end, u_end))

  -- where another span is in the block of s, other spans join the ends of s: behind the last s, a list outside the one end begins at the other
  pub no_bridge : (g : Span) → g ≢ s → InOneBlock spans s g → IsBridge spans s → ⊥
  no_bridge g differs block bridge =
      let outside_b = outside_of spans s g block s.b in
      let outside_a = outside_of spans s g block s.a in
      let at_a = from_s (ShareAnEndBeside s.b) g outside_b.0 differs outside_b.1 in
      let at_b = from_s (ShareAnEndBeside s.a) g outside_a.0 differs outside_a.1 in
      let there = weaken s.b at_a.first g at_a.rest at_a.leads in
      let back = leads_back (IsOtherSpan spans s) ShareAnEnd (λ t u (y, t_end, u_end). (y, u_end, t_end)) at_b.first g at_b.rest at_b.has
      (weaken s.a at_b.first g at_b.rest at_b.leads) in
      bridge.1 (record {
        first = at_a.first;
        rest = at_a.rest ++ back.0;
        last = at_b.first;
        has = at_a.has;
        from = other_a at_a.first at_a.linked;
        leads = leads_append (IsOtherSpan spans s) ShareAnEnd at_a.first g at_b.first at_a.rest back.0 there back.1;
        to = other_b at_b.first at_b.linked;
      })

  -- another span with the first end of s, linked to s outside it
  record Returns : Type 0 where
    span : Span
    has : IsOtherSpan spans s span
    at : HasEnd span s.a
    linked : LinkedOutside spans s.a span s

  -- in a list of other spans that ends at the second end of s, the last span with the first end, or else all lack it
  last_return : Contains spans s → s.a ≢ s.b → (e f : Span) (xs : List Span) → IsOtherSpan spans s e → LeadsOn (IsOtherSpan spans s) ShareAnEnd e xs f → HasEnd f s.b
      → Returns ⊎ ((HasEnd e s.a → ⊥) × LinkedOutside spans s.a e s)
  last_return s_has differ e f [] has leads at = by (cases_end e s.a) where
    linked : LinkedOutside spans s.a e s
    linked = outside_step spans s.a e s s_has (s.b, (λ same. differ (sym same)), subst (λ t. HasEnd t s.b) (sym leads) at, inr refl)

    by : HasEnd e s.a ⊎ (HasEnd e s.a → ⊥) → Returns ⊎ ((HasEnd e s.a → ⊥) × LinkedOutside spans s.a e s)
    by (inl here) = inl (record { span = e; has = has; at = here; linked = linked })
    by (inr without) = inr (without, linked)
  last_return s_has differ e f (next ∷ rest) has (next_has, (y, y_e, y_next), leads) at = by (last_return s_has differ next f rest next_has leads at) (cases_end e s.a) where
    by : Returns ⊎ ((HasEnd next s.a → ⊥) × LinkedOutside spans s.a next s) → HasEnd e s.a ⊎ (HasEnd e s.a → ⊥) → Returns ⊎ ((HasEnd e s.a → ⊥) × LinkedOutside spans s.a e s)
    by (inl found) cases = inl found
    by (inr (lacks, linked)) cases =
        let on : LinkedOutside spans s.a e s = outside_trans spans s.a e next s
        (outside_step spans s.a e next next_has.0 (y, (λ same. lacks (subst (HasEnd next) same y_next)), y_e, y_next)) linked in
        ⊎_elim (λ here. inl (record { span = e; has = has; at = here; linked = on })) (λ without. inr (without, on)) cases

  -- a span with two ends that is alone in its block is a bridge
  pub bridge_alone : Contains spans s → s.a ≢ s.b → ((g : Span) → Contains spans g → g ≢ s → InOneBlock spans s g → ⊥) → IsBridge spans s
  bridge_alone s_has differ alone = (
    differ,
    λ joins.
        let found : Returns = ⊎_elim (λ found. found) (λ (lacks, linked). absurd (lacks joins.from))
        (last_return s_has differ joins.first joins.last joins.rest joins.has joins.leads joins.to) in
        alone found.span found.has.0 found.has.1 (block_sym spans found.span s found.has.0 (block_by_end spans found.span s s.a s_has found.at (inl refl) found.linked)),
  )
