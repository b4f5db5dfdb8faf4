-- A vertex is an articulation point exactly where it is an end of two spans, no loops, that are in two blocks.
use Rattle.std.proofs.Common.{◌≡◌, ◌≢◌, ◌⊎◌, inl, inr, ⊎_elim, List, [], ◌∷◌, ℤ, refl, sym, subst, ◌∙◌}
use Rattle.std.specs.List.{Contains}
use Rattle.pgr_spans.specs.declared.span.Span.{Span}
use Rattle.pgr_spans.specs.Linked.{HasEnd, ShareAnEnd, ShareAnEndBeside, LeadsOn, Joins}
use Rattle.pgr_spans.specs.Block.{LinkedOutside, InOneBlock}
use Rattle.pgr_spans.specs.ArticulationPoint.{IsSpanWithout, IsArticulationPoint}
use Rattle.pgr_spans.proofs.Outside.{cases_id, cases_end, other_end, loop_end, end_beside, leads_weaker, leads_last, outside_trans, outside_step, block_by_end}

module _ (spans : List Span) (x : ℤ) where
  -- a list of spans that lack x, with one more span that lacks it in front
  joins_front : (e : Span) (u y v : ℤ) → IsSpanWithout spans x e → HasEnd e u → HasEnd e y → Joins (IsSpanWithout spans x) y v → Joins (IsSpanWithout spans x) u v
  joins_front e u y v without u_end y_end joins = record {
    first = e;
    rest = joins.first ∷ joins.rest;
    last = joins.last;
    has = without;
    from = u_end;
    leads = (joins.has, (y, y_end, joins.from), joins.leads);
    to = joins.to;
  }

  -- a span that lacks x joins its ends
  joins_ends : (e : Span) (u v : ℤ) → IsSpanWithout spans x e → HasEnd e u → HasEnd e v → Joins (IsSpanWithout spans x) u v
  joins_ends e u v without u_end v_end = record { first = e; rest = []; last = e; has = without; from = u_end; leads = refl; to = v_end }

  -- from a list that is linked outside x, what lacks x is kept: it joins the ends other than x
  pub joins_beside : (e f : Span) (xs : List Span) (u v : ℤ) → Contains spans e → LeadsOn (Contains spans) (ShareAnEndBeside x) e xs f → HasEnd e u → u ≢ x → HasEnd f v → v ≢ x
      → (u ≡ v) ⊎ Joins (IsSpanWithout spans x) u v
  joins_beside e f [] u v has leads u_end u_not v_end v_not = by (cases_end e x) where
    v_here : HasEnd e v
    v_here = subst (λ s. HasEnd s v) (sym leads) v_end

    by : HasEnd e x ⊎ (HasEnd e x → ⊥) → (u ≡ v) ⊎ Joins (IsSpanWithout spans x) u v
    by (inl at) = inl (other_end e x u v at u_end u_not v_here v_not)
    by (inr without) = inr (joins_ends e u v (has, without) u_end v_here)
  joins_beside e f (next ∷ rest) u v has (next_has, (y, y_not, y_end, y_next), leads) u_end u_not v_end v_not =
      by (joins_beside next f rest y v next_has leads y_next y_not v_end v_not) (cases_end e x) where
        by : (y ≡ v) ⊎ Joins (IsSpanWithout spans x) y v → HasEnd e x ⊎ (HasEnd e x → ⊥) → (u ≡ v) ⊎ Joins (IsSpanWithout spans x) u v
        by (inl same) (inl at) = inl (other_end e x u y at u_end u_not y_end y_not ∙ same)
        by (inr joins) (inl at) = inr (subst (λ z. Joins (IsSpanWithout spans x) z v) (sym (other_end e x u y at u_end u_not y_end y_not)) joins)
        by (inl same) (inr without) = inr (joins_ends e u v (has, without) u_end (subst (HasEnd e) same y_end))
        by (inr joins) (inr without) = inr (joins_front e u y v (has, without) u_end y_end joins)

  -- a list of spans that lack x is linked outside x
  leads_beside : (e f : Span) (xs : List Span) → LeadsOn (IsSpanWithout spans x) ShareAnEnd e xs f → LeadsOn (Contains spans) (ShareAnEndBeside x) e xs f
  leads_beside =
      leads_weaker (IsSpanWithout spans x) (Contains spans) ShareAnEnd (ShareAnEndBeside x) (λ s without. without.0)
      (λ s t without (y, s_end, t_end). (y, λ same. without.1 (subst (HasEnd t) same t_end), s_end, t_end))

  -- two spans with the end x, no loops, that are in two blocks: their other ends are parted by x
  pub point_between : (e f : Span) → Contains spans e → Contains spans f → HasEnd e x → HasEnd f x → e.a ≢ e.b → f.a ≢ f.b → (InOneBlock spans e f → ⊥)
      → IsArticulationPoint spans x
  point_between e f e_has f_has e_at f_at e_differs f_differs apart =
      let (u, u_end, u_not) = end_beside e x e_at e_differs in
      let (v, v_end, v_not) = end_beside f x f_at f_differs in (
        u,
        v,
        (λ same. apart (block_by_end spans e f x f_has e_at f_at (outside_step spans x e f f_has (v, v_not, subst (HasEnd e) same u_end, v_end)))),
        u_not,
        v_not,
        record { first = e; rest = f ∷ []; last = f; has = e_has; from = u_end; leads = (f_has, (x, e_at, f_at), refl); to = v_end },
        (λ joins.
            let last_has = leads_last (IsSpanWithout spans x) ShareAnEnd joins.first joins.last joins.rest joins.has joins.leads in
            let first = outside_step spans x e joins.first joins.has.0 (u, u_not, u_end, joins.from) in
            let middle : LinkedOutside spans x joins.first joins.last = (joins.rest, leads_beside joins.first joins.last joins.rest joins.leads) in
            let last = outside_step spans x joins.last f f_has (v, v_not, joins.to, v_end) in
            apart (block_by_end spans e f x f_has e_at f_at (outside_trans spans x e joins.first f first (outside_trans spans x joins.first joins.last f middle last)))),
      )

  module _ (linked : (e f : Span) → Contains spans e → Contains spans f → HasEnd e x → HasEnd f x → e.a ≢ e.b → f.a ≢ f.b → LinkedOutside spans x e f) where
    -- a loop at x is left out of a list: those before and behind it have x too
    leave_out : (g next t : Span) (rest : List Span) → next.a ≡ next.b → HasEnd next x → HasEnd g x → (HasEnd t x → t.a ≢ t.b) → LeadsOn (Contains spans) ShareAnEnd next rest t
        → LeadsOn (Contains spans) ShareAnEnd g rest t
    leave_out g next t [] loop at g_at t_no leads =
        absurd (t_no (subst (λ s. HasEnd s x) leads at) (subst (λ s. s.a ≡ s.b) leads loop))
    leave_out g next t (other ∷ rest) loop at g_at t_no (has, (z, z_next, z_other), leads) =
        (has, (x, g_at, subst (HasEnd other) (loop_end next x z loop at z_next) z_other), leads)

    -- where the spans at x are linked outside x, a list of spans that begins and ends with no loop at x can be linked so
    outside_around : (g t : Span) (xs : List Span) → Contains spans g → (HasEnd g x → g.a ≢ g.b) → (HasEnd t x → t.a ≢ t.b) → LeadsOn (Contains spans) ShareAnEnd g xs t
        → LinkedOutside spans x g t
    outside_around g t [] g_has g_no t_no leads = ([], leads)
    outside_around g t (next ∷ rest) g_has g_no t_no (has, (y, y_g, y_next), leads) =
        by (λ next_no. outside_around next t rest has next_no t_no leads) (λ around. outside_around g t rest g_has g_no t_no around) (cases_id y x) (cases_id next.a next.b) where
          by : ((HasEnd next x → next.a ≢ next.b) → LinkedOutside spans x next t) → (LeadsOn (Contains spans) ShareAnEnd g rest t → LinkedOutside spans x g t) → (y ≡ x) ⊎ (y ≢ x)
              → (next.a ≡ next.b) ⊎ (next.a ≢ next.b) → LinkedOutside spans x g t
          by on around (inr not) loop =
              outside_trans spans x g next t (outside_step spans x g next has (y, not, y_g, y_next)) (on (λ at is_loop. not (loop_end next x y is_loop at y_next)))
          by on around (inl same) (inr differs) =
              let g_at = subst (HasEnd g) same y_g in
              outside_trans spans x g next t (linked g next g_has has g_at (subst (HasEnd next) same y_next) (g_no g_at) differs) (on (λ _. differs))
          by on around (inl same) (inl loop) =
              around (leave_out g next t rest loop (subst (HasEnd next) same y_next) (subst (HasEnd g) same y_g) t_no leads)

    -- so x parts no two vertices
    pub no_point : IsArticulationPoint spans x → ⊥
    no_point (u, v, differ, u_not, v_not, joins, parted) =
        let last_has = leads_last (Contains spans) ShareAnEnd joins.first joins.last joins.rest joins.has joins.leads in
        let around = outside_around joins.first joins.last joins.rest joins.has (λ at loop. u_not (loop_end joins.first x u loop at joins.from))
        (λ at loop. v_not (loop_end joins.last x v loop at joins.to)) joins.leads in
        ⊎_elim differ parted (joins_beside joins.first joins.last around.0 u v joins.has around.1 joins.from u_not joins.to v_not)
