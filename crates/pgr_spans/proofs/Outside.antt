-- Spans that are linked outside a vertex, and blocks: an equivalence, and two spans with a common end are in one block where they are linked outside it.
use Rattle.std.proofs.Common.{◌≡◌, ◌≢◌, ◌⊎◌, inl, inr, ⊎_elim, List, [], ◌∷◌, ◌++◌, ℤ, refl, sym, subst, ◌∙◌, ap}
use Rattle.std.specs.List.{Contains}
use Rattle.std.specs.Cmp.{signed_Decides}
use Rattle.std.specs.Ordering.{int_eq}
use Rattle.std.proofs.lemmas.Bool.{cases_Bool, both_ways}
use Rattle.pgr_spans.specs.declared.span.Span.{Span}
use Rattle.pgr_spans.specs.Linked.{HasEnd, ShareAnEndBeside, LeadsOn}
use Rattle.pgr_spans.specs.Block.{LinkedOutside, InOneBlock}

-- two ids are equal or not
pub cases_id : (x y : ℤ) → (x ≡ y) ⊎ (x ≢ y)
cases_id x y =
    ⊎_elim
    (λ yes. inl ((signed_Decides x y).0 yes))
    (λ no. inr (λ same. both_ways (int_eq x y) no ((signed_Decides x y).1 same)))
    (cases_Bool (int_eq x y))

-- spans with equal parts are equal
pub same_span : (e f : Span) → e.edge ≡ f.edge → e.a ≡ f.a → e.b ≡ f.b → e ≡ f
same_span e f edge a b = ap (λ x. record e { edge = x }) edge ∙ (ap (λ x. record f { a = x; b = e.b }) a ∙ ap (λ x. record f { b = x }) b)

-- two spans are equal or not
pub cases_span : (e f : Span) → (e ≡ f) ⊎ (e ≢ f)
cases_span e f = by (cases_id e.edge f.edge) (cases_id e.a f.a) (cases_id e.b f.b) where
  by : (e.edge ≡ f.edge) ⊎ (e.edge ≢ f.edge) → (e.a ≡ f.a) ⊎ (e.a ≢ f.a) → (e.b ≡ f.b) ⊎ (e.b ≢ f.b) → (e ≡ f) ⊎ (e ≢ f)
  by (inl edge) (inl a) (inl b) = inl (same_span e f edge a b)
  by (inl edge) (inl a) (inr b) = inr (λ same. b (ap (λ s. s.b) same))
  by (inl edge) (inr a) b = inr (λ same. a (ap (λ s. s.a) same))
  by (inr edge) a b = inr (λ same. edge (ap (λ s. s.edge) same))

-- a vertex is an end of a span or not
pub cases_end : (e : Span) (v : ℤ) → HasEnd e v ⊎ (HasEnd e v → ⊥)
cases_end e v = by (cases_id v e.a) (cases_id v e.b) where
  by : (v ≡ e.a) ⊎ (v ≢ e.a) → (v ≡ e.b) ⊎ (v ≢ e.b) → HasEnd e v ⊎ (HasEnd e v → ⊥)
  by (inl a) b = inl (inl a)
  by (inr a) (inl b) = inl (inr b)
  by (inr a) (inr b) = inr (λ end. ⊎_elim a b end)

-- of the ends of a span one at most isn't x, where x is an end
pub other_end : (e : Span) (x u v : ℤ) → HasEnd e x → HasEnd e u → u ≢ x → HasEnd e v → v ≢ x → u ≡ v
other_end e x u v (inl x_is) (inl u_is) u_not v_end v_not = absurd (u_not (u_is ∙ sym x_is))
other_end e x u v (inl x_is) (inr u_is) u_not (inl v_is) v_not = absurd (v_not (v_is ∙ sym x_is))
other_end e x u v (inl x_is) (inr u_is) u_not (inr v_is) v_not = u_is ∙ sym v_is
other_end e x u v (inr x_is) (inr u_is) u_not v_end v_not = absurd (u_not (u_is ∙ sym x_is))
other_end e x u v (inr x_is) (inl u_is) u_not (inr v_is) v_not = absurd (v_not (v_is ∙ sym x_is))
other_end e x u v (inr x_is) (inl u_is) u_not (inl v_is) v_not = u_is ∙ sym v_is

-- both ends of a loop are one vertex
pub loop_end : (e : Span) (x u : ℤ) → e.a ≡ e.b → HasEnd e x → HasEnd e u → u ≡ x
loop_end e x u loop (inl x_is) (inl u_is) = u_is ∙ sym x_is
loop_end e x u loop (inl x_is) (inr u_is) = u_is ∙ (sym loop ∙ sym x_is)
loop_end e x u loop (inr x_is) (inl u_is) = u_is ∙ (loop ∙ sym x_is)
loop_end e x u loop (inr x_is) (inr u_is) = u_is ∙ sym x_is

-- a span that is no loop has another end than x
pub end_beside : (e : Span) (x : ℤ) → HasEnd e x → e.a ≢ e.b → (u : ℤ) × HasEnd e u × (u ≢ x)
end_beside e x (inl x_is) differ = (e.b, inr refl, λ same. differ (sym (same ∙ x_is)))
end_beside e x (inr x_is) differ = (e.a, inl refl, λ same. differ (same ∙ x_is))

module _ (Has : Span → Type 0) (Linked : Span → Span → Type 0) where
  -- one list behind another
  pub leads_append : (e f g : Span) (xs ys : List Span) → LeadsOn Has Linked e xs f → LeadsOn Has Linked f ys g → LeadsOn Has Linked e (xs ++ ys) g
  leads_append e f g [] ys first second = subst (λ s. LeadsOn Has Linked s ys g) (sym first) second
  leads_append e f g (next ∷ rest) ys first second = (first.0, first.1, leads_append next f g rest ys first.2 second)

  -- the list ends with a span of the set
  pub leads_last : (e f : Span) (xs : List Span) → Has e → LeadsOn Has Linked e xs f → Has f
  leads_last e f [] has leads = subst Has leads has
  leads_last e f (next ∷ rest) has leads = leads_last next f rest leads.0 leads.2

  -- the list turned round
  pub leads_back : ((s t : Span) → Linked s t → Linked t s) → (e f : Span) (xs : List Span) → Has e → LeadsOn Has Linked e xs f → (ys : List Span) × LeadsOn Has Linked f ys e
  leads_back turn e f [] has leads = ([], sym leads)
  leads_back turn e f (next ∷ rest) has leads =
      let back = leads_back turn next f rest leads.0 leads.2 in
      (back.0 ++ e ∷ [], leads_append f next e back.0 (e ∷ []) back.1 (has, turn e next leads.1, refl))

-- a list over a set leads so over a larger set with more links
pub leads_weaker : (Has Some : Span → Type 0) (Linked Joined : Span → Span → Type 0) → ((s : Span) → Has s → Some s) → ((s t : Span) → Has t → Linked s t → Joined s t)
    → (e f : Span) (xs : List Span) → LeadsOn Has Linked e xs f → LeadsOn Some Joined e xs f
leads_weaker Has Some Linked Joined some joined e f [] leads = leads
leads_weaker Has Some Linked Joined some joined e f (next ∷ rest) leads =
    (some next leads.0, joined e next leads.0 leads.1, leads_weaker Has Some Linked Joined some joined next f rest leads.2)

module _ (spans : List Span) where
  pub outside_trans : (x : ℤ) (e f g : Span) → LinkedOutside spans x e f → LinkedOutside spans x f g → LinkedOutside spans x e g
  outside_trans x e f g (xs, first) (ys, second) = (xs ++ ys, leads_append (Contains spans) (ShareAnEndBeside x) e f g xs ys first second)

  pub outside_sym : (x : ℤ) (e f : Span) → Contains spans e → LinkedOutside spans x e f → LinkedOutside spans x f e
  outside_sym x e f has (xs, leads) = leads_back (Contains spans) (ShareAnEndBeside x) (λ s t (y, not, s_end, t_end). (y, not, t_end, s_end)) e f xs has leads

  pub outside_step : (x : ℤ) (e f : Span) → Contains spans f → ShareAnEndBeside x e f → LinkedOutside spans x e f
  outside_step x e f has share = (f ∷ [], (has, share, refl))

  -- in one block means linked outside every vertex
  pub outside_of : (e f : Span) → InOneBlock spans e f → (x : ℤ) → LinkedOutside spans x e f
  outside_of e f (inl same) x = ([], same)
  outside_of e f (inr linked) x = linked x

  pub block_sym : (e f : Span) → Contains spans e → InOneBlock spans e f → InOneBlock spans f e
  block_sym e f has block = inr (λ x. outside_sym x e f has (outside_of e f block x))

  pub block_trans : (e f g : Span) → InOneBlock spans e f → InOneBlock spans f g → InOneBlock spans e g
  block_trans e f g first second = inr (λ x. outside_trans x e f g (outside_of e f first x) (outside_of f g second x))

  -- two spans with a common end are in one block where they are linked outside it: outside any other vertex they share this end
  pub block_by_end : (e f : Span) (y : ℤ) → Contains spans f → HasEnd e y → HasEnd f y → LinkedOutside spans y e f → InOneBlock spans e f
  block_by_end e f y has e_end f_end linked =
      inr (λ x. ⊎_elim
      (λ same. subst (λ z. LinkedOutside spans z e f) (sym same) linked)
      (λ not. outside_step x e f has (y, λ same. not (sym same), e_end, f_end))
      (cases_id x y))

  -- a loop is in one block with itself alone
  pub loop_alone : (s t : Span) → s.a ≡ s.b → InOneBlock spans s t → s ≡ t
  loop_alone s t loop (inl same) = same
  loop_alone s t loop (inr linked) = by (linked s.a) where
    by : LinkedOutside spans s.a s t → s ≡ t
    by ([], leads) = leads
    by (next ∷ rest, leads) = absurd (leads.1.1 (loop_end s s.a leads.1.0 loop (inl refl) leads.1.2))
