-- A search with estimates over the lists that it fills: keys stand for the labels of waiting vertices.
use Rattle.std.proofs.Common.{◌≡◌, ℕ, zero, suc, ◌+◌, ◌-◌, ◌<◌, ◌≤◌, ◌^◌, ◌⊎◌, inl, inr, ⊎_elim, Bool, true, false, cond, List, [], ◌∷◌, Option, Some, None, IsNone, IsSome, All, Contains, length, get_or, set, refl, sym, ap, ◌∙◌, subst, arith}
use Rattle.std.specs.Borrow.{GName}
use Rattle.std.specs.Option.{is_some, is_none}
use Rattle.std.specs.List.{count_by, AllByRecursion}
use Rattle.std.proofs.lemmas.Bool.{cases_eq, cases_lt, false≢true}
use Rattle.std.proofs.lemmas.Option.{same_Some, none-some}
use Rattle.std.proofs.lemmas.List.{get_or-set_same, get_or-set_other, length-set, get_or_past, get_or_default}
use Rattle.std.proofs.lemmas.List.Elements.{Contains-get_or}
use Rattle.std.proofs.lemmas.List.Sums.{sum_by-set}
use Rattle.pgr_walks.specs.declared.link.LinkOf.{LinkOf}
use Rattle.pgr_walks.specs.declared.label.Label.{Label}
use Rattle.pgr_walks.specs.declared.visitor.Next.{Next}
use Rattle.pgr_walks.specs.declared.visitor.Next.TheVariants.{Go}
use Rattle.pgr_walks.specs.Visit.{shown, Admits}
use Rattle.pgr_walks.specs.Label.{AtMost, IsLeastLabel, IsLabel, beyond}
use Rattle.pgr_walks.specs.Graph.{IsLinkOf, IsLawful, Fits, greatest}
use Rattle.pgr_search.specs.declared.guiding.Key.{Key}
use Rattle.pgr_search.specs.declared.heap.Waiting.{Waiting}
use Rattle.pgr_search.specs.Estimates.{IsConsistent, keyed, NoneBeyond}
use Rattle.pgr_search.specs.FinalLabels.{label_at, HoldsFinalLabels, HoldsLabelsFrom}
use Rattle.pgr_search.specs.Guiding.{key_cmp, label_of_key, key_beyond, guided, all_guided, Guidance, guidance_after, CanGuide, IsGuided, StartsGuided}
use Rattle.pgr_search.specs.Start.{empty_label}
use Rattle.pgr_search.specs.Heap.{is_before, key_at, lowered, IsLeast}
use Rattle.pgr_search.proofs.LabelOrder.{AtMost-refl, AtMost-trans, less, not_less}
use Rattle.pgr_search.proofs.LabelSetting.{IsOffered, IsSearch, IsNext, IsRelaxed, search_begins, one_more_settled, settled_before, all_settled, next_is_least}
use Rattle.pgr_search.proofs.Listing.{no_label}

-- the label that a key stands for
abbrev pub labelled : (ℕ → ℕ) → ℕ → Option Key → Option Label
labelled values v None = None
labelled values v (Some key) = Some (label_of_key values v key)

-- the labels of waiting vertices
abbrev pub waiting_of : (ℕ → ℕ) → List (Option Key) → ℕ → Option Label
waiting_of values keys v = labelled values v (key_at keys v)

-- each key is at least the estimate of its vertex
abbrev pub AreEstimated : (ℕ → ℕ) → List (Option Key) → Type 0
AreEstimated values keys = (v : ℕ) (key : Key) → key_at keys v ≡ Some key → values v ≤ key.cost

labelled-some : (values : ℕ → ℕ) (v : ℕ) (o : Option Key) (label : Label) → labelled values v o ≡ Some label → (key : Key) × (o ≡ Some key) × (label_of_key values v key ≡ label)
labelled-some values v None label e = absurd (none-some label e)
labelled-some values v (Some key) label e = (key, refl, same_Some (label_of_key values v key) label e)

-- a key read as a label
abbrev as_label : Key → Label
as_label key = record { cost = key.cost; hops = key.hops }

-- the order of keys at one vertex is that of the labels
labels_by_keys : (values : ℕ → ℕ) (v : ℕ) (a b : Key) → values v ≤ a.cost → AtMost (as_label a) (as_label b) → AtMost (label_of_key values v a) (label_of_key values v b)
labels_by_keys values v a b h (inl lt) = inl (omega (arith, h, lt))
labels_by_keys values v a b h (inr same) = inr (omega (arith, same.0), same.1)

-- and that of keys at two vertices that of the labels with their estimates
keyed_by_keys : (values : ℕ → ℕ) (v u : ℕ) (a b : Key) → values v ≤ a.cost → values u ≤ b.cost → AtMost (as_label a) (as_label b)
    → AtMost (keyed values v (label_of_key values v a)) (keyed values u (label_of_key values u b))
keyed_by_keys values v u a b h k (inl lt) = inl (omega (arith, h, k, lt))
keyed_by_keys values v u a b h k (inr same) = inr (omega (arith, h, k, same.0), same.1)

-- the key beyond a link stands for the label beyond it
label_beyond : (values : ℕ → ℕ) (label : Label) (link : LinkOf ℕ) → label_of_key values link.from (key_beyond values label link) ≡ beyond label link
label_beyond values label link = let cost : label.cost + link.cost + values link.from - values link.from ≡ label.cost + link.cost = omega arith in
    λ i. record { cost = cost i; hops = label.hops + 1 }

HasLabel-from_test : (o : Option Label) → is_some o ≡ true → (label : Label) × (o ≡ Some label)
HasLabel-from_test None e = absurd (false≢true e)
HasLabel-from_test (Some label) e = (label, refl)

pub None-from_test : (o : Option Label) → is_some o ≡ false → o ≡ None
None-from_test None e = refl
None-from_test (Some label) e = absurd (false≢true (sym e))

before_old : (new : Key) (o : Option Key) (old : Key) → is_before key_cmp (Some new) o ≡ true → o ≡ Some old → AtMost (as_label new) (as_label old)
before_old new None old e is = absurd (none-some old is)
before_old new (Some other) old e is = subst (λ k. AtMost (as_label new) (as_label k)) (same_Some other old is) (less (as_label new) (as_label other) e)

not_before_new : (new : Key) (o : Option Key) → is_before key_cmp (Some new) o ≡ false → (old : Key) × (o ≡ Some old) × AtMost (as_label old) (as_label new)
not_before_new new None e = absurd (false≢true (sym e))
not_before_new new (Some old) e = (old, refl, not_less (as_label new) (as_label old) e)

-- what one link leaves
record IsStep (values : ℕ → ℕ) (settled : List (Option Label)) (keys : List (Option Key)) (label : Label) (link : LinkOf ℕ) (after : List (Option Key)) : Type 0 where
  kept : (v : ℕ) (new : Label) → waiting_of values after v ≡ Some new
      → (waiting_of values keys v ≡ Some new) ⊎ ((link.from ≡ v) × (new ≡ beyond label link) × (label_at settled v ≡ None))
  lowers : (v : ℕ) (old : Label) → waiting_of values keys v ≡ Some old → (new : Label) × (waiting_of values after v ≡ Some new) × AtMost new old
  offers : IsOffered (label_at settled) (waiting_of values after) link.from (beyond label link)
  estimated : AreEstimated values after
  size : length after ≡ length keys

module _ (values : ℕ → ℕ) (settled : List (Option Label)) (keys : List (Option Key)) (label : Label) (link : LinkOf ℕ) (below : link.from < length keys)
    (estimated : AreEstimated values keys) where
  stays : IsOffered (label_at settled) (waiting_of values keys) link.from (beyond label link) → IsStep values settled keys label link keys
  stays offers = record {
    kept = λ v new e. inl e;
    lowers = λ v old e. (old, e, AtMost-refl old);
    offers = offers;
    estimated = estimated;
    size = refl;
  }

  written : label_at settled link.from ≡ None → is_before key_cmp (Some (key_beyond values label link)) (key_at keys link.from) ≡ true
      → IsStep values settled keys label link (set keys link.from (Some (key_beyond values label link)))
  written free e = record {
    kept = λ v new is. kept v new is (cases_eq v link.from);
    lowers = λ v old is. lowers v old is (cases_eq v link.from);
    offers = inr (beyond label link, here, AtMost-refl (beyond label link));
    estimated = λ v key is. over v key is (cases_eq v link.from);
    size = length-set keys link.from (Some (key_beyond values label link));
  }
    where
      key_here : key_at (set keys link.from (Some (key_beyond values label link))) link.from ≡ Some (key_beyond values label link)
      key_here = get_or-set_same keys link.from (Some (key_beyond values label link)) None below

      key_other : (v : ℕ) → (v ≡ link.from → ⊥) → key_at (set keys link.from (Some (key_beyond values label link))) v ≡ key_at keys v
      key_other v differs = get_or-set_other keys link.from v (Some (key_beyond values label link)) None differs

      here : waiting_of values (set keys link.from (Some (key_beyond values label link))) link.from ≡ Some (beyond label link)
      here = ap (labelled values link.from) key_here ∙ ap Some (label_beyond values label link)

      other : (v : ℕ) → (v ≡ link.from → ⊥) → waiting_of values (set keys link.from (Some (key_beyond values label link))) v ≡ waiting_of values keys v
      other v differs = ap (labelled values v) (key_other v differs)

      kept : (v : ℕ) (new : Label) → waiting_of values (set keys link.from (Some (key_beyond values label link))) v ≡ Some new → (v ≡ link.from) ⊎ (v ≡ link.from → ⊥)
          → (waiting_of values keys v ≡ Some new) ⊎ ((link.from ≡ v) × (new ≡ beyond label link) × (label_at settled v ≡ None))
      kept v new is (inl same) = inr (
        sym same,
        sym (same_Some (beyond label link) new
            (sym here ∙ ap (waiting_of values (set keys link.from (Some (key_beyond values label link)))) (sym same) ∙ is)),
        ap (label_at settled) same ∙ free,
      )
      kept v new is (inr differs) = inl (sym (other v differs) ∙ is)

      lowers : (v : ℕ) (old : Label) → waiting_of values keys v ≡ Some old → (v ≡ link.from) ⊎ (v ≡ link.from → ⊥)
          → (new : Label) × (waiting_of values (set keys link.from (Some (key_beyond values label link))) v ≡ Some new) × AtMost new old
      lowers v old is (inl same) =
          let was = labelled-some values link.from (key_at keys link.from) old (ap (waiting_of values keys) (sym same) ∙ is) in
          let within = before_old (key_beyond values label link) (key_at keys link.from) was.0 e was.1 in
          let low = labels_by_keys values link.from (key_beyond values label link) was.0 (omega arith) within in (
            beyond label link,
            ap (waiting_of values (set keys link.from (Some (key_beyond values label link)))) same ∙ here,
            subst (λ l. AtMost l old) (label_beyond values label link) (subst (AtMost (label_of_key values link.from (key_beyond values label link))) was.2 low),
          )
      lowers v old is (inr differs) = (old, other v differs ∙ is, AtMost-refl old)

      over : (v : ℕ) (key : Key) → key_at (set keys link.from (Some (key_beyond values label link))) v ≡ Some key → (v ≡ link.from) ⊎ (v ≡ link.from → ⊥) → values v ≤ key.cost
      over v key is (inl same) =
          let key_is : key_beyond values label link ≡ key =
          same_Some (key_beyond values label link) key (sym key_here ∙ ap (key_at (set keys link.from (Some (key_beyond values label link)))) (sym same) ∙ is) in
          omega (arith, ap values same, ap (λ (k : Key). k.cost) key_is)
      over v key is (inr differs) = estimated v key (sym (key_other v differs) ∙ is)

  lowered_step : label_at settled link.from ≡ None → (b : Bool) → is_before key_cmp (Some (key_beyond values label link)) (key_at keys link.from) ≡ b
      → IsStep values settled keys label link (cond b (set keys link.from (Some (key_beyond values label link))) keys)
  lowered_step free true e = written free e
  lowered_step free false e =
      let old = not_before_new (key_beyond values label link) (key_at keys link.from) e in
      let within = labels_by_keys values link.from old.0 (key_beyond values label link) (estimated link.from old.0 old.1) old.2 in
      stays (inr (
        label_of_key values link.from old.0,
        ap (labelled values link.from) old.1,
        subst (AtMost (label_of_key values link.from old.0)) (label_beyond values label link) within,
      ))

  guided_step : (b : Bool) → is_some (label_at settled link.from) ≡ b
      → IsStep values settled keys label link (cond b keys (lowered key_cmp keys link.from (key_beyond values label link)))
  guided_step true e = stays (inl (HasLabel-from_test (label_at settled link.from) e))
  guided_step false e = lowered_step (None-from_test (label_at settled link.from) e) (is_before key_cmp (Some (key_beyond values label link)) (key_at keys link.from)) refl

  step : IsStep values settled keys label link (guided values settled keys label link)
  step = guided_step (is_some (label_at settled link.from)) refl

-- what all links leave
pub record AreGuided (values : ℕ → ℕ) (settled : List (Option Label)) (keys : List (Option Key)) (label : Label) (links : List (LinkOf ℕ))
    (after : List (Option Key)) : Type 0 where
  pub relaxed : IsRelaxed (Contains links) label (label_at settled) (waiting_of values keys) (waiting_of values after)
  pub estimated : AreEstimated values after
  pub size : length after ≡ length keys

pub all_guided_step : (values : ℕ → ℕ) (settled : List (Option Label)) (keys : List (Option Key)) (label : Label) (links : List (LinkOf ℕ))
    → ((link : LinkOf ℕ) → Contains links link → link.from < length keys) → AreEstimated values keys
    → AreGuided values settled keys label links (all_guided values settled keys label links)
all_guided_step values settled keys label [] below estimated = record {
  relaxed = record { kept = λ v new e. inl e; lowers = λ v old e. (old, e, AtMost-refl old); each = λ link (k, lt, is). absurd (omega (arith, lt)) };
  estimated = estimated;
  size = refl;
}
all_guided_step values settled keys label (link ∷ links) below estimated =
    let first = step values settled keys label link (below link (0, omega arith, refl)) estimated in
    join first (all_guided_step values settled (guided values settled keys label link) label links
    (λ other has. (let lt = below other (suc has.0, omega (arith, has.1), has.2) in omega (arith, lt, first.size))) first.estimated)
  where
    join : IsStep values settled keys label link (guided values settled keys label link) → AreGuided values settled (guided values settled keys label link) label links
        (all_guided values settled (guided values settled keys label link) label links)
        → AreGuided values settled keys label (link ∷ links) (all_guided values settled (guided values settled keys label link) label links)
    join s g = record {
      relaxed = record {
        kept = λ v new e. kept v new (g.relaxed.kept v new e);
        lowers = λ v old e. (let first = s.lowers v old e in let rest = g.relaxed.lowers v first.0 first.1 in (rest.0, rest.1, AtMost-trans rest.0 first.0 old rest.2 first.2));
        each = each;
      };
      estimated = g.estimated;
      size = g.size ∙ s.size;
    }
      where
        kept : (v : ℕ) (new : Label) → (waiting_of values (guided values settled keys label link) v ≡ Some new)
            ⊎ ((other : LinkOf ℕ) × (Contains links other × (other.from ≡ v) × (new ≡ beyond label other) × (label_at settled v ≡ None)))
            → (waiting_of values keys v ≡ Some new)
            ⊎ ((other : LinkOf ℕ) × (Contains (link ∷ links) other × (other.from ≡ v) × (new ≡ beyond label other) × (label_at settled v ≡ None)))
        kept v new (inl e) = first (s.kept v new e)
          where
            first : (waiting_of values keys v ≡ Some new) ⊎ ((link.from ≡ v) × (new ≡ beyond label link) × (label_at settled v ≡ None))
                → (waiting_of values keys v ≡ Some new)
                ⊎ ((other : LinkOf ℕ) × (Contains (link ∷ links) other × (other.from ≡ v) × (new ≡ beyond label other) × (label_at settled v ≡ None)))
            first (inl was) = inl was
            first (inr h) = inr (link, ((0, omega arith, refl), h.0, h.1, h.2))
        kept v new (inr (other, h)) = inr (other, ((suc h.0.0, omega (arith, h.0.1), h.0.2), h.1, h.2, h.3))

        falls : (bound : Label) (from : ℕ) → IsOffered (label_at settled) (waiting_of values (guided values settled keys label link)) from bound
            → IsOffered (label_at settled) (waiting_of values (all_guided values settled (guided values settled keys label link) label links)) from bound
        falls bound from (inl has) = inl has
        falls bound from (inr (old, waits, within)) = let low = g.relaxed.lowers from old waits in inr (low.0, low.1, AtMost-trans low.0 old bound low.2 within)

        each : (other : LinkOf ℕ) → Contains (link ∷ links) other
            → IsOffered (label_at settled) (waiting_of values (all_guided values settled (guided values settled keys label link) label links)) other.from (beyond label other)
        each other (zero, lt, is) = subst (λ l. IsOffered (label_at settled) (waiting_of values
            (all_guided values settled (guided values settled keys label link) label links)) l.from (beyond label l)) is (falls (beyond label link) link.from s.offers)
        each other (suc k, lt, is) = g.relaxed.each other (k, omega (arith, lt), is)

-- a search under way whose lists have a place for each vertex
pub record IsGuiding (size : ℕ) (ins : ℕ → List (LinkOf ℕ)) (targets : List ℕ) (values : ℕ → ℕ) (settled : List (Option Label)) (keys : List (Option Key)) : Type 0 where
  pub settled_len : length settled ≡ size
  pub keys_len : length keys ≡ size
  pub search : IsSearch (IsLinkOf size ins) targets values (label_at settled) (waiting_of values keys)
  pub estimated : AreEstimated values keys

pub starts_guiding : (size : ℕ) (ins : ℕ → List (LinkOf ℕ)) (targets : List ℕ) (values : ℕ → ℕ) (settled : List (Option Label)) (keys : List (Option Key))
    → length settled ≡ size → length keys ≡ size → All IsNone settled → StartsGuided values targets keys → IsGuiding size ins targets values settled keys
starts_guiding size ins targets values settled keys settled_len keys_len none s = record {
  settled_len = settled_len;
  keys_len = keys_len;
  search = search_begins (IsLinkOf size ins) targets values (label_at settled) (waiting_of values keys) (no_label settled none) marked others;
  estimated = λ v key e. (let o = s.others v key e in omega (arith, ap (λ (k : Key). k.cost) o.1));
}
  where
    empty : (v : ℕ) → label_of_key values v (record { cost = values v; hops = 0 }) ≡ empty_label
    empty v = let none : values v - values v ≡ 0 = omega arith in λ i. record { cost = none i; hops = 0 }

    marked : (t : ℕ) → Contains targets t → waiting_of values keys t ≡ Some empty_label
    marked t target = ap (labelled values t) (s.marked t target) ∙ ap Some (empty t)

    others : (v : ℕ) (label : Label) → waiting_of values keys v ≡ Some label → Contains targets v × (label ≡ empty_label)
    others v label e =
        let key = labelled-some values v (key_at keys v) label e in
        let o = s.others v key.0 key.1 in
        (o.0, sym key.2 ∙ ap (label_of_key values v) o.1 ∙ empty v)

-- where the start isn't settled none is beyond it
none_beyond_unsettled : (values : ℕ → ℕ) (settled : List (Option Label)) (start : ℕ) → label_at settled start ≡ None → NoneBeyond values settled start
none_beyond_unsettled values settled start unsettled v label own e f = absurd (none-some own (sym unsettled ∙ f))

pub starts_within : (values : ℕ → ℕ) (settled : List (Option Label)) (start : ℕ) → All IsNone settled → NoneBeyond values settled start
starts_within values settled start none = none_beyond_unsettled values settled start (no_label settled none start)

-- where no vertex has a key none waits
none_waits : (values : ℕ → ℕ) (keys : List (Option Key)) → All IsNone keys → (v : ℕ) (label : Label) → waiting_of values keys v ≡ Some label → ⊥
none_waits values keys none v label e = at (cases_lt v (length keys))
  where
    is_none_key : (o : Option Key) → IsNone o → o ≡ None
    is_none_key None h = refl
    is_none_key (Some key) h = cc

    at : (v < length keys) ⊎ (length keys ≤ v) → ⊥
    at (inl below) = none-some label (sym (ap (labelled values v) (is_none_key (key_at keys v) (none v None below))) ∙ e)
    at (inr past) = none-some label (sym (ap (labelled values v) (get_or_past keys v None past)) ∙ e)

has_place : (keys : List (Option Key)) (v : ℕ) (key : Key) → key_at keys v ≡ Some key → v < length keys
has_place keys v key e = ⊎_elim (λ lt. lt) (λ past. absurd (none-some key (sym (get_or_past keys v None past) ∙ e))) (cases_lt v (length keys))

module _ (size : ℕ) (outs ins : ℕ → List (LinkOf ℕ)) (lawful : IsLawful size outs ins) (targets : List ℕ) (values : ℕ → ℕ)
    (consistent : IsConsistent (IsLinkOf size ins) values) (settled : List (Option Label)) (keys : List (Option Key)) (r : IsGuiding size ins targets values settled keys) where
  -- labels are final at any turn
  pub labels_final : HoldsFinalLabels size (IsLinkOf size ins) targets settled
  labels_final = record {
    size_is = r.settled_len;
    least = r.search.least;
    along = λ v link rest e leads. (let has = r.search.along v link rest e leads in subst IsSome (sym has.1) refl);
  }

  -- that of a settled vertex, and of each vertex where none waits, is known
  pub known_settled : (v : ℕ) (label : Label) → label_at settled v ≡ Some label → HoldsLabelsFrom size (IsLinkOf size ins) targets settled v
  known_settled v label e = record { final = labels_final; label = subst (IsLabel (IsLinkOf size ins) targets v) (sym e) (r.search.least v label e) }

  pub known_all : All IsNone keys → (v : ℕ) → HoldsLabelsFrom size (IsLinkOf size ins) targets settled v
  known_all none v = record {
    final = labels_final;
    label =
        all_settled (IsLinkOf size ins) targets values consistent (label_at settled) (waiting_of values keys) r.search (none_waits values keys none) v;
  }

  pub known_labelled : (v : ℕ) (o : Option Label) → o ≡ label_at settled v → is_some o ≡ true → HoldsLabelsFrom size (IsLinkOf size ins) targets settled v
  known_labelled v o is some = let has = HasLabel-from_test o some in known_settled v has.0 (sym is ∙ has.1)

  module _ (nearest : Waiting Key) (n : IsLeast key_cmp keys nearest) where
    abbrev here : Label
    here = label_of_key values nearest.vertex nearest.key

    pub is_estimated : values nearest.vertex ≤ nearest.key.cost
    is_estimated = r.estimated nearest.vertex nearest.key n.waits

    next : IsNext values (waiting_of values keys) nearest.vertex here
    next = record {
      waits = ap (labelled values nearest.vertex) n.waits;
      least = λ u other e. (let key = labelled-some values u (key_at keys u) other e in
          subst (λ l. AtMost (keyed values nearest.vertex here) (keyed values u l)) key.2
          (keyed_by_keys values nearest.vertex u nearest.key key.0 is_estimated (r.estimated u key.0 key.1)
          (not_less (as_label key.0) (as_label nearest.key) (n.least u key.0 key.1))));
    }

    pub nearest_below : nearest.vertex < size
    nearest_below = omega (arith, has_place keys nearest.vertex nearest.key n.waits, r.keys_len)

    pub nearest_waits : label_at settled nearest.vertex ≡ None
    nearest_waits = r.search.apart nearest.vertex here (ap (labelled values nearest.vertex) n.waits)

    -- sums fit, since a least label is small
    module _ (few : size < 2 ^ 32) (fits : Fits (IsLinkOf size ins)) (small_values : (v : ℕ) → v < size → values v < 2 ^ 127)
        (small : (of : List ℕ) (v : ℕ) (label : Label) → v < size → IsLeastLabel (IsLinkOf size ins) of v label → (label.cost ≤ greatest) × (label.hops < size)) where
      label_small : (here.cost ≤ greatest) × (here.hops < size)
      label_small = small targets nearest.vertex here nearest_below
          (next_is_least (IsLinkOf size ins) targets values consistent (label_at settled) (waiting_of values keys) r.search nearest.vertex here next)

      pub label_fits : nearest.key.cost - values nearest.vertex < 2 ^ 64
      label_fits = omega (arith, label_small.0)

      pub round_fits : All (CanGuide size values here) (ins nearest.vertex)
      round_fits = λ k d lt. one (get_or (ins nearest.vertex) k d) (Contains-get_or (ins nearest.vertex) k d lt)
        where
          one : (link : LinkOf ℕ) → Contains (ins nearest.vertex) link → CanGuide size values here link
          one link has =
              let e = (lawful.at nearest.vertex nearest_below).in_ends link has in
              let there : Contains (ins link.to) link = subst (λ x. Contains (ins x) link) (sym e.0) has in
              let to_below : link.to < size = omega (arith, e.0, nearest_below) in
              let cost : link.cost ≤ greatest = fits.links link (to_below, there) in
              record {
                from_below = e.1;
                cost_fits = omega (arith, label_small.0, cost);
                hops_fit = omega (arith, label_small.1, few);
                value_fits = small_values link.from e.1;
              }

    module _ (settled_after : List (Option Label)) (keys_after : List (Option Key)) (settled_is : settled_after ≡ set settled nearest.vertex (Some here))
        (keys_are : keys_after ≡ all_guided values settled_after (set keys nearest.vertex None) here (ins nearest.vertex)) where
      ends : (link : LinkOf ℕ) → Contains (ins nearest.vertex) link → (link.to ≡ nearest.vertex) × (link.from < size)
      ends = (lawful.at nearest.vertex nearest_below).in_ends

      without_len : length (set keys nearest.vertex None) ≡ size
      without_len = length-set keys nearest.vertex None ∙ r.keys_len

      key_here : key_at (set keys nearest.vertex None) nearest.vertex ≡ None
      key_here = get_or-set_same keys nearest.vertex None None (omega (arith, nearest_below, r.keys_len))

      key_other : (v : ℕ) → (v ≡ nearest.vertex → ⊥) → key_at (set keys nearest.vertex None) v ≡ key_at keys v
      key_other v differs = get_or-set_other keys nearest.vertex v None None differs

      still_estimated : AreEstimated values (set keys nearest.vertex None)
      still_estimated v key e = at (cases_eq v nearest.vertex)
        where
          at : (v ≡ nearest.vertex) ⊎ (v ≡ nearest.vertex → ⊥) → values v ≤ key.cost
          at (inl same) = absurd (none-some key (sym key_here ∙ ap (key_at (set keys nearest.vertex None)) (sym same) ∙ e))
          at (inr differs) = r.estimated v key (sym (key_other v differs) ∙ e)

      step_of : AreGuided values settled_after (set keys nearest.vertex None) here (ins nearest.vertex) keys_after
      step_of = subst (AreGuided values settled_after (set keys nearest.vertex None) here (ins nearest.vertex)) (sym keys_are)
          (all_guided_step values settled_after (set keys nearest.vertex None) here (ins nearest.vertex)
          (λ link has. omega (arith, (ends link has).1, without_len)) still_estimated)

      relaxes : IsRelaxed (λ link. IsLinkOf size ins link × (link.to ≡ nearest.vertex)) here (label_at settled_after) (waiting_of values (set keys nearest.vertex None))
          (waiting_of values keys_after)
      relaxes = record {
        kept = λ v new e. kept v new (step_of.relaxed.kept v new e);
        lowers = step_of.relaxed.lowers;
        each = λ link h. step_of.relaxed.each link (subst (λ x. Contains (ins x) link) h.1 h.0.1);
      }
        where
          kept : (v : ℕ) (new : Label) → (waiting_of values (set keys nearest.vertex None) v ≡ Some new)
              ⊎ ((link : LinkOf ℕ) × (Contains (ins nearest.vertex) link × (link.from ≡ v) × (new ≡ beyond here link) × (label_at settled_after v ≡ None)))
              → (waiting_of values (set keys nearest.vertex None) v ≡ Some new)
              ⊎ ((link : LinkOf ℕ) × ((IsLinkOf size ins link × (link.to ≡ nearest.vertex)) × (link.from ≡ v) × (new ≡ beyond here link) × (label_at settled_after v ≡ None)))
          kept v new (inl was) = inl was
          kept v new (inr (link, h)) =
              let to = (ends link h.0).0 in
              inr (link, (((omega (arith, to, nearest_below), subst (λ x. Contains (ins x) link) (sym to) h.0), to), h.1, h.2, h.3))

      settled_here : label_at settled_after nearest.vertex ≡ Some here
      settled_here = ap (λ xs. label_at xs nearest.vertex) settled_is ∙ get_or-set_same settled nearest.vertex (Some here) None (omega (arith, nearest_below, r.settled_len))

      settled_other : (v : ℕ) → (v ≡ nearest.vertex → ⊥) → label_at settled_after v ≡ label_at settled v
      settled_other v differs = ap (λ xs. label_at xs v) settled_is ∙ get_or-set_other settled nearest.vertex v (Some here) None differs

      pub round_guiding : IsGuiding size ins targets values settled_after keys_after
      round_guiding = record {
        settled_len = ap length settled_is ∙ length-set settled nearest.vertex (Some here) ∙ r.settled_len;
        keys_len = step_of.size ∙ without_len;
        search = one_more_settled (IsLinkOf size ins) targets values consistent (label_at settled) (waiting_of values keys) r.search nearest.vertex here next
            (label_at settled_after) (waiting_of values (set keys nearest.vertex None)) (waiting_of values keys_after)
            settled_here settled_other (ap (labelled values nearest.vertex) key_here) (λ v differs. ap (labelled values v) (key_other v differs)) relaxes;
        estimated = step_of.estimated;
      }

      -- a start that wasn't settled is now, as the last one, or still isn't
      pub round_within : (start : ℕ) → label_at settled start ≡ None → NoneBeyond values settled_after start
      round_within start unsettled = at (cases_eq start nearest.vertex)
        where
          last : (v : ℕ) (label : Label) → label_at settled_after v ≡ Some label → AtMost (keyed values v label) (keyed values nearest.vertex here)
          last = settled_before (IsLinkOf size ins) targets values consistent (label_at settled) (waiting_of values keys) r.search nearest.vertex here next
              (label_at settled_after) (waiting_of values (set keys nearest.vertex None)) (waiting_of values keys_after)
              settled_here settled_other (ap (labelled values nearest.vertex) key_here) (λ v differs. ap (labelled values v) (key_other v differs)) relaxes

          at : (start ≡ nearest.vertex) ⊎ (start ≡ nearest.vertex → ⊥) → NoneBeyond values settled_after start
          at (inl same) = λ v label own e f.
              (let is : here ≡ own = same_Some here own (sym settled_here ∙ ap (label_at settled_after) (sym same) ∙ f) in
              subst (λ u. AtMost (keyed values v label) (keyed values u own)) (sym same)
              (subst (λ l. AtMost (keyed values v label) (keyed values nearest.vertex l)) is (last v label e)))
          at (inr differs) = none_beyond_unsettled values settled_after start (settled_other start differs ∙ unsettled)

      -- one vertex less is left
      pub fewer_left : count_by is_none settled_after < count_by is_none settled
      fewer_left =
          let fewer = sum_by-set (λ (o : Option Label). cond (is_none o) 1 0) settled nearest.vertex (Some here) None (omega (arith, nearest_below, r.settled_len)) in
          let one : ◌≡◌ {A = ℕ} (cond (is_none (label_at settled nearest.vertex)) 1 0) 1 = ap (λ (o : Option Label). cond (is_none o) 1 0) nearest_waits in
          omega (arith, fewer, one, ap (count_by is_none) settled_is)

-- what a search with an estimate keeps up to its start
pub record IsGuidingTo (size : ℕ) (ins : ℕ → List (LinkOf ℕ)) (targets : List ℕ) (start : ℕ) (values : ℕ → ℕ) (settled : List (Option Label))
    (keys : List (Option Key)) : Type 0 where
  pub guiding : IsGuiding size ins targets values settled keys
  pub within : NoneBeyond values settled start

-- how the keys of targets are set, one target after another
pub record StartsGuidedUpTo (values : ℕ → ℕ) (targets : List ℕ) (keys : List (Option Key)) (n : ℕ) : Type 0 where
  pub marked : (k : ℕ) → k < n → key_at keys (get_or targets k 0) ≡ Some (record { cost = values (get_or targets k 0); hops = 0 })
  pub others : (v : ℕ) (key : Key) → key_at keys v ≡ Some key → Contains targets v × (key ≡ record { cost = values v; hops = 0 })

pub StartsGuidedUpTo-none : (values : ℕ → ℕ) (targets : List ℕ) (keys : List (Option Key)) → All IsNone keys → StartsGuidedUpTo values targets keys 0
StartsGuidedUpTo-none values targets keys none = record {
  marked = λ k lt. absurd (omega arith);
  others = λ v key e. absurd (none_waits values keys none v (label_of_key values v key) (ap (labelled values v) e));
}

pub StartsGuidedUpTo-more : (values : ℕ → ℕ) (targets : List ℕ) (keys : List (Option Key)) (n : ℕ) → n < length targets → get_or targets n 0 < length keys
    → StartsGuidedUpTo values targets keys n
    → StartsGuidedUpTo values targets (set keys (get_or targets n 0) (Some (record { cost = values (get_or targets n 0); hops = 0 }))) (n + 1)
StartsGuidedUpTo-more values targets keys n lt below s = record {
  marked = λ k h. mark k h (cases_eq (get_or targets k 0) (get_or targets n 0));
  others = λ v key e. other v key e (cases_eq v (get_or targets n 0));
}
  where
    here : key_at (set keys (get_or targets n 0) (Some (record { cost = values (get_or targets n 0); hops = 0 }))) (get_or targets n 0) ≡ Some
        (record { cost = values (get_or targets n 0); hops = 0 })
    here = get_or-set_same keys (get_or targets n 0) (Some (record { cost = values (get_or targets n 0); hops = 0 })) None below

    mark : (k : ℕ) → k < n + 1 → (get_or targets k 0 ≡ get_or targets n 0) ⊎ (get_or targets k 0 ≡ get_or targets n 0 → ⊥)
        → key_at (set keys (get_or targets n 0) (Some (record { cost = values (get_or targets n 0); hops = 0 }))) (get_or targets k 0) ≡ Some
        (record { cost = values (get_or targets k 0); hops = 0 })
    mark k h (inl same) =
        let now : key_at (set keys (get_or targets n 0) (Some (record { cost = values (get_or targets n 0); hops = 0 }))) (get_or targets k 0) ≡ Some
        (record { cost = values (get_or targets n 0); hops = 0 }) =
        ap (key_at (set keys (get_or targets n 0) (Some (record { cost = values (get_or targets n 0); hops = 0 })))) same ∙ here in
        subst (λ x. key_at (set keys (get_or targets n 0) (Some (record { cost = values (get_or targets n 0); hops = 0 }))) (get_or targets k 0) ≡ Some
        (record { cost = values x; hops = 0 })) (sym same) now
    mark k h (inr differ) =
        let earlier : k < n = ⊎_elim (λ (e : k ≡ n). absurd (differ (ap (λ x. get_or targets x 0) e))) (λ (ne : k ≡ n → ⊥). omega arith) (cases_eq k n) in
        get_or-set_other keys (get_or targets n 0) (get_or targets k 0) (Some (record { cost = values (get_or targets n 0); hops = 0 })) None differ ∙ s.marked k earlier

    other : (v : ℕ) (key : Key) → key_at (set keys (get_or targets n 0) (Some (record { cost = values (get_or targets n 0); hops = 0 }))) v ≡ Some key
        → (v ≡ get_or targets n 0) ⊎ (v ≡ get_or targets n 0 → ⊥) → Contains targets v × (key ≡ record { cost = values v; hops = 0 })
    other v key e (inl same) =
        let is : record { cost = values (get_or targets n 0); hops = 0 } ≡ key = same_Some (record { cost = values (get_or targets n 0); hops = 0 }) key
        (sym here ∙ ap (key_at (set keys (get_or targets n 0) (Some (record { cost = values (get_or targets n 0); hops = 0 })))) (sym same) ∙ e) in
        (subst (λ x. Contains targets x) (sym same) (Contains-get_or targets n 0 lt), subst (λ x. key ≡ record { cost = values x; hops = 0 }) (sym same) (sym is))
    other v key e (inr differ) =
        s.others v key (sym (get_or-set_other keys (get_or targets n 0) v (Some (record { cost = values (get_or targets n 0); hops = 0 })) None differ) ∙ e)

-- one target more, whose key is lowered
module _ (values : ℕ → ℕ) (targets : List ℕ) (keys : List (Option Key)) (n : ℕ) (lt : n < length targets) (below : get_or targets n 0 < length keys)
    (s : StartsGuidedUpTo values targets keys n) where
  abbrev first_key : Key
  first_key = record { cost = values (get_or targets n 0); hops = 0 }

  marked_before : is_before key_cmp (Some first_key) (key_at keys (get_or targets n 0)) ≡ false → (o : Option Key) → key_at keys (get_or targets n 0) ≡ o
      → key_at keys (get_or targets n 0) ≡ Some first_key
  marked_before e None f = let clash : true ≡ false = sym (λ i. is_before key_cmp (Some first_key) (f i)) ∙ e in cc
  marked_before e (Some key) f = f ∙ ap (λ (k : Key). Some k) (s.others (get_or targets n 0) key f).1

  lowered_more : (b : Bool) → is_before key_cmp (Some first_key) (key_at keys (get_or targets n 0)) ≡ b
      → StartsGuidedUpTo values targets (cond b (set keys (get_or targets n 0) (Some first_key)) keys) (n + 1)
  lowered_more true e = StartsGuidedUpTo-more values targets keys n lt below s
  lowered_more false e = record { marked = λ k h. mark k h (cases_eq k n); others = s.others }
    where
      mark : (k : ℕ) → k < n + 1 → (k ≡ n) ⊎ (k ≡ n → ⊥) → key_at keys (get_or targets k 0) ≡ Some (record { cost = values (get_or targets k 0); hops = 0 })
      mark k h (inl same) =
          subst (λ m. key_at keys (get_or targets m 0) ≡ Some (record { cost = values (get_or targets m 0); hops = 0 })) (sym same)
          (marked_before e (key_at keys (get_or targets n 0)) refl)
      mark k h (inr differ) = s.marked k (omega arith)

  lowered_size : (b : Bool) → length (cond b (set keys (get_or targets n 0) (Some first_key)) keys) ≡ length keys
  lowered_size true = length-set keys (get_or targets n 0) (Some first_key)
  lowered_size false = refl

  pub StartsGuidedUpTo-lower : StartsGuidedUpTo values targets (lowered key_cmp keys (get_or targets n 0) first_key) (n + 1)
  StartsGuidedUpTo-lower = lowered_more (is_before key_cmp (Some first_key) (key_at keys (get_or targets n 0))) refl

  pub length-lower : length (lowered key_cmp keys (get_or targets n 0) first_key) ≡ length keys
  length-lower = lowered_size (is_before key_cmp (Some first_key) (key_at keys (get_or targets n 0)))

pub StartsGuided-from_all : (values : ℕ → ℕ) (targets : List ℕ) (keys : List (Option Key)) → StartsGuidedUpTo values targets keys (length targets)
    → StartsGuided values targets keys
StartsGuided-from_all values targets keys s = record {
  marked = λ t is. (let at = s.marked is.0 is.1 in let e : get_or targets is.0 0 ≡ t = get_or_default targets is.0 0 t is.1 ∙ is.2 in
      subst (λ x. key_at keys x ≡ Some (record { cost = values x; hops = 0 })) e at);
  others = s.others;
}

-- ---- the visitor

abbrev pub always_on : Guidance → LinkOf ℕ → Next
always_on meaning link = Go

length-guided : (values : ℕ → ℕ) (settled : List (Option Label)) (keys : List (Option Key)) (label : Label) (link : LinkOf ℕ)
    → length (guided values settled keys label link) ≡ length keys
length-guided values settled keys label link = at (is_some (label_at settled link.from))
  where
    low : (b : Bool) → length (cond b (set keys link.from (Some (key_beyond values label link))) keys) ≡ length keys
    low true = length-set keys link.from (Some (key_beyond values label link))
    low false = refl

    at : (b : Bool) → length (cond b keys (lowered key_cmp keys link.from (key_beyond values label link))) ≡ length keys
    at true = refl
    at false = low (is_before key_cmp (Some (key_beyond values label link)) (key_at keys link.from))

shown_is : (meaning : Guidance) (links : List (LinkOf ℕ))
    → shown guidance_after always_on meaning links ≡ record meaning { keys = all_guided meaning.values meaning.settled meaning.keys meaning.label links }
shown_is meaning [] = refl
shown_is meaning (link ∷ links) = shown_is (guidance_after meaning link) links

Admits-from_all : (meaning : Guidance) (links : List (LinkOf ℕ)) → length meaning.settled ≡ meaning.size → length meaning.keys ≡ meaning.size
    → AllByRecursion (CanGuide meaning.size meaning.values meaning.label) links → Admits guidance_after always_on IsGuided meaning links
Admits-from_all meaning [] e f each = tt
Admits-from_all meaning (link ∷ links) e f each = (
  record { can = each.0; settled = e; keys = f },
  Admits-from_all (guidance_after meaning link) links e (length-guided meaning.values meaning.settled meaning.keys meaning.label link ∙ f) each.1,
)

pub Admits-from_parts : (reference : GName) (settled : List (Option Label)) (keys : List (Option Key)) (size : ℕ) (values : ℕ → ℕ) (label is : Label) (links : List (LinkOf ℕ))
    → length settled ≡ size → length keys ≡ size → label ≡ is → AllByRecursion (CanGuide size values is) links
    → Admits guidance_after always_on IsGuided (record { reference = reference; settled = settled; keys = keys; size = size; values = values; label = label }) links
Admits-from_parts reference settled keys size values label is links e f same each = Admits-from_all
    (record { reference = reference; settled = settled; keys = keys; size = size; values = values; label = label }) links e f
    (subst (λ l. AllByRecursion (CanGuide size values l) links) (sym same) each)

pub keys_after : (reference held : GName) (settled now_settled : List (Option Label)) (before keys now final : List (Option Key)) (size now_size : ℕ)
    (values now_values : ℕ → ℕ) (label at : Label) (links : List (LinkOf ℕ)) → ◌≡◌ {A = Guidance}
    (record { reference = held; settled = now_settled; keys = now; size = now_size; values = now_values; label = at })
    (shown guidance_after always_on (record { reference = reference; settled = settled; keys = keys; size = size; values = values; label = label }) links)
    → (reference ≡ held → final ≡ now) → keys ≡ before → final ≡ all_guided values settled before label links
keys_after reference held settled now_settled before keys now final size now_size values now_values label at links e follows was =
    let m = e ∙ shown_is (record { reference = reference; settled = settled; keys = keys; size = size; values = values; label = label }) links in
    let same : held ≡ reference = ap (λ (g : Guidance). g.reference) m in
    let lowered_keys : now ≡ all_guided values settled keys label links = ap (λ (g : Guidance). g.keys) m in
    follows (sym same) ∙ lowered_keys ∙ ap (λ xs. all_guided values settled xs label links) was
