-- What relaxing the links into a vertex leaves, one link after another.
use Rattle.std.proofs.Common.{◌≡◌, ℕ, zero, suc, ◌<◌, ◌⊎◌, inl, inr, Bool, true, false, cond, List, [], ◌∷◌, Option, Some, None, Contains, length, set, refl, sym, ap, ◌∙◌, subst, arith}
use Rattle.std.specs.Option.{is_some}
use Rattle.std.proofs.lemmas.Bool.{cases_eq, false≢true}
use Rattle.std.proofs.lemmas.Option.{same_Some, none-some}
use Rattle.std.proofs.lemmas.List.{get_or-set_same, get_or-set_other}
use Rattle.pgr_walks.specs.declared.link.LinkOf.{LinkOf}
use Rattle.pgr_walks.specs.declared.label.Label.{Label}
use Rattle.pgr_walks.specs.Label.{AtMost, beyond}
use Rattle.pgr_search.specs.FinalLabels.{label_at}
use Rattle.pgr_search.specs.Heap.{is_before, key_at, lowered}
use Rattle.pgr_search.specs.Relaxing.{label_cmp, relaxed, all_relaxed}
use Rattle.pgr_search.proofs.LabelOrder.{AtMost-refl, AtMost-trans, less, not_less}
use Rattle.pgr_search.proofs.LabelSetting.{IsOffered, IsRelaxed}
use Rattle.pgr_search.proofs.Shown.{length-relaxed}

-- a vertex with a label has some
HasLabel-from_test : (o : Option Label) → is_some o ≡ true → (label : Label) × (o ≡ Some label)
HasLabel-from_test None e = absurd (false≢true e)
HasLabel-from_test (Some label) e = (label, refl)

None-from_test : (o : Option Label) → is_some o ≡ false → o ≡ None
None-from_test None e = refl
None-from_test (Some label) e = absurd (false≢true (sym e))

-- a label that is before that of a vertex, where it has one, and one that isn't
before_old : (new : Label) (o : Option Label) (old : Label) → is_before label_cmp (Some new) o ≡ true → o ≡ Some old → AtMost new old
before_old new None old e is = absurd (none-some old is)
before_old new (Some other) old e is = subst (AtMost new) (same_Some other old is) (less new other e)

not_before_new : (new : Label) (o : Option Label) → is_before label_cmp (Some new) o ≡ false → (old : Label) × (o ≡ Some old) × AtMost old new
not_before_new new None e = absurd (false≢true (sym e))
not_before_new new (Some old) e = (old, refl, not_less new old e)

-- the label of each vertex after a link was relaxed: it stays, or it is that beyond the link
record IsStep (settled waiting : List (Option Label)) (label : Label) (link : LinkOf ℕ) (after : List (Option Label)) : Type 0 where
  kept : (v : ℕ) (new : Label) → label_at after v ≡ Some new → (label_at waiting v ≡ Some new) ⊎ ((link.from ≡ v) × (new ≡ beyond label link) × (label_at settled v ≡ None))
  lowers : (v : ℕ) (old : Label) → label_at waiting v ≡ Some old → (new : Label) × (label_at after v ≡ Some new) × AtMost new old
  offers : IsOffered (label_at settled) (label_at after) link.from (beyond label link)

module _ (settled waiting : List (Option Label)) (label : Label) (link : LinkOf ℕ) (below : link.from < length waiting) where
  stays : IsOffered (label_at settled) (label_at waiting) link.from (beyond label link) → IsStep settled waiting label link waiting
  stays offers = record {
    kept = λ v new e. inl e;
    lowers = λ v old e. (old, e, AtMost-refl old);
    offers = offers;
  }

  written : label_at settled link.from ≡ None → is_before label_cmp (Some (beyond label link)) (key_at waiting link.from) ≡ true
      → IsStep settled waiting label link (set waiting link.from (Some (beyond label link)))
  written free e = record {
    kept = λ v new is. kept v new is (cases_eq v link.from);
    lowers = λ v old is. lowers v old is (cases_eq v link.from);
    offers = inr (beyond label link, here, AtMost-refl (beyond label link));
  }
    where
      here : label_at (set waiting link.from (Some (beyond label link))) link.from ≡ Some (beyond label link)
      here = get_or-set_same waiting link.from (Some (beyond label link)) None below

      other : (v : ℕ) → (v ≡ link.from → ⊥) → label_at (set waiting link.from (Some (beyond label link))) v ≡ label_at waiting v
      other v differs = get_or-set_other waiting link.from v (Some (beyond label link)) None differs

      kept : (v : ℕ) (new : Label) → label_at (set waiting link.from (Some (beyond label link))) v ≡ Some new → (v ≡ link.from) ⊎ (v ≡ link.from → ⊥)
          → (label_at waiting v ≡ Some new) ⊎ ((link.from ≡ v) × (new ≡ beyond label link) × (label_at settled v ≡ None))
      kept v new is (inl same) = inr (
        sym same,
        sym
            (same_Some (beyond label link) new (sym here ∙ ap (label_at (set waiting link.from (Some (beyond label link)))) (sym same) ∙ is)),
        ap (label_at settled) same ∙ free,
      )
      kept v new is (inr differs) = inl (sym (other v differs) ∙ is)

      lowers : (v : ℕ) (old : Label) → label_at waiting v ≡ Some old → (v ≡ link.from) ⊎ (v ≡ link.from → ⊥)
          → (new : Label) × (label_at (set waiting link.from (Some (beyond label link))) v ≡ Some new) × AtMost new old
      lowers v old is (inl same) = (
        beyond label link,
        ap (label_at (set waiting link.from (Some (beyond label link)))) same ∙ here,
        before_old (beyond label link) (key_at waiting link.from) old e (ap (label_at waiting) (sym same) ∙ is),
      )
      lowers v old is (inr differs) = (old, other v differs ∙ is, AtMost-refl old)

  lowered_step : label_at settled link.from ≡ None → (b : Bool) → is_before label_cmp (Some (beyond label link)) (key_at waiting link.from) ≡ b
      → IsStep settled waiting label link (cond b (set waiting link.from (Some (beyond label link))) waiting)
  lowered_step free true e = written free e
  lowered_step free false e = stays (inr (not_before_new (beyond label link) (key_at waiting link.from) e))

  relaxed_step : (b : Bool) → is_some (label_at settled link.from) ≡ b
      → IsStep settled waiting label link (cond b waiting (lowered label_cmp waiting link.from (beyond label link)))
  relaxed_step true e = stays (inl (HasLabel-from_test (label_at settled link.from) e))
  relaxed_step false e = lowered_step (None-from_test (label_at settled link.from) e) (is_before label_cmp (Some (beyond label link)) (key_at waiting link.from)) refl

  step : IsStep settled waiting label link (relaxed settled waiting label link)
  step = relaxed_step (is_some (label_at settled link.from)) refl

-- what is offered stays offered where labels only fall
still_offered : (settled before after : List (Option Label)) (v : ℕ) (bound : Label) → ((v : ℕ) (old : Label) → label_at before v ≡ Some old
    → (new : Label) × (label_at after v ≡ Some new) × AtMost new old) → IsOffered (label_at settled) (label_at before) v bound
    → IsOffered (label_at settled) (label_at after) v bound
still_offered settled before after v bound lowers (inl has) = inl has
still_offered settled before after v bound lowers (inr (old, waits, within)) =
    let low = lowers v old waits in inr (low.0, low.1, AtMost-trans low.0 old bound low.2 within)

-- all links, from vertices that have a place
pub all_relaxed_step : (settled waiting : List (Option Label)) (label : Label) (links : List (LinkOf ℕ))
    → ((link : LinkOf ℕ) → Contains links link → link.from < length waiting)
    → IsRelaxed (Contains links) label (label_at settled) (label_at waiting) (label_at (all_relaxed settled waiting label links))
all_relaxed_step settled waiting label [] below = record {
  kept = λ v new e. inl e;
  lowers = λ v old e. (old, e, AtMost-refl old);
  each = λ link (k, lt, is). absurd (omega (arith, lt));
}
all_relaxed_step settled waiting label (link ∷ links) below =
    join (step settled waiting label link (below link (0, omega arith, refl)))
    (all_relaxed_step settled (relaxed settled waiting label link) label links
    (λ other has. (let lt = below other (suc has.0, omega (arith, has.1), has.2) in omega (arith, lt, length-relaxed settled waiting label link))))
  where
    join : IsStep settled waiting label link (relaxed settled waiting label link) → IsRelaxed (Contains links) label (label_at settled)
        (label_at (relaxed settled waiting label link)) (label_at (all_relaxed settled (relaxed settled waiting label link) label links))
        → IsRelaxed (Contains (link ∷ links)) label (label_at settled) (label_at waiting) (label_at (all_relaxed settled (relaxed settled waiting label link) label links))
    join s r = record {
      kept = λ v new e. kept v new (r.kept v new e);
      lowers = λ v old e. (let first = s.lowers v old e in let rest = r.lowers v first.0 first.1 in (rest.0, rest.1, AtMost-trans rest.0 first.0 old rest.2 first.2));
      each = each;
    }
      where
        kept : (v : ℕ) (new : Label) → (label_at (relaxed settled waiting label link) v ≡ Some new)
            ⊎ ((other : LinkOf ℕ) × (Contains links other × (other.from ≡ v) × (new ≡ beyond label other) × (label_at settled v ≡ None)))
            → (label_at waiting v ≡ Some new)
            ⊎ ((other : LinkOf ℕ) × (Contains (link ∷ links) other × (other.from ≡ v) × (new ≡ beyond label other) × (label_at settled v ≡ None)))
        kept v new (inl e) = first (s.kept v new e)
          where
            first : (label_at waiting v ≡ Some new) ⊎ ((link.from ≡ v) × (new ≡ beyond label link) × (label_at settled v ≡ None))
                → (label_at waiting v ≡ Some new)
                ⊎ ((other : LinkOf ℕ) × (Contains (link ∷ links) other × (other.from ≡ v) × (new ≡ beyond label other) × (label_at settled v ≡ None)))
            first (inl was) = inl was
            first (inr h) = inr (link, ((0, omega arith, refl), h.0, h.1, h.2))
        kept v new (inr (other, h)) = inr (other, ((suc h.0.0, omega (arith, h.0.1), h.0.2), h.1, h.2, h.3))

        each : (other : LinkOf ℕ) → Contains (link ∷ links) other
            → IsOffered (label_at settled) (label_at (all_relaxed settled (relaxed settled waiting label link) label links)) other.from (beyond label other)
        each other (zero, lt, is) = subst (λ l. IsOffered (label_at settled) (label_at (all_relaxed settled (relaxed settled waiting label link) label links)) l.from
            (beyond label l)) is (still_offered settled (relaxed settled waiting label link) (all_relaxed settled (relaxed settled waiting label link) label links) link.from
            (beyond label link) r.lowers s.offers)
        each other (suc k, lt, is) = r.each other (k, omega (arith, lt), is)
