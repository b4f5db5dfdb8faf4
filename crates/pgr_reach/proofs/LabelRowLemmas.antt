-- Rows of labelled vertices, one vertex after another.
use Rattle.std.proofs.Common.{◌≡◌, ◌⊎◌, inl, inr, ⊎_elim, ℕ, ◌+◌, ◌<◌, ◌≤◌, List, [], ◌∷◌, ◌++◌, Option, Some, None, length, get_or, Contains, refl, sym, ap, ◌∙◌, subst, rules, arith, Ordering, Less}
use Rattle.std.proofs.lemmas.Grind.{common_steps}
use Rattle.std.specs.Prelude.{All, Any}
use Rattle.std.specs.Ordering.{nat_cmp}
use Rattle.std.proofs.lemmas.List.{get_or_append_left, get_or-append-add, length-append}
use Rattle.std.proofs.lemmas.List.Elements.{All-push, All-contains, All-nil, All-cons, All-head, All-tail}
use Rattle.std.proofs.lemmas.List.Quantifiers.{Any-push}
use Rattle.pgr_outside.specs.Lists.{IsStrictlyRising}
use Rattle.pgr_outside.proofs.Lists.{Any-append_left}
use Rattle.pgr_walks.specs.declared.link.LinkOf.{LinkOf}
use Rattle.pgr_walks.specs.declared.label.Label.{Label}
use Rattle.pgr_search.specs.Tight.{label_at}
use Rattle.pgr_reach.specs.declared.reach.ReachedOf.{ReachedOf}
use Rattle.pgr_reach.specs.LabelRows.{IsLabelRow, IsLinkRow, AreRowsBelow}

-- what follows at each element follows of all
pub All-follows : {X : Type 0} (P Q : X → Type 0) (xs : List X) → ((x : X) → P x → Q x) → All P xs → All Q xs
All-follows P Q [] follows all = All-nil Q
All-follows P Q (x ∷ xs) follows all = All-cons Q x xs (follows x (All-head P x xs all)) (All-follows P Q xs follows (All-tail P x xs all))

less : (m n : ℕ) → m < n → nat_cmp m n ≡ Less
less m n h = grind arith

-- one more element behind a list that rises, after all of it
rise_push : {X : Type 0} (cmp : X → X → Ordering) (xs : List X) (y : X) → IsStrictlyRising cmp xs → ((x : X) → Contains xs x → cmp x y ≡ Less) → IsStrictlyRising cmp (xs ++ y ∷ [])
rise_push {X = X} cmp xs y rise last i j d before inside =
    ⊎_elim
    (λ early. ap (λ a. cmp a (get_or (xs ++ y ∷ []) j d)) (get_or_append_left xs (y ∷ []) d i (omega arith))
    ∙ (ap (λ b. cmp (get_or xs i d) b) (get_or_append_left xs (y ∷ []) d j early) ∙ rise i j d before early))
    (λ late.
    let i_in : i < length xs = omega (arith, before, late) in
    let at_end : get_or (xs ++ y ∷ []) j d ≡ y = ap (λ k. get_or (xs ++ y ∷ []) k d) (omega (arith, late)) ∙ get_or-append-add xs (y ∷ []) 0 d in
    ap (λ a. cmp a (get_or (xs ++ y ∷ []) j d)) (get_or_append_left xs (y ∷ []) d i i_in)
    ∙ (ap (λ b. cmp (get_or xs i d) b) at_end ∙ last (get_or xs i d) (i, i_in, same_default xs i d i_in)))
    (split j (length xs) (omega (arith, inside, length-append xs (y ∷ []))))
  where
    split : (j n : ℕ) → j < n + 1 → (j < n) ⊎ (j ≡ n + 0)
    split j n h = grind arith

    same_default : (xs : List X) (k : ℕ) (e : X) → k < length xs → get_or xs k (get_or xs k e) ≡ get_or xs k e
    same_default xs k e inside = search (rules, arith, common_steps)

none_and_some : (o : Option Label) (label : Label) → o ≡ None → o ≡ Some label → ⊥
none_and_some o label none some = cc

module _ (outs : ℕ → List (LinkOf ℕ)) (labels : List (Option Label)) (root v : ℕ) (rows : List (ReachedOf ℕ)) (are : AreRowsBelow outs labels root v rows) where
  below_next : (row : ReachedOf ℕ) → IsLabelRow outs labels root v row → IsLabelRow outs labels root (v + 1) row
  below_next row is = record { below = omega (arith, is.below); label = is.label; link = is.link }

  -- the next vertex has no label
  pub next_none : label_at labels v ≡ None → AreRowsBelow outs labels root (v + 1) rows
  next_none none = record {
    each = All-follows _ _ rows below_next are.each;
    every = λ u label below has. ⊎_elim (λ early. are.every u label early has)
        (λ is. absurd (none_and_some (label_at labels v) label none (subst (λ w. label_at labels w ≡ Some label) is has))) (early_or_next u below);
    rise = are.rise;
  }
    where
      early_or_next : (u : ℕ) → u < v + 1 → (u < v) ⊎ (u ≡ v)
      early_or_next u h = grind arith

  -- the next vertex has a label
  pub next_some : (row : ReachedOf ℕ) → row.node ≡ v → label_at labels v ≡ Some row.label → IsLinkRow (outs v) labels root row
      → AreRowsBelow outs labels root (v + 1) (rows ++ row ∷ [])
  next_some row node label link = record {
    each = All-push (IsLabelRow outs labels root (v + 1)) rows row (All-follows _ _ rows below_next are.each) (record {
      below = omega (arith, node);
      label = subst (λ w. label_at labels w ≡ Some row.label) (sym node) label;
      link = subst (λ w. IsLinkRow (outs w) labels root row) (sym node) link;
    });
    every = λ u l below has. ⊎_elim (λ early. Any-append_left _ rows (row ∷ []) (are.every u l early has))
        (λ is. Any-push (λ r. r.node ≡ u) rows row (node ∙ sym is)) (early_or_next u below);
    rise = rise_push (λ a b. nat_cmp a.node b.node) rows row are.rise
        (λ other has. less other.node row.node (omega (arith, (All-contains (IsLabelRow outs labels root v) rows other are.each has).below, node)));
  }
    where
      early_or_next : (u : ℕ) → u < v + 1 → (u < v) ⊎ (u ≡ v)
      early_or_next u h = grind arith
