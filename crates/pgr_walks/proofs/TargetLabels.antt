-- The labels of targets: cost 0 and no hops, and those of no other vertex.
use Rattle.std.proofs.Common.{◌≡◌, List, [], ◌∷◌, Option, Some, None, length, refl, sym, ap, ◌∙◌, subst, arith, inl, inr}
use Rattle.std.specs.Prelude.{Contains}
use Rattle.std.proofs.lemmas.Option.{same_Some}
use Rattle.pgr_walks.specs.declared.link.LinkOf.{LinkOf}
use Rattle.pgr_walks.specs.declared.label.Label.{Label}
use Rattle.pgr_walks.specs.Label.{AtMost, LeadsTo, IsLabel}

-- the label of the walk without links
abbrev pub nothing : Label
nothing = record { cost = 0; hops = 0 }

-- a label that is at most that one is that one
none_below : (label : Label) → AtMost label nothing → label ≡ nothing
none_below label (inl less) = absurd (omega (arith, less))
none_below label (inr (cost, hops)) = let none : label.hops ≡ 0 = omega (arith, hops) in λ i. record { cost = cost i; hops = none i }

module _ {V : Type 0} (Has : LinkOf V → Type 0) (targets : List V) (v : V) where
  -- a target has that label
  pub zero_at_target : (o : Option Label) → IsLabel Has targets v o → Contains targets v → o ≡ Some nothing
  zero_at_target None none target = absurd (none [] (record { target = v; is_target = target; is_walk = refl }))
  zero_at_target (Some label) least target = ap Some (none_below label (least.least [] (record { target = v; is_target = target; is_walk = refl })))

  -- a walk without links leads to a target only from one
  at_once : (walk : List (LinkOf V)) → LeadsTo Has targets v walk → length walk ≡ 0 → Contains targets v
  at_once [] leads e = subst (Contains targets) (sym leads.is_walk) leads.is_target
  at_once (link ∷ rest) leads e = cc

  -- a vertex with that label is a target
  pub target_at_zero : (o : Option Label) → IsLabel Has targets v o → o ≡ Some nothing → Contains targets v
  target_at_zero None none e = cc
  target_at_zero (Some label) least e = at_once least.walk least.leads (ap (λ l. l.hops) (least.label_is ∙ same_Some label nothing e))
