-- Small cases of classes and their names, computed.
use Rattle.std.proofs.Common.{◌≡◌, ℕ, pos, ◌≤◌, List, [], ◌∷◌, refl, sym, subst, arith, inl, inr}
use Rattle.std.specs.Prelude.{Contains}
use Rattle.std.specs.List.{AllByRecursion}
use Rattle.std.specs.Ordering.{nat_cmp}
use Rattle.std.proofs.lemmas.Bool.{cases_lt}
use Rattle.std.proofs.lemmas.List.Elements.{All-contains, All-from_recursion}
use Rattle.pgr_walks.specs.declared.link.LinkOf.{LinkOf}
use Rattle.pgr_walks.specs.Walk.{IsWalk}
use Rattle.pgr_walks.specs.Reaches.{Reaches, BothWays}
use Rattle.pgr_parts.specs.Classes.{IsClassName, Connected, StronglyConnected}
use Rattle.pgr_parts.proofs.Orders.{not_greater}

abbrev link : ℕ → ℕ → ℕ → LinkOf ℕ
link from edge to = record { from = from; edge = pos edge; cost = 1; to = to }

-- what each link of a set keeps holds wherever a walk leads
keeps : (Has : LinkOf ℕ → Type 0) (P : ℕ → Type 0) → ((l : LinkOf ℕ) → Has l → P l.from → P l.to) → (u : ℕ) (walk : List (LinkOf ℕ)) (v : ℕ) → IsWalk Has u walk v → P u → P v
keeps Has P step u [] v is here = subst P is here
keeps Has P step u (l ∷ rest) v is here = keeps Has P step l.to rest v is.2 (step l is.0 (subst P (sym is.1) here))

-- the same for a list of links
kept_by : (links : List (LinkOf ℕ)) (P : ℕ → Type 0) → AllByRecursion (λ l. P l.from → P l.to) links → (u v : ℕ) → Reaches (Contains links) u v → P u → P v
kept_by links P each u v reaches here =
    keeps (Contains links) P (λ l has. All-contains (λ x. P x.from → P x.to) links l (All-from_recursion (λ x. P x.from → P x.to) links each) has) u reaches.0 v reaches.1 here

-- a cycle of 2 and 3, from which a one-way bridge leads to 1, which has a self loop; 0 has no link
abbrev bridge : List (LinkOf ℕ)
bridge = link 3 1 2 ∷ link 2 1 3 ∷ link 2 2 1 ∷ link 1 3 1 ∷ []

-- the cycle is a strong class, named by its least vertex
the_cycle_is_named_by_2 : IsClassName nat_cmp (StronglyConnected (Contains bridge)) 3 2
the_cycle_is_named_by_2 = record {
  member = ((link 3 1 2 ∷ [], ((0, omega arith, refl), refl, refl)), (link 2 1 3 ∷ [], ((1, omega arith, refl), refl, refl)));
  least = λ u both. not_greater 2 u (far u both.1);
}
  where
    -- what reaches 3 is no less than 2, since from 1 no link leads on
    far : (u : ℕ) → Reaches (Contains bridge) u 3 → 2 ≤ u
    far u reaches = elim (cases_lt u 2) [
      | inl small ↦ absurd (let stuck : 3 ≤ 1 = kept_by bridge (λ v. v ≤ 1)
          ((λ h. absurd (omega arith)), ((λ h. absurd (omega arith)), ((λ h. absurd (omega arith)), ((λ h. omega arith), tt)))) u 3 reaches (omega arith) in omega arith)
      | inr large ↦ large
    ]

-- a vertex beside a one-way bridge is a strong class of its own, also with a self loop
the_end_of_a_bridge_is_alone : IsClassName nat_cmp (StronglyConnected (Contains bridge)) 1 1
the_end_of_a_bridge_is_alone = record {
  member = (([], refl), ([], refl));
  least = λ u both. not_greater 1 u (let is : 1 ≡ u = kept_by bridge (λ v. 1 ≡ v)
      ((λ h. absurd (omega arith)), ((λ h. absurd (omega arith)), ((λ h. absurd (omega arith)), ((λ h. refl), tt)))) 1 u both.0 refl in omega arith);
}

-- a vertex without links is a class of its own, strong and connected
an_isolated_vertex_is_alone : IsClassName nat_cmp (StronglyConnected (Contains bridge)) 0 0 × IsClassName nat_cmp (Connected (Contains bridge)) 0 0
an_isolated_vertex_is_alone = (
  record { member = (([], refl), ([], refl)); least = λ u both. not_greater 0 u (omega arith) },
  record { member = ([], refl); least = λ u there. not_greater 0 u (omega arith) },
)

-- over links taken both ways the bridge joins: the least is 1, though no walk leads from 1 to 3
the_bridge_joins : IsClassName nat_cmp (Connected (Contains bridge)) 3 1
the_bridge_joins = record {
  member = (link 3 1 2 ∷ link 2 2 1 ∷ [], (inl (0, omega arith, refl), refl, (inl (2, omega arith, refl), refl, refl)));
  least = λ u there. not_greater 1 u (keeps (BothWays (Contains bridge)) (λ v. 1 ≤ v) step 3 there.0 u there.1 (omega arith));
}
  where
    ends : (l : LinkOf ℕ) → Contains bridge l → (1 ≤ l.from) × (1 ≤ l.to)
    ends l has = All-contains (λ x. (1 ≤ x.from) × (1 ≤ x.to)) bridge l
        (All-from_recursion (λ x. (1 ≤ x.from) × (1 ≤ x.to)) bridge (
          (omega arith, omega arith),
          ((omega arith, omega arith), ((omega arith, omega arith), ((omega arith, omega arith), tt))),
        )) has

    step : (l : LinkOf ℕ) → BothWays (Contains bridge) l → 1 ≤ l.from → 1 ≤ l.to
    step l (inl has) h = (ends l has).1
    step l (inr has) h = (ends (record l { from = l.to; to = l.from }) has).0

-- from 1 a link leads to 0 alone: connected, so that 0 is the name, but not strongly
abbrev one_way : List (LinkOf ℕ)
one_way = link 1 5 0 ∷ []

one_way_is_connected : IsClassName nat_cmp (Connected (Contains one_way)) 0 0 × IsClassName nat_cmp (Connected (Contains one_way)) 1 0
one_way_is_connected = (
  record { member = ([], refl); least = λ u there. not_greater 0 u (omega arith) },
  record { member = (link 1 5 0 ∷ [], (inl (0, omega arith, refl), refl, refl)); least = λ u there. not_greater 0 u (omega arith) },
)

one_way_is_not_strong : IsClassName nat_cmp (StronglyConnected (Contains one_way)) 1 1
one_way_is_not_strong = record {
  member = (([], refl), ([], refl));
  least = λ u both. not_greater 1 u (from u both.1);
}
  where
    from : (u : ℕ) → Reaches (Contains one_way) u 1 → 1 ≤ u
    from u reaches = elim (cases_lt u 1) [
      | inl small ↦ absurd (let stuck : 1 ≤ 0 = kept_by one_way (λ v. v ≤ 0) ((λ h. absurd (omega arith)), tt) u 1 reaches (omega arith) in omega arith)
      | inr large ↦ large
    ]
