-- A graph to test with, of three vertices and three links: from 0 to 1, from 1 to 2 and from 0 to 2.
use Rattle.std.specs.Prelude.{◌≡◌, ℕ, zero, suc, ◌<◌, List, [], ◌∷◌, Contains, pos, refl}
use Rattle.std.proofs.Common.{subst, arith}
use Rattle.std.specs.declared.cmp.Ordering.{Ordering}
use Rattle.std.specs.declared.cmp.Ordering.TheVariants.{Less}
use Rattle.std.specs.Ordering.{nat_cmp}
use Rattle.pgr_walks.specs.declared.link.LinkOf.{LinkOf}
use Rattle.pgr_walks.specs.Link.{step_cmp, entry_cmp}
use Rattle.pgr_walks.specs.Graph.{IsLawful, IsLawfulAt, IsStrictlyRising}

-- the link from 0 to 1 of cost 2
abbrev pub to_one : LinkOf ℕ
to_one = record { from = 0; edge = pos 1; cost = 2; to = 1 }

-- the link from 1 to 2 of cost 0
abbrev pub on_to_two : LinkOf ℕ
on_to_two = record { from = 1; edge = pos 2; cost = 0; to = 2 }

-- the link from 0 to 2 of cost 2, which has fewer hops than the way over 1
abbrev pub to_two : LinkOf ℕ
to_two = record { from = 0; edge = pos 3; cost = 2; to = 2 }

-- the links out of each vertex
abbrev pub outs_of : ℕ → List (LinkOf ℕ)
outs_of zero = to_one ∷ to_two ∷ []
outs_of (suc zero) = on_to_two ∷ []
outs_of (suc (suc v)) = []

-- the links into each vertex
abbrev pub ins_of : ℕ → List (LinkOf ℕ)
ins_of zero = []
ins_of (suc zero) = to_one ∷ []
ins_of (suc (suc zero)) = on_to_two ∷ to_two ∷ []
ins_of (suc (suc (suc v))) = []

-- a fact of the one element, of both, and of none
of_one : {X : Type 0} (P : X → Type 0) (a x : X) → P a → Contains (a ∷ []) x → P x
of_one P a x pa (zero, below, is) = subst P is pa
of_one P a x pa (suc k, below, is) = absurd (omega arith)

of_two : {X : Type 0} (P : X → Type 0) (a b x : X) → P a → P b → Contains (a ∷ b ∷ []) x → P x
of_two P a b x pa pb (zero, below, is) = subst P is pa
of_two P a b x pa pb (suc zero, below, is) = subst P is pb
of_two P a b x pa pb (suc (suc k), below, is) = absurd (omega arith)

of_none : {X : Type 0} (x : X) → Contains [] x → ⊥
of_none x (k, below, is) = omega arith

-- lists so short that they rise
rises_none : {X : Type 0} (cmp : X → X → Ordering) → IsStrictlyRising cmp []
rises_none cmp i j d lt below = absurd (omega arith)

rises_one : {X : Type 0} (cmp : X → X → Ordering) (a : X) → IsStrictlyRising cmp (a ∷ [])
rises_one cmp a i j d lt below = absurd (omega arith)

rises_two : {X : Type 0} (cmp : X → X → Ordering) (a b : X) → cmp a b ≡ Less → IsStrictlyRising cmp (a ∷ b ∷ [])
rises_two cmp a b e zero zero d lt below = absurd (omega arith)
rises_two cmp a b e zero (suc zero) d lt below = e
rises_two cmp a b e zero (suc (suc j)) d lt below = absurd (omega arith)
rises_two cmp a b e (suc i) j d lt below = absurd (omega arith)

-- the laws at each vertex
lawful_at : (v : ℕ) → v < 3 → IsLawfulAt 3 outs_of ins_of v
lawful_at zero h = record {
  out_ends = λ link has. of_two (λ l. (l.from ≡ 0) × (l.to < 3)) to_one to_two link (refl, omega arith) (refl, omega arith) has;
  in_ends = λ link has. absurd (of_none link has);
  outs_rise = rises_two (step_cmp nat_cmp) to_one to_two refl;
  ins_rise = rises_none (entry_cmp nat_cmp);
}
lawful_at (suc zero) h = record {
  out_ends = λ link has. of_one (λ l. (l.from ≡ 1) × (l.to < 3)) on_to_two link (refl, omega arith) has;
  in_ends = λ link has. of_one (λ l. (l.to ≡ 1) × (l.from < 3)) to_one link (refl, omega arith) has;
  outs_rise = rises_one (step_cmp nat_cmp) on_to_two;
  ins_rise = rises_one (entry_cmp nat_cmp) to_one;
}
lawful_at (suc (suc zero)) h = record {
  out_ends = λ link has. absurd (of_none link has);
  in_ends = λ link has. of_two (λ l. (l.to ≡ 2) × (l.from < 3)) on_to_two to_two link (refl, omega arith) (refl, omega arith) has;
  outs_rise = rises_none (step_cmp nat_cmp);
  ins_rise = rises_two (entry_cmp nat_cmp) on_to_two to_two refl;
}
lawful_at (suc (suc (suc v))) h = absurd (omega arith)

-- a fact of each link
by_outs : (P : LinkOf ℕ → Type 0) → P to_one → P on_to_two → P to_two → (v : ℕ) (link : LinkOf ℕ) → Contains (outs_of v) link → P link
by_outs P first second third zero link has = of_two P to_one to_two link first third has
by_outs P first second third (suc zero) link has = of_one P on_to_two link second has
by_outs P first second third (suc (suc v)) link has = absurd (of_none link has)

pub by_ins : (P : LinkOf ℕ → Type 0) → P to_one → P on_to_two → P to_two → (v : ℕ) (link : LinkOf ℕ) → Contains (ins_of v) link → P link
by_ins P first second third zero link has = absurd (of_none link has)
by_ins P first second third (suc zero) link has = of_one P to_one link first has
by_ins P first second third (suc (suc zero)) link has = of_two P on_to_two to_two link second third has
by_ins P first second third (suc (suc (suc v))) link has = absurd (of_none link has)

pub three_vertices_lawful : IsLawful 3 outs_of ins_of
three_vertices_lawful = record {
  at = lawful_at;
  both = λ link from to. (
    λ has. by_outs (λ l. Contains (ins_of l.to) l) (0, omega arith, refl) (0, omega arith, refl) (1, omega arith, refl) link.from link has,
    λ has. by_ins (λ l. Contains (outs_of l.from) l) (0, omega arith, refl) (0, omega arith, refl) (1, omega arith, refl) link.to link has,
  );
}

-- an estimate of what a walk from 0 costs
abbrev pub two_beyond_zero : ℕ → ℕ
two_beyond_zero zero = 0
two_beyond_zero (suc v) = 2
