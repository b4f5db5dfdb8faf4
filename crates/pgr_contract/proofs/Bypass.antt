-- Walks that come to a vertex, led past it: each keeps its ends and costs no more.
use Rattle.std.proofs.Common.{◌≡◌, ◌≢◌, ◌⊎◌, inl, inr, ℕ, ◌+◌, ◌≤◌, List, [], ◌∷◌, ◌++◌, refl, sym, subst, ◌∙◌, arith}
use Rattle.pgr_walks.specs.declared.link.LinkOf.{LinkOf}
use Rattle.pgr_walks.specs.Walk.{IsWalk, cost_of}
use Rattle.pgr_walks.proofs.BackWalks.{walk-append, cost_of-append}

-- some walk leads from s to t and costs no more
pub record WalkWithin {V : Type 0} (Has : LinkOf V → Type 0) (s t : V) (cost : ℕ) : Type 0 where
  pub walk : List (LinkOf V)
  pub is_walk : IsWalk Has s walk t
  pub within : cost_of walk ≤ cost

-- a link that leads from a to b, of the set, and costs no more
pub record LinkWithin {V : Type 0} (Has : LinkOf V → Type 0) (a b : V) (cost : ℕ) : Type 0 where
  pub link : LinkOf V
  pub has : Has link
  pub from : link.from ≡ a
  pub to : link.to ≡ b
  pub within : link.cost ≤ cost

-- the same from an equal vertex, at a cost no less
moved : {V : Type 0} (Has : LinkOf V → Type 0) (a b t : V) (cost more : ℕ) → a ≡ b → cost ≤ more → WalkWithin Has a t cost → WalkWithin Has b t more
moved Has a b t cost more same le w = record {
  walk = w.walk;
  is_walk = subst (λ x. IsWalk Has x w.walk t) same w.is_walk;
  within = omega (arith, w.within);
}

-- a link before a walk
before : {V : Type 0} (Has : LinkOf V → Type 0) (a b t : V) (first cost : ℕ) → LinkWithin Has a b first → WalkWithin Has b t cost → WalkWithin Has a t (first + cost)
before Has a b t first cost l w = record {
  walk = l.link ∷ w.walk;
  is_walk = (l.has, l.from, subst (λ x. IsWalk Has x w.walk t) (sym l.to) w.is_walk);
  within = omega (arith, w.within, l.within);
}

module _ {V : Type 0} (same : (x y : V) → (x ≡ y) ⊎ (x ≢ y)) (Has Kept : LinkOf V → Type 0) (v : V)
    (keep : (link : LinkOf V) → Has link → link.from ≢ v → link.to ≢ v → Kept link)
    (over : (into out : LinkOf V) → Has into → Has out → into.to ≡ v → out.from ≡ v → into.from ≢ v → out.to ≢ v
    → (into.from ≡ out.to) ⊎ LinkWithin Kept into.from out.to (into.cost + out.cost)) where
  -- a walk to t can be led past v: from another vertex, and from v with a link into it before
  record PastIt (t : V) (walk : List (LinkOf V)) : Type 0 where
    apart : (a : V) → a ≢ v → IsWalk Has a walk t → WalkWithin Kept a t (cost_of walk)
    through : (into : LinkOf V) → Has into → into.to ≡ v → into.from ≢ v → IsWalk Has v walk t → WalkWithin Kept into.from t (into.cost + cost_of walk)

  apart_by : (t a : V) (link : LinkOf V) (rest : List (LinkOf V)) → PastIt t rest → a ≢ v → IsWalk Has a (link ∷ rest) t → (link.to ≡ v) ⊎ (link.to ≢ v)
      → WalkWithin Kept a t (link.cost + cost_of rest)
  apart_by t a link rest past differs w (inl into) =
      let far : link.from ≢ v = λ e. differs (sym w.1 ∙ e) in
      moved Kept link.from a t (link.cost + cost_of rest) (link.cost + cost_of rest) w.1 (omega arith)
      (past.through link w.0 into far (subst (λ x. IsWalk Has x rest t) into w.2))
  apart_by t a link rest past differs w (inr out) =
      let far : link.from ≢ v = λ e. differs (sym w.1 ∙ e) in
      before Kept a link.to t link.cost (cost_of rest) (record { link = link; has = keep link w.0 far out; from = w.1; to = refl; within = omega arith })
      (past.apart link.to out w.2)

  beyond_by : (t : V) (into link : LinkOf V) (rest : List (LinkOf V)) → PastIt t rest → link.to ≢ v → IsWalk Has link.to rest t
      → (into.from ≡ link.to) ⊎ LinkWithin Kept into.from link.to (into.cost + link.cost) → WalkWithin Kept into.from t (into.cost + (link.cost + cost_of rest))
  beyond_by t into link rest past out w (inl returns) =
      moved Kept link.to into.from t (cost_of rest) (into.cost + (link.cost + cost_of rest)) (sym returns) (omega arith) (past.apart link.to out w)
  beyond_by t into link rest past out w (inr short) =
      moved Kept into.from into.from t (into.cost + link.cost + cost_of rest) (into.cost + (link.cost + cost_of rest)) refl (omega arith)
      (before Kept into.from link.to t (into.cost + link.cost) (cost_of rest) short (past.apart link.to out w))

  through_by : (t : V) (into link : LinkOf V) (rest : List (LinkOf V)) → PastIt t rest → Has into → into.to ≡ v → into.from ≢ v → IsWalk Has v (link ∷ rest) t
      → (link.to ≡ v) ⊎ (link.to ≢ v) → WalkWithin Kept into.from t (into.cost + (link.cost + cost_of rest))
  through_by t into link rest past has at differs w (inl loops) =
      moved Kept into.from into.from t (into.cost + cost_of rest) (into.cost + (link.cost + cost_of rest)) refl (omega arith)
      (past.through into has at differs (subst (λ x. IsWalk Has x rest t) loops w.2))
  through_by t into link rest past has at differs w (inr out) =
      beyond_by t into link rest past out w.2 (over into link has w.0 at w.1 differs out)

  past_it : (t : V) → t ≢ v → (walk : List (LinkOf V)) → PastIt t walk
  past_it t differs [] = record {
    apart = λ a far w. record { walk = []; is_walk = w; within = omega arith };
    through = λ into has at far w. absurd (differs (sym w));
  }
  past_it t differs (link ∷ rest) =
      let past = past_it t differs rest in
      record {
        apart = λ a far w. apart_by t a link rest past far w (same link.to v);
        through = λ into has at far w. through_by t into link rest past has at far w (same link.to v);
      }

  -- each walk between other vertices has one past v that costs no more
  pub led_past : (s t : V) (walk : List (LinkOf V)) → s ≢ v → t ≢ v → IsWalk Has s walk t → WalkWithin Kept s t (cost_of walk)
  led_past s t walk from to w = (past_it t to walk).apart s from w

-- where each link of one set has a walk over the other that costs no more, so has each walk
pub spelled : {V : Type 0} (Has Kept : LinkOf V → Type 0) → ((link : LinkOf V) → Kept link → WalkWithin Has link.from link.to link.cost) → (s t : V) (walk : List (LinkOf V))
    → IsWalk Kept s walk t → WalkWithin Has s t (cost_of walk)
spelled Has Kept spell s t [] w = record { walk = []; is_walk = w; within = omega arith }
spelled Has Kept spell s t (link ∷ rest) w =
    let first = spell link w.0 in
    let second = spelled Has Kept spell link.to t rest w.2 in
    record {
      walk = first.walk ++ second.walk;
      is_walk = walk-append Has s link.to t first.walk second.walk (subst (λ x. IsWalk Has x first.walk link.to) w.1 first.is_walk) second.is_walk;
      within = omega (arith, first.within, second.within, cost_of-append first.walk second.walk);
    }
