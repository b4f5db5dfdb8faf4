-- Where vertices rest, kept in a map from the last event to the first.
use Rattle.std.proofs.Common.{◌≡◌, ℕ, suc, ◌+◌, ◌<◌, ℤ, cond, List, ◌∷◌, drop, get_or, length, Option, Some, None, sym, subst, ◌∙◌, ap, arith}
use Rattle.std.specs.Ordering.{int_cmp, int_eq}
use Rattle.std.specs.BTreeMap.{BTreeMap, get}
use Rattle.std.proofs.Common.{drop-cons}
use Rattle.pgr_contract.specs.declared.event.Event.{Event}
use Rattle.pgr_contract.specs.declared.held.Span.{Span}
use Rattle.pgr_contract.specs.declared.held.Holder.{Holder}
use Rattle.pgr_contract.specs.declared.held.Holder.TheVariants.{At, Over}
use Rattle.pgr_contract.specs.declared.held.Gone.{Gone}
use Rattle.pgr_contract.specs.Events.{vertex_of}
use Rattle.pgr_contract.specs.Held.{holder_of, earlier, resolved, gone_from}
use Rattle.pgr_contract.proofs.Ids.{int_eq-turned}

-- where a holder's things rest goes by what is known of each vertex
resolved-like : (gone other : ℤ → Option Gone) → ((x : ℤ) → gone x ≡ other x) → (h : Holder) → resolved gone h ≡ resolved other h
resolved-like gone other same (At z) = ap (λ g. earlier (At z) g None) (same z)
resolved-like gone other same (Over span) = ap (λ g. earlier (Over span) g (gone span.high)) (same span.low) ∙ ap (λ g. earlier (Over span) (other span.low) g) (same span.high)

-- one event before those that are known
pub rests-before : (events : List Event) (place : ℕ) (event : Event) (old new : BTreeMap ℤ Gone) → place < length events → get_or events place event ≡ event
    → ((x : ℤ) → get int_cmp old x ≡ gone_from (place + 1) (drop (place + 1) events) x)
    → ((x : ℤ) → get int_cmp new x ≡ cond (int_eq x (vertex_of event)) (Some (record { place = place; holder = resolved (get int_cmp old) (holder_of event) })) (get int_cmp old x))
    → (x : ℤ) → get int_cmp new x ≡ gone_from place (drop place events) x
rests-before events place event old new below is known changed x =
    let one : place + 1 ≡ suc place = omega arith in
    let rest = drop (place + 1) events in
    let cons : drop place events ≡ event ∷ rest = drop-cons events place event below ∙ (ap (λ e. e ∷ drop (suc place) events) is ∙ ap (λ n. event ∷ drop n events) (sym one)) in
    let after : gone_from (suc place) rest ≡ gone_from (place + 1) rest = ap (λ n. gone_from n rest) (sym one) in
    changed x
    ∙ (ap (λ h. cond (int_eq x (vertex_of event)) (Some (record { place = place; holder = h })) (get int_cmp old x))
    (resolved-like (get int_cmp old) (gone_from (place + 1) rest) known (holder_of event) ∙ ap (λ f. resolved f (holder_of event)) (sym after))
    ∙ (ap (λ g. cond (int_eq x (vertex_of event)) (Some (record { place = place; holder = resolved (gone_from (suc place) rest) (holder_of event) })) g)
    (known x ∙ ap (λ f. f x) (sym after))
    ∙ sym (ap (λ l. gone_from place l x) cons)))

-- the same, by the place behind
pub rests-earlier : (events : List Event) (now place : ℕ) (event : Event) (old new : BTreeMap ℤ Gone) → now ≡ place + 1 → place < length events
    → get_or events place event ≡ event → ((x : ℤ) → get int_cmp old x ≡ gone_from now (drop now events) x)
    → ((x : ℤ) → get int_cmp new x ≡ cond (int_eq x (vertex_of event)) (Some (record { place = place; holder = resolved (get int_cmp old) (holder_of event) })) (get int_cmp old x))
    → (x : ℤ) → get int_cmp new x ≡ gone_from place (drop place events) x
rests-earlier events now place event old new next below is known changed =
    rests-before events place event old new below is (subst (λ n. (x : ℤ) → get int_cmp old x ≡ gone_from n (drop n events) x) next known) changed

-- a vertex that went, put into the map
pub rest-put : (key v : ℤ) (place : ℕ) (holder wanted : Holder) (old new : BTreeMap ℤ Gone)
    → ((x : ℤ) → get int_cmp new x ≡ cond (int_eq key x) (Some (record { place = place; holder = holder })) (get int_cmp old x)) → key ≡ v → holder ≡ wanted → (x : ℤ)
    → get int_cmp new x ≡ cond (int_eq x v) (Some (record { place = place; holder = wanted })) (get int_cmp old x)
rest-put key v place holder wanted old new put key_is holder_is x =
    put x
    ∙ (ap (λ b. cond b (Some (record { place = place; holder = holder })) (get int_cmp old x)) (ap (λ k. int_eq k x) key_is ∙ int_eq-turned v x)
    ∙ ap (λ h. cond (int_eq x v) (Some (record { place = place; holder = h })) (get int_cmp old x)) holder_is)

-- where a holder's things rest, by what was found of each of its ends
pub resolved-at : (gone : ℤ → Option Gone) (h : Holder) (z : ℤ) (g : Option Gone) → h ≡ At z → g ≡ gone z → earlier (At z) g None ≡ resolved gone h
resolved-at gone h z g is g_is = subst (λ k. earlier (At z) g None ≡ resolved gone k) (sym is) (ap (λ o. earlier (At z) o None) g_is)

pub resolved-over : (gone : ℤ → Option Gone) (h : Holder) (span : Span) (a b : Option Gone) → h ≡ Over span → a ≡ gone span.low → b ≡ gone span.high
    → earlier (Over span) a b ≡ resolved gone h
resolved-over gone h span a b is a_is b_is =
    subst (λ k. earlier (Over span) a b ≡ resolved gone k) (sym is)
    (ap (λ o. earlier (Over span) o b) a_is ∙ ap (λ o. earlier (Over span) (gone span.low) o) b_is)
