-- Where lists lead: one vertex more in front or behind, one trail after another, back again, and what stays along a trail.
use Rattle.std.proofs.Common.{◌≡◌, ℕ, ◌<◌, ⊎_elim, List, [], ◌∷◌, Contains, length, get_or, refl, sym, subst, arith}
use Rattle.std.proofs.lemmas.Bool.{cases_lt}
use Rattle.std.proofs.lemmas.List.{get_or_past}
use Rattle.pgr_parts.specs.Trails.{IsTrail, Leads, AreMutual}

module _ (lists : List (List ℕ)) where
  -- the empty trail
  pub leads_to_itself : (v : ℕ) → Leads lists v v
  leads_to_itself v = record { trail = []; is_trail = refl }

  pub leads_from : (u w v : ℕ) → Contains (get_or lists u []) w → Leads lists w v → Leads lists u v
  leads_from u w v here h = record { trail = w ∷ h.trail; is_trail = (here, h.is_trail) }

  after_trail : (u : ℕ) (trail : List ℕ) (v w : ℕ) → IsTrail lists u trail v → Leads lists v w → Leads lists u w
  after_trail u [] v w is h = subst (λ x. Leads lists x w) (sym is) h
  after_trail u (x ∷ rest) v w is h = leads_from u x w is.0 (after_trail x rest v w is.1 h)

  -- one trail after another
  pub leads_on : (u v w : ℕ) → Leads lists u v → Leads lists v w → Leads lists u w
  leads_on u v w a b = after_trail u a.trail v w a.is_trail b

  -- one vertex more behind
  pub leads_to : (u v w : ℕ) → Leads lists u v → Contains (get_or lists v []) w → Leads lists u w
  leads_to u v w a here = leads_on u v w a (leads_from v w w here (leads_to_itself w))

  stays_on : (P : ℕ → Type 0) → ((v w : ℕ) → P v → Contains (get_or lists v []) w → P w) → (u : ℕ) (trail : List ℕ) (v : ℕ) → IsTrail lists u trail v → P u → P v
  stays_on P step u [] v is here = subst P is here
  stays_on P step u (w ∷ rest) v is here = stays_on P step w rest v is.1 (step u w here is.0)

  -- what each vertex passes on to those on its list holds wherever the lists lead
  pub stays_along : (P : ℕ → Type 0) → ((v w : ℕ) → P v → Contains (get_or lists v []) w → P w) → (u v : ℕ) → Leads lists u v → P u → P v
  stays_along P step u v h here = stays_on P step u h.trail v h.is_trail here

  back_along : AreMutual lists → (u : ℕ) (trail : List ℕ) (v : ℕ) → IsTrail lists u trail v → Leads lists v u
  back_along back u [] v is = subst (λ x. Leads lists x u) is (leads_to_itself u)
  back_along back u (w ∷ rest) v is = leads_to v w u (back_along back w rest v is.1) (back.back u w is.0)

  -- back again, where of two vertices each is on the list of the other
  pub leads_back : AreMutual lists → (u v : ℕ) → Leads lists u v → Leads lists v u
  leads_back back u v h = back_along back u h.trail v h.is_trail

  -- only a vertex below the size has something on its list
  pub has_list : (v w : ℕ) → Contains (get_or lists v []) w → v < length lists
  has_list v w here = ⊎_elim (λ lt. lt) (λ past. let e : get_or lists v [] ≡ [] = get_or_past lists v [] past in
      let none : Contains [] w = subst (λ xs. Contains xs w) e here in absurd (omega (arith, none.1))) (cases_lt v (length lists))
