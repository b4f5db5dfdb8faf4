-- How vertices stand in a search for strong classes, and its leads.
use Rattle.std.specs.Prelude.{◌≡◌, ℕ, ◌<◌, ◌≤◌, ◌++◌, List, [], ◌∷◌, Option, Some, None, Bool, true, false, Contains, length, map, count_by, slice_index_or, unwrap_or, All, IsSome}
use Rattle.pgr_parts.specs.declared.standing.Standing.{Standing}
use Rattle.pgr_parts.specs.declared.standing.Standing.TheVariants.{Unseen, Waiting, Named}
use Rattle.pgr_parts.specs.declared.lead.Lead.{Lead}

-- the name of the class of a vertex that stands so, if it is known
abbrev pub name_of : Standing → Option ℕ
name_of Unseen = None
name_of (Waiting p) = None
name_of (Named m) = Some m

-- the name, or 0 where it is not known
abbrev pub name_at : Standing → ℕ
name_at standing = unwrap_or (name_of standing) 0

-- each vertex has a name
abbrev pub AreAllNamed : List Standing → Type 0
AreAllNamed standing = All (λ s. IsSome (name_of s)) standing

-- a vertex that was not found
abbrev pub is_unseen : Standing → Bool
is_unseen Unseen = true
is_unseen (Waiting p) = false
is_unseen (Named m) = false

-- the leads of a place to the vertices of a list
abbrev pub leads_from_place : ℕ → List ℕ → List Lead
leads_from_place place list = map (λ w. record { from = place; to = w }) list

-- the last lead is of a place from the first on
abbrev pub EndsWithLeadFrom : List Lead → ℕ → Type 0
EndsWithLeadFrom leads first = (lead : Lead) (rest : List Lead) → leads ≡ rest ++ lead ∷ [] → first ≤ lead.from

-- the last lead, if there is one, is of a place before the first
abbrev pub EndsWithLeadBefore : List Lead → ℕ → Type 0
EndsWithLeadBefore leads first = (lead : Lead) (rest : List Lead) → leads ≡ rest ++ lead ∷ [] → lead.from < first

-- the members were given the name, and no other vertex
pub record AreNamed (members : List ℕ) (name : ℕ) (standing standing' : List Standing) : Type 0 where
  pub size_is : length standing' ≡ length standing
  pub named : (v : ℕ) → Contains members v → slice_index_or standing' v Unseen ≡ Named name
  pub others : (v : ℕ) → (Contains members v → ⊥) → slice_index_or standing' v Unseen ≡ slice_index_or standing v Unseen
  pub fewer : count_by is_unseen standing' ≤ count_by is_unseen standing
