-- A search for strong classes by a path of groups: its state, and its steps.
use Rattle.std.specs.Prelude.{◌≡◌, ℕ, ◌+◌, ◌-◌, ◌*◌, ◌<◌, ◌≤◌, ◌⊎◌, ◌++◌, List, [], ◌∷◌, Contains, length, take, drop, replicate, count_by, slice_index, slice_index_or, slice_set}
use Rattle.std.specs.List.{sum_by, AllPairs}
use Rattle.pgr_parts.specs.declared.standing.Standing.{Standing}
use Rattle.pgr_parts.specs.declared.standing.Standing.TheVariants.{Unseen, Waiting, Named}
use Rattle.pgr_parts.specs.declared.lead.Lead.{Lead}
use Rattle.pgr_parts.specs.declared.search.Search.{Search}
use Rattle.pgr_parts.specs.Standings.{is_unseen, leads_from_place, EndsWithLeadBefore, AreNamed}
use Rattle.pgr_parts.specs.Trails.{Leads, LeadBothWays}

-- the state: how each vertex stands; the path, the vertices found and not named, as they were found; the places of the path where its groups begin; the leads not followed yet
pub record State : Type 0 where
  pub standing : List Standing
  pub path : List ℕ
  pub firsts : List ℕ
  pub leads : List Lead

-- how a vertex stands
abbrev pub standing_of : State → ℕ → Standing
standing_of S v = slice_index_or S.standing v Unseen

-- the state that a search holds
abbrev pub state_of : Search → State
state_of s = record { standing = s.standing.items; path = s.path.items; firsts = s.firsts.items; leads = s.leads.items }

-- the place q is in the group of the place p or in a later one
abbrev pub IsNoEarlier : State → ℕ → ℕ → Type 0
IsNoEarlier S p q = (f : ℕ) → Contains S.firsts f → f ≤ p → f ≤ q

-- what holds of the state: each place of the path leads to those of its group and of later ones, and named vertices have the least names of their classes
pub record IsSound (lists : List (List ℕ)) (S : State) : Type 0 where
  pub size_is : length S.standing ≡ length lists
  pub stands : (p : ℕ) → p < length S.path → standing_of S (slice_index S.path p) ≡ Waiting p
  pub on_path : (v p : ℕ) → standing_of S v ≡ Waiting p → (p < length S.path) × (slice_index S.path p ≡ v)
  pub rising : (i j : ℕ) → i < j → j < length S.firsts → slice_index S.firsts i < slice_index S.firsts j
  pub inside : (f : ℕ) → Contains S.firsts f → f < length S.path
  pub from_start : 0 < length S.path → Contains S.firsts 0
  pub groups : (p q : ℕ) → p < length S.path → q < length S.path → IsNoEarlier S p q → Leads lists (slice_index S.path p) (slice_index S.path q)
  pub lead_is : (lead : Lead) → Contains S.leads lead → (lead.from < length S.path) × Contains (slice_index_or lists (slice_index S.path lead.from) []) lead.to
  pub in_order : AllPairs (λ (a b : Lead). a.from ≤ b.from) S.leads
  pub named_closed : (v m w : ℕ) → standing_of S v ≡ Named m → Contains (slice_index_or lists v []) w → (k : ℕ) × (standing_of S w ≡ Named k)
  pub named_well : (v m : ℕ) → standing_of S v ≡ Named m → LeadBothWays lists v m
  pub named_least : (v m u : ℕ) → standing_of S v ≡ Named m → LeadBothWays lists v u → m ≤ u
  pub room : length S.path + count_by is_unseen S.standing ≤ length lists

-- what the place p leads to was followed: it is named, or stands in the group of p or in a later one
abbrev pub HasFollowed : State → ℕ → ℕ → Type 0
HasFollowed S p w = ((m : ℕ) × (standing_of S w ≡ Named m)) ⊎ ((q : ℕ) × ((standing_of S w ≡ Waiting q) × IsNoEarlier S p q))

-- all that places of the path lead to was followed, or is a lead
abbrev pub AllFollowed : List (List ℕ) → State → Type 0
AllFollowed lists S = (p w : ℕ) → p < length S.path → Contains (slice_index_or lists (slice_index S.path p) []) w → HasFollowed S p w
    ⊎ Contains S.leads (record { from = p; to = w })

-- the same, but for one vertex that the last group leads to
abbrev pub AllFollowedBut : List (List ℕ) → ℕ → State → Type 0
AllFollowedBut lists to S = (p w : ℕ) → p < length S.path → Contains (slice_index_or lists (slice_index S.path p) []) w
    → (HasFollowed S p w ⊎ Contains S.leads (record { from = p; to = w })) ⊎ ((w ≡ to) × ((f : ℕ) → Contains S.firsts f → f ≤ p))

-- a search under way
pub record IsSearching (lists : List (List ℕ)) (S : State) : Type 0 where
  pub sound : IsSound lists S
  pub followed : AllFollowed lists S

-- a vertex was found
abbrev pub IsFound : State → ℕ → Type 0
IsFound S v = standing_of S v ≡ Unseen → ⊥

-- the state before any vertex was found
abbrev pub start : ℕ → State
start size = record { standing = replicate size Unseen; path = []; firsts = []; leads = [] }

-- no vertex is forgotten that was found
abbrev pub StaysFound : State → State → Type 0
StaysFound S S' = (v : ℕ) → standing_of S' v ≡ Unseen → standing_of S v ≡ Unseen

-- what is left to do
abbrev pub work : List (List ℕ) → State → ℕ
work lists S = count_by is_unseen S.standing * (sum_by length lists + 1) + length S.leads + length S.firsts

-- a vertex was found: it stands at the end of the path as a group of its own, and its list becomes leads
pub record IsEntered (list : List ℕ) (v : ℕ) (S S' : State) : Type 0 where
  pub standing : S'.standing ≡ slice_set S.standing v (Waiting (length S.path))
  pub path : S'.path ≡ S.path ++ v ∷ []
  pub firsts : S'.firsts ≡ S.firsts ++ length S.path ∷ []
  pub leads : S'.leads ≡ S.leads ++ leads_from_place (length S.path) list

-- the groups from that of the place q on became one: no group begins after q
pub record IsMerged (q : ℕ) (S S' : State) : Type 0 where
  pub standing : S'.standing ≡ S.standing
  pub path : S'.path ≡ S.path
  pub leads : S'.leads ≡ S.leads
  pub count : ℕ
  pub firsts : S'.firsts ≡ take count S.firsts
  pub low : (i : ℕ) → i < count → i < length S.firsts → slice_index S.firsts i ≤ q
  pub high : (i : ℕ) → count ≤ i → i < length S.firsts → q < slice_index S.firsts i

-- a vertex was looked at: it was found, or groups were merged, or it had a name
pub record IsFollowed (list : List ℕ) (w : ℕ) (S S' : State) : Type 0 where
  pub unseen : standing_of S w ≡ Unseen → IsEntered list w S S'
  pub waiting : (q : ℕ) → standing_of S w ≡ Waiting q → IsMerged q S S'
  pub named : (m : ℕ) → standing_of S w ≡ Named m → S' ≡ S

-- the last lead was taken, one of the last group
pub record IsTaken (w : ℕ) (S S' : State) : Type 0 where
  pub standing : S'.standing ≡ S.standing
  pub path : S'.path ≡ S.path
  pub firsts : S'.firsts ≡ S.firsts
  pub from : ℕ
  pub leads : S.leads ≡ S'.leads ++ record { from = from; to = w } ∷ []
  pub last : slice_index S.firsts (length S.firsts - 1) ≤ from

-- the last lead, if there is one, is of a group before the last
abbrev pub HasNoLead : State → Type 0
HasNoLead S = EndsWithLeadBefore S.leads (slice_index S.firsts (length S.firsts - 1))

-- the last group is a class: its vertices have the least of them as their name, and left the path
pub record IsClosed (S S' : State) : Type 0 where
  pub first : ℕ
  pub least : ℕ
  pub firsts : S.firsts ≡ S'.firsts ++ first ∷ []
  pub path : S'.path ≡ take first S.path
  pub leads : S'.leads ≡ S.leads
  pub among : Contains (drop first S.path) least
  pub least_is : (u : ℕ) → Contains (drop first S.path) u → least ≤ u
  pub standing : AreNamed (drop first S.path) least S.standing S'.standing
