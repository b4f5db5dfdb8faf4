-- Classes of vertex numbers are classes of the ids that they stand for.
use Rattle.std.proofs.Common.{◌≡◌, inl, inr, ⊎_elim, ℕ, ◌<◌, List, [], ◌∷◌, map, length, sym, ap, ◌∙◌, subst, rules, arith, Greater}
use Rattle.std.proofs.lemmas.Grind.{common_steps}
use Rattle.std.specs.Prelude.{ℤ, Contains}
use Rattle.std.specs.Ordering.{nat_cmp, int_cmp}
use Rattle.pgr_outside.specs.Lists.{IsStrictlyRising}
use Rattle.pgr_walks.specs.declared.link.LinkOf.{LinkOf}
use Rattle.pgr_walks.specs.Walk.{IsWalk}
use Rattle.pgr_walks.specs.Reaches.{Reaches, BothWays, turned}
use Rattle.pgr_numbers.specs.Names.{IsNumbered, id_at, named}
use Rattle.pgr_parts.specs.Classes.{Connected, StronglyConnected, IsClassName}

-- the links of one set stand for those of the other, and lead between numbers of names
pub record AreNamed (names : List ℤ) (Has : LinkOf ℕ → Type 0) (HasId : LinkOf ℤ → Type 0) : Type 0 where
  pub to : (link : LinkOf ℕ) → Has link → HasId (named names link)
  pub ends : (link : LinkOf ℕ) → Has link → IsNumbered names link
  pub back : (link : LinkOf ℤ) → HasId link → (number : LinkOf ℕ) × (Has number × (named names number ≡ link))

module _ (names : List ℤ) (rise : IsStrictlyRising int_cmp names)
    (order_kept : (m n : ℕ) → IsStrictlyRising int_cmp names → m < length names → n < length names → int_cmp (id_at names m) (id_at names n) ≡ nat_cmp m n)
    (one_number : (m n : ℕ) → IsStrictlyRising int_cmp names → m < length names → n < length names → id_at names m ≡ id_at names n → m ≡ n) where
  walk_named : (Has : LinkOf ℕ → Type 0) (HasId : LinkOf ℤ → Type 0) → AreNamed names Has HasId → (s : ℕ) (walk : List (LinkOf ℕ)) (t : ℕ) → IsWalk Has s walk t
      → IsWalk HasId (id_at names s) (map (named names) walk) (id_at names t)
  walk_named Has HasId are s [] t is_walk = ap (id_at names) is_walk
  walk_named Has HasId are s (link ∷ rest) t is_walk = (are.to link is_walk.0, ap (id_at names) is_walk.1, walk_named Has HasId are link.to rest t is_walk.2)

  walk_numbered : (Has : LinkOf ℕ → Type 0) (HasId : LinkOf ℤ → Type 0) → AreNamed names Has HasId → (s : ℕ) (walk : List (LinkOf ℤ)) (t : ℕ) → s < length names → t < length names
      → IsWalk HasId (id_at names s) walk (id_at names t) → Reaches Has s t
  walk_numbered Has HasId are s [] t s_in t_in is_walk = ([], one_number s t rise s_in t_in is_walk)
  walk_numbered Has HasId are s (link ∷ rest) t s_in t_in is_walk =
      let number = are.back link is_walk.0 in
      let in_number : IsNumbered names number.0 = are.ends number.0 number.1.0 in
      let on : IsWalk HasId (id_at names number.0.to) rest (id_at names t) = subst (λ v. IsWalk HasId v rest (id_at names t)) (sym (ap (λ l. l.to) number.1.1)) is_walk.2 in
      let later = walk_numbered Has HasId are number.0.to rest t in_number.1 t_in on in
      (number.0 ∷ later.0, (number.1.0, one_number number.0.from s rise in_number.0 s_in (ap (λ l. l.from) number.1.1 ∙ is_walk.1), later.1))

  -- what the links reach is named
  named_end : (HasId : LinkOf ℤ → Type 0) → ((link : LinkOf ℤ) → HasId link → Contains names link.to) → (s : ℤ) (walk : List (LinkOf ℤ)) (v : ℤ) → Contains names s
      → IsWalk HasId s walk v → Contains names v
  named_end HasId ends s [] v has is_walk = subst (Contains names) is_walk has
  named_end HasId ends s (link ∷ rest) v has is_walk = named_end HasId ends link.to rest v (ends link is_walk.0) is_walk.2

  both_ways : (Has : LinkOf ℕ → Type 0) (HasId : LinkOf ℤ → Type 0) → AreNamed names Has HasId → AreNamed names (BothWays Has) (BothWays HasId)
  both_ways Has HasId are = record {
    to = λ link has. ⊎_elim (λ here. inl (are.to link here)) (λ there. inr (are.to (turned link) there)) has;
    ends = λ link has. ⊎_elim (are.ends link) (λ there. let e = are.ends (turned link) there in (e.1, e.0)) has;
    back = λ link has. ⊎_elim (λ here. let n = are.back link here in (n.0, (inl n.1.0, n.1.1)))
        (λ there. let n = are.back (turned link) there in (turned n.0, (inr n.1.0, ap turned n.1.1))) has;
  }

  -- the name of a class by number stands for its name by id
  class_named : (InClass : ℕ → ℕ → Type 0) (InClassId : ℤ → ℤ → Type 0) (v name : ℕ) → v < length names → name < length names
      → (InClass v name → InClassId (id_at names v) (id_at names name))
      → ((u : ℕ) → u < length names → InClassId (id_at names v) (id_at names u) → InClass v u)
      → ((u : ℤ) → InClassId (id_at names v) u → Contains names u)
      → IsClassName nat_cmp InClass v name → IsClassName int_cmp InClassId (id_at names v) (id_at names name)
  class_named InClass InClassId v name v_in name_in to from members is = record {
    member = to is.member;
    least = λ u in_class greater. among u in_class (members u in_class) greater;
  }
    where
      among : (u : ℤ) → InClassId (id_at names v) u → Contains names u → int_cmp (id_at names name) u ≡ Greater → ⊥
      among u in_class (k, inside, at) greater =
          let is_k : id_at names k ≡ u = search (rules, arith, common_steps) in
          is.least k (from k inside (subst (InClassId (id_at names v)) (sym is_k) in_class))
          (sym (order_kept name k rise name_in inside) ∙ ap (int_cmp (id_at names name)) is_k ∙ greater)

  module _ (Has : LinkOf ℕ → Type 0) (HasId : LinkOf ℤ → Type 0) (are : AreNamed names Has HasId)
      (ends : (link : LinkOf ℤ) → HasId link → Contains names link.from × Contains names link.to) (v name : ℕ) (v_in : v < length names) (name_in : name < length names) where
    v_named : Contains names (id_at names v)
    v_named = (v, v_in, search (rules, arith, common_steps))

    pub connected_named : IsClassName nat_cmp (Connected Has) v name → IsClassName int_cmp (Connected HasId) (id_at names v) (id_at names name)
    connected_named =
        class_named (Connected Has) (Connected HasId) v name v_in name_in
        (λ in_class. (map (named names) in_class.0, walk_named (BothWays Has) (BothWays HasId) (both_ways Has HasId are) v in_class.0 name in_class.1))
        (λ u u_in in_class. walk_numbered (BothWays Has) (BothWays HasId) (both_ways Has HasId are) v in_class.0 u v_in u_in in_class.1)
        (λ u in_class. named_end (BothWays HasId) (λ link has. ⊎_elim (λ here. (ends link here).1) (λ there. (ends (turned link) there).0) has)
        (id_at names v) in_class.0 u v_named in_class.1)

    pub strong_named : IsClassName nat_cmp (StronglyConnected Has) v name → IsClassName int_cmp (StronglyConnected HasId) (id_at names v) (id_at names name)
    strong_named =
        class_named (StronglyConnected Has) (StronglyConnected HasId) v name v_in name_in
        (λ in_class. (
          (map (named names) in_class.0.0, walk_named Has HasId are v in_class.0.0 name in_class.0.1),
          (map (named names) in_class.1.0, walk_named Has HasId are name in_class.1.0 v in_class.1.1),
        ))
        (λ u u_in in_class. (walk_numbered Has HasId are v in_class.0.0 u v_in u_in in_class.0.1, walk_numbered Has HasId are u in_class.1.0 v u_in v_in in_class.1.1))
        (λ u in_class. named_end HasId (λ link has. (ends link has).1) (id_at names v) in_class.0.0 u v_named in_class.0.1)
