-- What is found of a vertex is the least cost and root of its rows.
use Rattle.std.proofs.Common.{◌≡◌, ◌⊎◌, inl, inr, ⊎_elim, ℕ, zero, suc, ◌+◌, ◌<◌, ◌≤◌, List, [], ◌∷◌, Bool, true, false, Option, Some, None, ◌&&◌, Contains, refl, sym, ap, ◌∙◌, subst, arith, if◌then◌else◌, fold, nat_eq}
use Rattle.std.specs.Prelude.{◌↔◌, ◌==◌, ◌≢◌}
use Rattle.std.specs.declared.cmp.Ordering.TheVariants.{Less}
use Rattle.pgr_outside.proofs.Lists.{Contains-here, Contains-later, Contains-cons_cases, Contains-none}
use Rattle.pgr_reach.specs.declared.reach.ReachedOf.{ReachedOf}
use Rattle.pgr_reach.specs.declared.reach.Reach.{Reach}
use Rattle.pgr_reach.specs.declared.closest.Closest.{Closest}
use Rattle.pgr_reach.specs.Closest.{is_closer, after_row, after_rows, after_reaches, is_found}
use Rattle.std.specs.Prelude.{slice_index_or, length, map}
use Rattle.std.specs.BTreeMap.{BTreeMap, get}
use Rattle.std.specs.Ordering.{nat_cmp}
use Rattle.pgr_reach.specs.Equicost.{IsClosest, AreClosest, listed, with_kept}

-- what was found is at most a cost and root, by cost and then by root
abbrev pub IsNoFurther : Closest → ℕ → ℕ → Type 0
IsNoFurther found cost root = (found.cost < cost) ⊎ ((found.cost ≡ cost) × (found.root ≤ root))

-- what is found of a vertex among rows, each of a root: the least cost and root of its rows, and none where it has no row
record IsFoundOf (Has : ℕ → ReachedOf ℕ → Type 0) (v : ℕ) (found : Closest) : Type 0 where
  row : ReachedOf ℕ
  has : Has found.root row
  node : row.node ≡ v
  cost : row.label.cost ≡ found.cost
  least : (root : ℕ) (other : ReachedOf ℕ) → Has root other → other.node ≡ v → IsNoFurther found other.label.cost root

abbrev IsBest : (ℕ → ReachedOf ℕ → Type 0) → ℕ → Option Closest → Type 0
IsBest Has v None = (root : ℕ) (row : ReachedOf ℕ) → Has root row → row.node ≡ v → ⊥
IsBest Has v (Some found) = IsFoundOf Has v found

-- two sets of rows with the same members
record AreSame (Has Now : ℕ → ReachedOf ℕ → Type 0) : Type 0 where
  gained : (root : ℕ) (row : ReachedOf ℕ) → Has root row → Now root row
  lost : (root : ℕ) (row : ReachedOf ℕ) → Now root row → Has root row

same_best : (Has Now : ℕ → ReachedOf ℕ → Type 0) (v : ℕ) (found : Option Closest) → AreSame Has Now → IsBest Has v found → IsBest Now v found
same_best Has Now v None same best = λ root row now. best root row (same.lost root row now)
same_best Has Now v (Some found) same best = record {
  row = best.row;
  has = same.gained _ _ best.has;
  node = best.node;
  cost = best.cost;
  least = λ root row now. best.least root row (same.lost root row now);
}

-- a cost and root that are closer than what was found, and ones that aren't
closer : (found : Closest) (cost root : ℕ) → is_closer (Some found) cost root ≡ true → IsNoFurther (record { cost = cost; root = root }) found.cost found.root
closer found cost root e = grind arith

no_closer : (found : Closest) (cost root : ℕ) → is_closer (Some found) cost root ≡ false → IsNoFurther found cost root
no_closer found cost root e = grind arith

onward : (a b : Closest) (cost root : ℕ) → IsNoFurther a b.cost b.root → IsNoFurther b cost root → IsNoFurther a cost root
onward a b cost root = λ h k. grind arith

-- one more row
module _ (Has Now : ℕ → ReachedOf ℕ → Type 0) (v root : ℕ) (row : ReachedOf ℕ)
    (gained : (r : ℕ) (x : ReachedOf ℕ) → Has r x → Now r x)
    (new : Now root row)
    (cases : (r : ℕ) (x : ReachedOf ℕ) → Now r x → Has r x ⊎ ((r ≡ root) × (x ≡ row))) where
  -- it is closer than all that was found
  taken : (found : Option Closest) → IsBest Has v found → row.node ≡ v → is_closer found row.label.cost root ≡ true
      → IsFoundOf Now v (record { cost = row.label.cost; root = root })
  taken None best node e = record {
    row = row;
    has = new;
    node = node;
    cost = refl;
    least = λ r x now at. ⊎_elim (λ old. absurd (best r x old at)) (λ p. let P : (ReachedOf ℕ) → Type 0 =
        λ y. IsNoFurther (record { cost = row.label.cost; root = root }) y.label.cost r in subst P (sym p.1) (inr (refl, omega (arith, p.0)))) (cases r x now);
  }
  taken (Some found) best node e = record {
    row = row;
    has = new;
    node = node;
    cost = refl;
    least = λ r x now at. ⊎_elim (λ old. onward _ found _ _ (closer found _ _ e) (best.least r x old at))
        (λ p. let P : (ReachedOf ℕ) → Type 0 = λ y. IsNoFurther (record { cost = row.label.cost; root = root }) y.label.cost r in
        subst P (sym p.1) (inr (refl, omega (arith, p.0)))) (cases r x now);
  }

  -- it is for another vertex, or no closer
  left : (found : Option Closest) → IsBest Has v found → (row.node ≡ v → is_closer found row.label.cost root ≡ false) → IsBest Now v found
  left None best far = λ r x now at. ⊎_elim (λ old. best r x old at) (λ p. let P : (ReachedOf ℕ) → Type 0 = λ y. y.node ≡ v in absurd (cc (far (subst P p.1 at)))) (cases r x now)
  left (Some found) best far = record {
    row = best.row;
    has = gained _ _ best.has;
    node = best.node;
    cost = best.cost;
    least = λ r x now at. ⊎_elim (λ old. best.least r x old at)
        (λ p. let P : (ReachedOf ℕ) → Type 0 = λ y. y.node ≡ v in let Q : (ReachedOf ℕ) → Type 0 = λ y. IsNoFurther found y.label.cost r in
        subst Q (sym p.1) (subst (λ q. IsNoFurther found row.label.cost q) (sym p.0) (no_closer found _ _ (far (subst P p.1 at)))))
        (cases r x now);
  }

  one_more : (found : Option Closest) → IsBest Has v found → IsBest Now v (after_row v root found row)
  one_more found best = by (nat_eq row.node v && is_closer found row.label.cost root) refl
    where
      by : (b : Bool) → (nat_eq row.node v && is_closer found row.label.cost root) ≡ b → IsBest Now v (if b then Some (record { cost = row.label.cost; root = root }) else found)
      by true e = taken found best (grind arith) (grind arith)
      by false e = left found best (λ node. grind arith)

-- the rows of a root among some roots with their rows
abbrev IsListed : List (ℕ × List (ReachedOf ℕ)) → ℕ → ReachedOf ℕ → Type 0
IsListed lists root row = (rows : List (ReachedOf ℕ)) × (Contains lists (root, rows) × Contains rows row)

-- more rows of one root
rows_best : (v root : ℕ) (rows : List (ReachedOf ℕ)) (Has Now : ℕ → ReachedOf ℕ → Type 0) (found : Option Closest)
    → ((r : ℕ) (x : ReachedOf ℕ) → Has r x → Now r x)
    → ((x : ReachedOf ℕ) → Contains rows x → Now root x)
    → ((r : ℕ) (x : ReachedOf ℕ) → Now r x → Has r x ⊎ ((r ≡ root) × Contains rows x))
    → IsBest Has v found
    → IsBest Now v (after_rows v root found rows)
rows_best v root [] Has Now found gained new cases best =
    same_best Has Now v found (record { gained = gained; lost = λ r x now. ⊎_elim (λ old. old) (λ p. absurd (Contains-none x p.1)) (cases r x now) }) best
rows_best v root (row ∷ rows) Has Now found gained new cases best =
    rows_best v root rows Mid Now (after_row v root found row) gained_mid (λ x among. new x (Contains-later row rows x among)) cases_mid
    (one_more Has Mid v root row (λ r x old. inl old) (inr (refl, refl)) (λ r x mid. mid) found best)
  where
    Mid : ℕ → ReachedOf ℕ → Type 0
    Mid r x = Has r x ⊎ ((r ≡ root) × (x ≡ row))

    gained_mid : (r : ℕ) (x : ReachedOf ℕ) → Mid r x → Now r x
    gained_mid r x (inl old) = gained r x old
    gained_mid r x (inr p) = let P : ReachedOf ℕ → Type 0 = Now r in subst P (sym p.1) (subst (λ q. Now q row) (sym p.0) (new row (Contains-here row rows)))

    cases_mid : (r : ℕ) (x : ReachedOf ℕ) → Now r x → Mid r x ⊎ ((r ≡ root) × Contains rows x)
    cases_mid r x now = ⊎_elim (λ old. inl (inl old)) (λ p. ⊎_elim (λ is. inl (inr (p.0, sym is))) (λ later. inr (p.0, later)) (Contains-cons_cases row rows x p.1)) (cases r x now)

-- more roots
reaches_best : (v : ℕ) (reaches : List Reach) (Has Now : ℕ → ReachedOf ℕ → Type 0) (found : Option Closest)
    → ((r : ℕ) (x : ReachedOf ℕ) → Has r x → Now r x)
    → ((r : ℕ) (x : ReachedOf ℕ) → IsListed (map listed reaches) r x → Now r x)
    → ((r : ℕ) (x : ReachedOf ℕ) → Now r x → Has r x ⊎ IsListed (map listed reaches) r x)
    → IsBest Has v found
    → IsBest Now v (after_reaches v found reaches)
reaches_best v [] Has Now found gained new cases best =
    same_best Has Now v found (record { gained = gained; lost = λ r x now. ⊎_elim (λ old. old) (λ p. absurd (Contains-none _ p.1.0)) (cases r x now) }) best
reaches_best v (reach ∷ reaches) Has Now found gained new cases best =
    reaches_best v reaches Mid Now (after_rows v reach.root found reach.rows.items) gained_mid
    (λ r x p. new r x (p.0, (Contains-later (listed reach) (map listed reaches) (r, p.0) p.1.0, p.1.1))) cases_mid
    (rows_best v reach.root reach.rows.items Has Mid found (λ r x old. inl old) (λ x among. inr (refl, among)) (λ r x mid. mid) best)
  where
    Mid : ℕ → ReachedOf ℕ → Type 0
    Mid r x = Has r x ⊎ ((r ≡ reach.root) × Contains reach.rows.items x)

    gained_mid : (r : ℕ) (x : ReachedOf ℕ) → Mid r x → Now r x
    gained_mid r x (inl old) = gained r x old
    gained_mid r x (inr p) =
        new r x (
          reach.rows.items,
          (
            subst (λ q. Contains (listed reach ∷ map listed reaches) (q, reach.rows.items)) (sym p.0)
                (Contains-here (listed reach) (map listed reaches)),
            p.1,
          ),
        )

    cases_mid : (r : ℕ) (x : ReachedOf ℕ) → Now r x → Mid r x ⊎ IsListed (map listed reaches) r x
    cases_mid r x now =
        ⊎_elim (λ old. inl (inl old))
        (λ p. ⊎_elim (λ is. let P : ℕ × List (ReachedOf ℕ) → Type 0 = λ y. (y.0 ≡ reach.root) × Contains reach.rows.items x in
        inl (inr (sym (ap (λ y. y.0) is), subst (λ ys. Contains ys x) (sym (ap (λ y. y.1) is)) p.1.1)))
        (λ later. inr (p.0, (later, p.1.1))) (Contains-cons_cases (listed reach) (map listed reaches) (r, p.0) p.1.0))
        (cases r x now)

-- of all rows
all_best : (v : ℕ) (reaches : List Reach) → IsBest (IsListed (map listed reaches)) v (after_reaches v None reaches)
all_best v reaches = reaches_best v reaches (λ r x. ⊥) (IsListed (map listed reaches)) None (λ r x no. absurd no) (λ r x among. among) (λ r x among. inr among) (λ r x no at. no)

-- numbers that are not less
not_less : (m n : ℕ) → n ≤ m → nat_cmp m n ≢ Less
not_less m n h e = grind arith

no_less : (m n : ℕ) → nat_cmp m n ≢ Less → n ≤ m
no_less m n h = grind arith

-- a row is kept exactly where it is closest
kept_exactly : (lists : List (ℕ × List (ReachedOf ℕ))) (root : ℕ) (rows : List (ReachedOf ℕ)) (row : ReachedOf ℕ) (found : Option Closest)
    → Contains lists (root, rows) → Contains rows row → IsBest (IsListed lists) row.node found
    → (is_found found row.label.cost root ≡ true) ↔ IsClosest nat_cmp lists root row
kept_exactly lists root rows row None among inside best = (λ e. cc, λ closest. absurd (best root row (rows, (among, inside)) refl))
kept_exactly lists root rows row (Some found) among inside best = (kept, closest_kept)
  where
    is : is_found (Some found) row.label.cost root ≡ true → (found.cost ≡ row.label.cost) × (found.root ≡ root)
    is e = grind arith

    kept : is_found (Some found) row.label.cost root ≡ true → IsClosest nat_cmp lists root row
    kept e other there_rows x has in_other same =
        ⊎_elim (λ less. inl (omega (arith, less, (is e).0))) (λ p. inr (omega (arith, p.0, (is e).0), not_less other root (omega (arith, p.1, (is e).1))))
        (best.least other x (there_rows, (has, in_other)) same)

    both : IsNoFurther found row.label.cost root → (row.label.cost < best.row.label.cost) ⊎ ((row.label.cost ≡ best.row.label.cost) × (root ≤ found.root))
        → best.row.label.cost ≡ found.cost → is_found (Some found) row.label.cost root ≡ true
    both mine its cost = grind arith

    closest_kept : IsClosest nat_cmp lists root row → is_found (Some found) row.label.cost root ≡ true
    closest_kept closest =
        both (best.least root row (rows, (among, inside)) refl)
        (⊎_elim inl (λ p. inr (p.0, no_less found.root root p.1)) (closest found.root best.has.0 best.row best.has.1.0 best.has.1.1 best.node))
        best.cost

-- what a map of closest vertices keeps of a root and its rows
abbrev pub keeps : BTreeMap ℕ Closest → ℕ → ReachedOf ℕ → Bool
keeps closest root row = is_found (get nat_cmp closest row.node) row.label.cost root

-- the roots below a place have the rows that are kept, and the others are as they were
pub record IsKeptUpTo (closest : BTreeMap ℕ Closest) (old : List Reach) (place : ℕ) (now : List Reach) : Type 0 where
  pub same_length : length now ≡ length old
  pub below : (k : ℕ) (d : Reach) → k < place → k < length old → listed (slice_index_or now k d) ≡ with_kept (keeps closest) (listed (slice_index_or old k d))
  pub above : (k : ℕ) (d : Reach) → place ≤ k → slice_index_or now k d ≡ slice_index_or old k d

-- rows that are kept at each place are kept on the whole
rows_kept : (test : ℕ → ReachedOf ℕ → Bool) (now old : List Reach) → length now ≡ length old
    → ((k : ℕ) (d : Reach) → k < length old → listed (slice_index_or now k d) ≡ with_kept test (listed (slice_index_or old k d)))
    → map listed now ≡ map (with_kept test) (map listed old)
rows_kept test [] [] same each = refl
rows_kept test [] (y ∷ old) same each = absurd (omega arith)
rows_kept test (x ∷ now) [] same each = absurd (omega arith)
rows_kept test (x ∷ now) (y ∷ old) same each =
    ap (λ z. z ∷ map listed now) (each 0 x (omega arith))
    ∙ ap (λ zs. with_kept test (listed y) ∷ zs) (rows_kept test now old (omega arith) (λ k d below. each (suc k) d (omega arith)))

-- all roots are kept with their closest rows
pub all_kept : (closest : BTreeMap ℕ Closest) (old now : List Reach) (place : ℕ) → length old ≤ place
    → ((v : ℕ) → get nat_cmp closest v ≡ after_reaches v None old) → IsKeptUpTo closest old place now → AreClosest nat_cmp (map listed old) (map listed now)
all_kept closest old now place past holds kept = record {
  keeps = keeps closest;
  lists = rows_kept (keeps closest) now old kept.same_length (λ k d below. kept.below k d (omega arith) below);
  exactly = λ root rows row among inside. kept_exactly (map listed old) root rows row (get nat_cmp closest row.node) among inside
      (subst (IsBest (IsListed (map listed old)) row.node) (sym (holds row.node)) (all_best row.node old));
}
