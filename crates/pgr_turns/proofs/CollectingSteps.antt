-- What a visitor that collects links means after it was shown a list of them.
use Rattle.std.proofs.Common.{◌≡◌, ℕ, suc, ◌+◌, ◌-◌, ◌^◌, ◌<◌, ◌≤◌, ◌++◌, List, [], ◌∷◌, true, false, cond, ltb, length, take, set, min, refl, ap, ◌∙◌, sym, subst, arith}
use Rattle.std.specs.Borrow.{GName}
use Rattle.std.proofs.lemmas.Bool.Decides.{nat_tests}
use Rattle.std.proofs.lemmas.List.{length-set, take-set-le, take_more_set, append_assoc, append-nil}
use Rattle.pgr_walks.specs.declared.link.LinkOf.{LinkOf}
use Rattle.pgr_walks.specs.declared.visitor.Next.{Next}
use Rattle.pgr_walks.specs.declared.visitor.Next.TheVariants.{Go}
use Rattle.pgr_walks.specs.Visit.{shown, Admits}
use Rattle.pgr_turns.specs.Collecting.{Collection, collection_after, HaveCollected}

-- it never stops, and may be shown every link
abbrev pub always_on : Collection → LinkOf ℕ → Next
always_on meaning link = Go

abbrev pub always_ready : Collection → LinkOf ℕ → Type 0
always_ready meaning link = Unit {0}

pub admits_all : (m : Collection) (links : List (LinkOf ℕ)) → Admits collection_after always_on always_ready m links
admits_all m [] = tt
admits_all m (link ∷ links) = (tt, admits_all (collection_after m link) links)

-- the places after one end was noted, where there is a place
one_noted : List (LinkOf ℕ) → ℕ → LinkOf ℕ → List (LinkOf ℕ)
one_noted places next v = cond (ltb next (length places)) (set places next v) places

length-one_noted : (places : List (LinkOf ℕ)) (next : ℕ) (v : LinkOf ℕ) → length (one_noted places next v) ≡ length places
unfolding one_noted
length-one_noted places next v = elim (ltb next (length places)) as (λ b. length (cond b (set places next v) places) ≡ length places)
    [ true ↦ length-set places next v | false ↦ refl ]

take-one_noted : (places : List (LinkOf ℕ)) (next : ℕ) (v : LinkOf ℕ) (k : ℕ) → k ≤ next → take k (one_noted places next v) ≡ take k places
unfolding one_noted
take-one_noted places next v k h = elim (ltb next (length places)) as (λ b. take k (cond b (set places next v) places) ≡ take k places)
    [ true ↦ take-set-le k places next v h | false ↦ refl ]

one_noted_inside : (places : List (LinkOf ℕ)) (next : ℕ) (v : LinkOf ℕ) → next < length places → one_noted places next v ≡ set places next v
unfolding one_noted
one_noted_inside places next v h =
    let test : ltb next (length places) ≡ true = grind (arith, nat_tests) in
    ap (λ b. cond b (set places next v) places) test

take_more-one_noted : (places : List (LinkOf ℕ)) (next : ℕ) (v : LinkOf ℕ) → next < length places → take (next + 1) (one_noted places next v) ≡ take next places ++ v ∷ []
take_more-one_noted places next v h = ap (take (next + 1)) (one_noted_inside places next v h) ∙ take_more_set places next v h

-- what it means at last
pub record AreCollected (m final : Collection) (links : List (LinkOf ℕ)) : Type 0 where
  pub reference_is : final.reference ≡ m.reference
  pub next_is : final.next ≡ min (m.next + length links) (2 ^ 64 - 1)
  pub size_is : length final.places ≡ length m.places
  pub front : (k : ℕ) → k ≤ m.next → take k final.places ≡ take k m.places
  pub noted : m.next + length links ≤ length m.places → m.next + length links ≤ 2 ^ 64 - 1
      → take (m.next + length links) final.places ≡ take m.next m.places ++ links

last_next : (next count : ℕ) → min (min (next + 1) (2 ^ 64 - 1) + count) (2 ^ 64 - 1) ≡ min (next + suc count) (2 ^ 64 - 1)
last_next next count = omega arith

-- one link more in front
noted_more : (m final : Collection) (link : LinkOf ℕ) (links : List (LinkOf ℕ)) → m.next ≤ 2 ^ 64 - 1
    → AreCollected (record m { places = one_noted m.places m.next link; next = min (m.next + 1) (2 ^ 64 - 1) }) final links → AreCollected m final (link ∷ links)
noted_more m final link links small h = record {
  reference_is = h.reference_is;
  next_is = h.next_is ∙ last_next m.next (length links);
  size_is = h.size_is ∙ length-one_noted m.places m.next link;
  front = λ k below. h.front k (omega arith) ∙ take-one_noted m.places m.next link k below;
  noted = λ fits small_enough.
      let next_is : min (m.next + 1) (2 ^ 64 - 1) ≡ m.next + 1 = omega arith in
      let inside : m.next < length m.places = omega arith in
      let size : length (one_noted m.places m.next link) ≡ length m.places = length-one_noted m.places m.next link in
      let there = h.noted (omega arith) (omega arith) in
      let same : m.next + suc (length links) ≡ min (m.next + 1) (2 ^ 64 - 1) + length links = omega arith in
      ap (λ n. take n final.places) same ∙ there
      ∙ ap (λ n. take n (one_noted m.places m.next link) ++ links) next_is
      ∙ ap (λ xs. xs ++ links) (take_more-one_noted m.places m.next link inside)
      ∙ append_assoc (take m.next m.places) (link ∷ []) (links);
}

pub shown_noted : (m : Collection) (links : List (LinkOf ℕ)) → m.next ≤ 2 ^ 64 - 1 → AreCollected m (shown collection_after always_on m links) links
unfolding one_noted
shown_noted m [] small = record {
  reference_is = refl;
  next_is = omega arith;
  size_is = refl;
  front = λ k h. refl;
  noted = λ fits small_enough. ap (λ n. take n m.places) (omega arith) ∙ sym (append-nil (take m.next m.places));
}
shown_noted m (link ∷ links) small =
    noted_more m (shown collection_after always_on (collection_after m link) links) link links small (shown_noted (collection_after m link) links (omega arith))

-- what is behind a reference that the visitor still holds is what the visitor means
pub collected_at_last : (reference held : GName) (places now final : List (LinkOf ℕ)) (last : ℕ) (links : List (LinkOf ℕ))
    → ◌≡◌ {A = Collection} (record { reference = held; places = now; next = last })
    (shown collection_after always_on (record { reference = reference; places = places; next = 0 }) links)
    → (reference ≡ held → final ≡ now) → HaveCollected links places final last
collected_at_last reference held places now final last links e follows =
    let m : Collection = record { reference = reference; places = places; next = 0 } in
    let h = subst (λ f. AreCollected m f links) (sym e) (shown_noted m links (omega arith)) in
    let is : final ≡ now = follows (sym h.reference_is) in
    let count : 0 + length links ≡ length links = omega arith in
    let P : List (LinkOf ℕ) → Type 0 = λ xs. HaveCollected links places xs last in
    subst P (sym is) (record {
      last_is = h.next_is ∙ ap (λ n. min n (2 ^ 64 - 1)) count;
      size_is = h.size_is;
      noted = λ fits small_enough. ap (λ n. take n now) (sym count) ∙ h.noted (omega arith) (omega arith);
    })
