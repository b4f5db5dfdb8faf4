-- What a sink holds after a write.
use Rattle.std.specs.Prelude.{◌≡◌, ℕ, List, [], ◌++◌, Option, Some, None, option_map, refl}
use Rattle.std.proofs.Common.{ap, sym, subst, ◌∙◌, append_assoc, append-nil}

-- what a sink was given, with these bytes at its end; untold where it was untold
abbrev pub with_added : Option (List ℕ) → List ℕ → Option (List ℕ)
with_added written bytes = option_map (λ before. before ++ bytes) written

-- a front of the bytes was added, from none of them to all, and nothing else
abbrev pub AddsPrefix : Option (List ℕ) → Option (List ℕ) → List ℕ → Type 0
AddsPrefix before after bytes = (front : List ℕ) × (rest : List ℕ) × (front ++ rest ≡ bytes) × (after ≡ with_added before front)

-- adding two pieces is adding them joined
pub with_added-twice : (before : Option (List ℕ)) (front piece : List ℕ) → with_added (with_added before front) piece ≡ with_added before (front ++ piece)
with_added-twice None front piece = refl
with_added-twice (Some told) front piece = ap Some (append_assoc told front piece)

-- a front of the first of two pieces is a front of both
pub AddsPrefix-first : (before after : Option (List ℕ)) (first second : List ℕ) → AddsPrefix before after first → AddsPrefix before after (first ++ second)
AddsPrefix-first before after first second (front, rest, whole, added) = (front, rest ++ second, sym (append_assoc front rest second) ∙ ap (λ bytes. bytes ++ second) whole, added)

-- behind the whole first of two pieces, a front of the second is a front of both
pub AddsPrefix-second : (before between after : Option (List ℕ)) (first second : List ℕ) → between ≡ with_added before first → AddsPrefix between after second
    → AddsPrefix before after (first ++ second)
AddsPrefix-second before between after first second begun (front, rest, whole, added) = (
  first ++ front,
  rest,
  append_assoc first front rest ∙ ap (λ bytes. first ++ bytes) whole,
  added ∙ ap (λ written. with_added written front) begun
      ∙ with_added-twice before first front,
)

-- adding nothing changes nothing
with_added-nil : (before : Option (List ℕ)) → with_added before [] ≡ before
with_added-nil None = refl
with_added-nil (Some told) = ap Some (append-nil told)

-- of the bytes, all before the rest were added
pub record HasGained (before after : Option (List ℕ)) (bytes rest : List ℕ) : Type 0 where
  pub front : List ℕ
  pub split : front ++ rest ≡ bytes
  pub gained : after ≡ with_added before front

-- nothing was added yet
pub HasGained-none : (before : Option (List ℕ)) (bytes : List ℕ) → HasGained before before bytes bytes
HasGained-none before bytes = record { front = []; split = refl; gained = sym (with_added-nil before) }

-- all was added, and nothing is left
pub HasGained-all : (before after : Option (List ℕ)) (bytes rest : List ℕ) → after ≡ with_added before bytes → rest ≡ [] → HasGained before after bytes rest
HasGained-all before after bytes rest added empty =
    record { front = bytes; split = ap (λ back. bytes ++ back) empty ∙ append-nil bytes; gained = added }

-- of the rest all but a shorter rest was added
pub HasGained-then : (before between after : Option (List ℕ)) (bytes rest left : List ℕ) → HasGained before between bytes rest → HasGained between after rest left
    → HasGained before after bytes left
HasGained-then before between after bytes rest left first second =
    record {
      front = first.front ++ second.front;
      split = append_assoc first.front second.front left ∙ ap (λ back. first.front ++ back) second.split ∙ first.split;
      gained = second.gained ∙ ap (λ written. with_added written second.front) first.gained ∙ with_added-twice before first.front second.front;
    }

-- the rest was added too
pub HasGained-end : (before between after : Option (List ℕ)) (bytes rest : List ℕ) → HasGained before between bytes rest → after ≡ with_added between rest
    → after ≡ with_added before bytes
HasGained-end before between after bytes rest first added =
    added ∙ ap (λ written. with_added written rest) first.gained ∙ with_added-twice before first.front rest ∙ ap (with_added before) first.split

-- a prefix of the rest was added
pub HasGained-prefix : (before between after : Option (List ℕ)) (bytes rest : List ℕ) → HasGained before between bytes rest → AddsPrefix between after rest
    → AddsPrefix before after bytes
HasGained-prefix before between after bytes rest first (front, left, split, gained) =
    let all : HasGained before after bytes left = HasGained-then before between after bytes rest left first (record { front = front; split = split; gained = gained }) in
    (all.front, left, all.split, all.gained)

-- what is gathered, a text and more are left: of the first two all but what is gathered now was added
pub HasGained-step : (before between after : Option (List ℕ)) (bytes rest gathered text more now : List ℕ)
    → HasGained before between bytes rest
    → rest ≡ gathered ++ (text ++ more)
    → HasGained between after (gathered ++ text) now
    → HasGained before after bytes (now ++ more)
HasGained-step before between after bytes rest gathered text more now first is_rest second =
    HasGained-then before between after bytes rest (now ++ more) first
    (record {
      front = second.front;
      split = sym (append_assoc second.front now more) ∙ ap (λ all. all ++ more) second.split ∙ append_assoc gathered text more ∙ sym is_rest;
      gained = second.gained;
    })

-- what is gathered, a text and more are left: of the first two a prefix was added
pub HasGained-stop : (before between after : Option (List ℕ)) (bytes rest gathered text more : List ℕ)
    → HasGained before between bytes rest
    → rest ≡ gathered ++ (text ++ more)
    → AddsPrefix between after (gathered ++ text)
    → AddsPrefix before after bytes
HasGained-stop before between after bytes rest gathered text more first is_rest second =
    HasGained-prefix before between after bytes rest first
    (subst (AddsPrefix between after) (append_assoc gathered text more ∙ sym is_rest) (AddsPrefix-first between after (gathered ++ text) more second))
