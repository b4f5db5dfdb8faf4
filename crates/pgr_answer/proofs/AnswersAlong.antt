-- Answers with what is shown seen through a function, where pairs are asked for otherwise, and over another set with the same links.
use Rattle.std.proofs.Common.{◌≡◌, ℕ, ℤ, ◌<◌, List, [], ◌∷◌, length, get_or, map, subst, ap, ◌∙◌, arith}
use Rattle.std.specs.Prelude.{◌↔◌, All, Any}
use Rattle.std.proofs.lemmas.List.{length-map, get_or-map}
use Rattle.std.proofs.lemmas.List.Elements.{All-map}
use Rattle.pgr_outside.specs.Lists.{IsStrictlyRising}
use Rattle.pgr_walks.specs.declared.link.LinkOf.{LinkOf}
use Rattle.pgr_walks.specs.Walk.{IsVertex}
use Rattle.pgr_route.proofs.TightWalks.{walk_wider}
use Rattle.pgr_answer.specs.Pairs.{IsAnswerable}
use Rattle.pgr_answer.specs.Answers.{Answer, answer_cmp, AreAnswers, AreAnswersBy, walks_over}
use Rattle.pgr_answer.specs.Costs.{IsLeastCost}
use Rattle.pgr_answer.specs.Paths.{IsLeastBetween}
use Rattle.pgr_answer.specs.Found.{seen}

-- what holds of each element of a list seen through a function holds of each element so seen
pub All-from_map : {X Y : Type 0} (P : Y → Type 0) (f : X → Y) (xs : List X) → All P (map f xs) → All (λ x. P (f x)) xs
All-from_map P f xs all k d within = subst P (get_or-map f xs k d (f d) within) (all k (f d) (omega (arith, length-map xs f)))

-- an element that has a property when seen through a function is one of the list seen through it
pub Any-map : {X Y : Type 0} (P : Y → Type 0) (f : X → Y) (xs : List X) → Any (λ x. P (f x)) xs → Any P (map f xs)
Any-map P f xs (k, x, within, is, holds) = (k, f x, omega (arith, length-map xs f), get_or-map f xs k x (f x) within ∙ ap f is, holds)

-- answers rise as before
rise-seen : {A B : Type 0} (f : A → B) (answers : List (Answer A)) → IsStrictlyRising answer_cmp answers → IsStrictlyRising answer_cmp (map (seen f) answers)
rise-seen f [] rise i j d before within = absurd (omega arith)
rise-seen f (first ∷ rest) rise i j d before within =
    let answers = first ∷ rest in
    let inside : j < length answers = omega (arith, length-map answers (seen f)) in
    ap (λ a. answer_cmp a (get_or (map (seen f) answers) j d)) (get_or-map (seen f) answers i first d (omega arith))
    ∙ ap (answer_cmp (seen f (get_or answers i first))) (get_or-map (seen f) answers j first d inside)
    ∙ rise i j first before inside

-- what is shown seen through a function: the answers show what it shows
pub answers-seen : {A B : Type 0} {Leads : ℤ → ℤ → List (LinkOf ℤ) → Type 0} (f : A → B)
    (Has : LinkOf ℤ → Type 0) (Asked : ℤ → ℤ → Type 0) (Shows : ℤ → ℤ → A → Type 0) (Shown : ℤ → ℤ → B → Type 0)
    → ((s t : ℤ) (shown : A) → Shows s t shown → Shown s t (f shown))
    → (answers : List (Answer A)) → AreAnswersBy Has Leads Asked Shows answers → AreAnswersBy Has Leads Asked Shown (map (seen f) answers)
answers-seen f Has Asked Shows Shown through answers are = record {
  asked = All-map (λ answer. Asked answer.start answer.end) (seen f) answers are.asked;
  answerable = All-map (λ answer. IsAnswerable Has answer.start answer.end) (seen f) answers are.answerable;
  shows = All-map (λ answer. Shown answer.start answer.end answer.shown) (seen f) answers (λ k d within. through _ _ _ (are.shows k d within));
  every = λ start end walk asked answerable is_walk. Any-map (λ answer. (answer.start ≡ start) × (answer.end ≡ end)) (seen f) answers
      (are.every start end walk asked answerable is_walk);
  rise = rise-seen f answers are.rise;
}

-- pairs asked for otherwise: the same answers where of the answerable pairs the same are asked for
pub answers-asked : {A : Type 0} (Has : LinkOf ℤ → Type 0) (Asked Wanted : ℤ → ℤ → Type 0) (Shows : ℤ → ℤ → A → Type 0)
    → ((s t : ℤ) → IsAnswerable Has s t → Asked s t ↔ Wanted s t)
    → (answers : List (Answer A)) → AreAnswers Has Asked Shows answers → AreAnswers Has Wanted Shows answers
answers-asked Has Asked Wanted Shows same answers are = record {
  asked = λ k d within. (same _ _ (are.answerable k d within)).0 (are.asked k d within);
  answerable = are.answerable;
  shows = are.shows;
  every = λ start end walk wanted answerable is_walk. are.every start end walk ((same start end answerable).1 wanted) answerable is_walk;
  rise = are.rise;
}

-- a vertex of a set of links is one of a set that has them
IsVertex-over : (P Q : LinkOf ℤ → Type 0) → ((link : LinkOf ℤ) → P link → Q link) → (v : ℤ) → IsVertex P v → IsVertex Q v
IsVertex-over P Q f v (link, has, ends) = (link, f link has, ends)

-- a pair that is answerable over a set of links is answerable over a set that has them
IsAnswerable-over : (P Q : LinkOf ℤ → Type 0) → ((link : LinkOf ℤ) → P link → Q link) → (s t : ℤ) → IsAnswerable P s t → IsAnswerable Q s t
IsAnswerable-over P Q f s t answerable = record {
  start_is_vertex = IsVertex-over P Q f s answerable.start_is_vertex;
  end_is_vertex = IsVertex-over P Q f t answerable.end_is_vertex;
  differ = answerable.differ;
}

module _ (P Q : LinkOf ℤ → Type 0) (same : (link : LinkOf ℤ) → P link ↔ Q link) where
  -- a link of the one set is one of the other
  into : (link : LinkOf ℤ) → P link → Q link
  into link has = (same link).0 has

  -- and back
  back : (link : LinkOf ℤ) → Q link → P link
  back link has = (same link).1 has

  -- the least walk over a set of links is least over a set with the same links
  pub IsLeastBetween-over : (s t : ℤ) (walk : List (LinkOf ℤ)) → IsLeastBetween P s t walk → IsLeastBetween Q s t walk
  IsLeastBetween-over s t walk least = record {
    belongs = walk_wider P Q into s walk t least.belongs;
    precedes = λ other is_walk. least.precedes other (walk_wider Q P back s other t is_walk);
  }

  -- and so is the least cost
  pub IsLeastCost-over : (s t : ℤ) (cost : ℕ) → IsLeastCost P s t cost → IsLeastCost Q s t cost
  IsLeastCost-over s t cost least = record {
    walk = least.walk;
    is_walk = walk_wider P Q into s least.walk t least.is_walk;
    costs = least.costs;
    least = λ other is_walk. least.least other (walk_wider Q P back s other t is_walk);
  }

  -- another set with the same links: the same answers, where what is shown is shown over it too
  pub answers-over_by : {A : Type 0} (Leads Goes : ℤ → ℤ → List (LinkOf ℤ) → Type 0) → ((s t : ℤ) (walk : List (LinkOf ℤ)) → Goes s t walk → Leads s t walk)
      → (Asked : ℤ → ℤ → Type 0) (Shows Shown : ℤ → ℤ → A → Type 0)
      → ((s t : ℤ) (shown : A) → Shows s t shown → Shown s t shown)
      → (answers : List (Answer A)) → AreAnswersBy P Leads Asked Shows answers → AreAnswersBy Q Goes Asked Shown answers
  answers-over_by Leads Goes too Asked Shows Shown along answers are = record {
    asked = are.asked;
    answerable = λ k d within. IsAnswerable-over P Q into _ _ (are.answerable k d within);
    shows = λ k d within. along _ _ _ (are.shows k d within);
    every = λ start end walk asked answerable goes. are.every start end walk asked (IsAnswerable-over Q P back start end answerable) (too start end walk goes);
    rise = are.rise;
  }

  -- where all walks over the links lead
  pub answers-over : {A : Type 0} (Asked : ℤ → ℤ → Type 0) (Shows Shown : ℤ → ℤ → A → Type 0)
      → ((s t : ℤ) (shown : A) → Shows s t shown → Shown s t shown)
      → (answers : List (Answer A)) → AreAnswers P Asked Shows answers → AreAnswers Q Asked Shown answers
  answers-over = answers-over_by (walks_over P) (walks_over Q) (λ s t walk is_walk. walk_wider Q P back s walk t is_walk)
