-- Answers to pairs of vertices: one for each asked pair that can be answered and has a walk, in order.
use Rattle.std.specs.Prelude.{◌≡◌, List, All, Any, ℤ}
use Rattle.std.specs.declared.cmp.Ordering.{Ordering}
use Rattle.std.specs.Ordering.{int_cmp, ordering_then}
use Rattle.pgr_outside.specs.Lists.{IsStrictlyRising}
use Rattle.pgr_walks.specs.declared.link.LinkOf.{LinkOf}
use Rattle.pgr_walks.specs.Walk.{IsWalk}
use Rattle.pgr_answer.specs.Pairs.{IsAnswerable}

-- the answer to a pair: its two vertices, and what is shown of the walks between them
pub record Answer (Shown : Type 0) : Type 0 where
  pub start : ℤ
  pub end : ℤ
  pub shown : Shown

-- the order of answers: by start, then by end
abbrev pub answer_cmp : {Shown : Type 0} → Answer Shown → Answer Shown → Ordering
answer_cmp a b = ordering_then (int_cmp a.start b.start) (int_cmp a.end b.end)

-- the answers over a set of links, where these walks lead from a vertex to another: each is for an asked pair that can be answered, and shows what is to be
-- shown of it; each asked pair that can be answered and has such a walk has one; they rise by start and then by end, so no pair has two
pub record AreAnswersBy {Shown : Type 0} (Has : LinkOf ℤ → Type 0) (Leads : ℤ → ℤ → List (LinkOf ℤ) → Type 0) (Asked : ℤ → ℤ → Type 0)
    (Shows : ℤ → ℤ → Shown → Type 0) (answers : List (Answer Shown)) : Type 0 where
  pub asked : All (λ answer. Asked answer.start answer.end) answers
  pub answerable : All (λ answer. IsAnswerable Has answer.start answer.end) answers
  pub shows : All (λ answer. Shows answer.start answer.end answer.shown) answers
  pub every : (start end : ℤ) (walk : List (LinkOf ℤ)) → Asked start end → IsAnswerable Has start end → Leads start end walk
      → Any (λ answer. (answer.start ≡ start) × (answer.end ≡ end)) answers
  pub rise : IsStrictlyRising answer_cmp answers

-- the walks over a set of links
abbrev pub walks_over : (LinkOf ℤ → Type 0) → ℤ → ℤ → List (LinkOf ℤ) → Type 0
walks_over Has start end walk = IsWalk Has start walk end

-- the answers over a set of links, where each walk over them leads from its start to its end
abbrev pub AreAnswers : {Shown : Type 0} → (LinkOf ℤ → Type 0) → (ℤ → ℤ → Type 0) → (ℤ → ℤ → Shown → Type 0) → List (Answer Shown) → Type 0
AreAnswers Has = AreAnswersBy Has (walks_over Has)
