-- One table of the first K routes at most is allowed: of each pair there is one list of them.
use Rattle.std.proofs.Common.{◌≡◌, ℕ, ℤ, List, sym, ap, ◌∙◌, subst}
use Rattle.std.specs.Prelude.{Contains}
use Rattle.std.specs.Ordering.{int_cmp}
use Rattle.std.specs.Cmp.{IsTotalOrder}
use Rattle.std.proofs.lemmas.Cmp.{int_cmp_total, on_total, then_total}
use Rattle.std.proofs.lemmas.List.Elements.{All-contains}
use Rattle.pgr_walks.specs.declared.link.LinkOf.{LinkOf}
use Rattle.pgr_walks.specs.LinkOrders.{int_tie}
use Rattle.pgr_ksp.specs.Routes.{AreFirstK}
use Rattle.pgr_ksp.specs.FirstRoutes.{first_k_is_one}
use Rattle.pgr_rows.specs.declared.rows.Rows.{Rows}
use Rattle.pgr_rows.specs.declared.rows.Rows.TheVariants.{Ksp}
use Rattle.pgr_answer.specs.Pairs.{IsAnswerable}
use Rattle.pgr_answer.specs.Answers.{Answer, answer_cmp}
use Rattle.pgr_answer.specs.Ksp.{AreFirstRoutes, IsKspTable, ksp_table}
use Rattle.pgr_answer.proofs.SameElements.{rising_is_one}

-- the order of answers is total
pub answer_total : {Shown : Type 0} → IsTotalOrder (answer_cmp {Shown = Shown})
answer_total {Shown} = then_total (on_total (λ (answer : Answer Shown). answer.start) int_cmp_total) (on_total (λ (answer : Answer Shown). answer.end) int_cmp_total)

-- answers with the same parts are the same
pub same_answer : {Shown : Type 0} (a b : Answer Shown) → a.start ≡ b.start → a.end ≡ b.end → a.shown ≡ b.shown → a ≡ b
same_answer a b start end shown = λ i. record { start = start i; end = end i; shown = shown i }

module _ (Has : LinkOf ℤ → Type 0) (Asked : ℤ → ℤ → Type 0) (k : ℕ) where
  -- what is an answer of the one list is one of the other
  stands : (answers others : List (Answer (List (List (LinkOf ℤ))))) → AreFirstRoutes Has Asked k answers → AreFirstRoutes Has Asked k others
      → (a : Answer (List (List (LinkOf ℤ)))) → Contains answers a
      → Contains others a
  stands answers others are also a among =
      let asked = All-contains (λ answer. Asked answer.start answer.end) answers a are.asked among in
      let answerable = All-contains (λ answer. IsAnswerable Has answer.start answer.end) answers a are.answerable among in
      let first = All-contains (λ (answer : Answer (List (List (LinkOf ℤ)))). AreFirstK int_cmp Has answer.start answer.end k answer.shown) answers a are.first among in
      let there = also.every a.start a.end asked answerable in
      let b = there.1 in
      let place : Contains others b = (there.0, there.2, there.3) in
      let other = All-contains (λ (answer : Answer (List (List (LinkOf ℤ)))). AreFirstK int_cmp Has answer.start answer.end k answer.shown) others b also.first place in
      let at_start = subst (λ s. AreFirstK int_cmp Has s b.end k b.shown) there.4.0 other in
      let at_end = subst (λ t. AreFirstK int_cmp Has a.start t k b.shown) there.4.1 at_start in
      let same = same_answer b a there.4.0 there.4.1 (first_k_is_one int_cmp int_cmp_total int_tie Has a.start a.end k b.shown a.shown at_end first) in
      subst (Contains others) same place

  -- one table of the first K routes
  pub one_ksp_table : (rows other : Rows) → IsKspTable Has Asked k rows → IsKspTable Has Asked k other → rows ≡ other
  one_ksp_table rows other (answers, are, rows_are) (others, also, other_are) =
      let same = rising_is_one answer_cmp answer_total answers others are.rise also.rise (stands answers others are also) (stands others answers also are) in
      rows_are ∙ ap (λ a. Ksp (ksp_table a)) same ∙ sym other_are
