use Rattle.std.proofs.Common.{ℕ, List, sym, refl, ap, ◌∙◌, arith}
use Rattle.csv.specs.Records.{fields_of}
use Rattle.pgr_table.specs.Judging.{places_from, fault_at}
use Rattle.pgr_table.proofs.HeaderFacts.{found-first, found-other, found-twice, found-missing, found-good, found-place, is_none-result}
use Rattle.pgr_table.proofs.header.find_column.Goals as goal
use Rattle.pgr_table.proofs.header.find_column.Goals.{then-has_field+else-is_some, else-has_field, else-is_none-via-then-is_none+else-rule, else-is_none-via-else-is_none}

pub loop-place-init : goal.loop-place-init
loop-place-init c = refl

pub returns-then-is_some-clause-fault : goal.returns-then-is_some-clause-fault
returns-then-is_some-clause-fault c =
    let named = c.as_bytes-name.ensures.value ∙ c.name.ensures in
    sym (ap (λ (n : List ℕ). fault_at c.args.rule.now (places_from 0 n (fields_of c.args.header.now))) (sym named)
    ∙ found-twice c.args.rule.now c.as_bytes-name.result.now (fields_of c.args.header.now) c.loop-place.found c.loop-place.place (omega arith)
    (sym c.has_field.ensures ∙ c.if-has_field.true) c.loop-place.invariant (sym c.is_some.ensures ∙ c.if-is_some.true))

pub loop-place-preserved : goal.loop-place-preserved
loop-place-preserved c =
    elim c.if-has_field.branch [
      | then-has_field+else-is_some w ↦ rw w.found-is (found-first c.as_bytes-name.result.now (fields_of c.args.header.now) c.loop-place.found
          c.loop-place.place (omega arith) (sym c.has_field.ensures ∙ w.if-has_field.true) (sym w.is_some.ensures ∙ w.if-is_some.false) c.loop-place.invariant)
      | else-has_field w ↦ rw w.found-is (found-other c.as_bytes-name.result.now (fields_of c.args.header.now) c.loop-place.found c.loop-place.place
          (omega arith) (sym c.has_field.ensures ∙ w.if-has_field.false) c.loop-place.invariant)
    ]

pub returns-then-rule-clause-fault : goal.returns-then-rule-clause-fault
returns-then-rule-clause-fault c =
    let named = c.as_bytes-name.ensures.value ∙ c.name.ensures in
    sym (ap (λ (n : List ℕ). fault_at c.args.rule.now (places_from 0 n (fields_of c.args.header.now))) (sym named)
    ∙ found-missing c.args.rule.now c.as_bytes-name.result.now (fields_of c.args.header.now) c.loop-place.found c.loop-place.place (omega arith)
    c.loop-place.invariant (is_none-result c.loop-place.found c.is_none.result c.is_none.ensures ∙ c.if-is_none.true) c.if-rule.true)

pub returns-clause-fault : goal.returns-clause-fault
returns-clause-fault c =
    let named = c.as_bytes-name.ensures.value ∙ c.name.ensures in
    sym (ap (λ (n : List ℕ). fault_at c.args.rule.now (places_from 0 n (fields_of c.args.header.now))) (sym named)
    ∙ found-good c.args.rule.now c.as_bytes-name.result.now (fields_of c.args.header.now) c.loop-place.found c.loop-place.place (omega arith) c.loop-place.invariant
    (elim c.else-is_none.branch [
      | else-is_none-via-then-is_none+else-rule w ↦ λ none. w.if-rule.false
      | else-is_none-via-else-is_none w ↦ λ none. cc (sym none ∙ (is_none-result c.loop-place.found c.is_none.result c.is_none.ensures ∙ w.if-is_none.false))
    ]))

pub returns-clause-place : goal.returns-clause-place
returns-clause-place c =
    let named = c.as_bytes-name.ensures.value ∙ c.name.ensures in
    rw (← named) (found-place c.as_bytes-name.result.now (fields_of c.args.header.now) c.loop-place.found c.loop-place.place (omega arith) c.loop-place.invariant)
