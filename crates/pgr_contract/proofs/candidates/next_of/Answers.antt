use Rattle.std.proofs.Common.{◌≡◌, arith, length, w64, rules}
use Rattle.std.proofs.lemmas.Int.{to_z-of_z}
use mir.Val.{SFits}
use Rattle.pgr_contract.proofs.CandidateSets.{taken_out, passed_over, all_out}
use Rattle.pgr_contract.proofs.candidates.next_of.Goals as goal

pub returns-in-Some-found_at : goal.returns-in-Some-found_at
returns-in-Some-found_at c = λ links holds.
    let fits : SFits w64 c.in-Some.v = search rules in
    let found = simp to_z-of_z at (c.in-Some-found_at.ensures links holds) in
    taken_out c.args.method links c.args.candidates.now c.loop-v.candidates c.pop_first.new.self c.in-Some-found_at.event c.in-Some.v (c.loop-v.invariant links holds) found
    c.in-Some.ensures.member c.in-Some.ensures.least c.in-Some.ensures.updates.0

pub loop-v-preserved : goal.loop-v-preserved
loop-v-preserved c = λ links holds.
    let fits : SFits w64 c.in-Some.v = search rules in
    let not = simp to_z-of_z at (c.in_default-found_at.ensures links holds) in
    passed_over c.args.method links c.args.candidates.now c.loop-v.candidates c.pop_first.new.self c.in-Some.v (c.loop-v.invariant links holds) not c.in-Some.ensures.updates.0

pub returns : goal.returns
returns c = λ links holds.
    let empty : length c.loop-v.candidates.keys ≡ 0 = grind (arith, c.in_default.ensures.variant, c.in_default.ensures.len) in
    all_out c.args.method links c.args.candidates.now c.loop-v.candidates c.pop_first.new.self (c.loop-v.invariant links holds) empty c.in_default.ensures.unchanged
