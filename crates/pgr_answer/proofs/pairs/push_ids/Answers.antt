-- The pair is that of the numbers of the ids; where an id has no number there is none.
use Rattle.std.proofs.Common.{◌≡◌, ℕ, w64}
use Rattle.std.proofs.lemmas.Int.{to_z-of_z}
use Rattle.std.proofs.lemmas.Result.{on_ok_weaker}
use mir.Val.{SFits}
use Rattle.pgr_numbers.specs.Names.{id_at}
use Rattle.pgr_answer.proofs.PairLemmas.{gains_ids}
use Rattle.pgr_answer.proofs.pairs.push_ids.Goals as goal

pub returns : goal.returns
returns c =
    let start_fits : SFits w64 c.args.start = c.ranges.start in
    let end_fits : SFits w64 c.args.end = c.ranges.end in
    let one = λ (m n : ℕ). c.numbers_rise_with_ids.ensures.one c.args.names.now m n c.len.ensures.rise in
    let start_at : id_at c.args.names.now c.in-Some.start ≡ c.args.start = simp to_z-of_z at c.in-Some.ensures.id in
    let end_at : id_at c.args.names.now c.in-Some-number.end ≡ c.args.end = simp to_z-of_z at c.in-Some-number.ensures.id in
    on_ok_weaker c.push_pair.result (gains_ids c.args.names.now one c.in-Some.start c.in-Some-number.end c.args.start c.args.end _ _ c.in-Some.ensures.below start_at
    c.in-Some-number.ensures.below end_at) c.push_pair.ensures
