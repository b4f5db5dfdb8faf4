-- One more number has its top.
use Rattle.std.proofs.Common.{◌≡◌, ◌++◌, ◌∷◌, [], ◌<◌, ◌≤◌, ◌+◌, ℕ, length, get_or, sym, subst, ap, rules, arith}
use Rattle.std.proofs.lemmas.List.{length_push}
use Rattle.pgr_spans.specs.Forest.{IsTop}
use Rattle.pgr_spans.proofs.TopSteps.{tops_more, tops_le_more}
use Rattle.pgr_spans.proofs.tops.tops_of.Goals as goal

pub loop-v-preserved : goal.loop-v-preserved
loop-v-preserved c =
    let parents = c.args.parents.now in
    let lows = c.args.lows.now in
    let tops = c.loop-v.tops.items in
    let v = c.loop-v.v in
    let top = c.top_of-top.result in
    let size : length tops ≡ v = c.loop-v.invariant.size in
    let items : c.push.new.self.items ≡ tops ++ top ∷ [] = search rules in
    let same : c.as_slice.result.now ≡ tops = c.as_slice.ensures.value in
    let is = rw same at c.top_of-top.ensures in
    record {
      size = (let longer = length_push tops top in let e = ap length items in omega arith);
      each = subst (λ ts. (u : ℕ) → u < v + 1 → IsTop parents lows ts u) (sym items) (tops_more parents lows tops v top c.requires.falls size is c.loop-v.invariant.each);
      no_greater = subst (λ ts. (u : ℕ) → u < v + 1 → get_or ts u 0 ≤ u) (sym items) (tops_le_more parents lows tops v top c.requires.falls size is c.loop-v.invariant.no_greater);
    }
