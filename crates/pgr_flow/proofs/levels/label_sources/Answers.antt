use Rattle.std.proofs.Common.{◌≡◌, ◌∙◌, ◌<◌, sym, subst, arith, refl, length, nat_eq, get_or, List, ℕ, None, Some, set, true}
use Rattle.pgr_flow.specs.Flow.{among}
use Rattle.pgr_flow.specs.Levels.{IsSearched, level_at, labelled}
use Rattle.pgr_flow.proofs.Passing.{searched_start, source_searched, source_labelled, labelled_same, no_level_by, has_level_by}
use Rattle.pgr_flow.proofs.levels.label_sources.Goals as goal
use Rattle.pgr_flow.proofs.levels.label_sources.Goals.{then-is_none+in_ok-label, else-is_none}

pub loop-source-init : goal.loop-source-init
loop-source-init c = record {
  searched = subst (λ (q : List ℕ). IsSearched c.args.arcs.now c.args.flows.now (among nat_eq c.args.sources.now) (length c.args.levels.now) c.args.levels.now q 0 0)
      (sym c.requires.empty)
      (searched_start c.args.arcs.now c.args.flows.now (among nat_eq c.args.sources.now) c.args.levels.now c.requires.none);
  sources = λ k lt. absurd (omega arith);
}

pub loop-source-preserved : goal.loop-source-preserved
loop-source-preserved c =
    let s = get_or c.args.sources.now c.loop-source.source-index 0 in
    let size : length c.loop-source.levels ≡ length c.args.levels.now = omega arith in
    let below : s < length c.args.levels.now = c.requires.sources c.loop-source.source-index 0 c.loop-source-test.true in
    elim c.if-is_none.branch [
      | then-is_none+in_ok-label w ↦
          let none : level_at c.loop-source.levels s ≡ None = no_level_by (level_at c.loop-source.levels s) c.is_none.result c.is_none.ensures w.if-is_none.true in
          let new : c.if-is_none.levels ≡ set c.loop-source.levels s (Some 0) = w.levels-is ∙ w.in_ok-label.ensures.levels in
          record {
            searched = source_searched c.args.arcs.now c.args.flows.now c.args.sources.now
                (length c.args.levels.now) c.loop-source.levels c.loop-source.queue.items c.loop-source.source-index s _ _
                c.loop-source.invariant.searched c.loop-source-test.true refl below none new (rw w.queue-is w.in_ok-label.ensures.queue);
            sources = source_labelled c.args.sources.now c.loop-source.levels c.loop-source.source-index s _ c.loop-source.invariant.sources refl (omega arith) none new;
          }
      | else-is_none w ↦
          let has : labelled c.loop-source.levels s ≡ true = has_level_by (level_at c.loop-source.levels s) c.is_none.result c.is_none.ensures w.if-is_none.false in
          record {
            searched = rw (w.levels-is, w.queue-is) c.loop-source.invariant.searched;
            sources = labelled_same c.args.sources.now c.loop-source.levels c.loop-source.source-index s _ c.loop-source.invariant.sources refl has w.levels-is;
          }
    ]
