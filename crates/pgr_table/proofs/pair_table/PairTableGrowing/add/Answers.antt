use Rattle.std.proofs.Common.{ap, ◌∙◌, List, ◌++◌, ◌∷◌, []}
use Rattle.pgr_table.specs.declared.row.PairRow.{PairRow}
use Rattle.pgr_table.specs.Pairs.{pair_of, values_of_pair}
use Rattle.pgr_table.proofs.Keyed.{values-push}
use Rattle.pgr_table.proofs.PairFacts.{makes_pair}
use Rattle.pgr_table.proofs.pair_table.PairTableGrowing.add.Goals as goal

pub returns-clause-ok : goal.returns-clause-ok
returns-clause-ok c = values-push values_of_pair c.args.self.now c.push.new.self.items c.pair.result c.args.values.now.items
    (c.in_ok-push.ensures.items ∙ ap (λ (rows : List PairRow). rows ++ c.pair.result ∷ []) c.self.view_is)
    (ap values_of_pair (c.pair.ensures ∙ ap pair_of c.as_slice.ensures.value) ∙ makes_pair c.args.values.now.items c.requires.row)
