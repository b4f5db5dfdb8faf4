use Rattle.std.proofs.Common.{◌≡◌, ◌<◌, ℕ, [], ◌∷◌, length, rules}
use Rattle.std.specs.Option.{option_map}
use Rattle.std.proofs.lemmas.List.Elements.{All-nil, All-cons}
use Rattle.pgr_answer.proofs.KeptLemmas.{cost_of_label, cost_shown, cost_none}
use Rattle.pgr_answer.proofs.NetworkLemmas.{is_network}
use Rattle.pgr_answer.proofs.kept.LeastCostKept.of.Goals as goal

pub returns : goal.returns
returns g c =
    let network = is_network c.args.network.now in
    let IsBelow : ℕ → Type 0 = λ v. v < length c.args.network.now.names in
    let is : c.map.result ≡ option_map cost_of_label c.label-label.result = search rules in
    let by_numbers = rw (← c.label-label.ensures) at c.requires.room.label in
    let by_ids = c.labels_of_graph_are_labels_by_ids.ensures _ _ network.numbers (c.args.end ∷ []) c.args.start _ network.numbered network.exactly
    (All-cons IsBelow c.args.end [] c.requires.end (All-nil IsBelow)) c.requires.start by_numbers in
    record { shows = rw is (cost_shown _ _ _ _ by_ids); none = rw is (cost_none _ _ _ _ by_ids) }
