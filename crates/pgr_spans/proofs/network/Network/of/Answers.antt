-- The ends of the links are the ends of the spans, and all of them are named.
use Rattle.std.proofs.Common.{sym, subst, ◌∙◌}
use Rattle.std.specs.List.{All}
use Rattle.pgr_numbers.specs.Names.{AreEnds, IsNamed}
use Rattle.pgr_spans.proofs.Arrows.{ends_of_spans}
use Rattle.pgr_spans.proofs.network.Network.of.Goals as goal

pub of-requires : goal.of-requires
of-requires c = record {
  few = λ names ends. c.requires names (ends_of_spans c.args.spans.now names (subst (λ links. AreEnds links names) (c.as_slice.ensures.value ∙ c.in_ok-named.ensures) ends));
}

pub numbered-requires : goal.numbered-requires
numbered-requires c =
    subst (All (IsNamed c.in_ok-names.names)) (c.as_slice.ensures.value ∙ sym c.as_slice-2.ensures.value) c.in_ok-names.ensures.named
