-- The keys of the entries are tops, which are no greater than the far ends.
use Rattle.std.proofs.Common.{◌∙◌, ap}
use Rattle.std.specs.List.{flat_map}
use Rattle.pgr_spans.specs.Member.{entry_of}
use Rattle.pgr_spans.proofs.TopSteps.{keys_below}
use Rattle.pgr_spans.proofs.member.members_of.Goals as goal

pub gather-requires : goal.gather-requires
gather-requires c =
    keys_below _ c.in_ok-tops.tops.items c.args.segments.now c.requires.below c.in_ok-tops.ensures.no_greater c.as_slice-3.result.now
    (c.as_slice-3.ensures.value ∙ (c.in_ok-entries.ensures ∙ ap (λ ts. flat_map (entry_of ts) c.args.segments.now) c.as_slice-2.ensures.value))
