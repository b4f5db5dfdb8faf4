-- One more entry is noted.
use Rattle.std.proofs.Common.{◌<◌, ◌+◌, length, take, sym, subst, pos}
use Rattle.pgr_spans.specs.declared.seen.Entry.{Entry}
use Rattle.pgr_spans.specs.Seen.{AreSeen}
use Rattle.pgr_spans.proofs.Lists.{written}
use Rattle.pgr_spans.proofs.Gathering.{noted_more}
use Rattle.pgr_spans.proofs.seen.gather.Goals as goal

-- what stands past the end
abbrev none : Entry
none = record { key = 0; value = pos 0 }

pub loop-entry-preserved : goal.loop-entry-preserved
loop-entry-preserved c =
    let entries = c.args.entries.now in
    let i = c.loop-entry.entry-index in
    let inside : i < length entries = c.loop-entry-test.true in
    let found = c.loop-entry.found.items in
    let new = c.note.new.found in
    let kept = written c.as_mut_slice.result.now new found c.loop-entry.found.len c.as_mut_slice.ensures.value c.as_mut_slice.ensures.len c.note.auto.found in
    let noted = noted_more c.args.size entries i none c.as_mut_slice.result.now found new inside c.as_mut_slice.ensures.value c.note.ensures
    (c.requires i none inside) c.loop-entry.invariant in
    subst (AreSeen c.args.size (take (i + 1) entries)) (sym kept) noted
