use Rattle.std.proofs.Common.{sym, arith, ◌≡◌, Less}
use Rattle.std.proofs.lemmas.Int.{ints}
use Rattle.std.specs.Ordering.{int_cmp}
use Rattle.pgr_table.proofs.FindingIds.{rises_with-last}
use Rattle.pgr_table.proofs.edge_list.rises_with.Goals as goal

pub returns-in-Some : goal.returns-in-Some
returns-in-Some c =
    let exactly = rises_with-last c.args.edges.now c.args.id c.in-Some.last.now c.requires (sym c.in-Some.ensures.value) in (
      λ below. let less : int_cmp c.in-Some.last.now.id c.args.id ≡ Less = grind (arith, ints, below) in exactly.0 less,
      λ rises. let less : int_cmp c.in-Some.last.now.id c.args.id ≡ Less = exactly.1 rises in grind (arith, ints, less),
    )
