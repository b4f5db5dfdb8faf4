-- The files of each role are read, or one of them is refused behind those of the roles before.
use Rattle.std.proofs.Common.{◌+◌, ◌<◌, length, get_or, take, drop, sym, ap, subst, ◌∙◌, arith}
use Rattle.std.specs.Prelude.{flat_map}
use Rattle.pgr_answer.specs.declared.role.Role.TheVariants.{Edges}
use Rattle.pgr_answer.specs.Files.{files_with, files_of}
use Rattle.pgr_answer.specs.Reading.{AreRead}
use Rattle.pgr_answer.specs.Refusals.{HoldsAmong}
use Rattle.pgr_answer.specs.Roles.{roles}
use Rattle.pgr_answer.specs.Tables.{no_tables}
use Rattle.pgr_answer.proofs.ReadFiles.{not_plain, holds_behind, read_both, files_more, files_split}
use Rattle.pgr_answer.proofs.FirstRefusals.{if_err}
use Rattle.pgr_answer.proofs.reading.read_tables.Goals as goal

pub returns-in_err-read_role-clause-refused : goal.returns-in_err-read_role-clause-refused
returns-in_err-read_role-clause-refused g c =
    let known = g.S.Store.content c.args.store.now in
    let before = g.S.Store.faults c.args.store.now in
    let after = g.S.Store.faults c.read_role.new.store in
    let command = c.args.command.now in
    let i = c.loop-role.role-index in
    let found = c.in_err-read_role.field-0.0 in
    let count = ap length c.roles-role-items.ensures in
    let inside : i < length roles = omega (arith, count, c.loop-role-test.true) in
    let here : HoldsAmong known (g.S.Store.faults c.loop-role.store) after (files_with command (get_or roles i Edges)) found =
    rw (c.roles-role-items.ensures, c.loop-role.invariant.content) at c.in_err-read_role.ensures.refused in
    let all = holds_behind known before (g.S.Store.faults c.loop-role.store) after (flat_map (files_with command) (take i roles)) (files_with command (get_or roles i Edges))
    (flat_map (files_with command) (drop (i + 1) roles))
    no_tables c.loop-role.tables found c.loop-role.invariant.read c.loop-role.invariant.faults here in
    if_err c.from_residual.result found (HoldsAmong known before after (files_of command)) c.from_residual.ensures.1
    (subst (λ files. HoldsAmong known before after files found) (files_split command roles i Edges inside) all)

pub loop-role-preserved : goal.loop-role-preserved
loop-role-preserved g c =
    let known = g.S.Store.content c.args.store.now in
    let command = c.args.command.now in
    let i = c.loop-role.role-index in
    let count = ap length c.roles-role-items.ensures in
    let inside : i < length roles = omega (arith, count, c.loop-role-test.true) in
    let here : AreRead known (files_with command (get_or roles i Edges)) c.loop-role.tables c.read_role.new.tables =
    rw (c.roles-role-items.ensures, c.loop-role.invariant.content) at c.in_ok-read_role.ensures.tables in
    record {
      read = subst (λ files. AreRead known files no_tables c.read_role.new.tables) (sym (files_more command roles i Edges inside))
          (read_both known _ _ no_tables c.loop-role.tables c.read_role.new.tables c.loop-role.invariant.read here);
      content = c.in_ok-read_role.ensures.content ∙ c.loop-role.invariant.content;
      faults = λ name. let low = c.loop-role.invariant.faults name in let high = c.in_ok-read_role.ensures.faults name in omega arith;
      places = λ placed. c.read_role.ensures.places (not_plain command.function _ placed) (c.loop-role.invariant.places placed);
    }
