-- The file with the role is the one that the command names.
use Rattle.std.proofs.Common.{◌≡◌, Some, sym, ap, ◌∙◌, arith}
use Rattle.std.specs.Prelude.{Err}
use Rattle.std.specs.Option.{option_map}
use Rattle.pgr_answer.specs.Files.{File}
use Rattle.pgr_answer.specs.Roles.{file_name_of, kind_of}
use Rattle.pgr_answer.proofs.ReadFiles.{files_with_one, holds_one, refused_read, read_of, refused_of}
use Rattle.pgr_answer.proofs.reading.read_role.Goals as goal

pub returns-in-Err-clause-refused : goal.returns-in-Err-clause-refused
returns-in-Err-clause-refused g c =
    let known = g.S.Store.content c.args.store.now in
    let before = g.S.Store.faults c.args.store.now in
    let after = g.S.Store.faults c.read_file.new.store in
    let file : File = record { role = c.args.role; kind = kind_of c.args.command.now.function c.args.role; name = c.in-Some.name.now } in
    let is : file_name_of c.args.command.now c.args.role ≡ Some c.in-Some.name.now = sym c.file_name.ensures ∙ ap (option_map (λ name. name.now)) c.in-Some.is in
    let refused = refused_read known before after file c.in-Err.refused (λ e. c.in-Err.ensures.too_long (ap Err e)) (λ e. c.in-Err.ensures.failed (ap Err e)) in
    rw (files_with_one c.args.command.now c.args.role c.in-Some.name.now is, c.refused_read.ensures) (holds_one known before after file _ refused)

pub returns-in-Ok-read-clause-tables : goal.returns-in-Ok-read-clause-tables
returns-in-Ok-read-clause-tables g c =
    let known = g.S.Store.content c.args.store.now in
    let file : File = record { role = c.args.role; kind = kind_of c.args.command.now.function c.args.role; name = c.in-Some.name.now } in
    let is : file_name_of c.args.command.now c.args.role ≡ Some c.in-Some.name.now = sym c.file_name.ensures ∙ ap (option_map (λ name. name.now)) c.in-Some.is in
    rw (files_with_one c.args.command.now c.args.role c.in-Some.name.now is)
    (read_of known file c.in-Ok.bytes.items c.as_slice.result.now c.args.tables.now c.read.new.self c.as_slice.ensures.value c.in-Ok.ensures.whole
    (omega (arith, c.in-Ok.ensures.within, c.in-Ok.bytes.ok.0)) (rw c.of-kind.ensures at c.in-Ok-read.ensures.read))

pub returns-clause-refused : goal.returns-clause-refused
returns-clause-refused g c =
    let known = g.S.Store.content c.args.store.now in
    let before = g.S.Store.faults c.args.store.now in
    let after = g.S.Store.faults c.read_file.new.store in
    let file : File = record { role = c.args.role; kind = kind_of c.args.command.now.function c.args.role; name = c.in-Some.name.now } in
    let is : file_name_of c.args.command.now c.args.role ≡ Some c.in-Some.name.now = sym c.file_name.ensures ∙ ap (option_map (λ name. name.now)) c.in-Some.is in
    let refused = refused_of known before after file c.in-Ok.bytes.items c.as_slice.result.now c.in-Err-read.refused c.args.tables.now c.read.new.self c.as_slice.ensures.value
    c.in-Ok.ensures.whole (omega (arith, c.in-Ok.ensures.within, c.in-Ok.bytes.ok.0)) (rw c.of-kind.ensures at c.in-Err-read.ensures.read) in
    rw (files_with_one c.args.command.now c.args.role c.in-Some.name.now is, c.refused_table.ensures) (holds_one known before after file _ refused)

pub returns-in-Ok-read-clause-places : goal.returns-in-Ok-read-clause-places
returns-in-Ok-read-clause-places g c = λ placed had. c.read.ensures.places (λ e. placed (sym c.of-kind.ensures ∙ e)) had

pub returns-clause-places : goal.returns-clause-places
returns-clause-places g c = λ placed had. c.read.ensures.places (λ e. placed (sym c.of-kind.ensures ∙ e)) had
