-- Files that are read one after the other: those that are read are accepted, and the first that is refused is refused among all.
use Rattle.std.proofs.Common.{◌≡◌, ◌≢◌, ℕ, ◌+◌, ◌<◌, ◌≤◌, List, [], ◌∷◌, ◌++◌, length, map, refl, sym, ap, subst, ◌∙◌, arith, append_assoc, append-nil, take, drop, get_or, take-append-drop, Option, Some, None, Ok}
use Rattle.std.specs.Prelude.{IfSome, Err, fold, flat_map, replicate}
use Rattle.std.proofs.lemmas.Bool.{lt-ltb, le-ltb}
use Rattle.std.proofs.lemmas.List.{map-append, length-replicate, take_more}
use Rattle.std.proofs.lemmas.List.Concat.{flat_map-append}
use Rattle.std.proofs.lemmas.List.Elements.{All-nil, All-cons, All-append}
use Rattle.std.proofs.lemmas.Grind.{fold-append}
use Rattle.pgr_outside.specs.Faults.{HasRisen, NoneFell}
use Rattle.pgr_outside.specs.declared.reading.ReadRefused.{ReadRefused}
use Rattle.pgr_outside.specs.declared.reading.ReadRefused.TheVariants as read
use Rattle.pgr_words.specs.declared.command.Command.{Command}
use Rattle.pgr_words.specs.declared.function.Function.{Function}
use Rattle.pgr_table.specs.declared.fault.TableFault.{TableFault}
use Rattle.pgr_table.specs.declared.fault.TableRefused.{TableRefused}
use Rattle.pgr_table.specs.declared.fault.TableRefused.TheVariants as table
use Rattle.pgr_answer.specs.declared.tables.Tables.{Tables}
use Rattle.pgr_answer.specs.declared.role.Role.{Role}
use Rattle.pgr_answer.specs.declared.refused.Refused.{Refused}
use Rattle.pgr_answer.specs.declared.refused.Refused.TheVariants.{ReadFailed, TooLong, Table, Memory}
use Rattle.pgr_answer.specs.declared.role.Role.TheVariants.{Edges, Points, Restrictions, Combinations}
use Rattle.pgr_answer.specs.declared.role.Kind.TheVariants as kind
use Rattle.pgr_answer.specs.Roles.{file_name_of, kind_of, kind_of_edges}
use Rattle.pgr_answer.specs.Tables.{judged_as}
use Rattle.pgr_answer.specs.Contents.{after, with_content}
use Rattle.pgr_answer.specs.Files.{File, Content, most_bytes, refusal_of, IsPossible, IsAccepted, AreAccepted, files_with}
use Rattle.pgr_answer.specs.Reading.{IsTableRead, AreRead}
use Rattle.pgr_answer.specs.Refusals.{IsContentRefused, IsRefused, HoldsAmong, from_read, from_table}

-- bytes that are more than a file may have are refused as too long
refused_long : (file : File) (bytes : List ℕ) → most_bytes < length bytes → refusal_of file bytes ≡ Some (TooLong file.role)
refused_long file bytes long = rw (lt-ltb most_bytes (length bytes) long) refl

-- bytes that are no more are accepted where the verdict on them is good
accepted_short : (file : File) (bytes : List ℕ) (place : Tables → Tables) → length bytes ≤ most_bytes → judged_as file.kind bytes ≡ Ok place → refusal_of file bytes ≡ None
accepted_short file bytes place short good = rw (le-ltb most_bytes (length bytes) short, good) refl

-- and refused by their fault
refused_short : (file : File) (bytes : List ℕ) (fault : TableFault) → length bytes ≤ most_bytes → judged_as file.kind bytes ≡ Err fault
    → refusal_of file bytes ≡ Some (Table file.role fault)
refused_short file bytes fault short bad = rw (le-ltb most_bytes (length bytes) short, bad) refl

module _ (known : List ℕ → Option (List ℕ)) where
  -- of no files there are no contents
  pub accepted_none : AreAccepted known [] []
  accepted_none = record { of_files = refl; possible = All-nil (IsPossible known); accepted = All-nil IsAccepted }

  -- contents of files, and of those behind them
  accepted_both : (files more : List File) (contents others : List Content) → AreAccepted known files contents → AreAccepted known more others
      → AreAccepted known (files ++ more) (contents ++ others)
  accepted_both files more contents others are also = record {
    of_files = map-append (λ (content : Content). content.file) contents others ∙ ap (λ fs. fs ++ map (λ content. content.file) others) are.of_files
        ∙ ap (λ fs. files ++ fs) also.of_files;
    possible = All-append (IsPossible known) contents others are.possible also.possible;
    accepted = All-append IsAccepted contents others are.accepted also.accepted;
  }

  -- no files leave the tables as they are
  pub read_none : (tables : Tables) → AreRead known [] tables tables
  read_none tables = record { contents = []; accepted = accepted_none; tables = refl }

  -- one file
  pub read_one : (file : File) (bytes : List ℕ) (place : Tables → Tables) (old new : Tables)
      → IfSome (known file.name) (λ content. bytes ≡ content)
      → length bytes ≤ most_bytes
      → judged_as file.kind bytes ≡ Ok place
      → new ≡ place old
      → AreRead known (file ∷ []) old new
  read_one file bytes place old new possible short good is_new =
      let content : Content = record { file = file; bytes = bytes } in
      record {
        contents = content ∷ [];
        accepted = record {
          of_files = refl;
          possible = All-cons (IsPossible known) content [] possible (All-nil (IsPossible known));
          accepted = All-cons IsAccepted content [] (accepted_short file bytes place short good) (All-nil IsAccepted);
        };
        tables = is_new ∙ sym (ap (λ verdict. after verdict old) good);
      }

  -- files, and those behind them
  pub read_both : (files more : List File) (old middle new : Tables) → AreRead known files old middle → AreRead known more middle new → AreRead known (files ++ more) old new
  read_both files more old middle new read also = record {
    contents = read.contents ++ also.contents;
    accepted = accepted_both files more read.contents also.contents read.accepted also.accepted;
    tables = also.tables ∙ ap (λ tables. fold with_content tables also.contents) read.tables ∙ sym (fold-append with_content old read.contents also.contents);
  }

  -- the bytes that were read, as a table with this verdict
  pub read_of : (file : File) (bytes seen : List ℕ) (old new : Tables)
      → seen ≡ bytes
      → IfSome (known file.name) (λ content. bytes ≡ content)
      → length bytes ≤ most_bytes
      → (place : Tables → Tables) × (judged_as file.kind seen ≡ Ok place) × (new ≡ place old)
      → AreRead known (file ∷ []) old new
  read_of file bytes seen old new same possible short (place, good, is_new) = read_one file bytes place old new possible short (ap (judged_as file.kind) (sym same) ∙ good) is_new

  -- a content with a fault is refused by it
  pub refused_fault : (file : File) (bytes : List ℕ) (fault : TableFault) → IfSome (known file.name) (λ content. bytes ≡ content) → length bytes ≤ most_bytes
      → judged_as file.kind bytes ≡ Err fault → IsContentRefused known file (Table file.role fault)
  refused_fault file bytes fault possible short bad = record { bytes = bytes; possible = possible; is_refused = refused_short file bytes fault short bad }

  -- where a known content is too long, there is one that is refused so
  refused_too_long : (file : File) (content : Option (List ℕ)) → known file.name ≡ content → IfSome content (λ bytes. most_bytes < length bytes)
      → IsContentRefused known file (TooLong file.role)
  refused_too_long file None unknown long = long_bytes most_bytes refl where
    long_bytes : (most : ℕ) → most ≡ most_bytes → IsContentRefused known file (TooLong file.role)
    long_bytes most same =
        let bytes : List ℕ = replicate (most + 1) 0 in
        let long : length bytes ≡ most + 1 = length-replicate {A = ℕ} (most + 1) 0 in
        record {
          bytes = bytes;
          possible = subst (λ o. IfSome o (λ content. bytes ≡ content)) (sym unknown) tt;
          is_refused = refused_long file bytes (omega (arith, same, long));
        }
  refused_too_long file (Some bytes) is long = record {
    bytes = bytes;
    possible = subst (λ o. IfSome o (λ content. bytes ≡ content)) (sym is) refl;
    is_refused = refused_long file bytes long;
  }

  module _ (before after : List ℕ → ℕ) where
    -- a file that wasn't read is refused so
    pub refused_read : (file : File) (found : ReadRefused)
        → (found ≡ read.TooLong → IfSome (known file.name) (λ bytes. most_bytes < length bytes))
        → (found ≡ read.Failed → HasRisen (before file.name) (after file.name))
        → IsRefused known before after file (from_read file.role found)
    refused_read file read.Failed long failed = (refl, failed refl)
    refused_read file read.TooLong long failed = refused_too_long file (known file.name) refl (long refl)
    refused_read file read.Memory long failed = tt

    -- a file whose bytes aren't an accepted table is refused so
    pub refused_of : (file : File) (bytes seen : List ℕ) (found : TableRefused) (old new : Tables)
        → seen ≡ bytes
        → IfSome (known file.name) (λ content. bytes ≡ content)
        → length bytes ≤ most_bytes
        → IsTableRead (Err found) (judged_as file.kind seen) old new
        → IsRefused known before after file (from_table file.role found)
    refused_of file bytes seen (table.Fault fault) old new same possible short bad = refused_fault file bytes fault possible short (ap (judged_as file.kind) (sym same) ∙ bad)
    refused_of file bytes seen table.Memory old new same possible short bad = tt

    -- a refusal of the one file holds
    pub holds_one : (file : File) (found : Refused) → IsRefused known before after file found → HoldsAmong known before after (file ∷ []) found
    holds_one file found is = record { front = []; file = file; place = record { back = []; order = refl }; contents = []; accepted = accepted_none; refuses = is }

  -- what holds of a refusal in the second of two calls holds in both together
  refused_later : (before between after : List ℕ → ℕ) (file : File) (found : Refused) → NoneFell before between → IsRefused known between after file found
      → IsRefused known before after file found
  refused_later before between after file (ReadFailed role) fell is = (is.0, let low = fell file.name in let risen = is.1 in omega arith)
  refused_later before between after file (TooLong role) fell is = is
  refused_later before between after file (Table role fault) fell is = is
  refused_later before between after file Memory fell is = tt

  -- a refusal among files holds among them with accepted files in front, and any behind
  pub holds_behind : (before between after : List ℕ → ℕ) (files more back : List File) (old middle : Tables) (found : Refused)
      → AreRead known files old middle
      → NoneFell before between
      → HoldsAmong known between after more found
      → HoldsAmong known before after (files ++ (more ++ back)) found
  holds_behind before between after files more back old middle found read fell holds = record {
    front = files ++ holds.front;
    file = holds.file;
    place = record {
      back = holds.place.back ++ back;
      order = ap (λ fs. files ++ (fs ++ back)) holds.place.order ∙ ap (λ fs. files ++ fs) (append_assoc holds.front (holds.file ∷ holds.place.back) back)
          ∙ sym (append_assoc files holds.front (holds.file ∷ (holds.place.back ++ back)));
    };
    contents = read.contents ++ holds.contents;
    accepted = accepted_both files holds.front read.contents holds.contents read.accepted holds.accepted;
    refuses = refused_later before between after holds.file found fell holds.refuses;
  }

-- where the edges of a function are read with places, no file is read as edges without them
pub not_plain : (f : Function) (role : Role) → kind_of_edges f ≡ kind.PlacedEdges → kind_of f role ≢ kind.Edges
not_plain f Edges placed = λ e. cc
not_plain f Points placed = λ e. cc
not_plain f Restrictions placed = λ e. cc
not_plain f Combinations placed = λ e. cc

-- the files with a role are one, where a command names it
pub files_with_one : (command : Command) (role : Role) (name : List ℕ) → file_name_of command role ≡ Some name
    → files_with command role ≡ record { role = role; kind = kind_of command.function role; name = name } ∷ []
files_with_one command role name is = rw is refl

-- and none, where it names none
pub files_with_none : (command : Command) (role : Role) → file_name_of command role ≡ None → files_with command role ≡ []
files_with_none command role is = rw is refl

module _ (command : Command) (given : List Role) (i : ℕ) (d : Role) (inside : i < length given) where
  -- the files of the roles so far, and of the next one
  pub files_more : flat_map (files_with command) (take (i + 1) given) ≡ flat_map (files_with command) (take i given) ++ files_with command (get_or given i d)
  files_more =
      ap (flat_map (files_with command)) (take_more given i d inside)
      ∙ flat_map-append (files_with command) (take i given) (get_or given i d ∷ [])
      ∙ ap (λ fs. flat_map (files_with command) (take i given) ++ fs) (append-nil (files_with command (get_or given i d)))

  -- all files are those of the roles so far, of the next one, and of those behind it
  pub files_split : flat_map (files_with command) (take i given) ++ (files_with command (get_or given i d) ++ flat_map (files_with command) (drop (i + 1) given)) ≡ flat_map
      (files_with command) given
  files_split =
      sym (append_assoc (flat_map (files_with command) (take i given)) (files_with command (get_or given i d)) (flat_map (files_with command) (drop (i + 1) given)))
      ∙ ap (λ fs. fs ++ flat_map (files_with command) (drop (i + 1) given)) (sym files_more)
      ∙ sym (flat_map-append (files_with command) (take (i + 1) given) (drop (i + 1) given))
      ∙ ap (flat_map (files_with command)) (take-append-drop (i + 1) given)
