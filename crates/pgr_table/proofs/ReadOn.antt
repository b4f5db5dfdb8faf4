-- The records that are left of a text, after one more is read. What a record ends with is never the end of the text, so each
-- record takes a byte, and as many turns as there are bytes reach them all.
use Rattle.std.proofs.Common.{◌≡◌, ℕ, zero, suc, ◌+◌, ◌<◌, ◌≤◌, Bool, true, false, List, [], ◌∷◌, length, Option, Some, None, refl, sym, ap, subst, inl, ◌∙◌, arith, add-one, if◌then◌else◌, ◌==◌, ◌&&◌, ◌++◌}
use Rattle.std.specs.Prelude.{IsSome, not}
use Rattle.std.specs.Bool.{OnTrue, OnFalse}
use Rattle.csv.specs.Machine.{Read, next_record, step, in_field, start_field, start_record, after_end, ends_with, is_byte, is_end, ends_at_end, fields_after, field_after}
use Rattle.csv.specs.Reading.{records_from, records_next, default_config, source_of, pending_of, ReadRecord, ReadsNext, NextIs, took_first, is_flexible}
use Rattle.csv.specs.declared.parser.Config.{Config}
use Rattle.csv.specs.declared.parser.Terminator.{Terminator}
use Rattle.csv.specs.declared.parser.Terminator.TheVariants as term
use Rattle.csv.specs.declared.parser.State.{State}
use Rattle.csv.specs.declared.parser.State.TheVariants as st
use Rattle.csv.specs.declared.parser.Action.{Action}
use Rattle.csv.specs.declared.parser.Action.TheVariants as act
use Rattle.csv.specs.declared.reader.Reader.{Reader}
use Rattle.pgr_table.specs.RecordsLeft.{records_of, records_left, IsGoing}

-- where the action ends a record, the state is between two records
abbrev Between : State × Action → Type 0
Between p = is_end p.1 ≡ true → ends_at_end p.0 ≡ false

after_end-between : (terminator : Terminator) (c : ℕ) → ends_at_end (after_end terminator c) ≡ false
after_end-between term.CRLF c = by (c == 13)
  where
    by : (b : Bool) → ends_at_end (if b then st.AfterCr else st.StartRecord) ≡ false
    by true = refl
    by false = refl
after_end-between (term.Any t) c = refl

in_field-between : (cfg : Config) (c : ℕ) → Between (in_field cfg c)
in_field-between cfg c = by (c == cfg.delimiter) (ends_with cfg.terminator c)
  where
    by : (d e : Bool) → Between (if d then (st.StartField, act.EndField) else if e then (after_end cfg.terminator c, act.EndRecord) else (st.InField, act.Copy))
    by true e h = cc
    by false true h = after_end-between cfg.terminator c
    by false false h = cc

start_field-between : (cfg : Config) (c : ℕ) → Between (start_field cfg c)
start_field-between cfg c = by (cfg.quoting && (c == cfg.quote))
  where
    by : (q : Bool) → Between (if q then (st.InQuoted, act.Skip) else in_field cfg c)
    by true h = cc
    by false h = in_field-between cfg c h

start_record-between : (cfg : Config) (c : ℕ) → Between (start_record cfg c)
start_record-between cfg c = by (ends_with cfg.terminator c) (is_byte cfg.comment c)
  where
    by : (e k : Bool) → Between (if e then (st.StartRecord, act.Skip) else if k then (st.InComment, act.Skip) else start_field cfg c)
    by true k h = cc
    by false true h = cc
    by false false h = start_field-between cfg c h

step-between : (cfg : Config) (s : State) (c : ℕ) → Between (step cfg s c)
step-between cfg st.StartRecord c h = start_record-between cfg c h
step-between cfg st.StartField c h = start_field-between cfg c h
step-between cfg st.InField c h = in_field-between cfg c h
step-between cfg st.InQuoted c h = by (cfg.quoting && (c == cfg.quote)) (cfg.quoting && is_byte cfg.escape c) h
  where
    by : (q e : Bool) → Between (if q then (st.AfterQuote, act.Skip) else if e then (st.InEscape, act.Skip) else (st.InQuoted, act.Copy))
    by true e g = cc
    by false true g = cc
    by false false g = cc
step-between cfg st.InEscape c h = cc
step-between cfg st.AfterQuote c h = by (cfg.quoting && cfg.double_quote && (c == cfg.quote)) h
  where
    by : (q : Bool) → Between (if q then (st.InQuoted, act.Copy) else in_field cfg c)
    by true g = cc
    by false g = in_field-between cfg c g
step-between cfg st.InComment c h = by (c == 10) h
  where
    by : (q : Bool) → Between (if q then (st.StartRecord, act.Skip) else (st.InComment, act.Skip))
    by true g = cc
    by false g = cc
step-between cfg st.AfterCr c h = by (c == 10) h
  where
    by : (q : Bool) → Between (if q then (st.StartRecord, act.Skip) else start_record cfg c)
    by true g = cc
    by false g = start_record-between cfg c g

-- a record leaves no more bytes than there were, between two records fewer, and a state between two records
record Leaves (s : State) (bytes : List ℕ) (read : Read) : Type 0 where
  no_more : length read.2 ≤ length bytes
  fewer : ends_at_end s ≡ false → length read.2 < length bytes
  between : ends_at_end read.1 ≡ false

carry : {s : State} {bytes : List ℕ} (a b : Read) → a ≡ b → Leaves s bytes a → Leaves s bytes b
carry {s} {bytes} a b e h = subst (Leaves s bytes) e h

option_value : {X : Type 0} {x y : X} → Some x ≡ Some y → x ≡ y
option_value h = cc

leaves : (cfg : Config) (s : State) (fields : List (List ℕ)) (field bytes : List ℕ) (read : Read) → next_record cfg s fields field bytes ≡ Some read → Leaves s bytes read
unfolding next_record
leaves cfg s fields field [] read = by (ends_at_end s) refl
  where
    by : (b : Bool) → ends_at_end s ≡ b → (if b then Some (fields ++ (field ∷ []), st.StartRecord, []) else None) ≡ Some read → Leaves s [] read
    by true e h = carry (fields ++ (field ∷ []), st.StartRecord, []) read (option_value h) (record { no_more = omega arith; fewer = λ n. cc; between = refl })
    by false e h = cc
leaves cfg s fields field (c ∷ rest) read = by (is_end (step cfg s c).1) refl (leaves cfg (step cfg s c).0 (fields_after (step cfg s c).1 fields field)
    (field_after (step cfg s c).1 c field) rest read)
  where
    by : (b : Bool) → is_end (step cfg s c).1 ≡ b
        → (next_record cfg (step cfg s c).0 (fields_after (step cfg s c).1 fields field) (field_after (step cfg s c).1 c field) rest ≡ Some read → Leaves
        (step cfg s c).0 rest read)
        → (if b then Some (fields_after (step cfg s c).1 fields field, (step cfg s c).0, rest) else next_record cfg (step cfg s c).0
        (fields_after (step cfg s c).1 fields field) (field_after (step cfg s c).1 c field) rest) ≡ Some read
        → Leaves s (c ∷ rest) read
    by true e more h = carry (fields_after (step cfg s c).1 fields field, (step cfg s c).0, rest) read (option_value h)
        (record { no_more = omega arith; fewer = λ _. omega arith; between = step-between cfg s c e })
    by false e more h = let l = more h in record { no_more = omega (arith, l.no_more); fewer = λ _. omega (arith, l.no_more); between = l.between }

-- turns enough to reach all records reach the same ones
records_from-enough : (cfg : Config) (n m : ℕ) (s : State) (bytes : List ℕ) → ends_at_end s ≡ false → length bytes < n → length bytes < m
    → records_from cfg n s bytes ≡ records_from cfg m s bytes
unfolding records_from
records_from-enough cfg zero m s bytes between h k = absurd (omega arith)
records_from-enough cfg (suc n) zero s bytes between h k = absurd (omega arith)
records_from-enough cfg (suc n) (suc m) s bytes between h k = by (next_record cfg s [] [] bytes) refl (λ t left. records_from-enough cfg n m t left)
  where
    by : (o : Option Read) → next_record cfg s [] [] bytes ≡ o
        → ((t : State) (left : List ℕ) → ends_at_end t ≡ false → length left < n → length left < m → records_from cfg n t left ≡ records_from cfg m t left)
        → records_next (records_from cfg n) o ≡ records_next (records_from cfg m) o
    by None e more = refl
    by (Some read) e more =
        let l = leaves cfg s [] [] bytes read e in
        let fewer : length read.2 < length bytes = l.fewer between in
        ap (λ rest. read.0 ∷ rest) (more read.1 read.2 l.between (omega arith) (omega arith))

-- the records of bytes are the next one and those behind it
pub records_of-next : (s : State) (bytes : List ℕ) (read : Read) → ends_at_end s ≡ false → next_record default_config s [] [] bytes ≡ Some read
    → records_of s (Some bytes) ≡ read.0 ∷ records_of read.1 (Some read.2)
unfolding records_from
records_of-next s bytes read between e =
    let l = leaves default_config s [] [] bytes read e in
    let fewer : length read.2 < length bytes = l.fewer between in
    rw (add-one (length bytes), e) (ap (λ rest. read.0 ∷ rest) (records_from-enough default_config (length bytes) (length read.2 + 1) read.1 read.2 l.between
    (omega arith) (omega arith)))

-- none, where there is no next one
pub records_of-none : (s : State) (bytes : List ℕ) → next_record default_config s [] [] bytes ≡ None → records_of s (Some bytes) ≡ []
unfolding records_from
records_of-none s bytes e = rw (add-one (length bytes), e) refl

-- what a read that found a record, or none, says of the records left
reads-found : (s t : State) (before after : Option (List ℕ)) (fields : List (List ℕ)) → ends_at_end s ≡ false → IsSome before
    → ReadsNext default_config s before after true fields t
    → (records_of s before ≡ fields ∷ records_of t after) × IsSome after × (ends_at_end t ≡ false)
reads-found s t None after fields between known r = cc known
reads-found s t (Some xs) None fields between known r = absurd r
reads-found s t (Some xs) (Some ys) fields between known r = by (next_record default_config s [] [] xs) refl r
  where
    by : (o : Option Read) → next_record default_config s [] [] xs ≡ o → NextIs o true fields t ys
        → (records_of s (Some xs) ≡ fields ∷ records_of t (Some ys)) × IsSome (Some ys) × (ends_at_end t ≡ false)
    by None e n = cc n
    by (Some read) e n = rw (n.1, n.2, n.3) (records_of-next s xs read between e, refl, (leaves default_config s [] [] xs read e).between)

reads-none : (s t : State) (before after : Option (List ℕ)) (fields : List (List ℕ)) → IsSome before → ReadsNext default_config s before after false fields t
    → records_of s before ≡ []
reads-none s t None after fields known r = cc
reads-none s t (Some xs) None fields known r = absurd r
reads-none s t (Some xs) (Some ys) fields known r = by (next_record default_config s [] [] xs) refl r
  where
    by : (o : Option Read) → next_record default_config s [] [] xs ≡ o → NextIs o false fields t ys → records_of s (Some xs) ≡ []
    by None e n = records_of-none s xs e
    by (Some read) e n = cc n.0

-- past its start, a reader reads from what is pending
source-pending : {R : Type 0} (remaining : R → Option (List ℕ)) (reader : Reader R) → reader.bom_checked ≡ true
    → source_of remaining reader ≡ pending_of (remaining reader.rdr) reader
source-pending remaining reader checked = rw checked refl

-- a read that found a record takes it off the records left
left-found : {R : Type 0} (remaining : R → Option (List ℕ)) (old new : Reader R) (fields : List (List ℕ))
    → IsGoing remaining old → ReadRecord remaining old new true fields → took_first new ≡ true → is_flexible new ≡ is_flexible old
    → (records_left remaining old ≡ fields ∷ records_left remaining new) × IsGoing remaining new
left-found remaining old new fields going read first flexible =
    let found = reads-found old.state new.state (source_of remaining old) (pending_of (remaining new.rdr) new) fields going.between going.known (rw going.config at read.0) in
    let source = sym (source-pending remaining new read.1) in (
      found.0 ∙ ap (λ bytes. fields ∷ records_of new.state bytes) source,
      record {
        config = read.2 ∙ going.config;
        untrimmed = read.3 ∙ going.untrimmed;
        flexible = flexible ∙ going.flexible;
        ready = inl first;
        known = subst (λ (bytes : Option (List ℕ)). IsSome bytes) source found.1;
        between = found.2;
      },
    )

-- a read that found none shows that there were none
left-none : {R : Type 0} (remaining : R → Option (List ℕ)) (old new : Reader R) (fields : List (List ℕ))
    → IsGoing remaining old → ReadRecord remaining old new false fields → records_left remaining old ≡ []
left-none remaining old new fields going read = reads-none old.state new.state (source_of remaining old) (pending_of (remaining new.rdr) new) fields
    going.known (rw going.config at read.0)

-- what a read does, by whether it found a record, to one who sees the records left as a list
pub record Reads {R : Type 0} (remaining : R → Option (List ℕ)) (before : List (List (List ℕ))) (new : Reader R) (found : Bool) (fields : List (List ℕ)) : Type 0 where
  pub more : OnTrue found (before ≡ fields ∷ (if not found then [] else records_left remaining new))
  pub end : OnFalse found (before ≡ [])
  pub goes_on : OnFalse (not found) (IsGoing remaining new)

pub reads : {R : Type 0} (remaining : R → Option (List ℕ)) (before : List (List (List ℕ))) (ended : Bool) (old new : Reader R) (found : Bool) (fields : List (List ℕ))
    → ended ≡ false → (if ended then [] else records_left remaining old) ≡ before
    → OnFalse ended (IsGoing remaining old)
    → (IsGoing remaining old → ReadRecord remaining old new found fields × (took_first new ≡ true) × (is_flexible new ≡ is_flexible old))
    → Reads remaining before new found fields
reads remaining before true old new found fields e seen going read = cc e
reads remaining before false old new true fields e seen going read = let l = left-found remaining old new fields going (read going).0 (read going).1
    (read going).2 in record { more = sym seen ∙ l.0; end = tt; goes_on = l.1 }
reads remaining before false old new false fields e seen going read = record { more = tt; end = sym seen ∙ left-none remaining old new fields going (read going).0; goes_on = tt }
